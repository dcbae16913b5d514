-- The front is brought forward one by one.
use Rattle.std.proofs.Common.{◌≡◌, ℕ, ◌+◌, ◌<◌, ◌≤◌, leb, Bool, true, List, [], ◌∷◌, length, get_or, sym, refl, ap, ◌∙◌, inl, inr, arith}
use Rattle.std.specs.Bool.{IsTrue}
use Rattle.std.proofs.lemmas.Bool.{cases_order, cases_lt, false≢true}
use Rattle.std.proofs.lemmas.List.{get_or_read}
use Rattle.mq_blocks.specs.Drive.{PortState}
use Rattle.mq_ledger.specs.History.{writes, of_queue, AreNumbered, IsAt, part_of}
use Rattle.mq_ledger.specs.Items.{end_of, descriptor_blocks}
use Rattle.mq_ledger.specs.Records.{Ledger, IsNextEnd, settle_next}
use Rattle.mq_ledger.specs.State.{is_done, from_at, port_at, no_port}
use Rattle.mq_ledger.specs.declared.queue_rows.QueueEnd.{QueueEnd}
use Rattle.mq_ledger.specs.declared.tx.Tx.{Tx}
use Rattle.mq_ledger.proofs.History.{at_most, at_same}
use Rattle.mq_core.specs.Settled.{IsNextDone, IsSettled, with_front, settled}
use Rattle.mq_core.proofs.HistoryFronts.{part_le, part_stops, done_below}

-- the transaction of a number
pub record Numbered (n : ℕ) (h : List Tx) : Type 0 where
  pub t : Tx
  pub ts : List Tx
  pub at : IsAt t ts h
  pub is : t.number ≡ n

pub numbered : (base n : ℕ) (h : List Tx) → AreNumbered base h → base < n → n ≤ base + length h → Numbered n h
numbered base n [] k l m = absurd (omega arith)
numbered base n (t ∷ ts) k l m = elim (cases_lt (base + length ts) n) [
  | inl past ↦ record { t = t; ts = ts; at = inl (refl, refl); is = omega (arith, k.0) }
  | inr less ↦ (let r = numbered base n ts k.1 l less in record { t = r.t; ts = r.ts; at = inr r.at; is = r.is })
]

-- a number up to which all is done, where the next isn't, is the front
pub front_found : (base front : ℕ) (w : Tx → List Tx → Bool) (h : List Tx) → AreNumbered base h → base ≤ front → front ≤ base + length h → ((t : Tx) (ts : List Tx) → IsAt t ts h → t.number ≤ front → w t ts ≡ true) → ((t : Tx) (ts : List Tx) → IsAt t ts h → t.number ≡ front + 1 → w t ts ≡ true → ⊥)
    → front ≡ base + length (part_of w h)
front_found base front w h n low high below stops = elim (cases_order front (base + length (part_of w h))) [
  | inl same ↦ same
  | inr (inl less) ↦
      let r = numbered base (front + 1) h n (omega arith) (omega (arith, part_le w h)) in
      let is = r.is in
      absurd (stops r.t r.ts r.at is (done_below base w r.t r.ts h n r.at (omega arith)))
  | inr (inr more) ↦
      let r = numbered base (base + length (part_of w h) + 1) h n (omega arith) (omega arith) in
      let is = r.is in
      absurd (false≢true (sym (part_stops base w r.t r.ts h n r.at is) ∙ below r.t r.ts r.at (omega arith)))
]

-- ---- whether the next is done

pub none_next : (l : Ledger) (ports : List PortState) → AreNumbered l.base l.history → l.base + length l.history ≤ l.front → IsNextDone l ports → ⊥
none_next l ports numbers high d =
    let k = at_most l.base d.tx d.before l.history numbers d.stands in
    let n = d.number in
    absurd (omega arith)

module _ (l : Ledger) (ports : List PortState) (n : QueueEnd) (e : IsNextEnd l n) (full : length ports ≡ l.geometry.queues) (q count : ℕ) (here : q ≡ n.queue) (end : count ≡ n.count) (p : PortState) (read : p ≡ get_or ports q p) (head : ℕ) (is : head ≡ p.head) where
  next_test : leb count head ≡ is_done l.starts ports e.tx e.before
  next_test =
      let inside : q < length ports = (let within = e.within in omega arith) in
      let port : p ≡ port_at ports e.tx.queue = get_or_read ports q p inside read no_port ∙ ap (port_at ports) (here ∙ e.queue) in
      let there : head ≡ (port_at ports e.tx.queue).head = is ∙ ap (λ (v : PortState). v.head) port in
      ap (λ (c : ℕ). leb c head) (end ∙ e.count) ∙ ap (leb (end_of (from_at l.starts e.tx.queue) (of_queue e.tx.queue e.before) + (writes e.tx + descriptor_blocks e.tx))) there

  pub next_done : AreNumbered l.base l.history → (IsTrue (leb count head) → IsNextDone l ports) × (IsNextDone l ports → IsTrue (leb count head))
  next_done numbers = (
    λ t. record { tx = e.tx; before = e.before; stands = e.stands; number = e.number; done = sym next_test ∙ t },
    λ d.
        let one = at_same l.base e.tx d.tx e.before d.before l.history numbers e.stands d.stands (e.number ∙ sym d.number) in
        let tx : e.tx ≡ d.tx = cc in
        let before : e.before ≡ d.before = cc in
        next_test ∙ ap (λ (t : Tx). is_done l.starts ports t e.before) tx ∙ ap (is_done l.starts ports d.tx) before ∙ d.done,
  )

-- one more that is done
pub settled_next : (l : Ledger) (ports : List PortState) → IsSettled l ports → IsNextDone l ports → IsSettled (settle_next l) ports
settled_next l ports s next =
    let at = next.number in
    record {
      numbers = s.numbers;
      low = (let low = s.low in omega arith);
      high = omega (arith, at_most l.base next.tx next.before l.history s.numbers next.stands);
      done = λ t ts is low. elim (cases_lt l.front t.number) [
        | inl past ↦
            let same = at_same l.base next.tx t next.before ts l.history s.numbers next.stands is (omega arith) in
            done_along l ports next.tx t next.before ts same next.done
        | inr less ↦ s.done t ts is less
      ];
    }
  where
    heads : (t u : Tx) (ts txs : List Tx) → (t ∷ ts) ≡ (u ∷ txs) → t ≡ u
    heads t u ts txs e = cc

    tails : (t u : Tx) (ts txs : List Tx) → (t ∷ ts) ≡ (u ∷ txs) → ts ≡ txs
    tails t u ts txs e = cc

    done_along : (l : Ledger) (ports : List PortState) (t u : Tx) (ts txs : List Tx) → (t ∷ ts) ≡ (u ∷ txs) → is_done l.starts ports t ts ≡ true → is_done l.starts ports u txs ≡ true
    done_along l ports t u ts txs e d = (λ i. is_done l.starts ports (sym (heads t u ts txs e) i) (sym (tails t u ts txs e) i)) ∙ d

pub settled_all : (l : Ledger) (ports : List PortState) → IsSettled l ports → (IsNextDone l ports → ⊥) → l ≡ settled ports l
settled_all l ports s stop =
    let is = front_found l.base l.front (is_done l.starts ports) l.history s.numbers s.low s.high s.done (λ t ts at number done. stop (record { tx = t; before = ts; stands = at; number = number; done = done })) in
    λ i. with_front (is i) l

-- the first that isn't settled is there
pub next_high : (l : Ledger) (ports : List PortState) → IsSettled l ports → IsNextDone l ports → l.front < l.base + length l.history
next_high l ports s next = (let at = next.number in omega (arith, at_most l.base next.tx next.before l.history s.numbers next.stands))
