-- The number up to which the stored heads are past all.
use Rattle.std.proofs.Common.{◌≡◌, ℕ, ◌+◌, ◌<◌, ◌≤◌, true, List, ◌∷◌, length, sym, refl, subst, ◌∙◌, inl, inr, arith}
use Rattle.std.proofs.lemmas.Bool.{cases_lt, le-leb, leb-true}
use Rattle.mq_blocks.specs.Drive.{PortState}
use Rattle.mq_ledger.specs.History.{writes, of_queue, part_of, AreNumbered, IsAt}
use Rattle.mq_ledger.specs.Items.{end_of, descriptor_blocks}
use Rattle.mq_ledger.specs.Records.{Ledger, IsClear}
use Rattle.mq_ledger.specs.State.{from_at, port_at}
use Rattle.mq_ledger.specs.declared.tx.Tx.{Tx}
use Rattle.mq_ledger.proofs.History.{at_numbered, at_most, at_same}
use Rattle.mq_core.specs.Reach.{is_stored}
use Rattle.mq_core.specs.Settled.{AreOnQueues}
use Rattle.mq_core.proofs.Settled.{front_found}

-- each queue is clear below the number
abbrev pub AreClear : Ledger → List PortState → ℕ → Type 0
AreClear l ports n = (q : ℕ) → q < l.geometry.queues → IsClear l q (port_at ports q).stored_head n

pub clear_less : (l : Ledger) (q head n m : ℕ) → IsClear l q head n → m ≤ n → IsClear l q head m
clear_less l q head n m clear less t ts at is past = omega (arith, clear t ts at is past, less)

pub clear_first : (l : Ledger) (q head : ℕ) → AreNumbered l.base l.history → IsClear l q head (l.base + 1)
clear_first l q head numbers t ts at is past = omega (arith, (at_numbered l.base t ts l.history numbers at).0)

heads : (t u : Tx) (ts us : List Tx) → (t ∷ ts) ≡ (u ∷ us) → t ≡ u
heads t u ts us e = cc

tails : (t u : Tx) (ts us : List Tx) → (t ∷ ts) ≡ (u ∷ us) → ts ≡ us
tails t u ts us e = cc

stored_along : (starts : List ℕ) (ports : List PortState) (t u : Tx) (ts us : List Tx) → (t ∷ ts) ≡ (u ∷ us) → is_stored starts ports t ts ≡ true → is_stored starts ports u us ≡ true
stored_along starts ports t u ts us e d = (λ i. is_stored starts ports (sym (heads t u ts us e) i) (sym (tails t u ts us e) i)) ∙ d

pub stored_found : (l : Ledger) (ports : List PortState) (n : ℕ) → AreNumbered l.base l.history → AreOnQueues l → n ≤ l.base + length l.history → AreClear l ports (n + 1)
    → ((m : ℕ) → m ≤ l.base + length l.history → AreClear l ports (m + 1) → m ≤ n)
    → n ≡ l.base + length (part_of (is_stored l.starts ports) l.history)
stored_found l ports n numbers queues high clear greatest =
    front_found l.base n (is_stored l.starts ports) l.history numbers low high below stops
  where
    low : l.base ≤ n
    low = greatest l.base (omega arith) (λ q own. clear_first l q (port_at ports q).stored_head numbers)

    below : (t : Tx) (ts : List Tx) → IsAt t ts l.history → t.number ≤ n → is_stored l.starts ports t ts ≡ true
    below t ts at less = elim (cases_lt (port_at ports t.queue).stored_head (end_of (from_at l.starts t.queue) (of_queue t.queue ts) + (writes t + descriptor_blocks t))) [
      | inl past ↦ absurd (let more = clear t.queue (queues t ts at) t ts at refl past in omega (arith, more, less))
      | inr stored ↦ le-leb _ _ stored
    ]

    next_clear : (t : Tx) (ts : List Tx) → IsAt t ts l.history → t.number ≡ n + 1 → is_stored l.starts ports t ts ≡ true → AreClear l ports (n + 1 + 1)
    next_clear t ts at is stored q own u us there on past = elim (cases_lt (n + 1) u.number) [
      | inl more ↦ omega (arith, more)
      | inr less ↦
          let least = clear q own u us there on past in
          let same = at_same l.base t u ts us l.history numbers at there (omega (arith, is, least, less)) in
          let here = leb-true _ _ (stored_along l.starts ports t u ts us same stored) in
          let past' = subst (λ r. (port_at ports r).stored_head < end_of (from_at l.starts r) (of_queue r us) + (writes u + descriptor_blocks u)) (sym on) past in
          absurd (omega (arith, here, past'))
    ]

    stops : (t : Tx) (ts : List Tx) → IsAt t ts l.history → t.number ≡ n + 1 → is_stored l.starts ports t ts ≡ true → ⊥
    stops t ts at is stored =
        let more = greatest (n + 1) (omega (arith, is, at_most l.base t ts l.history numbers at)) (next_clear t ts at is stored) in
        absurd (omega (arith, more))
