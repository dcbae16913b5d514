-- The chains that an image shows of ports that fit their ledger, whatever content is due at home.
use Rattle.std.proofs.Common.{◌≡◌, ◌≢◌, ℕ, ◌+◌, ◌-◌, ◌<◌, ◌≤◌, ◌%◌, Bool, true, List, [], ◌∷◌, Some, sym, refl, ap, subst, ◌∙◌, inl, inr, arith}
use Rattle.std.proofs.lemmas.Bool.{cases_lt, cases_eq}
use Rattle.mq_blocks.specs.Descriptor.{Descriptor}
use Rattle.mq_blocks.specs.Limits.{depth, usable_depth}
use Rattle.mq_blocks.specs.Geometry.{area_lba}
use Rattle.mq_blocks.specs.Journal.{Shown, WriteFields, IsChain, IsQueueChain, AreWhole, Has, number_limit}
use Rattle.mq_ledger.specs.History.{of_queue, IsAt}
use Rattle.mq_ledger.specs.Items.{Entries, item_at, commit_item, said_of, end_of, number_before, place_before, place_for, IsEnd, below}
use Rattle.mq_ledger.specs.KnownJournal.{KnownJournal, front}
use Rattle.mq_ledger.specs.Sides.{flushed_at}
use Rattle.mq_ledger.specs.State.{State, port_at, from_at, front_of}
use Rattle.mq_ledger.specs.declared.tx.Tx.{Tx}
use Rattle.mq_ledger.proofs.History.{at_most, at_same}
use Rattle.mq_ledger.proofs.Items.{item_at-in, item_at-below, item-commit}
use Rattle.mq_ledger.proofs.HistoryQueues.{at_next, IsFalling, IsFalling-of, IsFalling-below, FromQueue-of, at_from_below, next_above}
use Rattle.mq_core.proofs.HistoryFronts.{part_le}
use Rattle.mq_core.proofs.KnownJournalSources.{from_of, number-from}
use Rattle.mq_core.proofs.ItemsReading.{HoldsAll, chain_of, reach_of, descriptors, from_descriptor}
use Rattle.mq_core.proofs.StateSides.{HasSides, known_with}

-- the transaction that ends at a count
record LastOf (from : ℕ) (txs : List Tx) (h : ℕ) : Type 0 where
  pub t : Tx
  pub ws : List Tx
  pub is : below from h txs ≡ t ∷ ws
  pub item : item_at from txs (h - 1) ≡ commit_item t ws

last_of : (from h : ℕ) (txs : List Tx) → IsEnd from txs h → from < h → LastOf from txs h
last_of from h txs end past = go (below from h txs) refl
  where
    go : (vs : List Tx) → below from h txs ≡ vs → LastOf from txs h
    go [] e = absurd (let n = ap (end_of from) (sym e) ∙ end in omega arith)
    go (t ∷ ws) e =
        let n : end_of from (t ∷ ws) ≡ h = ap (end_of from) (sym e) ∙ end in
        let inside : h - 1 < end_of from (below from h txs) = (let m : end_of from (below from h txs) ≡ h = end in omega arith) in
        let i = h - 1 - end_of from ws in
        record {
          t = t;
          ws = ws;
          is = e;
          item = item_at-below from h txs (h - 1) inside ∙ ap (λ vs. item_at from vs (h - 1)) e ∙ item_at-in from t ws (h - 1) (omega arith) ∙ item-commit t ws i (omega arith);
        }

none_below : (from h : ℕ) (txs : List Tx) → IsEnd from txs h → h ≡ from → below from h txs ≡ []
none_below from h txs end at = go (below from h txs) refl
  where
    go : (vs : List Tx) → below from h txs ≡ vs → below from h txs ≡ []
    go [] e = e
    go (t ∷ ws) e = absurd (let n : end_of from (t ∷ ws) ≡ h = ap (end_of from) (sym e) ∙ end in omega arith)

-- what is sure of the words and the entries of an image
pub record ShowsPorts (e : Entries) (s : State) (i : Shown) : Type 0 where
  pub doorbell : (q : ℕ) → q < s.geometry.queues → i.doorbell q ≡ (port_at s.ports q).doorbell
  pub from_head : (q : ℕ) → q < s.geometry.queues → (port_at s.ports q).head ≤ i.head q
  pub to_stored : (q : ℕ) → q < s.geometry.queues → i.head q ≤ (port_at s.ports q).stored_head
  pub end : (q : ℕ) → q < s.geometry.queues → IsEnd (from_at s.starts q) (of_queue q s.history) (i.head q)
  pub entry : (q c : ℕ) → q < s.geometry.queues → (port_at s.ports q).head ≤ c + 1 → c < (port_at s.ports q).doorbell → i.entry q (c % depth) ≡ e.says (flushed_at (port_at s.ports q) c)

module _ {e : Entries} {due : ℕ → ℕ → Bool} (s : State) (i : Shown) (f : HasSides e due s) where
  abbrev k : KnownJournal
  k = known_with e due s

  abbrev pub us_at : ℕ → List Tx
  us_at q = of_queue q s.history

  abbrev pub chain_at : ℕ → List Tx
  chain_at q = below (from_at s.starts q) (i.head q) (us_at q)

  pub falling_all : (q : ℕ) → IsFalling q (us_at q)
  falling_all q = (IsFalling-of s.base q s.history f.log.numbers).0

  pub falling_chain : (q : ℕ) → IsFalling q (chain_at q)
  falling_chain q = IsFalling-below q (from_at s.starts q) (i.head q) (us_at q) (falling_all q)

  module _ (cut : ShowsPorts e s i) (low : s.root.base ≤ i.base) (reached : i.base ≤ front_of s) (holds : (q : ℕ) → q < s.geometry.queues → HoldsAll s.geometry i q (chain_at q)) where
    -- where entries are read
    entry_is : (q c : ℕ) → q < s.geometry.queues → from_at s.starts q ≤ c → (port_at s.ports q).head ≤ c + 1 → c < (port_at s.ports q).doorbell → i.entry q (c % depth) ≡ Some (said_of s.geometry q (item_at (from_at s.starts q) (us_at q) c))
    entry_is q c own low near high = cut.entry q c own near high ∙ (f.sides q own).ring.rung c low near high

    -- while an image's head is where it was at the start, the entry before it is one of the start's
    start_entry : (q : ℕ) → q < s.geometry.queues → i.head q ≡ from_at s.starts q → 0 < from_at s.starts q → (n : ℕ) × (lba : ℕ) × (i.entry q ((i.head q - 1) % depth) ≡ Some (n, lba, true)) × (n ≤ s.base)
    start_entry q own is some =
        let side = f.sides q own in
        let o = side.order in
        let p = port_at s.ports q in
        let from_head = cut.from_head q own in
        let to_stored = cut.to_stored q own in
        let head : p.head ≡ from_at s.starts q = omega (arith, o.head_low) in
        let before = side.ring.start some head in
        let at : i.head q - 1 ≡ from_at s.starts q - 1 = omega arith in
        let read : i.entry q ((i.head q - 1) % depth) ≡ e.says (flushed_at p (i.head q - 1)) = cut.entry q (i.head q - 1) own (omega arith) (omega (arith, o.stored, o.rung)) in
        let same : e.says (flushed_at p (i.head q - 1)) ≡ e.says (flushed_at p (from_at s.starts q - 1)) = ap (λ n. e.says (flushed_at p n)) at in
        (before.0, before.1, read ∙ (same ∙ before.2), before.3)

    pub queue_chain : (q : ℕ) → q < s.geometry.queues → IsQueueChain s.geometry i q (descriptors i.base (chain_at q))
    queue_chain q own =
        let side = f.sides q own in
        let o = side.order in
        let p = port_at s.ports q in
        let from = from_at s.starts q in
        let doorbell = cut.doorbell q own in
        let from_head = cut.from_head q own in
        let to_stored = cut.to_stored q own in
        let chain = chain_of s.geometry i q (chain_at q) (falling_chain q) (holds q own) in
        let order : i.head q ≤ i.doorbell q = omega (arith, o.rung) in
        let few : i.doorbell q - i.head q ≤ usable_depth = omega (arith, o.flushed, o.staged, o.drawn, o.room) in
        let limit : i.doorbell q ≤ number_limit = omega (arith, o.flushed, o.staged, o.drawn, side.limit) in
        let rung : (c : ℕ) → i.head q ≤ c → c < i.doorbell q → (s' : WriteFields) × (i.entry q (c % depth) ≡ Some s') × (s'.0 ≤ number_limit) = λ c above less.
        let c_low : from ≤ c = omega (arith, o.head_low) in
        let w = from_of k q (us_at q) c side.part c_low (omega (arith, o.flushed, o.staged, o.drawn, doorbell)) in
        let number = number-from k q (us_at q) c w in
        let most = at_most s.base w.t w.ts s.history f.log.numbers w.at in
        let top = f.log.limit in
        (said_of s.geometry q (item_at from (us_at q) c), entry_is q c own c_low (omega arith) (omega (arith, doorbell)), omega arith) in
        let rung_whole : i.head q < i.doorbell q → (n : ℕ) × (l : ℕ) × (i.entry q ((i.doorbell q - 1) % depth) ≡ Some (n, l, true)) = λ more.
        let last = last_of from p.doorbell (us_at q) side.ends.doorbell (omega (arith, o.head_low)) in
        let at : i.doorbell q - 1 ≡ p.doorbell - 1 = omega arith in
        let reads : i.entry q ((p.doorbell - 1) % depth) ≡ Some (said_of s.geometry q (item_at from (us_at q) (p.doorbell - 1))) = entry_is q (p.doorbell - 1) own (omega (arith, o.head_low)) (omega arith) (omega arith) in
        let says : Some (said_of s.geometry q (item_at from (us_at q) (p.doorbell - 1))) ≡ Some (last.t.number, area_lba s.geometry q (place_for last.t last.ws), true) = ap (λ v. Some (said_of s.geometry q v)) last.item in
        (last.t.number, area_lba s.geometry q (place_for last.t last.ws), ap (λ n. i.entry q (n % depth)) at ∙ (reads ∙ says)) in
        elim (cases_lt from (i.head q)) [
          | inl past ↦
              let last = last_of from (i.head q) (us_at q) (cut.end q own) past in
              let place = place_for last.t last.ws in
              let chain' : IsChain s.geometry i q last.t.number place (descriptors i.base (chain_at q)) = subst (λ vs. IsChain s.geometry i q (number_before vs) (place_before vs) (descriptors i.base (chain_at q))) last.is chain in
              let there : IsAt last.t last.ws (chain_at q) = subst (λ vs. IsAt last.t last.ws vs) (sym last.is) (inl (refl, refl)) in
              let m = at_from_below from (i.head q) last.t last.ws (us_at q) there in
              let r = FromQueue-of q last.t last.ws s.history m.0 in
              let most = at_most s.base last.t r.ts s.history f.log.numbers r.at in
              let top = f.log.limit in
              let newest = at_next last.t last.ws (us_at q) m.0 in
              record {
                number = last.t.number;
                lba = area_lba s.geometry q place;
                place = place;
                order = order;
                few = few;
                low = limit;
                none = λ z. absurd (omega arith);
                newest = λ some.
                    let reads : i.entry q ((i.head q - 1) % depth) ≡ Some (said_of s.geometry q (item_at from (us_at q) (i.head q - 1))) = entry_is q (i.head q - 1) own (omega arith) (omega arith) (omega (arith, o.rung)) in
                    let says : Some (said_of s.geometry q (item_at from (us_at q) (i.head q - 1))) ≡ Some (last.t.number, area_lba s.geometry q place, true) = ap (λ v. Some (said_of s.geometry q v)) last.item in
                    reads ∙ says;
                limit = omega arith;
                own = λ above. refl;
                chain = chain';
                reach = reach_of s.geometry place i.base (chain_at q) (λ t txs at above.
                    let n = at_from_below from (i.head q) t txs (us_at q) at in
                    let up = next_above q s.root.base t txs (us_at q) (falling_all q) n.0 (omega (arith, low)) in
                    omega (arith, side.area.fits));
                rung = rung;
                rung_whole = rung_whole;
              }
          | inr not ↦
              let is : i.head q ≡ from = omega (arith, o.head_low) in
              let head : p.head ≡ from = omega (arith, o.head_low) in
              let none = none_below from (i.head q) (us_at q) (cut.end q own) is in
              let empty : descriptors i.base (chain_at q) ≡ [] = ap (descriptors i.base) none in
              subst (λ ds. IsQueueChain s.geometry i q ds) (sym empty) (elim (cases_eq from 0) [
                | inl z ↦ record {
                  number = 0;
                  lba = 0;
                  place = 0;
                  order = order;
                  few = few;
                  low = limit;
                  none = λ zero. refl;
                  newest = λ some. absurd (omega arith);
                  limit = omega arith;
                  own = λ above. absurd (omega arith);
                  chain = omega arith;
                  reach = tt;
                  rung = rung;
                  rung_whole = rung_whole;
                }
                | inr some ↦
                    let before = start_entry q own is (omega arith) in
                    let base : s.base ≤ s.root.base = f.log.word_low in
                    let lower = low in
                    let top = f.log.limit in
                    let few_n = before.3 in
                    record {
                      number = before.0;
                      lba = before.1;
                      place = 0;
                      order = order;
                      few = few;
                      low = limit;
                      none = λ zero. absurd (omega arith);
                      newest = λ _. before.2;
                      limit = omega arith;
                      own = λ above. absurd (omega arith);
                      chain = omega arith;
                      reach = tt;
                      rung = rung;
                      rung_whole = rung_whole;
                    }
              ])
        ]

    -- ---- no number twice

    source : (q : ℕ) (d : Descriptor) → Has (descriptors i.base (chain_at q)) d → (t : Tx) × (ts : List Tx) × IsAt t ts s.history × (t.queue ≡ q) × (t.number ≡ d.number)
    source q d has =
        let r = from_descriptor i.base d (chain_at q) has in
        let m = at_from_below (from_at s.starts q) (i.head q) r.t r.txs (us_at q) r.at in
        let w = FromQueue-of q r.t r.txs s.history m.0 in
        (r.t, w.ts, w.at, w.own, ap (λ (v : Descriptor). v.number) r.is)

    head_queue : List Tx → ℕ
    head_queue [] = 0
    head_queue (t ∷ ts) = t.queue

    once : (q r : ℕ) → q ≢ r → (d b : Descriptor) → Has (descriptors i.base (chain_at q)) d → Has (descriptors i.base (chain_at r)) b → d.number ≢ b.number
    unfolding head_queue
    once q r apart d b a c same =
        let t = source q d a in
        let u = source r b c in
        let one : (t.0 ∷ t.1) ≡ (u.0 ∷ u.1) = at_same s.base t.0 u.0 t.1 u.1 s.history f.log.numbers t.2 u.2 (t.4 ∙ same ∙ sym u.4) in
        apart (sym t.3 ∙ ap head_queue one ∙ u.3)

    pub chains_whole : AreWhole s.geometry i (λ q. descriptors i.base (chain_at q))
    chains_whole =
        let most : i.base ≤ front k = reached in
        let front_low = part_le k.done s.history in
        record {
          limit = omega (arith, f.log.limit);
          each = queue_chain;
          once = λ q r own other apart d b a c. once q r apart d b a c;
        }
