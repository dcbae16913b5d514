-- A state that has the facts is safe: the chains of an image, its prefix, and what it stands for.
use Rattle.std.proofs.Common.{◌≡◌, ℕ, ◌+◌, ◌-◌, ◌<◌, ◌≤◌, ◌%◌, leb, Bool, true, List, [], ◌∷◌, length, Some, sym, refl, ap, subst, ◌∙◌, inl, inr, arith}
use Rattle.std.proofs.lemmas.List.{length-map}
use Rattle.std.proofs.lemmas.Bool.{cases_lt, cases_eq, cases_Bool, le-leb, leb-true, or_cases, or_right, false≢true}
use Rattle.mq_blocks.specs.Descriptor.{Descriptor, DescriptorForm, IsDescriptor, IsGood, IsReadOnce, further_for}
use Rattle.mq_blocks.specs.Drive.{PortImage}
use Rattle.mq_blocks.specs.Geometry.{homes_of, write_limit}
use Rattle.mq_blocks.specs.Journal.{Shown, IsQueueChain, AreWhole, AreInRow, IsPrefix, Has, Reaches, shown}
use Rattle.mq_ledger.specs.History.{blocks_of, writes, upto, of_queue, all_of, part_of, AreNumbered, IsAt}
use Rattle.mq_ledger.specs.Items.{Entries, end_of, place_for, below, descriptor_for, further_blocks, descriptor_blocks, reading_of}
use Rattle.mq_ledger.specs.KnownJournal.{KnownJournal, front}
use Rattle.mq_ledger.specs.State.{State, Facts, IsPostedOnce, Recovers, AreImages, IsSafe, IsLawful, is_done, port_at, from_at, known_of, front_of}
use Rattle.mq_ledger.specs.declared.tx.Tx.{Tx}
use Rattle.mq_ledger.proofs.History.{last_upto_bound, numbered-upto}
use Rattle.mq_ledger.proofs.JournalChains.{queue-chain-once}
use Rattle.mq_ledger.proofs.HistoryQueues.{at_next, IsFalling, at_own, FromQueue-of, at_in_below, at_from_below}
use Rattle.mq_core.proofs.HistoryFronts.{DoneMore, part-all, part-less, part_le, part_is, part_all, part_more, part_stops, all_of_at}
use Rattle.mq_core.proofs.EventsSideCommands.{posted_late}
use Rattle.mq_core.proofs.KnownJournalSources.{direct_in, late, clash}
use Rattle.mq_core.proofs.StateChains.{ShowsPorts, chains_whole, falling_chain, queue_chain}
use Rattle.mq_core.proofs.ItemsGoodness.{good_of}
use Rattle.mq_core.proofs.ItemsReading.{HoldsAll, descriptors, from_descriptor, has_descriptor, rows, rows_row, from_row, in_row}
use Rattle.mq_core.proofs.StateSides.{sides_of}
use Rattle.mq_core.specs.Whole.{is_whole}
use Rattle.mq_core.proofs.StateCuts.{IsCut, IsWhole, cut_of, held_descriptor, held_further, stand_of}

module _ (e : Entries) (s : State) (i : Shown) (f : Facts e s) (cut : IsCut e s i) where
  abbrev k : KnownJournal
  k = known_of e s

  abbrev us_at : ℕ → List Tx
  us_at q = of_queue q s.history

  abbrev chain_at : ℕ → List Tx
  chain_at q = below (from_at s.starts q) (i.head q) (us_at q)

  holds_chain : (q : ℕ) → q < s.geometry.queues → HoldsAll s.geometry i q (chain_at q)
  holds_chain q own = record {
    each = λ t txs at past.
        let m = at_from_below (from_at s.starts q) (i.head q) t txs (us_at q) at in
        let r = FromQueue-of q t txs s.history m.0 in
        let limit = (f.sides q own).area.limit in
        let there = at_next t txs (us_at q) m.0 in
        go t txs past m.1 r.ts r.at r.own r.rest (good_of k t txs q (e.form.most (write_limit s.geometry) e.form.version) f.log (f.form.lists s.geometry) m.0 (omega arith));
  }
    where
      go : (t : Tx) (txs : List Tx) → i.base < t.number → end_of (from_at s.starts q) txs + (writes t + descriptor_blocks t) ≤ i.head q → (ts : List Tx) → IsAt t ts s.history → t.queue ≡ q → of_queue q ts ≡ txs
          → IsGood (e.form.most (write_limit s.geometry) e.form.version) (homes_of s.geometry) (descriptor_for t txs)
          → IsDescriptor i.form (write_limit s.geometry) (homes_of s.geometry) (i.area q (place_for t txs % s.geometry.area)) (i.area q ((place_for t txs - 1) % s.geometry.area)) (descriptor_for t txs)
      go t txs past l ts at o rest good =
          let w : IsWhole s i t ts = record { at = at; above = past; below = rw (o, rest) l } in
          let here : of_queue t.queue ts ≡ txs = ap (λ n. of_queue n ts) o ∙ rest in
          let long : further_for (length (blocks_of t.logged) + length t.revoked) ≡ further_blocks t = ap (λ (n : ℕ). further_for (n + length t.revoked)) (length-map t.logged (λ (v : ℕ × List ℕ). v.0)) in
          let G : List Tx → Type 0 = λ vs. IsGood (e.form.most (write_limit s.geometry) e.form.version) (homes_of s.geometry) (descriptor_for t vs) in
          let P : ℕ → List Tx → Type 0 = λ p vs. IsDescriptor e.form (write_limit s.geometry) (homes_of s.geometry) (i.area p (place_for t vs % s.geometry.area)) (i.area p ((place_for t vs - 1) % s.geometry.area)) (descriptor_for t vs) in
          let there : P t.queue (of_queue t.queue ts) = record {
            version = e.form.version;
            known = inr refl;
            last = held_descriptor e s i f cut t ts w;
            rest = λ one. held_further e s i f cut t ts w (sym long ∙ one);
            good = subst G (sym here) good;
          } in
          let F : DescriptorForm → Type 0 = λ form. IsDescriptor form (write_limit s.geometry) (homes_of s.geometry) (i.area q (place_for t txs % s.geometry.area)) (i.area q ((place_for t txs - 1) % s.geometry.area)) (descriptor_for t txs) in
          subst F (sym cut.form) (subst (λ p. P p txs) o (subst (P t.queue) here there))

  ports_shown : ShowsPorts e s i
  ports_shown = record { doorbell = cut.doorbell; from_head = cut.from_head; to_stored = cut.to_stored; end = cut.end; entry = cut.entry }

  queue_is : (q : ℕ) → q < s.geometry.queues → IsQueueChain s.geometry i q (descriptors i.base (chain_at q))
  queue_is = queue_chain s i (sides_of e s f) ports_shown cut.low cut.reached holds_chain

  all_chains : AreWhole s.geometry i (λ q. descriptors i.base (chain_at q))
  all_chains = chains_whole s i (sides_of e s f) ports_shown cut.low cut.reached holds_chain

  fall : (q : ℕ) → IsFalling q (chain_at q)
  fall = falling_chain s i (sides_of e s f)

  -- ---- the prefix

  abbrev part : List Tx
  part = part_of (is_whole s i) s.history

  whole_from : (t : Tx) (ts : List Tx) → IsAt t ts s.history → is_whole s i t ts ≡ true → i.base < t.number → IsWhole s i t ts
  whole_from t ts at w past =
      elim (or_cases (leb t.number i.base) (leb (end_of (from_at s.starts t.queue) (of_queue t.queue ts) + (writes t + descriptor_blocks t)) (i.head t.queue)) w) [
        | inl a ↦ absurd (let n : t.number ≤ i.base = leb-true _ _ a in omega arith)
        | inr b ↦ record { at = at; above = past; below = leb-true _ _ b }
      ]

  at_in_part : (w : Tx → List Tx → Bool) (t : Tx) (ts h : List Tx) → IsAt t ts (part_of w h) → IsAt t ts h
  at_in_part w t ts [] at = absurd at
  at_in_part w t ts (u ∷ txs) at =
      elim (cases_Bool (all_of w (u ∷ txs))) [
        | inl all ↦ rw (part-all w u txs all) at at
        | inr some ↦ inr (at_in_part w t ts txs (rw (part-less w u txs some) at at))
      ]

  sub_of : (t : Tx) (ts : List Tx) → IsAt t ts part → IsAt t ts s.history × (i.base < t.number → IsWhole s i t ts)
  sub_of t ts at =
      let n = at_in_part (is_whole s i) t ts s.history at in
      (n, λ past. whole_from t ts n (all_of_at (is_whole s i) t ts part (part_all (is_whole s i) s.history) at) past)

  -- all that is done is whole
  done_whole : DoneMore (is_done s.starts s.ports) (is_whole s i) s.history
  done_whole = record {
    each = λ t ts at d.
        let own = (f.log.each t ts at).0.queue in
        let low = cut.from_head t.queue own in
        let done : end_of (from_at s.starts t.queue) (of_queue t.queue ts) + (writes t + descriptor_blocks t) ≤ (port_at s.ports t.queue).head = leb-true _ _ d in
        or_right (leb t.number i.base) _ (le-leb (end_of (from_at s.starts t.queue) (of_queue t.queue ts) + (writes t + descriptor_blocks t)) (i.head t.queue) (omega arith));
  }

  in_chain : (d : Descriptor) (t : Tx) (ts : List Tx) → IsWhole s i t ts → descriptor_for t (of_queue t.queue ts) ≡ d → (d.queue < s.geometry.queues) × Has (descriptors i.base (chain_at d.queue)) d
  in_chain d t ts w is =
      let q = t.queue in
      let own = (f.log.each t ts w.at).0.queue in
      let at = at_in_below (from_at s.starts q) (i.head q) t (of_queue q ts) (us_at q) (at_own q t ts s.history w.at refl) w.below in
      rw (← is) (own, has_descriptor q i.base t (of_queue q ts) (chain_at q) (fall q) at w.above)

  upto_is : upto (s.base + length part) s.history ≡ part
  upto_is = part_is s.base (is_whole s i) s.history f.log.numbers

  numbered : AreNumbered s.base part
  numbered = subst (λ h. AreNumbered s.base h) upto_is (numbered-upto s.base (s.base + length part) s.history f.log.numbers)

  -- it ends at or above the front
  part_front : front_of s ≤ s.base + length part
  part_front = (let n = part_more (is_done s.starts s.ports) (is_whole s i) s.history done_whole in omega arith)

  part_base : i.base ≤ s.base + length part
  part_base = omega (arith, cut.reached, part_front)

  row : AreInRow i.base (rows i.base part) × (i.base + length (rows i.base part) ≡ s.base + length part)
  row = (let base : s.base ≤ s.root.base = f.log.word_low in rows_row s.base i.base part numbered (omega (arith, cut.low)) part_base)

  prefix : IsPrefix s.geometry i (λ q. descriptors i.base (chain_at q)) (rows i.base part)
  prefix =
      record {
        row = row.0;
        whole = λ d has.
            let r = from_row i.base d part has in
            in_chain d r.t r.ts ((sub_of r.t r.ts r.at).1 r.above) r.is;
        greatest = λ q d own has is.
            let r = from_descriptor i.base d (chain_at q) has in
            let m = at_from_below (from_at s.starts q) (i.head q) r.t r.txs (us_at q) r.at in
            let t = FromQueue-of q r.t r.txs s.history m.0 in
            let number : r.t.number ≡ d.number = ap (λ (v : Descriptor). v.number) r.is in
            let not = part_stops s.base (is_whole s i) r.t t.ts s.history f.log.numbers t.at (omega (arith, number, is, row.1)) in
            let low : end_of (from_at s.starts r.t.queue) (of_queue r.t.queue t.ts) + (writes r.t + descriptor_blocks r.t) ≤ i.head r.t.queue = rw (t.own, t.rest) m.1 in
            let yes : is_whole s i r.t t.ts ≡ true = or_right (leb r.t.number i.base) _ (le-leb (end_of (from_at s.starts r.t.queue) (of_queue r.t.queue t.ts) + (writes r.t + descriptor_blocks r.t)) (i.head r.t.queue) low) in
            false≢true (sym not ∙ yes);
      }

  -- each chain is this one
  chain_is : (chains : ℕ → List Descriptor) → AreWhole s.geometry i chains → (q : ℕ) → q < s.geometry.queues → chains q ≡ descriptors i.base (chain_at q)
  chain_is chains whole q own = queue-chain-once s.geometry i q (chains q) (descriptors i.base (chain_at q)) (subst IsReadOnce (sym cut.form) f.form.read) (whole.each q own) (queue_is q own)

  pub recovers : Recovers s i
  recovers =
      let front_base : s.base ≤ front_of s = omega arith in
      record {
        chains = λ q. descriptors i.base (chain_at q);
        whole = all_chains;
        unique = chain_is;
        ds = rows i.base part;
        prefix = prefix;
        least = omega (arith, row.1, part_front);
        most = omega (arith, row.1, part_le (is_whole s i) s.history);
        stand = λ x v inside there.
            let there' = subst (λ h. Rattle.mq_ledger.specs.History.map_after (Rattle.mq_ledger.specs.State.start_map s.start) h x ≡ Some v) (ap (λ n. upto n s.history) row.1 ∙ upto_is) there in
            stand_of e s i f cut part x v inside numbered sub_of upto_is part_base (omega (arith, part_front, last_upto_bound s.base (front_of s) s.history x f.log.numbers front_base)) there';
      }

  -- ---- how far it reaches

  -- no prefix of the same chains is longer than another
  not_longer : (chains others : ℕ → List Descriptor) (ds es : List Descriptor) → ((q : ℕ) → q < s.geometry.queues → others q ≡ chains q) → IsPrefix s.geometry i chains ds → IsPrefix s.geometry i others es → length es ≤ length ds
  not_longer chains others ds es same p r = elim (cases_lt (length ds) (length es)) [
    | inr low ↦ low
    | inl more ↦
        let d = in_row i.base (i.base + length ds + 1) es r.row (omega arith) (omega arith) in
        let w = r.whole d.0 d.1 in
        absurd (p.greatest d.0.queue d.0 w.0 (subst (λ vs. Has vs d.0) (same d.0.queue w.0) w.1) d.2)
  ]

  -- a prefix is as long as the part of the history whose transactions are whole
  pub reach_is : (chains : ℕ → List Descriptor) (ds : List Descriptor) → AreWhole s.geometry i chains → IsPrefix s.geometry i chains ds → i.base + length ds ≡ s.base + length (part_of (is_whole s i) s.history)
  reach_is chains ds whole p =
      let mine : ℕ → List Descriptor = λ q. descriptors i.base (chain_at q) in
      let is = chain_is chains whole in
      let least = not_longer chains mine ds (rows i.base part) (λ q own. sym (is q own)) p prefix in
      let most = not_longer mine chains (rows i.base part) ds is prefix p in
      omega (arith, least, most, row.1)

-- at most one direct write of a block is posted
pub posted_once : (e : Entries) (s : State) → Facts e s → IsPostedOnce s
posted_once e s f q c d x own a b there here =
    let k = known_of e s in
    let side = f.sides q own in
    let txs = of_queue q s.history in
    let p = port_at s.ports q in
    let o = side.order in
    let late_c = (posted_late k q txs p f.log side c a).0 in
    let late_d = (posted_late k q txs p f.log side d b).0 in
    let dc = direct_in k q txs c x side.part (omega (arith, late_c.0, o.head_low, o.stored)) late_c.1 there in
    let dd = direct_in k q txs d x side.part (omega (arith, late_d.0, o.head_low, o.stored)) late_d.1 here in
    let past = late k q txs p d x f.log side late_d.0 dd in
    let front_base : s.base ≤ front k = omega arith in
    let settled = last_upto_bound s.base (front k) s.history x f.log.numbers front_base in
    elim (cases_eq d c) [
      | inl same ↦ sym same
      | inr other ↦ absurd (clash k q txs p c d x f.log side late_c.0 dc dd (omega arith) other)
    ]

pub safe_from : (e : Entries) (s : State) → Facts e s → IsSafe e s
safe_from e s f =
    record {
      images = λ queues root it. recovers e s (shown (reading_of e) s.geometry queues root) f (cut_of e s queues root f it);
      acknowledged = f.acknowledged;
    }

pub prefix_is : (e : Entries) (s : State) (queues : List PortImage) (root : PortImage) (ds : List Descriptor) → IsLawful e s → AreImages s queues root → Reaches s.geometry (shown (reading_of e) s.geometry queues root) ds
    → root.base + length ds ≡ s.base + length (part_of (is_whole s (shown (reading_of e) s.geometry queues root)) s.history)
prefix_is e s queues root ds law it r = reach_is e s (shown (reading_of e) s.geometry queues root) law.facts (cut_of e s queues root law.facts it) r.chains ds r.whole r.prefix
