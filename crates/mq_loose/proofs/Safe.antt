-- A loose state that has the facts is safe: the chains of an image, its set, and what it stands for.
use Rattle.std.proofs.Common.{◌≡◌, ℕ, ◌+◌, ◌-◌, ◌<◌, ◌≤◌, ◌%◌, leb, Bool, true, List, [], ◌∷◌, length, Some, sym, refl, ap, subst, ◌∙◌, inl, inr, arith}
use Rattle.std.proofs.lemmas.List.{length-map}
use Rattle.std.proofs.lemmas.Bool.{cases_lt, le-leb, lt-leb, or_left, or_right}
use Rattle.mq_blocks.specs.Descriptor.{AreRising, Descriptor, DescriptorForm, IsDescriptor, IsGood, IsReadOnce, further_for}
use Rattle.mq_blocks.specs.Geometry.{homes_of, write_limit}
use Rattle.mq_blocks.specs.Journal.{Shown, IsQueueChain, AreWhole, Has, is_among, shown}
use Rattle.mq_blocks.proofs.DescriptorLimits.{further-none}
use Rattle.mq_blocks.proofs.DescriptorRising.{rising-lower}
use Rattle.mq_ledger.specs.History.{blocks_of, writes, map_after, of_queue, IsAt}
use Rattle.mq_ledger.specs.Items.{Entries, end_of, place_for, below, descriptor_for, descriptor_blocks, reading_of}
use Rattle.mq_ledger.specs.KnownJournal.{KnownJournal}
use Rattle.mq_ledger.specs.State.{State, from_at, start_map}
use Rattle.mq_ledger.specs.declared.tx.Tx.{Tx}
use Rattle.mq_ledger.proofs.History.{at_most, at_same, at_numbered, upto_all}
use Rattle.mq_ledger.proofs.JournalChains.{queue-chain-once}
use Rattle.mq_ledger.proofs.HistoryQueues.{at_next, IsFalling, at_own, FromQueue-of, at_in_below, at_from_below}
use Rattle.mq_core.proofs.HistoryFronts.{part_le}
use Rattle.mq_core.proofs.StateChains.{ShowsPorts, chains_whole, falling_chain, queue_chain}
use Rattle.mq_core.proofs.ItemsGoodness.{good_of}
use Rattle.mq_core.proofs.ItemsReading.{HoldsAll, descriptors, from_descriptor, has_descriptor}
use Rattle.mq_core.proofs.StateCuts.{IsWhole}
use Rattle.mq_core.specs.Whole.{is_whole}
use Rattle.mq_loose_order.specs.Dependence.{IsClosed, depends_on, deps_of, kept}
use Rattle.mq_loose_order.specs.Form.{IsLoose}
use Rattle.mq_loose_order.specs.Standing.{AreStanding, AreInChains, AreMet, in_set}
use Rattle.mq_loose_order.proofs.Closed.{closure_closed, closure_greatest, closure-high, deps-at}
use Rattle.mq_loose_order.proofs.Dependences.{deps_low, deps_rise, deps_few}
use Rattle.mq_loose_order.proofs.FormSound.{loose-sound}
use Rattle.mq_loose_order.proofs.Standing.{among_has, has_among}
use Rattle.mq_loose.specs.Guards.{entries_in, side_known}
use Rattle.mq_loose.specs.Safe.{Facts, IsSafe, Recovers}
use Rattle.mq_loose.proofs.Sides.{sides_of}
use Rattle.mq_loose.proofs.Cuts.{IsCut, set_of, rows_in, cut_of, base_low, base_reached, held_descriptor, member_whole, set_low, settled_in, stand_of}
use Rattle.mq_loose.proofs.Rows.{from_rows, has_rows, rows_fall, rows_among}

module _ (e : Entries) (s : State) (i : Shown) (f : Facts e s) (cut : IsCut e s i) where
  abbrev k : KnownJournal
  k = side_known e s

  abbrev form : DescriptorForm
  form = (entries_in e s).form

  abbrev us_at : ℕ → List Tx
  us_at q = of_queue q s.history

  abbrev chain_at : ℕ → List Tx
  chain_at q = below (from_at s.starts q) (i.head q) (us_at q)

  holds_chain : (q : ℕ) → q < s.geometry.queues → HoldsAll s.geometry i q (chain_at q)
  holds_chain q own = record {
    each = λ t txs at past.
        let m = at_from_below (from_at s.starts q) (i.head q) t txs (us_at q) at in
        let r = FromQueue-of q t txs s.history m.0 in
        let limit = (f.sides q own).area.limit in
        let there = at_next t txs (us_at q) m.0 in
        go t txs past m.1 r.ts r.at r.own r.rest (good_of k t txs q (write_limit s.geometry) f.log (omega arith) m.0 (omega arith));
  }
    where
      go : (t : Tx) (txs : List Tx) → i.base < t.number → end_of (from_at s.starts q) txs + (writes t + descriptor_blocks t) ≤ i.head q → (ts : List Tx) → IsAt t ts s.history → t.queue ≡ q → of_queue q ts ≡ txs
          → IsGood (write_limit s.geometry) (homes_of s.geometry) (descriptor_for t txs)
          → IsDescriptor i.form (write_limit s.geometry) (homes_of s.geometry) (i.area q (place_for t txs % s.geometry.area)) (i.area q ((place_for t txs - 1) % s.geometry.area)) (descriptor_for t txs)
      go t txs past l ts at o rest good =
          let w : IsWhole s i t ts = record { at = at; above = past; below = rw (o, rest) l } in
          let here : of_queue t.queue ts ≡ txs = ap (λ n. of_queue n ts) o ∙ rest in
          let few = (f.plain t ts at).few in
          let none : length t.revoked ≡ 0 = ap (λ (xs : List ℕ). length xs) (f.plain t ts at).revoked in
          let long : length (blocks_of t.logged) ≡ length t.logged = length-map t.logged (λ (v : ℕ × List ℕ). v.0) in
          let one_block : further_for (length (blocks_of t.logged) + length t.revoked) ≡ 0 = further-none (length (blocks_of t.logged) + length t.revoked) (omega arith) in
          let G : List Tx → Type 0 = λ vs. IsGood (write_limit s.geometry) (homes_of s.geometry) (descriptor_for t vs) in
          let P : ℕ → List Tx → Type 0 = λ p vs. IsDescriptor form (write_limit s.geometry) (homes_of s.geometry) (i.area p (place_for t vs % s.geometry.area)) (i.area p ((place_for t vs - 1) % s.geometry.area)) (descriptor_for t vs) in
          let there : P t.queue (of_queue t.queue ts) = record {
            version = 1;
            known = inl refl;
            last = held_descriptor e s i f cut t ts w;
            rest = λ one. absurd (omega (arith, one_block, one));
            good = subst G (sym here) good;
          } in
          let F : DescriptorForm → Type 0 = λ g. IsDescriptor g (write_limit s.geometry) (homes_of s.geometry) (i.area q (place_for t txs % s.geometry.area)) (i.area q ((place_for t txs - 1) % s.geometry.area)) (descriptor_for t txs) in
          subst F (sym cut.form) (subst (λ p. P p txs) o (subst (P t.queue) here there))

  ports_shown : ShowsPorts (entries_in e s) s i
  ports_shown = record { doorbell = cut.doorbell; from_head = cut.from_head; to_stored = cut.to_stored; end = cut.end; entry = cut.entry }

  queue_is : (q : ℕ) → q < s.geometry.queues → IsQueueChain s.geometry i q (descriptors i.base (chain_at q))
  queue_is = queue_chain s i (sides_of e s f) ports_shown (base_low e s i f cut) (base_reached e s i f cut) holds_chain

  pub all_chains : AreWhole s.geometry i (λ q. descriptors i.base (chain_at q))
  all_chains = chains_whole s i (sides_of e s f) ports_shown (base_low e s i f cut) (base_reached e s i f cut) holds_chain

  fall : (q : ℕ) → IsFalling q (chain_at q)
  fall = falling_chain s i (sides_of e s f)

  -- ---- the set

  abbrev pub chains : ℕ → List Descriptor
  chains q = descriptors i.base (chain_at q)

  abbrev pub deps : ℕ → List ℕ
  deps = deps_of s.base s.history

  abbrev pub ds : List Descriptor
  ds = rows_in (set_of s i) i.base s.history

  in_chain : (t : Tx) (ts : List Tx) → IsWhole s i t ts → Has (chains t.queue) (descriptor_for t (of_queue t.queue ts))
  in_chain t ts w =
      let q = t.queue in
      let at = at_in_below (from_at s.starts q) (i.head q) t (of_queue q ts) (us_at q) (at_own q t ts s.history w.at refl) w.below in
      has_descriptor q i.base t (of_queue q ts) (chain_at q) (fall q) at w.above

  -- a transaction in a chain is whole
  from_chain : (t : Tx) (ts : List Tx) → IsAt t ts s.history → Has (chains t.queue) (descriptor_for t (of_queue t.queue ts)) → is_whole s i t ts ≡ true
  from_chain t ts at has =
      let r = from_descriptor i.base (descriptor_for t (of_queue t.queue ts)) (chain_at t.queue) has in
      let m = at_from_below (from_at s.starts t.queue) (i.head t.queue) r.t r.txs (us_at t.queue) r.at in
      let w = FromQueue-of t.queue r.t r.txs s.history m.0 in
      let number : r.t.number ≡ t.number = ap (λ (v : Descriptor). v.number) r.is in
      let one : (r.t ∷ w.ts) ≡ (t ∷ ts) = at_same s.base r.t t w.ts ts s.history f.log.numbers w.at at number in
      let low : end_of (from_at s.starts r.t.queue) (of_queue r.t.queue w.ts) + (writes r.t + descriptor_blocks r.t) ≤ i.head r.t.queue = rw (w.own, w.rest) m.1 in
      let there : is_whole s i r.t w.ts ≡ true = or_right (leb r.t.number i.base) _ (le-leb (end_of (from_at s.starts r.t.queue) (of_queue r.t.queue w.ts) + (writes r.t + descriptor_blocks r.t)) (i.head r.t.queue) low) in
      ap (test) (sym one) ∙ there
    where
      test : List Tx → Bool
      test [] = true
      test (v ∷ vs) = is_whole s i v vs

  low_base : s.base ≤ i.base
  low_base = (let w : s.base ≤ s.root.base = f.log.word_low in omega (arith, base_low e s i f cut))

  high_base : i.base ≤ s.base + length s.history
  high_base = (let p = part_le k.done s.history in omega (arith, base_reached e s i f cut, p))

  -- the numbers of the set are those of the closure
  pub set_at : (n : ℕ) → in_set i.base ds n ≡ set_of s i n
  set_at n = elim (cases_lt i.base n) [
    | inr low ↦ or_left (leb n i.base) _ (le-leb n i.base low) ∙ sym (set_low e s i f cut n low)
    | inl past ↦ rw (lt-leb _ _ past) (rows_among (set_of s i) s.base i.base s.history n f.log.numbers low_base past (λ m. closure-high (is_whole s i) s.base s.history n f.log.numbers m))
  ]

  pub set_is : in_set i.base ds ≡ set_of s i
  set_is = λ j n. set_at n j

  in_chains : AreInChains s.geometry chains ds
  in_chains d has =
      let r = from_rows (set_of s i) i.base s.history d has in
      let own = (f.log.each r.t r.ts r.at).0.queue in
      let C : Descriptor → Type 0 = λ v. (v.queue < s.geometry.queues) × Has (chains v.queue) v in
      subst C r.is (own, in_chain r.t r.ts (member_whole e s i f cut r.t r.ts r.at r.member r.above))

  met : AreMet deps i.base ds
  met d n has dep =
      let r = from_rows (set_of s i) i.base s.history d has in
      let number : r.t.number ≡ d.number = ap (λ (v : Descriptor). v.number) r.is in
      let on : deps d.number ≡ depends_on s.base r.t r.ts = ap deps (sym number) ∙ deps-at s.base r.t r.ts s.history f.log.numbers r.at in
      set_at n ∙ (closure_closed (is_whole s i) s.base s.history f.log.numbers).each r.t r.ts n r.at r.member (subst (λ ns. is_among n ns ≡ true) on dep)

  -- each descriptor of a chain is a transaction's
  record OfChain (q : ℕ) (d : Descriptor) : Type 0 where
    t : Tx
    ts : List Tx
    at : IsAt t ts s.history
    own : t.queue ≡ q
    number : t.number ≡ d.number
    above : i.base < d.number
    is : descriptor_for t (of_queue t.queue ts) ≡ d

  of_chain : (q : ℕ) (d : Descriptor) → Has (chains q) d → OfChain q d
  of_chain q d has =
      let r = from_descriptor i.base d (chain_at q) has in
      let m = at_from_below (from_at s.starts q) (i.head q) r.t r.txs (us_at q) r.at in
      let w = FromQueue-of q r.t r.txs s.history m.0 in
      let rest : of_queue r.t.queue w.ts ≡ r.txs = ap (λ n. of_queue n w.ts) w.own ∙ w.rest in
      let number : r.t.number ≡ d.number = ap (λ (v : Descriptor). v.number) r.is in
      let above = r.above in
      record { t = r.t; ts = w.ts; at = w.at; own = w.own; number = number; above = omega (arith, above, number); is = ap (descriptor_for r.t) rest ∙ r.is }

  -- the numbers of a closed list of descriptors are a closed set
  closed_list : (es : List Descriptor) → AreInChains s.geometry chains es → AreMet deps i.base es → IsClosed s.base s.history (in_set i.base es)
  closed_list es inside met_is = record {
    each = λ t ts n at e dep.
        let m = at_numbered s.base t ts s.history f.log.numbers at in
        let l = deps_low s.base t ts n m.1 dep in
        elim (cases_lt i.base t.number) [
          | inr low ↦ or_left (leb n i.base) _ (le-leb n i.base (omega (arith, l.1, m.0, low)))
          | inl past ↦
              let h = among_has t.number es (rw (lt-leb _ _ past) at e) in
              met_is h.0 n h.1 (subst (λ ns. is_among n ns ≡ true) (sym (ap deps h.2 ∙ deps-at s.base t ts s.history f.log.numbers at)) dep)
        ];
  }

  -- and are whole
  listed_whole : (es : List Descriptor) → AreInChains s.geometry chains es → (t : Tx) (ts : List Tx) → IsAt t ts s.history → in_set i.base es t.number ≡ true → is_whole s i t ts ≡ true
  listed_whole es inside t ts at e = elim (cases_lt i.base t.number) [
    | inr low ↦ or_left (leb t.number i.base) _ (le-leb t.number i.base low)
    | inl past ↦
        let h = among_has t.number es (rw (lt-leb _ _ past) at e) in
        let c = inside h.0 h.1 in
        let o = of_chain h.0.queue h.0 c.1 in
        let number : o.t.number ≡ t.number = o.number ∙ h.2 in
        let one : (o.t ∷ o.ts) ≡ (t ∷ ts) = at_same s.base o.t t o.ts ts s.history f.log.numbers o.at at number in
        let there : Has (chains o.t.queue) (descriptor_for o.t (of_queue o.t.queue o.ts)) = subst (λ q. Has (chains q) (descriptor_for o.t (of_queue o.t.queue o.ts))) (sym o.own) (subst (λ v. Has (chains h.0.queue) v) (sym o.is) c.1) in
        from_chain t ts at (along one there)
  ]
    where
      shown_of : List Tx → Type 0
      shown_of [] = Unit {0}
      shown_of (v ∷ vs) = Has (chains v.queue) (descriptor_for v (of_queue v.queue vs))

      along : {u : Tx} {us : List Tx} → (u ∷ us) ≡ (t ∷ ts) → Has (chains u.queue) (descriptor_for u (of_queue u.queue us)) → Has (chains t.queue) (descriptor_for t (of_queue t.queue ts))
      along is h = subst shown_of is h

  greatest : (es : List Descriptor) → AreInChains s.geometry chains es → AreMet deps i.base es → (d : Descriptor) → Has es d → Has ds d
  greatest es inside met_is d has =
      let c = inside d has in
      let o = of_chain d.queue d c.1 in
      let past = o.above in
      let number = o.number in
      let e : in_set i.base es d.number ≡ true = or_right (leb d.number i.base) _ (has_among d es has) in
      let most = at_most s.base o.t o.ts s.history f.log.numbers o.at in
      let m = closure_greatest (is_whole s i) s.base s.history (in_set i.base es) f.log.numbers (closed_list es inside met_is) (λ t ts at u. listed_whole es inside t ts at u) d.number e (omega (arith, number, most)) in
      subst (λ v. Has ds v) o.is (has_rows (set_of s i) s.base i.base o.t o.ts s.history f.log.numbers o.at (omega (arith, number, past)) (subst (λ n. set_of s i n ≡ true) (sym number) m))

  pub standing : AreStanding deps s.geometry i chains ds
  standing = record {
    falls = rows_fall (set_of s i) s.base i.base s.history f.log.numbers;
    whole = in_chains;
    met = met;
    greatest = greatest;
  }

  pub loose : (q : ℕ) (d : Descriptor) → q < s.geometry.queues → Has (chains q) d → IsLoose d (deps d.number)
  loose q d own has =
      let o = of_chain q d has in
      let plain = f.plain o.t o.ts o.at in
      let m = at_numbered s.base o.t o.ts s.history f.log.numbers o.at in
      let on = deps-at s.base o.t o.ts s.history f.log.numbers o.at in
      let rise = deps_rise s.base o.t o.ts m.1 in
      let few = plain.few in
      let long : length (blocks_of o.t.logged) ≡ length o.t.logged = length-map o.t.logged (λ (v : ℕ × List ℕ). v.0) in
      let touches = deps_few s.base o.t o.ts in
      let L : Descriptor → Type 0 = λ v. IsLoose v (deps v.number) in
      subst L o.is (record {
        few = omega arith;
        none = plain.revoked;
        deps_few = (let n = ap (λ (xs : List ℕ). length xs) on in omega (arith, n, touches));
        rising = subst (λ ns. AreRising 1 o.t.number ns) (sym on) (rising-lower 1 (s.base + 1) o.t.number _ (omega arith) (subst (λ n. AreRising (s.base + 1) n (depends_on s.base o.t o.ts)) (sym m.0) rise));
      })

  pub recovers : Recovers s i
  recovers =
      let numbers = f.log.numbers in
      record {
        chains = chains;
        whole = all_chains;
        unique = λ others whole q own. queue-chain-once s.geometry i q (others q) (chains q) (subst IsReadOnce (sym cut.form) (loose-sound deps).read) (whole.each q own) (queue_is q own);
        loose = loose;
        ds = ds;
        standing = standing;
        drawn = λ n m. closure-high (is_whole s i) s.base s.history n numbers (sym (set_at n) ∙ m);
        closed = subst (IsClosed s.base s.history) (sym set_is) (closure_closed (is_whole s i) s.base s.history numbers);
        acknowledged = λ n h. set_at n ∙ settled_in e s i f cut n (f.acknowledged n h);
        stand = λ x v inside there. stand_of e s i f cut s.history x v inside numbers (λ t ts at. at) (upto_all s.base (s.base + length s.history) s.history numbers (omega arith)) high_base (λ u us au mu ch. at_most s.base u us s.history numbers au)
            (subst (λ S. map_after (start_map s.start) (kept S s.history) x ≡ Some v) set_is there);
      }

pub safe_from : (e : Entries) (s : State) → Facts e s → IsSafe e s
safe_from e s f = λ queues root it. recovers e s (shown (reading_of (entries_in e s)) s.geometry queues root) f (cut_of e s queues root f it)
