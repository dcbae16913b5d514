-- What a power cut leaves of a loose state: words, entries, copies and home blocks; and what stands.
use Rattle.std.proofs.Common.{◌≡◌, ℕ, ◌+◌, ◌-◌, ◌*◌, ◌<◌, ◌≤◌, ◌%◌, leb, Bool, true, false, List, [], ◌∷◌, length, is_some, Option, Some, None, cond, sym, refl, ap, subst, ◌∙◌, inl, inr, arith}
use Rattle.std.proofs.lemmas.Bool.{cases_lt, cases_eq, cases_Bool, le-leb, lt-leb, leb-true, or_right, or_cases, false≢true}
use Rattle.mq_blocks.specs.Blocks.{block_at}
use Rattle.mq_blocks.specs.Descriptor.{Descriptor, DescriptorForm, first_place, last_block}
use Rattle.mq_blocks.specs.Limits.{depth}
use Rattle.mq_blocks.specs.Drive.{PortState, PortImage, IsImage}
use Rattle.mq_blocks.specs.Geometry.{homes_of, zone_of}
use Rattle.mq_blocks.specs.Journal.{Shown, is_among, image_at, home_block, shown, logged_copy, or_else, stands}
use Rattle.mq_blocks.specs.Machine.{Map, write_of, or_kept, after}
use Rattle.mq_ledger.specs.History.{blocks_of, writes, changes, map_after, upto, of_queue, AreNumbered, IsAt}
use Rattle.mq_ledger.specs.Items.{Entries, Item, AtPlace, item_of, end_of, next, IsEnd, place_for, descriptor_for, further_blocks, descriptor_blocks, bytes_of, reading_of}
use Rattle.mq_ledger.specs.KnownJournal.{KnownJournal}
use Rattle.mq_ledger.specs.Sides.{Certainly, flushed_at, home_index, home_index_in}
use Rattle.mq_ledger.specs.State.{State, AreImages, is_done, port_at, port_of, from_at, front_of, start_map}
use Rattle.mq_ledger.specs.declared.tx.Tx.{Tx}
use Rattle.mq_ledger.proofs.History.{upto_newer, upto_all, at_same, write_of-append}
use Rattle.mq_ledger.proofs.Items.{item-logged, item-commit, item_of_at}
use Rattle.mq_ledger.proofs.HistoryQueues.{IsFalling-of, at_own, end_above}
use Rattle.mq_core.proofs.SidesCommands.{done_stored}
use Rattle.mq_core.proofs.EventsPorts.{index-place, index-zone, index-root}
use Rattle.mq_core.proofs.EventsSides.{slot_clear}
use Rattle.mq_core.proofs.StateEvents.{zone-queue}
use Rattle.mq_core.proofs.HistoryFronts.{DoneMore}
use Rattle.mq_loose_order.specs.Dependence.{closure, kept}
use Rattle.mq_loose.specs.Safe.{NoneChanges}
use Rattle.mq_loose.specs.Guards.{entries_in, side_known, settled}
use Rattle.mq_loose.specs.Safe.{IsABase, Facts}
use Rattle.mq_loose.proofs.Closures.{closure_front, closure_more}
use Rattle.mq_loose_order.proofs.Closed.{closure_of, kept-in, kept-out, kept_all}
use Rattle.mq_core.specs.Whole.{is_whole}
use Rattle.mq_core.proofs.ItemsReading.{copies, first-place}
use Rattle.mq_core.proofs.StateCuts.{IsWhole}

-- what is sure of the parts of an image together
pub record IsCut (e : Entries) (s : State) (i : Shown) : Type 0 where
  pub form : i.form ≡ (entries_in e s).form
  pub base : IsABase s i.base
  pub doorbell : (q : ℕ) → q < s.geometry.queues → i.doorbell q ≡ (port_at s.ports q).doorbell
  pub from_head : (q : ℕ) → q < s.geometry.queues → (port_at s.ports q).head ≤ i.head q
  pub to_stored : (q : ℕ) → q < s.geometry.queues → i.head q ≤ (port_at s.ports q).stored_head
  pub end : (q : ℕ) → q < s.geometry.queues → IsEnd (from_at s.starts q) (of_queue q s.history) (i.head q)
  pub entry : (q c : ℕ) → q < s.geometry.queues → (port_at s.ports q).head ≤ c + 1 → c < (port_at s.ports q).doorbell → i.entry q (c % depth) ≡ e.says (flushed_at (port_at s.ports q) c)
  pub area : (q n : ℕ) (v : List ℕ) → q < s.geometry.queues → n < s.geometry.area → Certainly (port_at s.ports q) n v → i.area q n ≡ v
  pub home : (x : ℕ) (v : List ℕ) → x < homes_of s.geometry → Certainly (port_of s (zone_of s.geometry x)) (home_index s.geometry x) v → i.home x ≡ v

image_block : (p : PortState) (i : PortImage) (n : ℕ) (v : List ℕ) → IsImage p i → n < length p.blocks → Certainly p n v → block_at i.blocks n ≡ v
image_block p i n v it within c = it.blocks n within c.certain ∙ c.is

pub cut_of : (e : Entries) (s : State) (queues : List PortImage) (root : PortImage) → Facts e s → AreImages s queues root → IsCut e s (shown (reading_of (entries_in e s)) s.geometry queues root)
cut_of e s queues root f it =
    record {
      form = refl;
      base = it.root_is.base;
      doorbell = λ q own. (it.each q own).doorbell;
      from_head = λ q own. (let o = (f.sides q own).order in elim (it.each q own).head [ inl w ↦ omega (arith, w) | inr w ↦ omega (arith, w, o.stored) ]);
      to_stored = λ q own. (let o = (f.sides q own).order in elim (it.each q own).head [ inl w ↦ omega (arith, w, o.stored) | inr w ↦ omega (arith, w) ]);
      end = λ q own. (let o = (f.sides q own).ends in elim (it.each q own).head [
        | inl w ↦ subst (λ h. IsEnd (from_at s.starts q) (of_queue q s.history) h) (sym w) o.head
        | inr w ↦ subst (λ h. IsEnd (from_at s.starts q) (of_queue q s.history) h) (sym w) o.stored
      ]);
      entry = λ q c own low high.
          let side = f.sides q own in
          let long = side.port.flushed in
          ap e.says ((it.each q own).slots (c % depth) (omega arith) (slot_clear (side_known e s) q (of_queue q s.history) (port_at s.ports q) c side low high));
      area = λ q n v own within c. (let long = (f.sides q own).port.blocks in image_block (port_at s.ports q) (image_at queues q) n v (it.each q own) (omega arith) c);
      home = λ x v inside c. go x v inside (zone_of s.geometry x) refl c;
    }
  where
    go : (x : ℕ) (v : List ℕ) → x < homes_of s.geometry → (z : Option ℕ) → zone_of s.geometry x ≡ z → Certainly (port_of s (zone_of s.geometry x)) (home_index s.geometry x) v → home_block s.geometry queues root x (zone_of s.geometry x) ≡ v
    go x v inside None zone c =
        let k = index-root s.geometry x s.root f.root.port zone inside in
        let long = f.root.port.blocks in
        let there : Certainly s.root (home_index s.geometry x) v = subst (λ z. Certainly (port_of s z) (home_index s.geometry x) v) zone c in
        let at : home_index s.geometry x ≡ x = ap (λ z. home_index_in s.geometry z x) zone in
        ap (home_block s.geometry queues root x) zone ∙ ap (block_at root.blocks) (sym at) ∙ image_block s.root root (home_index s.geometry x) v it.root_is (omega (arith, k.1)) there
    go x v inside (Some q) zone c =
        let own = zone-queue s.geometry q x inside zone in
        let k = index-zone s.geometry q x (port_at s.ports q) (f.sides q own).port zone in
        let long = (f.sides q own).port.blocks in
        let there : Certainly (port_at s.ports q) (home_index s.geometry x) v = subst (λ z. Certainly (port_of s z) (home_index s.geometry x) v) zone c in
        let at : home_index s.geometry x ≡ s.geometry.area + (x - (s.geometry.meta + q * s.geometry.zone)) = ap (λ z. home_index_in s.geometry z x) zone in
        ap (home_block s.geometry queues root x) zone ∙ ap (block_at (image_at queues q).blocks) (sym at) ∙ image_block (port_at s.ports q) (image_at queues q) (home_index s.geometry x) v (it.each q own) (omega (arith, k.2)) there

-- ---- the transactions that an image shows whole

-- the descriptors of the transactions of a set above a number, newest first
abbrev pub rows_in : (ℕ → Bool) → ℕ → List Tx → List Descriptor
rows_in S n [] = []
rows_in S n (t ∷ ts) = cond (leb t.number n) [] (cond (S t.number) (descriptor_for t (of_queue t.queue ts) ∷ rows_in S n ts) (rows_in S n ts))

-- the set of an image
abbrev pub set_of : State → Shown → ℕ → Bool
set_of s i = λ n. closure (is_whole s i) s.base s.history n

module _ (e : Entries) (s : State) (i : Shown) (f : Facts e s) (cut : IsCut e s i) where
  abbrev k : KnownJournal
  k = side_known e s

  pub base_low : s.root.base ≤ i.base
  base_low = (let o : s.root.base ≤ s.root.stored_base = f.root.bases.1 in elim cut.base [ inl w ↦ omega (arith, w) | inr w ↦ omega (arith, w, o) ])

  pub base_reached : i.base ≤ front_of s
  base_reached = (let o : s.root.base ≤ s.root.stored_base = f.root.bases.1 in elim cut.base [ inl w ↦ omega (arith, w, o, f.reached) | inr w ↦ omega (arith, w, f.reached) ])

  abbrev form : DescriptorForm
  form = (entries_in e s).form

  pub held : (t : Tx) (ts : List Tx) (n place : ℕ) → IsWhole s i t ts → n < writes t + descriptor_blocks t → (item_of t (of_queue t.queue ts) n).target ≡ AtPlace place → i.area t.queue (place % s.geometry.area) ≡ bytes_of form (item_of t (of_queue t.queue ts) n).content
  held t ts n place w l target =
      let q = t.queue in
      let from = from_at s.starts q in
      let own = (f.log.each t ts w.at).0.queue in
      let side = f.sides q own in
      let c = end_of from (of_queue q ts) + n in
      let is = (item_of_at from q t ts s.history n refl w.at l).0 in
      let falling = (IsFalling-of s.base q s.history f.log.numbers).0 in
      let low = end_above q from s.root.base t (of_queue q ts) (of_queue q s.history) falling (at_own q t ts s.history w.at refl) (omega (arith, base_low, w.above)) in
      let done = done_stored k q (of_queue q s.history) (port_at s.ports q) c side (omega (arith, cut.to_stored q own, w.below)) in
      let there = side.area.holds c place (omega arith) done (ap (λ (v : Item). v.target) is ∙ target) in
      let small = (index-place s.geometry q place (port_at s.ports q) side.port own).1 in
      cut.area q (place % s.geometry.area) _ own small there ∙ ap (λ (v : Item). bytes_of form v.content) is

  pub held_descriptor : (t : Tx) (ts : List Tx) → IsWhole s i t ts → i.area t.queue (place_for t (of_queue t.queue ts) % s.geometry.area) ≡ last_block form 1 (descriptor_for t (of_queue t.queue ts))
  held_descriptor t ts w =
      let is = item-commit t (of_queue t.queue ts) (writes t + further_blocks t) refl in
      held t ts (writes t + further_blocks t) _ w (omega arith) (ap (λ (v : Item). v.target) is) ∙ ap (λ (v : Item). bytes_of form v.content) is

  pub held_copies : (t : Tx) (ts : List Tx) (x : ℕ) → IsWhole s i t ts → logged_copy (i.area t.queue) s.geometry.area (next (of_queue t.queue ts)) (blocks_of t.logged) x ≡ write_of t.logged x
  held_copies t ts x w =
      copies (i.area t.queue) s.geometry.area (next (of_queue t.queue ts)) t.logged x (λ n l.
      let is = item-logged t (of_queue t.queue ts) n l in
      held t ts n _ w (omega arith) (ap (λ (v : Item). v.target) is) ∙ ap (λ (v : Item). bytes_of form v.content) is)

  -- ---- the set

  -- what is done is whole
  pub done_whole : DoneMore (is_done s.starts s.ports) (is_whole s i) s.history
  done_whole = record {
    each = λ t ts at d.
        let own = (f.log.each t ts at).0.queue in
        let low = cut.from_head t.queue own in
        let done : end_of (from_at s.starts t.queue) (of_queue t.queue ts) + (writes t + descriptor_blocks t) ≤ (port_at s.ports t.queue).head = leb-true _ _ d in
        or_right (leb t.number i.base) _ (le-leb (end_of (from_at s.starts t.queue) (of_queue t.queue ts) + (writes t + descriptor_blocks t)) (i.head t.queue) (omega arith));
  }

  -- so what is settled is in the set
  pub settled_in : (n : ℕ) → settled s n ≡ true → set_of s i n ≡ true
  settled_in n st = closure_more (is_done s.starts s.ports) (is_whole s i) s.base s.history n f.log.numbers done_whole st

  pub whole_from : (t : Tx) (ts : List Tx) → IsAt t ts s.history → is_whole s i t ts ≡ true → i.base < t.number → IsWhole s i t ts
  whole_from t ts at w past =
      elim (or_cases (leb t.number i.base) (leb (end_of (from_at s.starts t.queue) (of_queue t.queue ts) + (writes t + descriptor_blocks t)) (i.head t.queue)) w) [
        | inl a ↦ absurd (let n : t.number ≤ i.base = leb-true _ _ a in omega arith)
        | inr b ↦ record { at = at; above = past; below = leb-true _ _ b }
      ]

  pub member_whole : (t : Tx) (ts : List Tx) → IsAt t ts s.history → set_of s i t.number ≡ true → i.base < t.number → IsWhole s i t ts
  member_whole t ts at m past = whole_from t ts at (closure_of (is_whole s i) s.base t ts s.history f.log.numbers at m).0 past

  -- all numbers up to the image's base are in the set: they are done, and so is all below them
  pub set_low : (n : ℕ) → n ≤ i.base → set_of s i n ≡ true
  set_low n l = settled_in n (closure_front (is_done s.starts s.ports) s.base s.history n f.log.numbers (omega (arith, base_reached)))

  -- ---- what stands

  -- a block that nothing of the set above the image's base changes is at home
  held_base : (x : ℕ) (v : List ℕ) → x < homes_of s.geometry → map_after (start_map s.start) (upto i.base s.history) x ≡ Some v → NoneChanges (set_of s i) s.history x i.base → i.home x ≡ v
  held_base x v inside there none = cut.home x v inside (f.homes x i.base v inside cut.base there (λ t ts at st ch. none t ts at (settled_in t.number st) ch))

  -- the ways of a block in a transaction that writes nothing directly
  stand_cases : (lg dr : Option (List ℕ)) (freed revoked : Bool) (old : Option (List ℕ)) (home rest v : List ℕ) → dr ≡ None → revoked ≡ false → or_kept (or_kept lg dr) (cond freed None old) ≡ Some v → (lg ≡ None → freed ≡ false → old ≡ Some v → rest ≡ v) → or_else lg (cond revoked home rest) ≡ v
  stand_cases (Some w) dr freed revoked old home rest v dn rn is go = cc
  stand_cases None (Some w) freed revoked old home rest v dn rn is go = absurd (cc)
  stand_cases None None true revoked old home rest v dn rn is go = absurd (cc)
  stand_cases None None false true old home rest v dn rn is go = absurd (false≢true (sym rn))
  stand_cases None None false false old home rest v dn rn is go = go refl refl is

  map_step : (start : Map) (t : Tx) (ts : List Tx) (x : ℕ) → map_after start (t ∷ ts) x ≡ or_kept (or_kept (write_of t.logged x) (write_of t.direct x)) (cond (is_among x t.freed) None (map_after start ts x))
  unfolding after
  map_step start t ts x = ap (λ o. or_kept o (cond (is_among x t.freed) None (map_after start ts x))) (write_of-append t.logged t.direct x)

  untouched : (t : Tx) (x : ℕ) → write_of t.logged x ≡ None → write_of t.direct x ≡ None → is_among x t.freed ≡ false → changes t x ≡ false
  untouched t x lg dr freed = ap (λ o. cond (is_some o) true (is_among x t.freed)) (write_of-append t.logged t.direct x ∙ (λ j. or_kept (lg j) (dr j))) ∙ freed

  rows_in-none : (S : ℕ → Bool) (n : ℕ) (t : Tx) (ts : List Tx) → t.number ≤ n → rows_in S n (t ∷ ts) ≡ []
  rows_in-none S n t ts l = rw (le-leb _ _ l) refl

  rows_in-in : (S : ℕ → Bool) (n : ℕ) (t : Tx) (ts : List Tx) → n < t.number → S t.number ≡ true → rows_in S n (t ∷ ts) ≡ descriptor_for t (of_queue t.queue ts) ∷ rows_in S n ts
  rows_in-in S n t ts l m = rw (lt-leb _ _ l, m) refl

  rows_in-out : (S : ℕ → Bool) (n : ℕ) (t : Tx) (ts : List Tx) → n < t.number → S t.number ≡ false → rows_in S n (t ∷ ts) ≡ rows_in S n ts
  rows_in-out S n t ts l m = rw (lt-leb _ _ l, m) refl

  -- the changes of the set lie below, where the next transaction is none of them
  skips : (t : Tx) (ts : List Tx) (x : ℕ) → IsAt t ts s.history → t.number ≡ s.base + length ts + 1 → (set_of s i t.number ≡ true → changes t x ≡ false) → NoneChanges (set_of s i) s.history x (s.base + length (t ∷ ts)) → NoneChanges (set_of s i) s.history x (s.base + length ts)
  skips t ts x at num apart none u us au mu ch =
      let l = none u us au mu ch in
      elim (cases_eq u.number t.number) [
        | inl same ↦
            let one : (u ∷ us) ≡ (t ∷ ts) = at_same s.base u t us ts s.history f.log.numbers au at same in
            let mt : set_of s i t.number ≡ true = subst (λ n. set_of s i n ≡ true) same mu in
            let ct : changes t x ≡ true = ap (λ vs. changes (first vs) x) (sym one) ∙ ch in
            absurd (false≢true (sym (apart mt) ∙ ct))
        | inr other ↦ omega (arith, l, num)
      ]
    where
      first : List Tx → Tx
      first [] = t
      first (v ∷ vs) = v

  pub stand_of : (txs : List Tx) (x : ℕ) (v : List ℕ) → x < homes_of s.geometry → AreNumbered s.base txs → ((t : Tx) (ts : List Tx) → IsAt t ts txs → IsAt t ts s.history) → upto (s.base + length txs) s.history ≡ txs → i.base ≤ s.base + length txs → NoneChanges (set_of s i) s.history x (s.base + length txs)
      → map_after (start_map s.start) (kept (set_of s i) txs) x ≡ Some v → stands s.geometry i (rows_in (set_of s i) i.base txs) x ≡ v
  stand_of [] x v inside n sub up low none there =
      let base : s.base ≤ s.root.base = f.log.word_low in
      let b : i.base ≡ s.base + length {A = Tx} [] = omega (arith, base_low, base) in
      let here : upto i.base s.history ≡ [] = ap (λ m. upto m s.history) b ∙ up in
      held_base x v inside (ap (λ txs. map_after (start_map s.start) txs x) here ∙ there) (subst (λ m. NoneChanges (set_of s i) s.history x m) (sym b) none)
  stand_of (t ∷ ts) x v inside n sub up low none there =
      let at = sub t ts (inl (refl, refl)) in
      let num : t.number ≡ s.base + length ts + 1 = n.0 in
      elim (cases_lt i.base t.number) [
        | inr below ↦
            let b : i.base ≡ s.base + length (t ∷ ts) = omega (arith, num) in
            let here : upto i.base s.history ≡ t ∷ ts = ap (λ m. upto m s.history) b ∙ up in
            let all : kept (set_of s i) (t ∷ ts) ≡ t ∷ ts = kept_all (set_of s i) s.base (t ∷ ts) n (λ m l. set_low m (omega (arith, b))) in
            rw (rows_in-none (set_of s i) i.base t ts below)
            (held_base x v inside (ap (λ txs. map_after (start_map s.start) txs x) here ∙ (sym (ap (λ txs. map_after (start_map s.start) txs x) all) ∙ there)) (subst (λ m. NoneChanges (set_of s i) s.history x m) (sym b) none))
        | inl past ↦
            let rest : NoneChanges (set_of s i) s.history x (s.base + length ts) → map_after (start_map s.start) (kept (set_of s i) ts) x ≡ Some v → stands s.geometry i (rows_in (set_of s i) i.base ts) x ≡ v = λ none' there'.
            stand_of ts x v inside n.1 (λ u us m. sub u us (inr m)) (upto_newer s.base (s.base + length ts) t ts s.history f.log.numbers at (omega (arith, num)) ∙ upto_all s.base (s.base + length ts) ts n.1 (omega arith)) (omega (arith, num, past)) none' there' in
            elim (cases_Bool (set_of s i t.number)) [
              | inr out ↦ rw (rows_in-out (set_of s i) i.base t ts past out) (rest (skips t ts x at num (λ m. absurd (false≢true (sym out ∙ m))) none) (sym (ap (λ txs. map_after (start_map s.start) txs x) (kept-out (set_of s i) t ts out)) ∙ there))
              | inl member ↦
                  let w = member_whole t ts at member past in
                  let plain = f.plain t ts at in
                  let place : first_place (descriptor_for t (of_queue t.queue ts)) ≡ next (of_queue t.queue ts) = first-place t (of_queue t.queue ts) in
                  let copy = held_copies t ts x w in
                  let dr : write_of t.direct x ≡ None = ap (λ ws. write_of ws x) plain.direct in
                  let rv : is_among x t.revoked ≡ false = ap (is_among x) plain.revoked in
                  let step = sym (map_step (start_map s.start) t (kept (set_of s i) ts) x) ∙ (sym (ap (λ txs. map_after (start_map s.start) txs x) (kept-in (set_of s i) t ts member)) ∙ there) in
                  rw (rows_in-in (set_of s i) i.base t ts past member, place, copy) (stand_cases (write_of t.logged x) (write_of t.direct x) (is_among x t.freed) (is_among x t.revoked) (map_after (start_map s.start) (kept (set_of s i) ts) x) (i.home x) (stands s.geometry i (rows_in (set_of s i) i.base ts) x) v dr rv step
                  (λ lg freed old. rest (skips t ts x at num (λ m. untouched t x lg dr freed) none) old))
            ]
      ]
