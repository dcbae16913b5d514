-- What a power cut leaves of a state that has the facts: words, entries, copies and home blocks.
use Rattle.std.proofs.Common.{◌≡◌, ℕ, ◌+◌, ◌-◌, ◌*◌, ◌<◌, ◌≤◌, ◌%◌, ltb, eqb, Bool, true, false, List, [], ◌∷◌, length, is_some, Option, Some, None, cond, sym, refl, ap, subst, ◌∙◌, inl, inr, arith}
use Rattle.std.proofs.lemmas.Bool.{cases_lt, cases_Bool, lt-ltb, eq-eqb, or_left, or_right, false≢true}
use Rattle.mq_blocks.specs.Blocks.{block_at}
use Rattle.mq_blocks.specs.Limits.{depth}
use Rattle.mq_blocks.specs.Descriptor.{first_place, further_block, last_block}
use Rattle.mq_blocks.specs.Drive.{PortState, PortImage, IsImage}
use Rattle.mq_blocks.specs.Geometry.{homes_of, zone_of}
use Rattle.mq_blocks.specs.Journal.{Shown, is_among, image_at, home_block, shown, logged_copy, or_else, stands}
use Rattle.mq_blocks.specs.Machine.{Map, write_of, or_kept, after}
use Rattle.mq_ledger.specs.History.{blocks_of, writes, changes, map_after, last, upto, of_queue, AreNumbered, IsAt}
use Rattle.mq_ledger.specs.Items.{Entries, Item, AtPlace, AtHome, write_at, item_at, item_of, descriptor_item, end_of, next, IsEnd, place_for, descriptor_for, further_blocks, descriptor_blocks, bytes_of, reading_of}
use Rattle.mq_ledger.specs.KnownJournal.{KnownJournal}
use Rattle.mq_ledger.specs.Sides.{Certainly, flushed_at, home_index, home_index_in}
use Rattle.mq_ledger.specs.State.{State, Facts, AreImages, port_at, port_of, from_at, known_of, front_of, start_map}
use Rattle.mq_ledger.specs.declared.tx.Tx.{Tx}
use Rattle.mq_ledger.proofs.History.{upto-at, upto-past, upto_all, upto_newer, at_most, last_upto_bound, last-changed, last-same, last_le, length-upto, unchanged, among_written, unwritten, write_of-append}
use Rattle.mq_ledger.proofs.Items.{item-logged, item-direct, item-descriptor, item-commit, item_of_at}
use Rattle.mq_ledger.proofs.HistoryQueues.{IsFalling-of, at_own, end_above}
use Rattle.mq_core.proofs.SidesCommands.{done_stored}
use Rattle.mq_core.proofs.EventsPorts.{index-place, index-zone, index-root}
use Rattle.mq_core.proofs.EventsSides.{slot_clear}
use Rattle.mq_core.proofs.KnownJournalSources.{among_below}
use Rattle.mq_core.proofs.StateEvents.{zone-queue}
use Rattle.mq_core.proofs.StateBases.{due_homes}
use Rattle.mq_core.proofs.ItemsReading.{first-place, rows, rows-above, rows-none, copies, writes_at, stands_home}

-- what is sure of the parts of an image together
pub record IsCut (e : Entries) (s : State) (i : Shown) : Type 0 where
  pub form : i.form ≡ e.form
  pub low : s.root.base ≤ i.base
  pub reached : i.base ≤ front_of s
  pub due : (x : ℕ) → (known_of e s).due x i.base ≡ true
  pub doorbell : (q : ℕ) → q < s.geometry.queues → i.doorbell q ≡ (port_at s.ports q).doorbell
  pub from_head : (q : ℕ) → q < s.geometry.queues → (port_at s.ports q).head ≤ i.head q
  pub to_stored : (q : ℕ) → q < s.geometry.queues → i.head q ≤ (port_at s.ports q).stored_head
  pub end : (q : ℕ) → q < s.geometry.queues → IsEnd (from_at s.starts q) (of_queue q s.history) (i.head q)
  pub entry : (q c : ℕ) → q < s.geometry.queues → (port_at s.ports q).head ≤ c + 1 → c < (port_at s.ports q).doorbell → i.entry q (c % depth) ≡ e.says (flushed_at (port_at s.ports q) c)
  pub area : (q n : ℕ) (v : List ℕ) → q < s.geometry.queues → n < s.geometry.area → Certainly (port_at s.ports q) n v → i.area q n ≡ v
  pub home : (x : ℕ) (v : List ℕ) → x < homes_of s.geometry → Certainly (port_of s (zone_of s.geometry x)) (home_index s.geometry x) v → i.home x ≡ v

image_block : (p : PortState) (i : PortImage) (n : ℕ) (v : List ℕ) → IsImage p i → n < length p.blocks → Certainly p n v → block_at i.blocks n ≡ v
image_block p i n v it within c = it.blocks n within c.certain ∙ c.is

pub cut_of : (e : Entries) (s : State) (queues : List PortImage) (root : PortImage) → Facts e s → AreImages s queues root → IsCut e s (shown (reading_of e) s.geometry queues root)
cut_of e s queues root f it =
    record {
      form = refl;
      low = elim it.root_is.base [ inl w ↦ omega (arith, w) | inr w ↦ omega (arith, w, f.root.bases.1) ];
      reached = f.log.due 0 root.base (base_due 0);
      due = base_due;
      doorbell = λ q own. (it.each q own).doorbell;
      from_head = λ q own. (let o = (f.sides q own).order in elim (it.each q own).head [ inl w ↦ omega (arith, w) | inr w ↦ omega (arith, w, o.stored) ]);
      to_stored = λ q own. (let o = (f.sides q own).order in elim (it.each q own).head [ inl w ↦ omega (arith, w, o.stored) | inr w ↦ omega (arith, w) ]);
      end = λ q own. (let o = (f.sides q own).ends in elim (it.each q own).head [
        | inl w ↦ subst (λ h. IsEnd (from_at s.starts q) (of_queue q s.history) h) (sym w) o.head
        | inr w ↦ subst (λ h. IsEnd (from_at s.starts q) (of_queue q s.history) h) (sym w) o.stored
      ]);
      entry = λ q c own low high.
          let side = f.sides q own in
          let long = side.port.flushed in
          ap e.says ((it.each q own).slots (c % depth) (omega arith) (slot_clear (known_of e s) q (of_queue q s.history) (port_at s.ports q) c side low high));
      area = λ q n v own within c. (let long = (f.sides q own).port.blocks in image_block (port_at s.ports q) (image_at queues q) n v (it.each q own) (omega arith) c);
      home = λ x v inside c. go x v inside (zone_of s.geometry x) refl c;
    }
  where
    base_due : (x : ℕ) → (known_of e s).due x root.base ≡ true
    base_due x = elim it.root_is.base [
      | inl w ↦ or_left _ _ (eq-eqb _ _ w)
      | inr w ↦ or_right (eqb root.base s.root.base) _ (eq-eqb _ _ w)
    ]

    go : (x : ℕ) (v : List ℕ) → x < homes_of s.geometry → (z : Option ℕ) → zone_of s.geometry x ≡ z → Certainly (port_of s (zone_of s.geometry x)) (home_index s.geometry x) v → home_block s.geometry queues root x (zone_of s.geometry x) ≡ v
    go x v inside None zone c =
        let k = index-root s.geometry x s.root f.root.port zone inside in
        let long = f.root.port.blocks in
        let there : Certainly s.root (home_index s.geometry x) v = subst (λ z. Certainly (port_of s z) (home_index s.geometry x) v) zone c in
        let at : home_index s.geometry x ≡ x = ap (λ z. home_index_in s.geometry z x) zone in
        ap (home_block s.geometry queues root x) zone ∙ ap (block_at root.blocks) (sym at) ∙ image_block s.root root (home_index s.geometry x) v it.root_is (omega (arith, k.1)) there
    go x v inside (Some q) zone c =
        let own = zone-queue s.geometry q x inside zone in
        let k = index-zone s.geometry q x (port_at s.ports q) (f.sides q own).port zone in
        let long = (f.sides q own).port.blocks in
        let there : Certainly (port_at s.ports q) (home_index s.geometry x) v = subst (λ z. Certainly (port_of s z) (home_index s.geometry x) v) zone c in
        let at : home_index s.geometry x ≡ s.geometry.area + (x - (s.geometry.meta + q * s.geometry.zone)) = ap (λ z. home_index_in s.geometry z x) zone in
        ap (home_block s.geometry queues root x) zone ∙ ap (block_at (image_at queues q).blocks) (sym at) ∙ image_block (port_at s.ports q) (image_at queues q) (home_index s.geometry x) v (it.each q own) (omega (arith, k.2)) there

-- ---- the transactions that an image shows whole

pub record IsWhole (s : State) (i : Shown) (t : Tx) (ts : List Tx) : Type 0 where
  pub at : IsAt t ts s.history
  pub above : i.base < t.number
  pub below : end_of (from_at s.starts t.queue) (of_queue t.queue ts) + (writes t + descriptor_blocks t) ≤ i.head t.queue

module _ (e : Entries) (s : State) (i : Shown) (f : Facts e s) (cut : IsCut e s i) where
  abbrev k : KnownJournal
  k = known_of e s

  pub held : (t : Tx) (ts : List Tx) (n place : ℕ) → IsWhole s i t ts → n < writes t + descriptor_blocks t → (item_of t (of_queue t.queue ts) n).target ≡ AtPlace place → i.area t.queue (place % s.geometry.area) ≡ bytes_of e.form (item_of t (of_queue t.queue ts) n).content
  held t ts n place w l target =
      let q = t.queue in
      let from = from_at s.starts q in
      let own = (f.log.each t ts w.at).0.queue in
      let side = f.sides q own in
      let c = end_of from (of_queue q ts) + n in
      let is = (item_of_at from q t ts s.history n refl w.at l).0 in
      let falling = (IsFalling-of s.base q s.history f.log.numbers).0 in
      let low = end_above q from s.root.base t (of_queue q ts) (of_queue q s.history) falling (at_own q t ts s.history w.at refl) (omega (arith, cut.low, w.above)) in
      let done = done_stored k q (of_queue q s.history) (port_at s.ports q) c side (omega (arith, cut.to_stored q own, w.below)) in
      let there = side.area.holds c place (omega arith) done (ap (λ (v : Item). v.target) is ∙ target) in
      let small = (index-place s.geometry q place (port_at s.ports q) side.port own).1 in
      cut.area q (place % s.geometry.area) _ own small there ∙ ap (λ (v : Item). bytes_of e.form v.content) is

  pub held_descriptor : (t : Tx) (ts : List Tx) → IsWhole s i t ts → i.area t.queue (place_for t (of_queue t.queue ts) % s.geometry.area) ≡ last_block e.form e.form.version (descriptor_for t (of_queue t.queue ts))
  held_descriptor t ts w =
      let is = item-commit t (of_queue t.queue ts) (writes t + further_blocks t) refl in
      held t ts (writes t + further_blocks t) _ w (omega arith) (ap (λ (v : Item). v.target) is) ∙ ap (λ (v : Item). bytes_of e.form v.content) is

  -- the further block stands right before it
  pub held_further : (t : Tx) (ts : List Tx) → IsWhole s i t ts → further_blocks t ≡ 1 → i.area t.queue ((place_for t (of_queue t.queue ts) - 1) % s.geometry.area) ≡ further_block e.form e.form.version (descriptor_for t (of_queue t.queue ts))
  held_further t ts w one =
      let us = of_queue t.queue ts in
      let zero : writes t - writes t ≡ 0 = omega arith in
      let is = item-descriptor t us (writes t) (omega arith) ∙ ap (descriptor_item t us) zero in
      let before : ltb 0 (further_blocks t) ≡ true = lt-ltb 0 (further_blocks t) (omega arith) in
      let place : next us + (length t.logged + 0) ≡ place_for t us - 1 = omega arith in
      let content : bytes_of e.form (descriptor_item t us 0).content ≡ further_block e.form e.form.version (descriptor_for t us) = rw before refl in
      held t ts (writes t) _ w (omega arith) (ap (λ (v : Item). v.target) is ∙ ap AtPlace place) ∙ ap (λ (v : Item). bytes_of e.form v.content) is ∙ content

  pub held_copies : (t : Tx) (ts : List Tx) (x : ℕ) → IsWhole s i t ts → logged_copy (i.area t.queue) s.geometry.area (next (of_queue t.queue ts)) (blocks_of t.logged) x ≡ write_of t.logged x
  held_copies t ts x w =
      copies (i.area t.queue) s.geometry.area (next (of_queue t.queue ts)) t.logged x (λ n l.
      let is = item-logged t (of_queue t.queue ts) n l in
      held t ts n _ w (omega arith) (ap (λ (v : Item). v.target) is) ∙ ap (λ (v : Item). bytes_of e.form v.content) is)

  held_direct : (t : Tx) (ts : List Tx) (x : ℕ) (v : List ℕ) → IsWhole s i t ts → write_of t.direct x ≡ Some v → last s.base (upto (front_of s) s.history) x ≤ t.number → i.home x ≡ v
  held_direct t ts x v w written l =
      let q = t.queue in
      let from = from_at s.starts q in
      let form = (f.log.each t ts w.at).0 in
      let own = form.queue in
      let side = f.sides q own in
      let among = among_written t.direct x v written in
      let d = writes_at t.direct x v written in
      let n = length t.logged + d.i in
      let within = d.within in
      let n' : n - length t.logged ≡ d.i = omega arith in
      let c = end_of from (of_queue q ts) + n in
      let is = (item_of_at from q t ts s.history n refl w.at (omega arith)).0 ∙ item-direct t (of_queue q ts) n (omega arith) (omega arith) in
      let done = done_stored k q (of_queue q s.history) (port_at s.ports q) c side (omega (arith, cut.to_stored q own, w.below)) in
      let target = ap (λ (v : Item). v.target) is ∙ ap AtHome (ap (λ m. (write_at t.direct m).0) n' ∙ d.block) in
      let number = ap (λ (v : Item). v.number) is in
      let there = side.direct c x (omega arith) done target (omega (arith, number, l)) in
      let zone = form.zoned x among in
      let content = ap (λ (v : Item). bytes_of e.form v.content) is ∙ ap (λ m. (write_at t.direct m).1) n' ∙ d.content in
      cut.home x _ (among_below 0 (homes_of s.geometry) (blocks_of t.direct) x form.direct among) (subst (λ z. Certainly (port_of s z) (home_index s.geometry x) (bytes_of e.form (item_at from (of_queue q s.history) c).content)) (sym zone) there) ∙ content

  -- a block of the map after the image's base is at home
  pub held_base : (x : ℕ) (v : List ℕ) → x < homes_of s.geometry → map_after (start_map s.start) (upto i.base s.history) x ≡ Some v → last s.base (upto (front_of s) s.history) x ≤ i.base → i.home x ≡ v
  held_base x v inside there l = cut.home x v inside (due_homes e s f (zone_of s.geometry x) x i.base v inside refl (cut.due x) there l)

  -- where nothing since changed the block, its last change lies below
  last_skips : (m : ℕ) (t : Tx) (ts h : List Tx) (x : ℕ) → AreNumbered s.base h → s.base ≤ m → IsAt t ts h → changes t x ≡ false → last s.base (upto m h) x ≤ t.number → last s.base (upto m h) x ≤ s.base + length ts
  last_skips m t ts [] x n b at c l = absurd at
  last_skips m t ts (u ∷ txs) x n b (inl same) c l =
      let len : length txs ≡ length ts = ap length same.1 in
      let num : u.number ≡ t.number = ap (λ (v : Tx). v.number) same.0 in
      elim (cases_lt m u.number) [
        | inl past ↦ (let r = last_upto_bound s.base m txs x n.1 b in rw (upto-past m u txs past) (omega (arith, n.0)))
        | inr at ↦
            let c' : changes u x ≡ false = rw (← same.0) at c in
            rw (upto-at m u txs at, last-same s.base u txs x c') (omega (arith, last_le s.base txs x n.1))
      ]
  last_skips m t ts (u ∷ txs) x n b (inr deeper) c l =
      let most = at_most s.base t ts txs n.1 deeper in
      elim (cases_lt m u.number) [
        | inl past ↦ (let l' = rw (upto-past m u txs past) at l in rw (upto-past m u txs past) (last_skips m t ts txs x n.1 b deeper c l'))
        | inr at ↦
            let l' = rw (upto-at m u txs at) at l in
            rw (upto-at m u txs at) (elim (cases_Bool (changes u x)) [
              | inl d ↦ absurd (let r = rw (last-changed s.base u txs x d) at l' in omega (arith, n.0))
              | inr d ↦
                  let r = rw (last-same s.base u txs x d) at l' in
                  let all = upto_all s.base m txs n.1 (omega (arith, n.0)) in
                  let go = last_skips m t ts txs x n.1 b deeper c (rw all r) in
                  rw (last-same s.base u txs x d) (rw all at go)
            ])
      ]

  -- the three ways of a block in a transaction
  stand_cases : (lg dr : Option (List ℕ)) (freed revoked : Bool) (old : Option (List ℕ)) (home rest v : List ℕ) → or_kept (or_kept lg dr) (cond freed None old) ≡ Some v → ((w : List ℕ) → dr ≡ Some w → lg ≡ None → (revoked ≡ true → home ≡ w) × (revoked ≡ false → rest ≡ w))
      → (lg ≡ None → dr ≡ None → (revoked ≡ false) × (freed ≡ false → old ≡ Some v → rest ≡ v)) → or_else lg (cond revoked home rest) ≡ v
  stand_cases (Some w) dr freed revoked old home rest v is d n = cc
  stand_cases None (Some w) freed true old home rest v is d n = (d w refl refl).0 refl ∙ inj is
    where
      inj : {a b : List ℕ} → Some a ≡ Some b → a ≡ b
      inj m = cc
  stand_cases None (Some w) freed false old home rest v is d n = (d w refl refl).1 refl ∙ inj is
    where
      inj : {a b : List ℕ} → Some a ≡ Some b → a ≡ b
      inj m = cc
  stand_cases None None true revoked old home rest v is d n = absurd (cc)
  stand_cases None None false true old home rest v is d n = absurd (false≢true (sym (n refl refl).0))
  stand_cases None None false false old home rest v is d n = (n refl refl).1 refl is

  map_step : (start : Map) (t : Tx) (ts : List Tx) (x : ℕ) → map_after start (t ∷ ts) x ≡ or_kept (or_kept (write_of t.logged x) (write_of t.direct x)) (cond (is_among x t.freed) None (map_after start ts x))
  unfolding after
  map_step start t ts x = ap (λ o. or_kept o (cond (is_among x t.freed) None (map_after start ts x))) (write_of-append t.logged t.direct x)

  untouched : (t : Tx) (x : ℕ) → write_of t.logged x ≡ None → write_of t.direct x ≡ None → is_among x t.freed ≡ false → changes t x ≡ false
  untouched t x lg dr freed = ap (λ o. cond (is_some o) true (is_among x t.freed)) (write_of-append t.logged t.direct x ∙ (λ j. or_kept (lg j) (dr j))) ∙ freed

  -- the blocks of the map after a part of the history that an image shows whole stand
  pub stand_of : (txs : List Tx) (x : ℕ) (v : List ℕ) → x < homes_of s.geometry → AreNumbered s.base txs → ((t : Tx) (ts : List Tx) → IsAt t ts txs → IsAt t ts s.history × (i.base < t.number → IsWhole s i t ts)) → upto (s.base + length txs) s.history ≡ txs → i.base ≤ s.base + length txs
      → last s.base (upto (front_of s) s.history) x ≤ s.base + length txs → map_after (start_map s.start) txs x ≡ Some v → stands s.geometry i (rows i.base txs) x ≡ v
  stand_of [] x v inside n sub up low l there =
      let base : s.base ≤ s.root.base = f.log.word_low in
      let b : i.base ≡ s.base = omega (arith, cut.low) in
      let none : i.base ≡ s.base + length {A = Tx} [] = omega (arith, b) in
      let here : upto i.base s.history ≡ [] = ap (λ m. upto m s.history) none ∙ up in
      held_base x v inside (ap (λ txs. map_after (start_map s.start) txs x) here ∙ there) (omega (arith, b, l))
  stand_of (t ∷ ts) x v inside n sub up low l there =
      elim (cases_lt i.base t.number) [
        | inr at ↦
            let b : i.base ≡ s.base + length (t ∷ ts) = omega (arith, n.0) in
            let here : upto i.base s.history ≡ t ∷ ts = ap (λ m. upto m s.history) b ∙ up in
            rw (rows-none i.base t ts at) (held_base x v inside (ap (λ txs. map_after (start_map s.start) txs x) here ∙ there) (omega (arith, b, l)))
        | inl past ↦
            let w = (sub t ts (inl (refl, refl))).1 past in
            let place : first_place (descriptor_for t (of_queue t.queue ts)) ≡ next (of_queue t.queue ts) = first-place t (of_queue t.queue ts) in
            let copy = held_copies t ts x w in
            let form = (f.log.each t ts w.at).0 in
            let placed = (f.log.each t ts w.at).1 in
            let num : t.number ≡ s.base + length ts + 1 = n.0 in
            let lt : last s.base (upto (front_of s) s.history) x ≤ t.number = omega arith in
            let step = sym (map_step (start_map s.start) t ts x) ∙ there in
            let front_base : s.base ≤ front_of s = omega arith in
            rw (rows-above i.base t ts past, place, copy) (stand_cases (write_of t.logged x) (write_of t.direct x) (is_among x t.freed) (is_among x t.revoked) (map_after (start_map s.start) ts x) (i.home x) (stands s.geometry i (rows i.base ts) x) v step
            (λ b d none.
            let home = held_direct t ts x b w d lt in (
              λ _. home,
              λ not. stands_home s.geometry i s.base s.root.base ts x cut.low (λ u vs m past2. held_copies u vs x ((sub u vs (inr m)).1 past2)) (placed.hidden x (among_written t.direct x b d) not) ∙ home,
            ))
            (λ none none2. (
              elim (cases_Bool (is_among x t.revoked)) [
                | inl r ↦ absurd (missing (form.revokes x r) none2)
                | inr r ↦ r
              ],
              λ freed old. stand_of ts x v inside n.1 (λ u vs m. sub u vs (inr m)) (upto_newer s.base (s.base + length ts) t ts s.history f.log.numbers w.at (omega (arith, n.0)) ∙ upto_all s.base (s.base + length ts) ts n.1 (omega arith)) (omega (arith, num, past))
                  (last_skips (front_of s) t ts s.history x f.log.numbers front_base w.at (untouched t x none none2 freed) lt) old,
            )))
      ]
    where
      missing : is_among x (blocks_of t.direct) ≡ true → write_of t.direct x ≡ None → ⊥
      missing among none = (let w = Rattle.mq_ledger.proofs.History.written_among t.direct x among in no w.1 none)
        where
          no : {o : Option (List ℕ)} {b : List ℕ} → o ≡ Some b → o ≡ None → ⊥
          no a b = cc
