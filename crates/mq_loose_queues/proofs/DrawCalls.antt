-- A draw: the queues after what was prepared was noted and sent.
use Rattle.std.specs.Prelude.{OnErr, OnOk, slice_get}
use Rattle.std.specs.Vec.{with_item}
use Rattle.std.specs.Coded.{Coded-set, coded_ℕ, le_prop}
use Rattle.std.proofs.Common.{◌≡◌, ℕ, suc, zero, ◌+◌, ◌<◌, ◌≤◌, ◌^◌, true, false, Bool, List, [], ◌∷◌, ◌++◌, length, map, reverse, set, get_or, length-append, None, Option, Some, Result, Ok, Err, sym, ap, subst, ◌∙◌, arith}
use Rattle.std.proofs.Math.Logic.{∥∥₁_elim}
use Rattle.std.proofs.Props.{props}
use Rattle.std.proofs.lemmas.List.{length-map, length-set}
use Rattle.mq_blocks.specs.Drive.{PortState, staged_end}
use Rattle.mq_blocks.specs.Journal.{number_limit}
use Rattle.mq_blocks.specs.Machine.{Writes}
use Rattle.mq_blocks.specs.declared.geometry.Geometry.{Geometry}
use Rattle.mq_blocks.proofs.DescriptorLimits.{further-none}
use Rattle.mq_drive.specs.Steps.{Gains, OffCause, PortFault, PowerOff}
use Rattle.mq_drive.specs.declared.port.Off.{Off}
use Rattle.mq_drive.specs.declared.port.Port.{Ghosts}
use Rattle.mq_ledger.specs.History.{of_queue}
use Rattle.mq_ledger.specs.Items.{next}
use Rattle.mq_ledger.specs.State.{State}
use Rattle.mq_ledger.specs.declared.tx.Tx.{Tx}
use Rattle.mq_loose.specs.Rows.{AreRows, loose_rows, row_for}
use Rattle.mq_loose.specs.declared.machine.rows.LooseRow.{LooseRow}
use Rattle.mq_loose.proofs.RowLists.{reverse-cons, rows_are}
use Rattle.mq_loose_order.specs.Dependence.{deps_of}
use Rattle.mq_loose_order.specs.Form.{loose_bytes, loose_form}
use Rattle.mq_queue_side.specs.Commits.{Commit, NumberedCommit, commit_of, descriptor_size, items_of}
use Rattle.mq_queue_side.specs.Sent.{IsCutAt, RingsAll, Sends, after_send}
use Rattle.mq_queue_side.specs.Side.{side_state}
use Rattle.mq_queue_side.specs.Stored.{next_in, rows_for, rows_of}
use Rattle.mq_queue_side.specs.declared.answers.Why.{Why}
use Rattle.mq_queue_side.specs.declared.answers.Why.TheVariants as why
use Rattle.mq_queue_side.specs.declared.side.QueueSide.{QueueSide}
use Rattle.mq_queue_side.proofs.CommitsItems.{length_items}
use Rattle.mq_queue_side.proofs.SideDraws.{next_is}
use Rattle.mq_loose_queues.specs.Changes.{after_commit, with_changes}
use Rattle.mq_loose_queues.specs.Commits.{IsCutOn, IsDrawn, IsRequest, IsRungOn, MayCommit}
use Rattle.mq_loose_queues.specs.Draws.{IsReadyFor, numbered_on}
use Rattle.mq_loose_queues.specs.Journal.{AreFlags, IsJournal, known_over, loose_tx}
use Rattle.mq_loose_queues.specs.Queues.{QueuesState, StoredSide, at_queue, next_number, parts_state, stored_state}
use Rattle.mq_loose_queues.specs.Rings.{IsRingIn}
use Rattle.mq_loose_queues.specs.declared.parts.Parts.{Parts}
use Rattle.mq_loose_queues.specs.declared.prepare.Ready.{Ready}
use Rattle.mq_loose_queues.proofs.Calls.{heads_any, ring_at, ringed, side_read}
use Rattle.mq_loose_queues.proofs.Drawn.{log_then, own, own_then, room}
use Rattle.mq_loose_queues.proofs.Readied.{HasJournal, own_any}
use Rattle.mq_loose_queues.proofs.Sent.{heads_then, is_ready, numbered_is, sent_journal, sides_then}
use Rattle.mq_loose_queues.proofs.Sides.{IsMoved, at_other, at_same, map-set, same_count}

pub get_is : {A : Type 0} (xs : List A) (n : ℕ) (x : A) → n < length xs → x ≡ get_or xs n x → slice_get xs n ≡ Some x
get_is [] n x l is = absurd (omega arith)
get_is (y ∷ ys) zero x l is = ap (λ (z : _). Some z) (sym is)
get_is (y ∷ ys) (suc n) x l is = get_is ys n x (omega arith) is

-- the queue of a side is the one where it stands
pub queue_any : (v : QueuesState) (q : ℕ) → HasJournal v → q < v.geometry.queues → (at_queue v q).side.queue ≡ q
queue_any v q is own = ∥∥₁_elim is (Coded-set coded_ℕ _ _) (λ r. (r.2.sides q (let g = ap (λ (x : Geometry). x.queues) r.2.geometry in omega (arith, g, own))).queue)

pub base_low : (v : QueuesState) → HasJournal v → v.root.base ≤ 2 ^ 62
base_low v is = ∥∥₁_elim is le_prop (λ r. (let word = ap (λ (p : PortState). p.base) r.2.root_is ∙ r.2.start.base in let low = r.2.low.base in omega (arith, word, low)))

rows-prop : (base : ℕ) (rows : List LooseRow) (n : ℕ) → IsProp (AreRows base rows n)
rows-prop base rows n = Prim.hlevel props

-- ---- the queues before the draw

module _ (v : QueuesState) (q number : ℕ) (ws : Writes) (frees : List ℕ) (ready : Ready) (is_one : HasJournal v) (request : IsRequest v q ws frees) (may : MayCommit v q (length ws) (length frees)) (few : length v.rows < 2 ^ 62) (num : number ≡ next_number v) (made : IsReadyFor v q ws frees number ready) where
  pub limit_any : staged_end (at_queue v q).side.port + (length ws + 1) ≤ number_limit
  limit_any = ∥∥₁_elim is_one le_prop (λ j.
      let r = room j.0 j.1 v q ws frees j.2 request made.whole may few in
      let side = (j.2.sides q (own j.0 j.1 v q ws frees j.2 request made.whole may few)).side.order in
      let drawn = side.drawn in
      let limit = r.limit in
      omega (arith, drawn, limit))

  pub sizes : (length ready.prepared.logged ≡ length ws) × ((length ready.prepared.direct ≡ 0) × (descriptor_size (length ready.prepared.logged) (length ready.prepared.revoked) ≡ 1))
  sizes =
      let logged : length ready.prepared.logged ≡ length ws = ap (λ (c : Commit). length c.logged) made.prepared in
      let direct : length ready.prepared.direct ≡ 0 = ap (λ (c : Commit). length c.direct) made.prepared in
      let size : descriptor_size (length ready.prepared.logged) (length ready.prepared.revoked) ≡ descriptor_size (length ws) 0 = ap (λ (c : Commit). descriptor_size (length c.logged) (length c.revoked)) made.prepared in
      let none = further-none (length ws + 0) (omega (arith, may.few)) in
      (logged, (direct, omega (arith, size, none)))

  -- what is numbered on its side is the transaction's commit
  pub numbered_then : (s : State) (h : List Tx) (j : IsJournal s h v) (x : StoredSide) → x ≡ at_queue v q
      → numbered_on x.side.queue number x.rows ready.prepared ready.last ≡ commit_of (loose_form (deps_of s.base (loose_tx (next_number v) q ws frees ∷ h))) (loose_tx (next_number v) q ws frees) (of_queue q h)
  numbered_then s h j x read =
      let mine = own s h v q ws frees j request made.whole may few in
      let queue : x.side.queue ≡ q = ap (λ (y : StoredSide). y.side.queue) read ∙ (j.sides q mine).queue in
      let rows : x.rows ≡ rows_for (of_queue q h) = ap (λ (y : StoredSide). y.rows) read ∙ j.stored q mine in
      let row : ready.row ≡ row_for s.base s.starts (loose_tx (next_number v) q ws frees) h = made.row s h j ∙ ap (λ n. row_for s.base s.starts (loose_tx n q ws frees) h) num in
      let last = made.last ∙ ap (λ (r : LooseRow). loose_bytes r.descriptor r.deps) row in
      (λ i. numbered_on (queue i) (num i) x.rows ready.prepared ready.last) ∙ numbered_is s h v q ws frees j request made.whole may few x.rows ready.prepared ready.last rows made.prepared last

-- ---- and after it

module _ {P : Type 0} {G : Ghosts P} (state : P → PortState) (faults : P → List PortFault) (old mid : Parts P G) (q at number : ℕ) (x new : QueueSide P (Unit {0}) G) (ws : Writes) (frees : List ℕ) (ready : Ready) (same_geometry : mid.geometry ≡ old.geometry) (same_sides : mid.sides ≡ old.sides) (same_root : mid.root ≡ old.root)
    (noted : mid.changes.items ≡ with_changes frees (record { number = number; is_there = false }) (with_changes ready.blocks.items (record { number = number; is_there = true }) old.changes.items))
    (more : mid.rows.items ≡ old.rows.items ++ ready.row ∷ []) (is : at ≡ q) (value : x ≡ get_or mid.sides.items at x)
    (is_one : HasJournal (parts_state state faults old)) (request : IsRequest (parts_state state faults old) q ws frees) (may : MayCommit (parts_state state faults old) q (length ws) (length frees)) (few : length old.rows.items < 2 ^ 62) (num : number ≡ next_number (parts_state state faults old)) (made : IsReadyFor (parts_state state faults old) q ws frees number ready) where
  abbrev v : QueuesState
  v = parts_state state faults old

  abbrev d : StoredSide
  d = stored_state state faults new

  abbrev later : Parts P G
  later = record mid { sides = with_item mid.sides at new }

  abbrev w : QueuesState
  w = parts_state state faults later

  abbrev n : NumberedCommit
  n = numbered_on x.pmr.queue number (rows_of x.stored.items) ready.prepared ready.last

  pub within : q < length v.sides
  within = own_any v q is_one request.queue

  inside : at < length old.sides.items
  inside = (let l = within in let m = length-map old.sides.items (stored_state state faults) in omega (arith, l, m, is))

  pub inside_mid : at < length mid.sides.items
  inside_mid = (let l = inside in let e = ap (λ sides. length sides.items) same_sides in omega (arith, l, e))

  value_old : x ≡ get_or old.sides.items at x
  value_old = value ∙ ap (λ sides. get_or sides.items at x) same_sides

  pub read : stored_state state faults x ≡ at_queue v q
  read = side_read state faults old q at x inside is value_old

  pub got : slice_get old.sides.items q ≡ Some x
  got = ap (λ k. slice_get old.sides.items k) (sym is) ∙ get_is old.sides.items at x inside value_old

  sides_are : w.sides ≡ set v.sides q d
  sides_are = map-set (stored_state state faults) mid.sides.items at new ∙ ((λ i. set (map (stored_state state faults) (same_sides i).items) at d) ∙ ap (λ k. set (map (stored_state state faults) old.sides.items) k d) is)

  pub moved : (fs : List Bool) → IsMoved v q d (record w { flags = fs })
  moved fs = record { geometry = same_geometry; sides = sides_are }

  pub rows_then : (s : State) (h : List Tx) → IsJournal s h v → mid.rows.items ≡ reverse (loose_rows s.base s.starts (loose_tx (next_number v) q ws frees ∷ h))
  rows_then s h j =
      let t = loose_tx (next_number v) q ws frees in
      let row : ready.row ≡ row_for s.base s.starts t h = made.row s h j ∙ ap (λ m. row_for s.base s.starts (loose_tx m q ws frees) h) num in
      more ∙ ((λ i. j.rows i ++ row i ∷ []) ∙ sym (reverse-cons (row_for s.base s.starts t h) (loose_rows s.base s.starts h)))

  changes_then : mid.changes.items ≡ after_commit (next_number v) ws frees v.changes
  changes_then = noted ∙ (λ i. with_changes frees (record { number = num i; is_there = false }) (with_changes (made.blocks i) (record { number = num i; is_there = true }) old.changes.items))

  -- what `refresh` asks of the rows
  pub rows_later : AreRows v.root.base mid.rows.items (length v.sides)
  rows_later = ∥∥₁_elim is_one (rows-prop v.root.base mid.rows.items (length v.sides)) (λ r. go r.0 r.1 r.2)
    where
      go : (s : State) (h : List Tx) → IsJournal s h v → AreRows v.root.base mid.rows.items (length v.sides)
      go s h j =
          let word : v.root.base ≡ s.base = ap (λ (p : PortState). p.base) j.root_is ∙ j.start.base in
          let t = loose_tx (next_number v) q ws frees in
          let log = log_then s h v q ws frees j request made.whole may few in
          let rows = rows_are s.base s.starts (t ∷ h) mid.rows.items s.geometry.queues log.numbers (λ u us stands. (log.each u us stands).0.queue) (rows_then s h j) in
          subst (λ b. AreRows b mid.rows.items (length v.sides)) (sym word) (subst (λ m. AreRows s.base mid.rows.items m) (sym j.count) rows)

  module _ (sends : Sends (side_state state faults x) n (side_state state faults new)) where
    sends_at : Sends (at_queue v q).side n d.side
    sends_at = subst (λ (y : StoredSide). Sends y.side n d.side) read sends

    pub rings : (k : ℕ) (e : QueueSide P (Unit {0}) G) → k < length later.sides.items → IsRingIn state (get_or later.sides.items k e)
    rings k e there = ring_at state faults later k e there (∥∥₁_elim is_one (Prim.hlevel props) (λ j.
        let count = j.2.count in
        let old_long = length-map old.sides.items (stored_state state faults) in
        let mid_long = ap (λ sides. length sides.items) same_sides in
        let new_long = length-set mid.sides.items at new in
        ringed j.0 (loose_tx (next_number v) q ws frees ∷ j.1) k (at_queue w k) (sides_then j.0 j.1 v q ws frees j.2 request made.whole may few d w (moved w.flags) n (numbered_then v q number ws frees ready is_one request may few num made j.0 j.1 j.2 (stored_state state faults x) read) sends_at k (omega (arith, there, count, old_long, mid_long, new_long)))))

    module _ (rings_all : d.side.kept ≡ None → RingsAll (side_state state faults x) n (side_state state faults new))
        (stored : rows_of new.stored.items ≡ record { number = number; next = next_in (rows_of x.stored.items) + (length ready.prepared.logged + descriptor_size (length ready.prepared.logged) (length ready.prepared.revoked)) } ∷ rows_of x.stored.items)
        (fs : List Bool) (flags : (s : State) (h : List Tx) → IsJournal s h v → AreFlags s (loose_tx (next_number v) q ws frees ∷ h) (record w { flags = fs })) where
      journal_then : (s : State) (h : List Tx) → IsJournal s h v → IsJournal s (loose_tx (next_number v) q ws frees ∷ h) (record w { flags = fs })
      journal_then s h j =
          let t = loose_tx (next_number v) q ws frees in
          let us = of_queue q h in
          let mine = own s h v q ws frees j request made.whole may few in
          let numbered = numbered_then v q number ws frees ready is_one request may few num made s h j (stored_state state faults x) read in
          let before : rows_of x.stored.items ≡ rows_for us = ap (λ (y : StoredSide). y.rows) read ∙ j.stored q mine in
          let place : next_in (rows_of x.stored.items) ≡ next us = ap next_in before ∙ next_is us in
          let size : length ready.prepared.logged + descriptor_size (length ready.prepared.logged) (length ready.prepared.revoked) ≡ length ws + descriptor_size (length ws) 0 = ap (λ (c : Commit). length c.logged + descriptor_size (length c.logged) (length c.revoked)) made.prepared in
          let rows : rows_of new.stored.items ≡ rows_for (t ∷ us) = stored ∙ (λ i. record { number = num i; next = place i + size i } ∷ before i) in
          sent_journal s h v q ws frees j request made.whole may few d (record w { flags = fs }) (moved fs) n numbered sends_at (ap state (ap (λ r. r.port) same_root)) changes_then (rows_then s h j) rows
          (λ none. subst (λ (y : StoredSide). RingsAll y.side n d.side) read (rings_all none) q (known_over s (t ∷ h)) (t ∷ us) (log_then s h v q ws frees j request made.whole may few) (is_ready s h v q ws frees j request made.whole may few n numbered) (own_then s h v q ws frees j request made.whole may few))
          (flags s h j)

      pub drawn : IsDrawn v q ws frees (record w { flags = fs })
      drawn = record {
        may = may;
        journal = journal_then;
        root = ap state (ap (λ r. r.port) same_root);
        root_faults = ap faults (ap (λ r. r.port) same_root);
        others = λ r other. at_other v q d (record w { flags = fs }) (moved fs) r other;
        count = same_count v q d (record w { flags = fs }) (moved fs);
        numbers = (let e = ap length more in let l = length-append old.rows.items (ready.row ∷ []) in omega (arith, e, l));
        heads = heads_any v (record w { flags = fs }) is_one (λ j. heads_then j.0 j.1 v q ws frees j.2 request made.whole may few d (record w { flags = fs }) (moved fs) n (numbered_then v q number ws frees ready is_one request may few num made j.0 j.1 j.2 (stored_state state faults x) read) sends_at);
      }

  many : length (items_of x.pmr.geometry n) ≡ length ws + 1
  many = (let l = length_items x.pmr.geometry n in let s = sizes v q number ws frees ready is_one request may few num made in omega (arith, l, s.0, s.1.0, s.1.1))

  there : (fs : List Bool) → d ≡ at_queue (record w { flags = fs }) q
  there fs = sym (at_same v q d (record w { flags = fs }) (moved fs) within)

  pub rung_then : (fs : List Bool) → state new.pmr.port ≡ after_send (state x.pmr.port) number (items_of x.pmr.geometry n) → new.kept ≡ None → faults new.pmr.port ≡ faults x.pmr.port → IsRungOn (at_queue v q) ws number (at_queue (record w { flags = fs }) q)
  rung_then fs port kept same =
      subst (λ (y : StoredSide). IsRungOn (at_queue v q) ws number y) (there fs)
      (subst (λ (y : StoredSide). IsRungOn y ws number d) read (record { items = items_of x.pmr.geometry n; count = many; port = port; kept = kept; faults = same }))

  pub cut_then : (fs : List Bool) → IsCutAt (state x.pmr.port) number (items_of x.pmr.geometry n) (state new.pmr.port) → new.kept ≡ Some (number, why.Off) → Gains PowerOff (faults x.pmr.port) (faults new.pmr.port) → IsCutOn (at_queue v q) ws number (at_queue (record w { flags = fs }) q)
  cut_then fs port kept gained =
      subst (λ (y : StoredSide). IsCutOn (at_queue v q) ws number y) (there fs)
      (subst (λ (y : StoredSide). IsCutOn y ws number d) read (record { items = items_of x.pmr.geometry n; count = many; port = port; kept = kept; gained = gained }))

-- a failure that is kept is the cause of an Err alone
pub rings_when : {A : Type 0} (r : Result A Off) (kept : Option (ℕ × Why)) (number : ℕ) (K : Type 0) → OnOk r K → OnErr r (kept ≡ Some (number, why.Off)) → kept ≡ None → K
rings_when (Ok y) kept number K ok err is = ok
rings_when (Err y) kept number K ok err is = absurd (let e : Some (number, why.Off) ≡ None = sym err ∙ is in cc)

pub both_ok : {A : Type 0} (r : Result A Off) (X Y : Type 0) (old new : List PortFault) (Z : Type 0) → OnOk r X → OnOk r Y → OffCause r old new → (X → Y → new ≡ old → Z) → OnOk r Z
both_ok (Ok y) X Y old new Z x' y' c f = f x' y' c
both_ok (Err y) X Y old new Z x' y' c f = tt

pub both_err : {A : Type 0} (r : Result A Off) (X Y : Type 0) (old new : List PortFault) (Z : Type 0) → OnErr r X → OnErr r Y → OffCause r old new → (X → Y → Gains PowerOff old new → Z) → OnErr r Z
both_err (Ok y) X Y old new Z x' y' c f = tt
both_err (Err y) X Y old new Z x' y' c f = f x' y' c
