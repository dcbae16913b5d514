-- The values of the queues, by what the calls on their parts leave.
use Rattle.std.specs.Vec.{with_item}
use Rattle.std.proofs.Common.{◌≡◌, ℕ, suc, zero, ◌+◌, ◌<◌, ◌≤◌, List, [], ◌∷◌, ◌++◌, length, map, reverse, get_or, set, sym, refl, ap, subst, ◌∙◌, arith}
use Rattle.std.proofs.Props.{props}
use Rattle.std.proofs.Math.Logic.{∥∥₁_elim}
use Rattle.std.proofs.lemmas.List.{get_or_read, length-map, map-append, reverse-append, reverse-reverse}
use Rattle.mq_blocks.specs.Drive.{PortState, staged_end}
use Rattle.mq_blocks.specs.Limits.{usable_depth}
use Rattle.mq_drive.specs.Steps.{PortFault}
use Rattle.mq_drive.specs.declared.port.Port.{Ghosts}
use Rattle.mq_ledger.specs.History.{AreNumbered, of_queue}
use Rattle.mq_ledger.specs.State.{State, is_done}
use Rattle.mq_ledger.specs.declared.tx.Tx.{Tx}
use Rattle.mq_loose.specs.Rows.{AreRows, flag_of, loose_rows}
use Rattle.mq_loose.specs.declared.machine.rows.LooseRow.{LooseRow}
use Rattle.mq_loose.proofs.RowLists.{length-rows, rows_are}
use Rattle.mq_loose_order.specs.Dependence.{closure}
use Rattle.mq_queue_side.specs.Side.{IsQueueSide, side_state}
use Rattle.mq_queue_side.specs.Stored.{rows_of}
use Rattle.mq_queue_side.specs.declared.side.QueueSide.{QueueSide}
use Rattle.mq_loose_queues.specs.Commits.{HeadsStay}
use Rattle.mq_loose_queues.specs.Journal.{AreFlags, IsJournal, known_over}
use Rattle.mq_loose_queues.specs.Queues.{QueuesState, StoredSide, at_queue, no_side, parts_state, ports_of, stored_state}
use Rattle.mq_loose_queues.specs.Rings.{IsRingIn, ports_in}
use Rattle.mq_loose_queues.specs.declared.parts.Parts.{Parts}
use Rattle.mq_loose_queues.proofs.Ports.{mapped}
use Rattle.mq_loose_queues.proofs.Sides.{map-set}

pub map-after : {A B C : Type 0} (f : B → C) (h : A → B) (xs : List A) → map f (map h xs) ≡ map (λ x. f (h x)) xs
map-after {C = C} f h [] = refl
map-after {C = C} f h (x ∷ xs) = ap (λ (ys : List C). f (h x) ∷ ys) (map-after f h xs)

pub map-reverse : {A B : Type 0} (f : A → B) (xs : List A) → map f (reverse xs) ≡ reverse (map f xs)
map-reverse f [] = refl
map-reverse {B = B} f (x ∷ xs) = ap (map f) (reverse-append (x ∷ []) xs) ∙ (map-append f (reverse xs) (x ∷ []) ∙ (ap (λ (ys : List B). ys ++ f x ∷ []) (map-reverse f xs) ∙ sym (reverse-append (f x ∷ []) (map f xs))))

-- what is turned twice stands as it did
pub turned : {A B : Type 0} (f : A → B) (xs : List A) (empty ys zs : List B) → empty ≡ [] → ys ≡ empty ++ map f (reverse xs) → zs ≡ reverse ys → zs ≡ map f xs
turned {B = B} f xs empty ys zs none put back = back ∙ (ap reverse put ∙ (ap (λ (bs : List B). reverse (bs ++ map f (reverse xs))) none ∙ (ap reverse (map-reverse f xs) ∙ reverse-reverse (map f xs))))

-- ---- what a journal says of rows and rings, also where it is only known that there is one

heads-prop : (v w : QueuesState) → IsProp (HeadsStay v w)
heads-prop v w = Prim.hlevel props

pub heads_any : {A : Type 0} (v w : QueuesState) → ∥ A ∥₁ → (A → HeadsStay v w) → HeadsStay v w
heads_any v w is each = ∥∥₁_elim is (heads-prop v w) each

rows-prop : (base : ℕ) (rows : List LooseRow) (n : ℕ) → IsProp (AreRows base rows n)
rows-prop base rows n = Prim.hlevel props

pub rows_any : (v : QueuesState) → ∥ ((s : State) × (h : List Tx) × IsJournal s h v) ∥₁ → AreRows v.root.base v.rows (length v.sides)
rows_any v is = ∥∥₁_elim is (rows-prop v.root.base v.rows (length v.sides)) (λ r. go r.0 r.1 r.2)
  where
    go : (s : State) (h : List Tx) → IsJournal s h v → AreRows v.root.base v.rows (length v.sides)
    go s h j =
        let word : v.root.base ≡ s.base = ap (λ (p : PortState). p.base) j.root_is ∙ j.start.base in
        let rows = rows_are s.base s.starts h v.rows s.geometry.queues j.log.numbers (λ t ts at. (j.log.each t ts at).0.queue) j.rows in
        subst (λ b. AreRows b v.rows (length v.sides)) (sym word) (subst (λ n. AreRows s.base v.rows n) (sym j.count) rows)

pub room_any : (v : QueuesState) (capacity : ℕ) → ∥ ((s : State) × (h : List Tx) × IsJournal s h v) ∥₁ → length v.flags ≤ capacity → length v.rows ≤ capacity
room_any v capacity is fits = ∥∥₁_elim is (Prim.hlevel props) (λ r. (let rows = length-rows r.0.base r.0.starts r.1 v.rows r.2.rows in let flags = r.2.flags.whole in omega (arith, rows, flags, fits)))

-- the entries from a flushed head on fit into the ring
pub record IsRinged (p : PortState) : Type 0 where
  pub head : p.head ≤ staged_end p
  pub room : staged_end p ≤ p.head + usable_depth

pub ringed : (s : State) (h : List Tx) (q : ℕ) (d : StoredSide) → IsQueueSide (known_over s h) q (of_queue q h) d.side → IsRinged d.side.port
ringed s h q d is =
    let o = is.side.order in
    record { head = omega (arith, o.stored, o.rung, o.flushed, o.staged); room = omega (arith, o.drawn, o.room) }

-- ---- flags

pub flags_over : (s : State) (h : List Tx) (w : QueuesState) (base : ℕ) (ports : List PortState) → base ≡ s.base → ports ≡ ports_of w → AreNumbered s.base h → w.rows ≡ reverse (loose_rows s.base s.starts h)
    → ((starts : List ℕ) (us : List Tx) → AreNumbered base us → w.rows ≡ reverse (loose_rows base starts us) → (length w.flags ≡ length us) × ((n : ℕ) → base < n → n ≤ base + length us → flag_of base w.flags n ≡ closure (is_done starts ports) base us n))
    → AreFlags s h w
flags_over s h w base ports b p numbers is each =
    let at_base = subst (λ a. (starts : List ℕ) (us : List Tx) → AreNumbered a us → w.rows ≡ reverse (loose_rows a starts us) → (length w.flags ≡ length us) × ((n : ℕ) → a < n → n ≤ a + length us → flag_of a w.flags n ≡ closure (is_done starts ports) a us n)) b each in
    let r = subst (λ ps. (length w.flags ≡ length h) × ((n : ℕ) → s.base < n → n ≤ s.base + length h → flag_of s.base w.flags n ≡ closure (is_done s.starts ps) s.base h n)) p (at_base s.starts h numbers is) in
    record { whole = r.0; each = r.1 }

-- ---- the sides of a value

pub set_same : {A : Type 0} (xs : List A) (n : ℕ) (x : A) → n < length xs → x ≡ get_or xs n x → set xs n x ≡ xs
set_same [] n x l is = absurd (omega arith)
set_same (y ∷ ys) zero x l is = ap (λ (z : _). z ∷ ys) is
set_same (y ∷ ys) (suc n) x l is = ap (λ (zs : List _). y ∷ zs) (set_same ys n x (omega arith) is)

module _ {P : Type 0} {G : Ghosts P} (state : P → PortState) (faults : P → List PortFault) where
  -- what is stored doesn't show in a side's state
  pub same_side : (s w : QueueSide P (Unit {0}) G) → w.pmr ≡ s.pmr → w.done ≡ s.done → w.kept ≡ s.kept → side_state state faults w ≡ side_state state faults s
  same_side s w pmr done kept = λ i. record {
    geometry = (pmr i).geometry;
    queue = (pmr i).queue;
    port = state ((pmr i).port);
    faults = faults ((pmr i).port);
    passed = (pmr i).done;
    rung = (pmr i).rung.items;
    done = done i;
    kept = kept i;
  }

  pub same_stored : (s w : QueueSide P (Unit {0}) G) → w.stored.items ≡ s.stored.items → w.pmr ≡ s.pmr → w.done ≡ s.done → w.kept ≡ s.kept → stored_state state faults w ≡ stored_state state faults s
  same_stored s w stored pmr done kept = λ i. record { side = same_side s w pmr done kept i; rows = rows_of (stored i) }

  -- a side stands for another of the same state
  pub same_parts : (p : Parts P G) (at : ℕ) (x new : QueueSide P (Unit {0}) G) → at < length p.sides.items → x ≡ get_or p.sides.items at x → stored_state state faults new ≡ stored_state state faults x → parts_state state faults (record p { sides = with_item p.sides at new }) ≡ parts_state state faults p
  same_parts p at x new inside value same =
      let f : QueueSide P (Unit {0}) G → StoredSide = stored_state state faults in
      let sides : map f (set p.sides.items at new) ≡ map f p.sides.items = map-set f p.sides.items at new ∙ (ap (λ (y : StoredSide). set (map f p.sides.items) at y) same ∙ (sym (map-set f p.sides.items at x) ∙ ap (map f) (set_same p.sides.items at x inside value))) in
      λ i. record (parts_state state faults p) { sides = sides i }

  -- the side that stands at an index is the queue's
  pub side_read : (p : Parts P G) (q at : ℕ) (x : QueueSide P (Unit {0}) G) → at < length p.sides.items → at ≡ q → x ≡ get_or p.sides.items at x → stored_state state faults x ≡ at_queue (parts_state state faults p) q
  side_read p q at x inside is value =
      let stored : QueueSide P (Unit {0}) G → StoredSide = stored_state state faults in
      let long : length (map stored p.sides.items) ≡ length p.sides.items = length-map p.sides.items stored in
      let there : at < length (map stored p.sides.items) = omega (arith, inside, long) in
      let read : stored x ≡ get_or (map stored p.sides.items) at (stored x) = ap stored value ∙ sym (mapped stored p.sides.items at x) in
      get_or_read (map stored p.sides.items) at (stored x) there read (no_side p.geometry) ∙ ap (at_queue (parts_state state faults p)) is

  pub ports_are : (sides : List (QueueSide P (Unit {0}) G)) → ports_in state sides ≡ map (λ (s : StoredSide). s.side.port) (map (stored_state state faults) sides)
  ports_are sides = sym (map-after (λ (s : StoredSide). s.side.port) (stored_state state faults) sides)

  -- each ring of a value's sides is one
  pub ring_at : (p : Parts P G) (q : ℕ) (d : QueueSide P (Unit {0}) G) → q < length p.sides.items → IsRinged (at_queue (parts_state state faults p) q).side.port → IsRingIn state (get_or p.sides.items q d)
  ring_at p q d inside ring =
      let x = get_or p.sides.items q d in
      let value : x ≡ get_or p.sides.items q x = get_or_read p.sides.items q x inside (other p.sides.items q d inside) x in
      let same = ap (λ (s : StoredSide). s.side.port) (side_read p q q x inside refl value) in
      let r : IsRinged (state x.pmr.port) = subst (λ (port : PortState). IsRinged port) (sym same) ring in
      record { head = r.head; room = r.room }
    where
      other : (xs : List (QueueSide P (Unit {0}) G)) (n : ℕ) (e : QueueSide P (Unit {0}) G) → n < length xs → get_or xs n e ≡ get_or xs n (get_or xs n e)
      other [] n e l = absurd (omega arith)
      other (y ∷ ys) zero e l = refl
      other (y ∷ ys) (suc n) e l = other ys n e (omega arith)
