use Rattle.std.specs.Prelude.{slice_get, slice_set, vec_capacity, vec_len}
use Rattle.std.specs.Vec.{with_item}
use Rattle.std.proofs.Common.{◌≡◌, ◌<◌, ℕ, List, length, get_or, refl, sym, ap, subst, ◌∙◌, arith}
use Rattle.std.proofs.lemmas.List.{length-map}
use Rattle.mq_blocks.specs.Descriptor.{AreRising}
use Rattle.mq_blocks.specs.Drive.{PortState}
use Rattle.mq_blocks.specs.Geometry.{homes_of}
use Rattle.mq_blocks.proofs.DescriptorLimits.{limit-low}
use Rattle.mq_drive.specs.Steps.{PortFault}
use Rattle.mq_drive.specs.declared.port.Port.{Ghosts}
use Rattle.mq_queue_side.specs.declared.side.QueueSide.{QueueSide}
use Rattle.mq_loose_queues.specs.Queues.{QueuesState, StoredSide, at_queue, parts_state, stored_state}
use Rattle.mq_loose_queues.specs.declared.parts.Parts.{Parts}
use Rattle.mq_loose_queues.proofs.Calls.{same_parts, same_stored, side_read}
use Rattle.mq_loose_queues.proofs.Readied.{HasJournal, got_set, own_any, row_few, sizes_any}
use Rattle.mq_loose_queues.proofs.parts.Parts.prepare.Goals as goal

module _ {P : Type 0} {G : Ghosts P} (state : P → PortState) (faults : P → List PortFault) (old mid : Parts P G) (q at : ℕ) (is_one : HasJournal (parts_state state faults old)) (asked : q < old.geometry.queues) (same : parts_state state faults mid ≡ parts_state state faults old) (is : at ≡ q) where
  abbrev v : QueuesState
  v = parts_state state faults old

  pub own : q < length old.sides.items
  own = (let l = own_any v q is_one asked in let n = length-map old.sides.items (stored_state state faults) in omega (arith, l, n))

  pub inside : at < length mid.sides.items
  inside =
      let n = length-map old.sides.items (stored_state state faults) in
      let m = length-map mid.sides.items (stored_state state faults) in
      let s : length (parts_state state faults mid).sides ≡ length v.sides = ap (λ (w : QueuesState). length w.sides) same in
      let l = own in
      omega (arith, l, n, m, s, is)

  module _ (x : QueueSide P (Unit {0}) G) (value : x ≡ get_or mid.sides.items at x) where
    pub homes_are : homes_of x.pmr.geometry ≡ homes_of old.geometry
    homes_are =
        let read = side_read state faults mid q at x inside is value in
        ap (λ (s : StoredSide). homes_of s.side.geometry) read
        ∙ (ap (λ (w : QueuesState). homes_of (at_queue w q).side.geometry) same ∙ sizes_any v q is_one (own_any v q is_one asked) homes_of)

    pub same_then : (new : QueueSide P (Unit {0}) G) → new.stored.items ≡ x.stored.items → new.pmr ≡ x.pmr → new.done ≡ x.done → new.kept ≡ x.kept → parts_state state faults (record mid { sides = with_item mid.sides at new }) ≡ v
    same_then new stored pmr done kept = same_parts state faults mid at x new inside value (same_stored state faults x new stored pmr done kept) ∙ same

pub next_row-requires-clause-few : goal.next_row-requires-clause-few
next_row-requires-clause-few g c =
    let few = c.requires.may.few in
    let many = length-map c.args.writes.now (λ w. w.0) in
    let is = ap length (c.deref.ensures.value ∙ c.in_ok-blocks.ensures) in
    omega (arith, few, many, is)

pub next_row-requires-clause-blocks : goal.next_row-requires-clause-blocks
next_row-requires-clause-blocks g c =
    subst (λ (xs : List ℕ). AreRising 0 (homes_of c.args.self.now.geometry) xs) (sym (c.deref.ensures.value ∙ c.in_ok-blocks.ensures)) c.requires.request.writes

pub last_block-requires-clause-logged : goal.last_block-requires-clause-logged
last_block-requires-clause-logged g c =
    let v = parts_state g.P.Port.state g.P.Port.faults c.args.self.now in
    (row_few v c.args.queue c.args.number c.args.writes.now c.args.frees.now c.in_ok-row.row c.requires.journal (λ s h j. c.in_ok-row.ensures s h j c.args.writes.now (sym (c.deref.ensures.value ∙ c.in_ok-blocks.ensures))) c.requires.may.few).0

pub last_block-requires-clause-deps : goal.last_block-requires-clause-deps
last_block-requires-clause-deps g c =
    let v = parts_state g.P.Port.state g.P.Port.faults c.args.self.now in
    (row_few v c.args.queue c.args.number c.args.writes.now c.args.frees.now c.in_ok-row.row c.requires.journal (λ s h j. c.in_ok-row.ensures s h j c.args.writes.now (sym (c.deref.ensures.value ∙ c.in_ok-blocks.ensures))) c.requires.may.few).1

pub next_row-requires-clause-queue : goal.next_row-requires-clause-queue
next_row-requires-clause-queue g c =
    let p = c.args.self.now in
    own g.P.Port.state g.P.Port.faults p p c.args.queue c.args.queue c.requires.journal c.requires.request.queue refl refl

pub index_mut-requires : goal.index_mut-requires
index_mut-requires g c =
    let mid = c.make_room.new.self in
    let l = inside g.P.Port.state g.P.Port.faults c.args.self.now mid c.args.queue c.queue.inside.0 c.requires.journal c.requires.request.queue c.make_room.ensures.same c.queue.view_is in
    omega (arith, l, mid.sides.ok.0)

pub prepare_side-requires-clause-rising : goal.prepare_side-requires-clause-rising
prepare_side-requires-clause-rising g c =
    let homes = homes_are g.P.Port.state g.P.Port.faults c.args.self.now c.make_room.new.self c.args.queue c.queue.inside.0 c.requires.journal c.requires.request.queue c.make_room.ensures.same c.queue.view_is c.index_mut.result.now c.index_mut.ensures.value in
    subst (λ (n : ℕ). AreRising 0 n c.deref-2.result.now) (sym homes)
    (subst (λ (xs : List ℕ). AreRising 0 (homes_of c.args.self.now.geometry) xs) (sym (c.deref-2.ensures.value ∙ c.in_ok-blocks.ensures)) c.requires.request.writes)

pub prepare_side-requires-clause-few : goal.prepare_side-requires-clause-few
prepare_side-requires-clause-few g c =
    let low = limit-low c.index_mut.result.now.pmr.geometry in
    let few = c.requires.may.few in
    omega (arith, low, few)

pub returns-in_err-prepared-clause-same : goal.returns-in_err-prepared-clause-same
returns-in_err-prepared-clause-same g c =
    let e = c.in_err-prepared.ensures in
    same_then g.P.Port.state g.P.Port.faults c.args.self.now c.make_room.new.self c.args.queue c.queue.inside.0 c.requires.journal c.requires.request.queue c.make_room.ensures.same c.queue.view_is c.index_mut.result.now c.index_mut.ensures.value c.prepare_side.new.side e.stored e.pmr e.done e.kept

pub returns-clause-same : goal.returns-clause-same
returns-clause-same g c =
    let e = c.in_ok-prepared.ensures in
    same_then g.P.Port.state g.P.Port.faults c.args.self.now c.make_room.new.self c.args.queue c.queue.inside.0 c.requires.journal c.requires.request.queue c.make_room.ensures.same c.queue.view_is c.index_mut.result.now c.index_mut.ensures.value c.prepare_side.new.side e.stored e.pmr e.done e.kept

pub returns-clause-ready : goal.returns-clause-ready
returns-clause-ready g c = record {
  prepared = c.in_ok-prepared.ensures.commit;
  row = λ s h j. c.in_ok-row.ensures s h j c.args.writes.now (sym (c.deref.ensures.value ∙ c.in_ok-blocks.ensures));
  last = c.in_ok-last.ensures;
  blocks = c.in_ok-blocks.ensures;
  whole = c.in_ok-prepared.ensures.whole;
}

pub returns-clause-stored : goal.returns-clause-stored
returns-clause-stored g c = λ s at.
    let found = ap (λ n. slice_get (slice_set c.make_room.new.self.sides.items c.queue.inside.0 c.prepare_side.new.side) n) c.queue.view_is ∙ at in
    subst (λ x. vec_len x.stored < vec_capacity x.stored) (got_set c.make_room.new.self.sides.items c.queue.inside.0 c.prepare_side.new.side s found) c.in_ok-prepared.ensures.reserved
