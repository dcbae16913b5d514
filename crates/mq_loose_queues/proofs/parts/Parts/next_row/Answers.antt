use Rattle.std.proofs.Common.{◌≡◌, ◌<◌, ◌+◌, ◌++◌, ℕ, List, length, refl, sym, ap, subst, ◌∙◌, arith}
use Rattle.std.proofs.lemmas.List.{length-map}
use Rattle.mq_blocks.specs.Descriptor.{AreRising}
use Rattle.mq_blocks.specs.Drive.{staged_end}
use Rattle.mq_blocks.proofs.DescriptorLimits.{further-none}
use Rattle.mq_ledger.specs.History.{blocks_of}
use Rattle.mq_loose_order.specs.Dependence.{last_of_each}
use Rattle.mq_queue_side.specs.Stored.{newest_in, next_in}
use Rattle.mq_loose_queues.specs.Journal.{loose_tx}
use Rattle.mq_loose_queues.specs.Queues.{StoredSide, at_queue, parts_state, stored_state}
use Rattle.mq_loose_queues.proofs.Calls.{side_read}
use Rattle.mq_loose_queues.proofs.Readied.{end_any, homes_any, row_of}
use Rattle.mq_loose_queues.proofs.parts.Parts.next_row.Goals as goal

pub last_changes-requires-clause-blocks : goal.last_changes-requires-clause-blocks
last_changes-requires-clause-blocks g c =
    let v = parts_state g.P.Port.state g.P.Port.faults c.args.self.now in
    subst (λ (n : ℕ). AreRising 0 n c.args.blocks.now) (sym (ap length c.deref.ensures.value ∙ homes_any v c.requires.journal)) c.requires.blocks

pub last_changes-requires-clause-others : goal.last_changes-requires-clause-others
last_changes-requires-clause-others g c =
    let v = parts_state g.P.Port.state g.P.Port.faults c.args.self.now in
    subst (λ (n : ℕ). AreRising 0 n c.args.frees.now) (sym (ap length c.deref.ensures.value ∙ homes_any v c.requires.journal)) c.requires.frees

pub row_with-requires-clause-end : goal.row_with-requires-clause-end
row_with-requires-clause-end g c =
    let state = g.P.Port.state in
    let faults = g.P.Port.faults in
    let p = c.args.self.now in
    let v = parts_state state faults p in
    let long = length-map p.sides.items (stored_state state faults) in
    let own : c.args.queue < length v.sides = omega (arith, c.requires.queue, long) in
    let read = side_read state faults p c.args.queue c.queue.inside.0 c.index-side.result.now (omega (arith, c.requires.queue, c.queue.view_is)) c.queue.view_is c.index-side.ensures in
    let end : c.end.result ≡ staged_end (at_queue v c.args.queue).side.port = c.end.ensures ∙ ap (λ (x : StoredSide). staged_end x.side.port) read in
    let low = end_any v c.args.queue c.requires.journal own in
    omega (arith, end, low)

pub returns : goal.returns
returns g c = λ s h j ws blocks.
    let state = g.P.Port.state in
    let faults = g.P.Port.faults in
    let p = c.args.self.now in
    let q = c.args.queue in
    let v = parts_state state faults p in
    let long = length-map p.sides.items (stored_state state faults) in
    let own : q < length v.sides = omega (arith, c.requires.queue, long) in
    let read = side_read state faults p q c.queue.inside.0 c.index-side.result.now (omega (arith, c.requires.queue, c.queue.view_is)) c.queue.view_is c.index-side.ensures in
    let end : c.end.result ≡ staged_end (at_queue v q).side.port = c.end.ensures ∙ ap (λ (x : StoredSide). staged_end x.side.port) read in
    let place = c.end_of-place.ensures.place ∙ ap (λ (x : StoredSide). next_in x.rows) read in
    let newest = c.newest.view_is ∙ (c.end_of-place.ensures.number ∙ ap (λ (x : StoredSide). newest_in x.rows) read) in
    let r = row_of s h v q c.args.number j own c.requires.runs c.args.blocks.now c.args.frees.now c.base-base.result c.end.result _ c.newest.inside.0 c.in_ok-deps.deps c.deref.result.now c.base-base.ensures c.deref.ensures.value end place newest c.requires.blocks c.requires.frees c.in_ok-deps.ensures in
    let many : length (blocks_of ws) ≡ length ws = length-map ws (λ w. w.0) in
    let size = ap length blocks in
    let few = c.requires.few in
    c.row_with.ensures s.base s.starts (loose_tx c.args.number q ws c.args.frees.now) h refl refl (blocks ∙ sym c.in_ok-logged.ensures.items) refl refl (further-none (length ws + 0) (omega (arith, many, size, few))) r.end_is r.place_is r.newest_is
    (r.deps_are ∙ ap (λ (xs : List ℕ). last_of_each s.base (xs ++ c.args.frees.now) h) (sym blocks))
