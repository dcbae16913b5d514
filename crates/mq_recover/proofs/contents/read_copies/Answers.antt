use Rattle.std.proofs.Common.{◌≡◌, ◌≤◌, length, Some, None, get_or, sym, ◌∙◌, subst, arith}
use Rattle.std.proofs.lemmas.List.{get_or_read}
use Rattle.mq_blocks.specs.Geometry.{area_of}
use Rattle.mq_recover.specs.Copies.{IsCopyPlaceOf}
use Rattle.mq_recover.specs.Drives.{states, view_over}
use Rattle.mq_recover.specs.RecoverHomes.{writes_from}
use Rattle.mq_recover.proofs.HomeWrites.{copies-length, copies-within, home-writes, writes-end}
use Rattle.mq_recover.proofs.contents.read_copies.Goals as goal

pub read_copy_place-requires-clause-own : goal.read_copy_place-requires-clause-own
read_copy_place-requires-clause-own g c =
    let copies = c.args.copies.now in
    let read : get_or copies c.loop-b.b None ≡ Some c.in-Some.source = sym (get_or_read copies c.loop-b.b c.index-copies-b.result c.loop-b-test.true c.index-copies-b.is None) ∙ c.in-Some.is in
    subst (IsCopyPlaceOf c.args.geometry.queues) read (copies-within c.args.geometry copies c.requires.copies c.loop-b.b)

pub overflow_cast-b : goal.overflow_cast-b
overflow_cast-b g c =
    let n = copies-length c.args.geometry c.args.copies.now c.requires.copies in
    omega (arith, c.loop-b-test.true, n, c.args.geometry.homes_high)

pub invariant_of-push_back : goal.invariant_of-push_back
invariant_of-push_back g c =
    let n = copies-length c.args.geometry c.args.copies.now c.requires.copies in
    omega (arith, c.loop-b-test.true, n, c.args.geometry.homes_high)

pub returns : goal.returns
returns g c ds are =
    let d = states g.P.Port.state c.args.ports.now.queues.items c.args.ports.now.root in
    let copies = c.args.copies.now in
    let area = (view_over c.args.geometry (states g.P.Port.state c.args.ports.now.queues.items c.args.ports.now.root)).area in
    let past : length copies ≤ c.loop-b.b = omega (arith, c.loop-b-test.false) in
    let written = writes-end area (area_of c.args.geometry) c.loop-b.b copies c.loop-b.writes.items (writes_from area (area_of c.args.geometry) 0 copies) past c.loop-b.invariant in
    home-writes c.args.geometry d copies c.loop-b.writes.items c.requires.copies written ds are
