use Rattle.std.proofs.Common.{◌≡◌, Some, None, get_or, sym, ◌∙◌, subst, arith}
use Rattle.std.proofs.lemmas.List.{get_or_read}
use Rattle.mq_blocks.specs.Geometry.{homes_of}
use Rattle.mq_recover.specs.Copies.{IsCopyPlaceOf}
use Rattle.mq_recover.specs.Drives.{states}
use Rattle.mq_recover.proofs.HomeWrites.{copies-length, copies-within}
use Rattle.mq_recover.proofs.StandingBlocks.{blocks-standing}
use Rattle.mq_recover.proofs.contents.read_blocks.Goals as goal

pub read_copy_place-requires-clause-own : goal.read_copy_place-requires-clause-own
read_copy_place-requires-clause-own g c =
    let copies = c.args.copies.now in
    let read : get_or copies c.loop-b.b None ≡ Some c.in-Some.source = sym (get_or_read copies c.loop-b.b c.index-copies-b.result c.loop-b-test.true c.index-copies-b.is None) ∙ c.in-Some.is in
    subst (IsCopyPlaceOf c.args.geometry.queues) read (copies-within c.args.geometry copies c.requires.copies c.loop-b.b)

pub overflow_cast-b : goal.overflow_cast-b
overflow_cast-b g c =
    let n = copies-length c.args.geometry c.args.copies.now c.requires.copies in
    omega (arith, c.loop-b-test.true, n, c.args.geometry.homes_high)

pub invariant_of-read_home : goal.invariant_of-read_home
invariant_of-read_home g c =
    let n = copies-length c.args.geometry c.args.copies.now c.requires.copies in
    omega (arith, c.loop-b-test.true, n, c.args.geometry.homes_high)

pub read_home-requires-clause-within : goal.read_home-requires-clause-within
read_home-requires-clause-within g c =
    let n = copies-length c.args.geometry c.args.copies.now c.requires.copies in
    omega (arith, c.loop-b-test.true, n)

pub returns : goal.returns
returns g c ds are =
    let d = states g.P.Port.state c.args.ports.now.queues.items c.args.ports.now.root in
    let n = copies-length c.args.geometry c.args.copies.now c.requires.copies in
    let all : c.loop-b.b ≡ homes_of c.args.geometry = omega (arith, n, c.loop-b-test.false, c.loop-b.auto.b-end) in
    blocks-standing c.args.geometry d c.args.copies.now c.loop-b.blocks.items (c.loop-b.invariant.whole ∙ all) (λ b below. c.loop-b.invariant.are b (omega (arith, all, below))) ds are
