use Rattle.std.proofs.Common.{arith, ap}
use Rattle.mq_drive.proofs.FuseSteps.{splits}
use Rattle.mq_drive.proofs.fuse.seat_all.Goals as goal

pub split_seat-requires : goal.split_seat-requires
split_seat-requires c =
    let view = ap (λ m. m.0) c.loop.invariant.place.1 in
    let many = ap (λ v. v.seats) view in
    let more = c.loop-test.true in
    (c.loop.invariant.place.0, c.requires.table.1, splits c.args.shared.now.key.limit c.args.shared.now.key.seats _ _ (omega (arith, many, more)) (ap (λ v. v.drawn) view))
