use Rattle.std.proofs.Common.{subst, arith}
use Rattle.mq_loose_text.specs.Text.{IsGoodLine}
use Rattle.mq_loose_text.proofs.LooseLines.{queue_low}
use Rattle.mq_loose_text.proofs.places.room_behind.Goals as goal

pub bounds-room-queue : goal.bounds-room-queue
bounds-room-queue c =
    let good = subst IsGoodLine c.in-Commit.is c.requires.good in
    let low = queue_low c.in-Commit.queue good.0 in
    let same = c.queue.view_is in
    omega arith
