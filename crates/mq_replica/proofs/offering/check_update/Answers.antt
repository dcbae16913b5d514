use Rattle.std.proofs.Common.{◌≡◌, length, arith, rules}
use Rattle.mq_ledger.specs.History.{blocks_of}
use Rattle.mq_replica.specs.Updates.{AreBelow, last_home}
use Rattle.mq_replica.proofs.Pairs.{writes_count}
use Rattle.mq_replica.proofs.offering.check_update.Goals as goal

pub overflow_cast-count : goal.overflow_cast-count
overflow_cast-count c =
    let below : AreBelow (last_home c.args.geometry) (blocks_of c.args.update.now.writes) = search rules in
    let low = writes_count c.args.geometry c.args.update.now.writes c.requires.rising below in
    let at : length c.as_slice-writes.result.now ≡ length c.args.update.now.writes = search rules in
    omega (arith, low, at)
