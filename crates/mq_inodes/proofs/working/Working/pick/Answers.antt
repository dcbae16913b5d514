use Rattle.std.proofs.Common.{arith}
use Rattle.mq_inodes.proofs.PicksZones.{picked-all, picked-few}
use Rattle.mq_inodes.proofs.working.Working.pick.Goals as goal

pub returns-then-len-count-clause-ok : goal.returns-then-len-count-clause-ok
returns-then-len-count-clause-ok c v agrees = picked-few c.args.self.now.geometry c.args.queue c.args.count v c.in_ok-picks.picks.items c.requires.queue (c.in_ok-picks.ensures.ok v agrees) (omega arith)

pub returns-clause-ok : goal.returns-clause-ok
returns-clause-ok c v agrees = picked-all c.args.self.now.geometry c.args.queue c.args.count v c.in_ok-picks.picks.items (c.in_ok-picks.ensures.ok v agrees) (omega arith)
