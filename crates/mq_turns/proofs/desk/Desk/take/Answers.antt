use Rattle.std.proofs.Common.{rules}
use Rattle.mq_turns.proofs.DeskKeeping.{stands_turn}
use Rattle.mq_turns.specs.AtDesk.{start_of}
use Rattle.mq_turns.proofs.desk.Desk.take.Goals as goal

pub returns-clause-took : goal.returns-clause-took
returns-clause-took g c = let t = c.take.ensures.took in (t.0, search rules, t.2, stands_turn g.M.Machine.meaning (start_of c.args.self.now) 0 _ _ c.args.turn _ _ c.requires.at.1 t.2 c.requires.turn (search rules) t.3)
