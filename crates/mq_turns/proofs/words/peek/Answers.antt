use Rattle.mq_turns.specs.Desk.{opening_of}
use Rattle.mq_turns.proofs.WordsMarking.{peeks}
use Rattle.mq_turns.proofs.words.peek.Goals as goal

pub load-requires : goal.load-requires
load-requires g c = (c.requires.table.0, c.requires.table.1, peeks g.M.Machine.meaning (opening_of c.args.top.now.key) _ _ _ _ c.args.word c.requires.mark.0 c.requires.mark.1 c.requires.table.2)
