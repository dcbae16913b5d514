use Rattle.mq_turns.specs.Desk.{opening_of}
use Rattle.mq_turns.proofs.WordsMarking.{reads_base}
use Rattle.mq_turns.proofs.words.base.Goals as goal

pub load-requires : goal.load-requires
load-requires g c = (c.requires.table.0, c.requires.table.1, reads_base g.M.Machine.meaning (opening_of c.args.top.now.key) _ _ _ _ c.args.word c.requires.table.3 c.requires.table.2)
