use Rattle.mq_turns.specs.Desk.{opening_of}
use Rattle.mq_turns.proofs.WordsMarking.{clears}
use Rattle.mq_turns.proofs.words.clear.Goals as goal

pub store-requires : goal.store-requires
store-requires g c = (c.requires.table.0, c.requires.table.1, clears g.M.Machine.meaning (opening_of c.args.top.now.key) _ c.obeys.ensures _ _ _ c.args.word c.args.low c.requires.table.3 c.requires.mark.0 c.requires.mark.1 c.requires.table.2 c.requires.may.0 c.requires.holds c.requires.may.1)
