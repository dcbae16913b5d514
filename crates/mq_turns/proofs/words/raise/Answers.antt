use Rattle.mq_turns.specs.Desk.{opening_of}
use Rattle.mq_turns.proofs.WordsMarking.{raises}
use Rattle.mq_turns.proofs.words.raise.Goals as goal

pub store-requires : goal.store-requires
store-requires g c = (c.requires.table.0, c.requires.table.1, raises g.M.Machine.meaning (opening_of c.args.top.now.key) _ c.obeys.ensures _ _ _ c.args.word c.args.new c.requires.table.4 c.requires.table.3 c.requires.table.2 c.requires.holds c.requires.may)
