use Rattle.mq_turns.specs.Desk.{opening_of}
use Rattle.mq_turns.specs.declared.rule.Notice.TheVariants as notice
use Rattle.mq_turns.proofs.WordsMarking.{notes_told}
use Rattle.mq_turns.proofs.words.charge.Goals as goal

pub load-requires : goal.load-requires
load-requires g c = (c.requires.table.0, c.requires.table.1, notes_told g.M.Machine.meaning (opening_of c.args.top.now.key) _ c.obeys.ensures _ _ _ c.args.word (notice.Charge c.args.charge.now) _ c.requires.table.3 c.requires.table.2 c.requires.may c.requires.notice)

pub returns-clause-noted : goal.returns-clause-noted
returns-clause-noted g c = c.load.ensures.2 (notice.Charge c.args.charge.now) c.requires.notice
