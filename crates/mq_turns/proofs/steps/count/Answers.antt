use Rattle.std.proofs.Common.{rules, ◌∙◌, ap}
use Rattle.mq_turns.proofs.DeskKeeping.{looks_nothing}
use Rattle.mq_turns.proofs.steps.count.Goals as goal

pub load-requires : goal.load-requires
load-requires g c = (search rules, search rules, looks_nothing g.M.Machine.meaning _ _ _ _ _ _ c.requires.table.1 c.requires.table.3)

pub returns-clause-counted : goal.returns-clause-counted
returns-clause-counted g c = let t = c.load.ensures.2.0 in t.1 ∙ ap (λ n. (record c.args.place.now.me.0 { seen = n }, c.args.place.now.me.1)) t.2

pub returns-clause-below : goal.returns-clause-below
returns-clause-below g c = c.load.ensures.2.1

pub returns-clause-order : goal.returns-clause-order
returns-clause-order g c = c.load.ensures.2.2
