use Rattle.std.proofs.Common.{rules, sym}
use Rattle.mq_turns.proofs.DeskKeeping.{looks_told}
use Rattle.mq_turns.proofs.steps.look_as.Goals as goal

pub load-requires : goal.load-requires
load-requires g c = (search rules, search rules, looks_told g.M.Machine.meaning _ _ _ _ _ _ (λ e. e.now) c.args.read _ c.requires.table.1 c.requires.table.3 c.requires.read c.requires.told)

pub returns-clause-looked : goal.returns-clause-looked
returns-clause-looked g c = let t = c.load.ensures.2.0 in (t.0, rw (sym c.requires.told) t.1, t.2, t.3)

pub returns-clause-below : goal.returns-clause-below
returns-clause-below g c = c.load.ensures.2.1

pub returns-clause-order : goal.returns-clause-order
returns-clause-order g c = c.load.ensures.2.2
