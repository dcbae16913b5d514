use Rattle.std.proofs.Common.{rules, ◌∙◌, sym}
use Rattle.mq_turns.proofs.DeskKeeping.{draws_told}
use Rattle.mq_turns.proofs.steps.draw_as.Goals as goal

pub fetch_add-requires : goal.fetch_add-requires
fetch_add-requires g c = (search rules, search rules, draws_told g.M.Machine.meaning _ _ c.obeys.ensures _ _ _ _ c.args.entry.now _ c.requires.table.1 (sym c.requires.table.1 ∙ c.requires.table.3) c.requires.side c.requires.may.0 c.requires.may.1 c.requires.may.2 c.requires.told)

pub returns-clause-drew : goal.returns-clause-drew
returns-clause-drew g c = (c.fetch_add.ensures.2 c.args.entry.now c.requires.told).0

pub returns-clause-below : goal.returns-clause-below
returns-clause-below g c = let t = c.fetch_add.ensures.2 c.args.entry.now c.requires.told in (t.1, t.2)

pub returns-clause-order : goal.returns-clause-order
returns-clause-order g c = (c.fetch_add.ensures.2 c.args.entry.now c.requires.told).3
