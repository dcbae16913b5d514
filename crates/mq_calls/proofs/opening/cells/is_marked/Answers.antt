use Rattle.std.proofs.Common.{sym, ◌∙◌}
use Rattle.mq_calls.proofs.OpeningCells.{unmarked}
use Rattle.mq_calls.proofs.opening.cells.is_marked.Goals as goal

pub returns-in-None : goal.returns-in-None
returns-in-None c = sym (unmarked c.args.geometry c.args.blocks.now c.args.b c.in-Some.zone c.bitmap.inside.0 c.index-blocks-bitmap.result c.requires.zone c.requires.home c.requires.within (sym c.in-Some.is ∙ c.zone_of.ensures) (c.bitmap.view_is ∙ c.zone_bitmap.ensures) c.index-blocks-bitmap.is c.in-None.is)
