use Rattle.std.proofs.Common.{Some}
use Rattle.mq_turns.proofs.steps.draw.Given as goal

abbrev pub ghosts-draw_as : goal.ghosts-draw_as
ghosts-draw_as g a = record { told = Some a.entry.now }
