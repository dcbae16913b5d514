use Rattle.std.proofs.Common.{◌∷◌, ◌++◌, [], ap, ◌∙◌}
use Rattle.mq_tie.specs.Runs.{history_of}
use Rattle.mq_run.proofs.LinesGrowing.{map_next}
use Rattle.mq_run.proofs.lines.placements.Goals as goal

pub loop-at-preserved : goal.loop-at-preserved
loop-at-preserved g c =
    let drawn = c.drawn.result.now in
    c.in_ok-push.ensures.items
    ∙ (ap (λ p. c.loop-at.all.items ++ p ∷ []) c.in_ok-copy_placed.ensures
    ∙ map_next (λ h. h.1.placed) (history_of c.args.ended.now) c.loop-at.all.items c.loop-at.at (drawn.number, drawn.entry) c.loop-at.invariant c.drawn.ensures)
