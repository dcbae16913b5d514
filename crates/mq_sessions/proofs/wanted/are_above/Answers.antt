use Rattle.std.proofs.Common.{◌∙◌, Some, sym, ap}
use Rattle.std.proofs.lemmas.Bool.{ltb-true}
use Rattle.mq_sessions.proofs.PagesCounting.{all-above}
use Rattle.mq_sessions.proofs.wanted.are_above.Goals as goal

pub returns : goal.returns
returns c = λ yes.
    let low = ltb-true c.last-2.inside.0 c.first-2.inside.0 yes in
    all-above c.args.wanted.now c.args.blocks.now c.last-2.inside.0 c.first-2.inside.0 c.requires.wanted c.requires.blocks (sym c.in-Some.ensures.value ∙ ap Some (sym c.last-2.view_is)) (sym c.in-Some-first.ensures.value ∙ ap Some (sym c.first-2.view_is)) low
