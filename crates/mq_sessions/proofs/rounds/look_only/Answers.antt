use Rattle.std.proofs.Common.{◌∙◌, ap}
use Rattle.mq_turns.specs.AtDesk.{view}
use Rattle.mq_turns.specs.Desk.{after_look}
use Rattle.mq_sessions.proofs.rounds.look_only.Goals as goal

pub returns-clause-looked : goal.returns-clause-looked
returns-clause-looked g c =
    let looked = c.look.ensures.looked in
    (looked.0, looked.1 ∙ ap (λ o. after_look o looked.0 (view c.args.chair.now)) c.as_ref.ensures.value, looked.3)
