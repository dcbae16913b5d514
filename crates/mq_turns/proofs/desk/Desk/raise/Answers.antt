use Rattle.std.proofs.Common.{rules, ◌≡◌, ap, ◌∙◌}
use Rattle.mq_turns.specs.Words.{after_raise}
use Rattle.mq_turns.specs.AtDesk.{view}
use Rattle.mq_turns.proofs.desk.Desk.raise.Goals as goal

pub returns-clause-raised : goal.returns-clause-raised
returns-clause-raised g c =
    let t = c.raise.ensures.raised in
    let b : c.base.inside.0 ≡ c.args.base = search rules in
    (t.0, ap (λ m. m.0) t.1 ∙ ap (λ n. after_raise n t.0 (view c.args.chair.now)) b, t.2)
