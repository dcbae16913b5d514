use Rattle.std.proofs.Common.{refl, ◌∙◌}
use Rattle.mq_audit.proofs.Findings.{summary_is}
use Rattle.mq_audit.proofs.finding.accepted.Goals as goal

pub returns : goal.returns
returns c =
    let r = c.reach-least.ensures in (
      refl,
      summary_is c.args.core.now c.args.told.now c.drawn.inside.0 c.done-2.inside.0 c.base.inside.0 _ c.reach-least.result.0 c.reach-least.result.1 (c.base.view_is ∙ c.requires.base) (c.drawn.view_is ∙ c.last.ensures) (c.done-2.view_is ∙ c.done.ensures) c.requires.told
          c.in_ok-unacknowledged.ensures r.between r.least_is_reached r.greatest_is_reached,
    )
