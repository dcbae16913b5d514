use Rattle.std.proofs.Common.{◌<◌, sym, ap, subst, ◌∙◌}
use Rattle.std.specs.Prelude.{Some}
use Rattle.mq_desk_laws.specs.Rule.{IsSide}
use Rattle.mq_turns.specs.Meaning.{charged}
use Rattle.mq_journal.specs.Numbers.{reported, values}
use Rattle.mq_turns.specs.AtDesk.{view, start_of}
use Rattle.mq_journal.specs.Draining.{IsPassed}
use Rattle.mq_journal.proofs.DrainingRefusing.{above_at, mark_named}
use Rattle.mq_journal.proofs.draining.stop.Goals as goal

pub pass-requires-clause-shows : goal.pass-requires-clause-shows
pass-requires-clause-shows g c = c.requires.below c.tx.inside.0 (sym c.named_above.ensures ∙ c.in-Some.is ∙ ap Some (sym c.tx.view_is))

pub report_side-requires-clause-shows : goal.report_side-requires-clause-shows
report_side-requires-clause-shows g c = λ K sees. subst (λ r. IsSide (values g.P.Port.state g.P.Port.faults g.G.Groups.group) g.G.Groups.group c.args.side.pmr.queue (charged (reported c.args.side.pmr.queue r) K) c.args.side) (sym c.report_of.ensures) (c.requires.shows (sym c.named_above.ensures ∙ c.in-None.is) K sees)

pub returns-in-Some-clause-low : goal.returns-in-Some-clause-low
returns-in-Some-clause-low g c =
    let named = sym c.named_above.ensures ∙ c.in-Some.is ∙ ap Some (sym c.tx.view_is) in
    subst (λ z. c.args.at < z) (mark_named c.args.at c.tx.inside.0 c.args.cause named) (above_at c.args.at c.tx.inside.0 c.args.cause named)

pub returns-in-Some-clause-passed : goal.returns-in-Some-clause-passed
returns-in-Some-clause-passed g c =
    let named = sym c.named_above.ensures ∙ c.in-Some.is ∙ ap Some (sym c.tx.view_is) in
    subst (λ z. IsPassed g.P.Port.state g.P.Port.faults g.G.Groups.group (start_of c.args.desk.now) c.args.side.pmr.queue z (view c.args.chair.now) (view c.pass.new.chair)) (mark_named c.args.at c.tx.inside.0 c.args.cause named) c.pass.ensures.passed
