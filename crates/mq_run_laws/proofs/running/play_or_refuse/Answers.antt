use Rattle.std.proofs.Common.{rules, sym, subst}
use Rattle.mq_image_run.specs.Runs.{IsPlayedOn}
use Rattle.mq_image_run.specs.declared.options.DriveOptions.{DriveOptions}
use Rattle.mq_image_run.proofs.Leads.{played-leads, unplayed-leads}
use Rattle.mq_run_laws.specs.Endings.{finishes}
use Rattle.mq_run_laws.specs.Played.{IsNotPlayed, PlaysScripts}
use Rattle.mq_run_laws.specs.Refusals.{RefusesRun}
use Rattle.mq_run_laws.proofs.RunsRefused.{refuses}
use Rattle.mq_run_laws.proofs.running.play_or_refuse.Goals as goal

pub returns-in-Ok-clause-ok : goal.returns-in-Ok-clause-ok
returns-in-Ok-clause-ok g c =
    let plays = PlaysScripts c.args.image.geometry c.args.scripts.now (finishes c.args.options.ending) in
    subst (λ (o : DriveOptions). IsPlayedOn plays c.args.image o c.in-Ok.left) c.drive.ensures
    (played-leads _ plays (λ old played new post. search rules) c.args.image c.drive.result c.in-Ok.left c.in-Ok.ensures.ok)

pub returns-in-Err-clause-refused : goal.returns-in-Err-clause-refused
returns-in-Err-clause-refused g c =
    let refused = unplayed-leads _ (IsNotPlayed c.args.image.geometry) (λ ports e post. search rules) c.drive.result.fail c.args.image c.in-Err.unplayed c.in-Err.ensures.refused in
    subst (RefusesRun c.args.image) (sym c.refusal_of.ensures) (refuses c.a_recovered_image_holds_what_stood.ensures.blocks c.args.image c.drive.result.fail c.in-Err.unplayed refused)
