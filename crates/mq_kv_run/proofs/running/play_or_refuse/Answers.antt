use Rattle.std.proofs.Common.{Option, ap, rules, sym, subst}
use Rattle.mq_blocks.specs.declared.geometry.Geometry.{Geometry}
use Rattle.mq_image.specs.File.{DriveImage}
use Rattle.mq_image_ops.specs.declared.ports.Failing.{Failing}
use Rattle.mq_image_run.specs.Refusals.{IsUnplayed}
use Rattle.mq_image_run.specs.Runs.{IsPlayedOn}
use Rattle.mq_image_run.specs.declared.options.DriveOptions.{DriveOptions}
use Rattle.mq_image_run.proofs.Leads.{played-leads, unplayed-leads}
use Rattle.mq_kv_run.specs.Drives.{IsNotPlayed, PlaysGroups}
use Rattle.mq_kv_run.specs.Endings.{finishes}
use Rattle.mq_kv_run.specs.Refusals.{RefusesStore}
use Rattle.mq_kv_run.proofs.Left.{refuses}
use Rattle.mq_kv_run.proofs.running.play_or_refuse.Goals as goal

pub returns-in-Ok-clause-ok : goal.returns-in-Ok-clause-ok
returns-in-Ok-clause-ok g c =
    let plays = PlaysGroups c.args.image.geometry c.args.groups.now (finishes c.args.options.cut) in
    subst (λ (o : DriveOptions). IsPlayedOn plays c.args.image o c.in-Ok.left) c.drive.ensures
    (played-leads _ plays (λ old played new post. search rules) c.args.image c.drive.result c.in-Ok.left c.in-Ok.ensures.ok)

pub returns-in-Err-clause-refused : goal.returns-in-Err-clause-refused
returns-in-Err-clause-refused g c =
    let same = ap (λ (i : DriveImage). i.geometry) c.image.view_is in
    let refused = unplayed-leads _ (IsNotPlayed c.args.image.geometry) (λ ports e post. subst (λ (h : Geometry). IsNotPlayed h ports e) same (search rules)) c.drive.result.fail c.args.image c.in-Err.unplayed c.in-Err.ensures.refused in
    let none = ap (λ (o : DriveOptions). o.fail) c.drive.ensures in
    subst (RefusesStore c.args.image) (sym c.from.ensures)
    (refuses c.a_recovered_image_holds_what_stood.ensures.blocks c.args.image c.in-Err.unplayed (subst (λ (f : Option Failing). IsUnplayed (IsNotPlayed c.args.image.geometry) f c.args.image c.in-Err.unplayed) none refused))
