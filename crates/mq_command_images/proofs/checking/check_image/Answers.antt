use Rattle.std.proofs.Common.{◌≡◌, ◌≢◌, ⊎_elim, List, Option, Result, ℕ, ap, subst}
use Rattle.std.specs.Prelude.{IfOk}
use Rattle.mq_check.specs.Verdicts.{Judges}
use Rattle.mq_check.specs.declared.verdict.Verdict.{Verdict}
use Rattle.mq_command_images.specs.Checks.{Checks, not_checked, verdict_line}
use Rattle.mq_command_images.specs.Lines.{drive_line}
use Rattle.mq_command_images.specs.declared.answer.Answer.{Answer}
use Rattle.mq_image.specs.File.{DriveImage}
use Rattle.mq_recover.specs.declared.refusal.ImageFault.TheVariants as image
use Rattle.mq_command_images.proofs.CommandsSaying.{refused-as}
use Rattle.mq_command_images.proofs.Checks.{checks-as}
use Rattle.mq_command_images.proofs.checking.check_image.Goals as goal

pub returns-in-Ok : goal.returns-in-Ok
returns-in-Ok c =
    let g = c.image.inside.geometry in
    checks-as (λ (a : Answer). a.status) (λ (a : Answer). a.text.items) c.args.image g c.in-Ok.blocks.items c.judge.result (ap (λ (x : DriveImage). x.geometry) c.image.view_is) c.in-Ok.ensures.ok
    (subst (λ (l : List (Option (List ℕ))). IfOk c.judge.result (λ a. (verdict : Verdict) × Judges g l verdict × (a.status ≡ 0) × (a.text.items ≡ verdict_line verdict))) c.deref.ensures.value c.judge.ensures)

pub returns-in-Err : goal.returns-in-Err
returns-in-Err c =
    refused-as (λ (a : Answer). a.status) (λ (a : Answer). a.text.items) (Checks c.args.image) (drive_line c.in-Err.fault) (c.in-Err.fault ≢ image.OutOfMemory) c.refuse_drive.result c.refuse_drive.ensures
    (λ other. ⊎_elim (λ memory. absurd (other memory)) (λ refuses. not_checked c.in-Err.fault refuses) c.in-Err.ensures.refused)
