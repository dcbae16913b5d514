use Rattle.std.proofs.Common.{◌≢◌, ⊎_elim}
use Rattle.mq_command_images.specs.Lines.{drive_line}
use Rattle.mq_command_images.specs.Recovers.{RefusesRecovery, not_recovered}
use Rattle.mq_command_images.specs.declared.answer.Answer.{Answer}
use Rattle.mq_recover.specs.declared.refusal.ImageFault.TheVariants as image
use Rattle.mq_command_images.proofs.CommandsSaying.{refused-as}
use Rattle.mq_command_images.proofs.recovering.recover_drive.Goals as goal

pub returns-in-Err-clause-refused : goal.returns-in-Err-clause-refused
returns-in-Err-clause-refused c =
    refused-as (λ (a : Answer). a.status) (λ (a : Answer). a.text.items) (RefusesRecovery c.args.image) (drive_line c.in-Err.fault) (c.in-Err.fault ≢ image.OutOfMemory) c.refuse_drive.result c.refuse_drive.ensures
    (λ other. ⊎_elim (λ memory. absurd (other memory)) (λ refuses. not_recovered c.in-Err.fault refuses) c.in-Err.ensures.refused)

pub returns-in-Ok-recovery_of-clause-ok : goal.returns-in-Ok-recovery_of-clause-ok
returns-in-Ok-recovery_of-clause-ok c =
    let recovered = c.in-Ok.recovered in
    let recovery = c.in-Ok.ensures.ok in
    let chosen = c.in-Ok.ensures.chosen in (
      recovered,
      record { recovery = recovery; chosen = chosen; rest = c.a_recovery_leaves_the_rest.ensures c.args.image c.args.cut c.args.pick recovered c.requires.image recovery chosen },
      c.in-Ok-recovery_of.ensures,
    )
