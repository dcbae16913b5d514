use Rattle.std.proofs.Common.{◌≢◌, ⊎_elim}
use Rattle.mq_command_images.specs.Commands.{Dumps, dumped, not_dumped}
use Rattle.mq_command_images.specs.Lines.{drive_line}
use Rattle.mq_command_images.specs.declared.answer.Answer.{Answer}
use Rattle.mq_recover.specs.declared.refusal.ImageFault.TheVariants as image
use Rattle.mq_command_images.proofs.CommandsSaying.{refused-as}
use Rattle.mq_command_images.proofs.dumping.dump_drive.Goals as goal

pub returns-in-Ok : goal.returns-in-Ok
returns-in-Ok c = dumped c.in-Ok.text.items c.in-Ok.ensures.ok

pub returns-in-Err : goal.returns-in-Err
returns-in-Err c =
    refused-as (λ (a : Answer). a.status) (λ (a : Answer). a.text.items) (Dumps c.args.image) (drive_line c.in-Err.fault) (c.in-Err.fault ≢ image.OutOfMemory) c.refuse_drive.result c.refuse_drive.ensures
    (λ other. ⊎_elim (λ memory. absurd (other memory)) (λ refuses. not_dumped c.in-Err.fault refuses) c.in-Err.ensures.refused)
