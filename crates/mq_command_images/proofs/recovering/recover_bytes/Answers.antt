use Rattle.std.proofs.Common.{◌≢◌, List, ℕ, subst}
use Rattle.std.specs.Prelude.{Err, IfOk}
use Rattle.std.proofs.lemmas.Result.{IfOk-weaker, IfErr-weaker}
use Rattle.mq_command_images.specs.Commands.{SaysOfImage, is_image}
use Rattle.mq_command_images.specs.Lines.{file_line}
use Rattle.mq_command_images.specs.Recovers.{IsRecoveredAs, RefusesRecovery}
use Rattle.mq_command_images.specs.declared.answer.Answer.{Answer}
use Rattle.mq_command_images.specs.declared.recovering.Recovery.{Recovery}
use Rattle.mq_image.specs.Drives.{IsRead}
use Rattle.mq_image.specs.Faults.{FindsFirst}
use Rattle.mq_image.specs.File.{DriveImage}
use Rattle.mq_image.specs.declared.fault.FileFault.TheVariants as file
use Rattle.mq_command_images.proofs.CommandsSaying.{no-image, refused-as}
use Rattle.mq_command_images.proofs.recovering.recover_bytes.Goals as goal

pub returns-in-Ok-clause-ok : goal.returns-in-Ok-clause-ok
returns-in-Ok-clause-ok c =
    IfOk-weaker c.recover_drive.result (λ (v : Recovery). IsRecoveredAs c.in-Ok.image c.args.cut c.args.pick v.file.items v.text.items) (λ (v : Recovery). (x : DriveImage) × IsRead x c.args.bytes.items × IsRecoveredAs x c.args.cut c.args.pick v.file.items v.text.items) (λ v is. (c.in-Ok.image, subst (IsRead c.in-Ok.image) c.deref.ensures.value c.in-Ok.ensures.sound, is))
    c.recover_drive.ensures.ok

pub returns-in-Ok-clause-refused : goal.returns-in-Ok-clause-refused
returns-in-Ok-clause-refused c =
    IfErr-weaker c.recover_drive.result (λ answer. IfOk answer (λ (a : Answer). RefusesRecovery c.in-Ok.image a.status a.text.items)) (λ answer. IfOk answer (λ (a : Answer). SaysOfImage RefusesRecovery c.args.bytes.items a.status a.text.items)) (λ answer is. IfOk-weaker answer (λ (a : Answer). RefusesRecovery c.in-Ok.image a.status a.text.items) (λ (a : Answer). SaysOfImage RefusesRecovery c.args.bytes.items a.status a.text.items) (λ a of. is_image c.in-Ok.image (subst (IsRead c.in-Ok.image) c.deref.ensures.value c.in-Ok.ensures.sound) of) is)
    c.recover_drive.ensures.refused

pub returns-in-Err-clause-refused : goal.returns-in-Err-clause-refused
returns-in-Err-clause-refused c =
    refused-as (λ (a : Answer). a.status) (λ (a : Answer). a.text.items) (SaysOfImage RefusesRecovery c.args.bytes.items) (file_line c.in-Err.fault) (c.in-Err.fault ≢ file.OutOfMemory) c.refuse_file.result c.refuse_file.ensures
    (λ other. no-image RefusesRecovery c.args.bytes.items c.in-Err.fault c.written_images_are_read.ensures.first (subst (λ (l : List ℕ). FindsFirst {X = DriveImage} l (Err c.in-Err.fault)) c.deref.ensures.value c.in-Err.ensures.finds) other)
