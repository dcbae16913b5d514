use Rattle.std.proofs.Common.{◌≢◌, refl}
use Rattle.mq_command_images.specs.Commands.{ShowsFile, not_shown}
use Rattle.mq_command_images.specs.Lines.{path_line, volume_line}
use Rattle.mq_command_images.specs.declared.answer.Answer.{Answer}
use Rattle.mq_image_ops.specs.declared.refusal.StandingRefusal.TheVariants as standing
use Rattle.mq_command_images.proofs.CommandsSaying.{refused-as, refused-as-two, said-as, shows, shows-none}
use Rattle.mq_command_images.proofs.listing.show_image.Goals as goal

pub returns-in-Err : goal.returns-in-Err
returns-in-Err c =
    refused-as (λ (a : Answer). a.status) (λ (a : Answer). a.text.items) (ShowsFile c.args.path.now c.args.image) (volume_line c.in-Err.refusal) (c.in-Err.refusal ≢ standing.OutOfMemory) c.refuse_volume.result c.refuse_volume.ensures
    (λ other. not_shown c.in-Err.refusal c.in-Err.ensures.refused other)

pub returns-in-Ok-file : goal.returns-in-Ok-file
returns-in-Ok-file c =
    said-as (ShowsFile c.args.path.now c.args.image) 0 0 c.in-Ok-file.bytes.now c.in_ok-from_slice-in-Ok-file.field-0.items refl c.in_ok-from_slice-in-Ok-file.ensures.items
    (shows c.args.path.now c.args.image c.in-Ok.tree c.in-Ok-file.bytes.now c.in-Ok.ensures.ok c.in-Ok-file.ensures)

pub returns : goal.returns
returns c =
    refused-as-two (λ (a : Answer). a.status) (λ (a : Answer). a.text.items) (ShowsFile c.args.path.now c.args.image) (path_line c.in-Err-file.fault) c.refuse_path.result c.refuse_path.ensures
    (shows-none c.args.path.now c.args.image c.in-Ok.tree c.in-Err-file.fault c.in-Ok.ensures.ok c.in-Err-file.ensures)
