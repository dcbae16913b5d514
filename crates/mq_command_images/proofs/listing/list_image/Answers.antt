use Rattle.std.proofs.Common.{◌≢◌, refl}
use Rattle.mq_command_images.specs.Commands.{Lists, listed, not_listed}
use Rattle.mq_command_images.specs.Lines.{volume_line}
use Rattle.mq_command_images.specs.declared.answer.Answer.{Answer}
use Rattle.mq_image_ops.specs.declared.refusal.StandingRefusal.TheVariants as standing
use Rattle.mq_tree.specs.ListText.{list_text}
use Rattle.mq_command_images.proofs.CommandsSaying.{refused-as, said-as}
use Rattle.mq_command_images.proofs.listing.list_image.Goals as goal

pub returns-in-Ok : goal.returns-in-Ok
returns-in-Ok c =
    let found = c.in-Ok.ensures.ok in
    said-as (Lists c.args.image) 0 0 (list_text found.0) c.in-Ok.text.items refl found.2 (listed found.0 found.1)

pub returns-in-Err : goal.returns-in-Err
returns-in-Err c =
    refused-as (λ (a : Answer). a.status) (λ (a : Answer). a.text.items) (Lists c.args.image) (volume_line c.in-Err.refusal) (c.in-Err.refusal ≢ standing.OutOfMemory) c.refuse_volume.result c.refuse_volume.ensures
    (λ other. not_listed c.in-Err.refusal c.in-Err.ensures.refused other)
