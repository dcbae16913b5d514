-- How the reason why no volume stands on an image is reported.
use Rattle.mq_image_ops.specs.declared.refusal.StandingRefusal.{StandingRefusal}
use Rattle.mq_image_ops.specs.declared.refusal.StandingRefusal.TheVariants as standing
use Rattle.mq_recover.specs.declared.refusal.ImageFault.{ImageFault}
use Rattle.mq_recover.specs.declared.refusal.ImageFault.TheVariants as fault
use Rattle.mq_tree.specs.declared.corrupt.MountRefusal.{MountRefusal}
use Rattle.mq_tree.specs.declared.corrupt.MountRefusal.TheVariants as mount

-- the image is not readable, or memory ran out
abbrev pub refusal_for : ImageFault → StandingRefusal
refusal_for fault.OutOfMemory = standing.OutOfMemory
refusal_for e = standing.Image e

-- the blocks that stand have no tree, or memory ran out
abbrev pub refusal_of : MountRefusal → StandingRefusal
refusal_of (mount.Corrupt cause block) = standing.Corrupt cause block
refusal_of mount.OutOfMemory = standing.OutOfMemory
