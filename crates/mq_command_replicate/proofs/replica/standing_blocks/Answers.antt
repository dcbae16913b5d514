use Rattle.std.proofs.Common.{◌≡◌}
use Rattle.std.proofs.lemmas.Result.{IfOk-weaker}
use Rattle.mq_image_ops.specs.Standing.{IsStandingOf}
use Rattle.mq_image_ops.specs.Views.{home_blocks}
use Rattle.mq_image_ops.proofs.ViewsHomeBlocks.{recovered-stand}
use Rattle.mq_command_replicate.proofs.LeftReplicas.{only_memory_left}
use Rattle.mq_command_replicate.proofs.replica.standing_blocks.Goals as goal

pub only_memory-requires : goal.only_memory-requires
only_memory-requires c = only_memory_left c.args.image c.in-Err.fault c.requires.readable c.in-Err.ensures.refused

pub returns-in-Ok : goal.returns-in-Ok
returns-in-Ok c =
    IfOk-weaker c.take_homes.result (λ v. v.items ≡ home_blocks c.in-Ok.recovered.image) (λ v. IsStandingOf c.args.image v.items) (λ v is. recovered-stand c.args.image c.in-Ok.recovered v.items c.in-Ok.ensures.ok is) c.take_homes.ensures
