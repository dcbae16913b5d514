use Rattle.mq_image_ops.proofs.ViewsHomeBlocks.{recovered-stand}
use Rattle.mq_command_images.proofs.standing.standing_blocks.Goals as goal

pub returns-clause-ok : goal.returns-clause-ok
returns-clause-ok c = recovered-stand c.args.image c.in_ok-recovered.recovered c.in_ok-take_homes.field-0.items c.in_ok-recovered.ensures.ok c.in_ok-take_homes.ensures
