use Rattle.mq_drive.proofs.FuseSteps.{draws}
use Rattle.mq_drive.proofs.fuse.draw.Goals as goal

pub fetch_add-requires : goal.fetch_add-requires
fetch_add-requires c = (c.requires.table.0, c.requires.table.1, draws c.args.shared.now.key.limit c.args.shared.now.key.seats _ _ _ c.requires.one c.requires.few)
