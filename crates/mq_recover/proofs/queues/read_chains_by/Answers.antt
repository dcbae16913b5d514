use Rattle.std.proofs.Common.{◌≡◌, ◌≤◌, arith}
use Rattle.mq_blocks.specs.Drive.{PortState}
use Rattle.mq_blocks.specs.Journal.{number_limit}
use Rattle.mq_blocks.proofs.DriveQuiescent.{base-of}
use Rattle.mq_recover.specs.Drives.{states}
use Rattle.mq_recover.proofs.ReadersImages.{queues-exact-by, queues-good-by}
use Rattle.mq_recover.proofs.queues.read_chains_by.Goals as goal

pub returns-clause-chains : goal.returns-clause-chains
returns-clause-chains g c = queues-good-by g.D.Descriptors.accepts g.D.Descriptors.refuses c.obeys.ensures c.args.geometry (states g.P.Port.state c.args.ports.now.queues.items c.args.ports.now.root) c.read_queues.result c.read_queues.ensures.ok

pub returns-clause-exact : goal.returns-clause-exact
returns-clause-exact g c =
    let root : PortState = g.P.Port.state c.args.ports.now.root in
    let same : c.base-base.result ≡ root.base = base-of c.base-base.result root c.requires.root.quiet c.base-base.ensures in
    let limit : root.base ≤ number_limit = omega (arith, same, c.if-base-gt-LIMIT.false) in
    queues-exact-by g.D.Descriptors.accepts g.D.Descriptors.refuses c.obeys.ensures c.args.geometry (states g.P.Port.state c.args.ports.now.queues.items c.args.ports.now.root) c.read_queues.result limit c.read_queues.ensures.ok c.read_queues.ensures.refused
