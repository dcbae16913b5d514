use Rattle.std.proofs.Common.{subst, refl}
use Rattle.mq_blocks.specs.Drive.{IsQuiescent}
use Rattle.mq_drive.specs.Start.{IsPortOf}
use Rattle.mq_drive.specs.declared.role.Role.TheVariants.{Queue}
use Rattle.mq_recover.specs.Drives.{drive_of}
use Rattle.mq_recover.proofs.DrivesQueueReads.{port-own}
use Rattle.mq_image_ops.proofs.DumpChains.{base-own, chain-memory, chain-own}
use Rattle.mq_image_ops.proofs.dump.readable_chain.Goals as goal

pub read_chain-requires-clause-port : goal.read_chain-requires-clause-port
read_chain-requires-clause-port g c =
    let at = port-own c.args.geometry g.P.Port.state c.args.ports.now.queues.items c.args.ports.now.root c.args.queue c.args.queue c.index.result.now c.requires.still c.requires.within refl c.index.ensures in
    (c.args.queue, c.requires.within, subst (IsPortOf c.args.geometry (Queue c.args.queue)) at (c.requires.still.each c.args.queue c.requires.within).port)

pub read_chain-requires-clause-quiet : goal.read_chain-requires-clause-quiet
read_chain-requires-clause-quiet g c =
    let at = port-own c.args.geometry g.P.Port.state c.args.ports.now.queues.items c.args.ports.now.root c.args.queue c.args.queue c.index.result.now c.requires.still c.requires.within refl c.index.ensures in
    subst IsQuiescent at (c.requires.still.each c.args.queue c.requires.within).quiet

pub only_memory-requires : goal.only_memory-requires
only_memory-requires g c =
    let d = drive_of g.P.Port.state c.args.ports.now in
    let at = port-own c.args.geometry g.P.Port.state c.args.ports.now.queues.items c.args.ports.now.root c.args.queue c.args.queue c.index.result.now c.requires.still c.requires.within refl c.index.ensures in
    chain-memory _ c.args.geometry d c.args.queue c.base.result (g.P.Port.state c.index.result.now) (λ x. x) c.read_chain.result c.requires.whole.0 c.requires.still c.requires.within at
    (base-own c.args.geometry d c.base.result c.requires.still c.base.ensures) c.requires.whole.1 c.read_chain.ensures.complete c.in-Err.refusal c.in-Err.is

pub returns-in-Ok : goal.returns-in-Ok
returns-in-Ok g c = λ chains whole.
    let d = drive_of g.P.Port.state c.args.ports.now in
    let at = port-own c.args.geometry g.P.Port.state c.args.ports.now.queues.items c.args.ports.now.root c.args.queue c.args.queue c.index.result.now c.requires.still c.requires.within refl c.index.ensures in
    chain-own _ c.args.geometry d c.args.queue c.base.result (g.P.Port.state c.index.result.now) (λ x. x) c.read_chain.result chains c.requires.still c.requires.within at
    (base-own c.args.geometry d c.base.result c.requires.still c.base.ensures) whole c.read_chain.ensures.complete c.in-Ok.chain c.in-Ok.is
