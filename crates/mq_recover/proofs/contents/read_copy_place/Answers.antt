use Rattle.std.proofs.Common.{◌%◌, sym, ◌∙◌, ap, subst, refl}
use Rattle.mq_blocks.specs.Blocks.{block_at}
use Rattle.mq_blocks.specs.Drive.{PortState, IsQuiescent}
use Rattle.mq_drive.specs.Start.{IsPortOf}
use Rattle.mq_drive.specs.declared.role.Role.TheVariants.{Queue}
use Rattle.mq_recover.specs.Drives.{states}
use Rattle.mq_recover.specs.declared.copies.CopyPlace.{CopyPlace}
use Rattle.mq_recover.proofs.DrivesImages.{view-seen}
use Rattle.mq_recover.proofs.DrivesQueueReads.{port-own}
use Rattle.mq_recover.proofs.contents.read_copy_place.Goals as goal

pub read_area-requires-clause-port : goal.read_area-requires-clause-port
read_area-requires-clause-port g c =
    let at = port-own c.args.geometry g.P.Port.state c.args.ports.now.queues.items c.args.ports.now.root c.args.source.queue c.source.inside.0.0.0 c.index-port.result.now c.requires.still c.requires.own (ap (λ (s : CopyPlace). s.queue) c.source.view_is) c.index-port.ensures in
    subst (IsPortOf c.args.geometry (Queue c.args.source.queue)) at (c.requires.still.each c.args.source.queue c.requires.own).port

pub read_area-requires-clause-quiet : goal.read_area-requires-clause-quiet
read_area-requires-clause-quiet g c =
    let at = port-own c.args.geometry g.P.Port.state c.args.ports.now.queues.items c.args.ports.now.root c.args.source.queue c.source.inside.0.0.0 c.index-port.result.now c.requires.still c.requires.own (ap (λ (s : CopyPlace). s.queue) c.source.view_is) c.index-port.ensures in
    subst IsQuiescent at (c.requires.still.each c.args.source.queue c.requires.own).quiet

pub returns : goal.returns
returns g c =
    let d = states g.P.Port.state c.args.ports.now.queues.items c.args.ports.now.root in
    let at = port-own c.args.geometry g.P.Port.state c.args.ports.now.queues.items c.args.ports.now.root c.args.source.queue c.source.inside.0.0.0 c.index-port.result.now c.requires.still c.requires.own (ap (λ (s : CopyPlace). s.queue) c.source.view_is) c.index-port.ensures in
    let index = c.args.source.place % c.args.geometry.area in
    c.read_area.ensures ∙ ap (λ (p : PortState). block_at p.blocks index) (sym at) ∙ sym ((view-seen c.args.geometry d c.args.source.queue d.root.base refl).area_is index)
