use Rattle.std.proofs.Common.{◌≡◌, ◌<◌, inr, Some, None, sym, ◌∙◌, subst, refl}
use Rattle.mq_blocks.specs.Drive.{Owns}
use Rattle.mq_blocks.specs.Geometry.{zone_of}
use Rattle.mq_drive.specs.Start.{IsPortOf}
use Rattle.mq_drive.specs.declared.role.Role.TheVariants.{Queue}
use Rattle.mq_recover.specs.Drives.{states}
use Rattle.mq_recover.proofs.DrivesQueueReads.{port-own}
use Rattle.mq_recover.proofs.StandingBlocks.{home-read}
use Rattle.mq_recover.proofs.DrivesZones.{IsZone, zone-is, home-own}
use Rattle.mq_recover.proofs.contents.read_home.Goals as goal

pub returns-in-None : goal.returns-in-None
returns-in-None g c =
    home-read c.args.geometry (states g.P.Port.state c.args.ports.now.queues.items c.args.ports.now.root) None c.args.b c.home-lba.result (g.P.Port.state c.args.ports.now.root) _ c.requires.still
    (sym c.zone_of.ensures ∙ c.in-None.is) tt refl c.home-lba.ensures c.read_block.ensures

pub read_block-requires-in-Some : goal.read_block-requires-in-Some
read_block-requires-in-Some g c =
    let geometry = c.args.geometry in
    let zone : zone_of geometry c.args.b ≡ Some c.in-Some.queue = sym c.zone_of.ensures ∙ c.in-Some.is in
    let low : c.in-Some.queue < geometry.queues = subst (IsZone geometry) zone (zone-is geometry c.args.b c.requires.within) in
    let at = port-own geometry g.P.Port.state c.args.ports.now.queues.items c.args.ports.now.root c.in-Some.queue c.queue.inside.0 c.index.result.now c.requires.still low c.queue.view_is c.index.ensures in
    let port : IsPortOf geometry (Queue c.in-Some.queue) (g.P.Port.state c.index.result.now) = subst (IsPortOf geometry (Queue c.in-Some.queue)) at (c.requires.still.each c.in-Some.queue low).port in
    subst (Owns (g.P.Port.state c.index.result.now)) (sym c.home-lba.ensures) (inr (home-own geometry (Some c.in-Some.queue) (g.P.Port.state c.index.result.now) c.args.b zone port))

pub returns-in-Some : goal.returns-in-Some
returns-in-Some g c =
    let geometry = c.args.geometry in
    let zone : zone_of geometry c.args.b ≡ Some c.in-Some.queue = sym c.zone_of.ensures ∙ c.in-Some.is in
    let low : c.in-Some.queue < geometry.queues = subst (IsZone geometry) zone (zone-is geometry c.args.b c.requires.within) in
    let at = port-own geometry g.P.Port.state c.args.ports.now.queues.items c.args.ports.now.root c.in-Some.queue c.queue.inside.0 c.index.result.now c.requires.still low c.queue.view_is c.index.ensures in
    home-read geometry (states g.P.Port.state c.args.ports.now.queues.items c.args.ports.now.root) (Some c.in-Some.queue) c.args.b c.home-lba.result (g.P.Port.state c.index.result.now) _ c.requires.still
    zone low at c.home-lba.ensures c.read_block-in-Some.ensures
