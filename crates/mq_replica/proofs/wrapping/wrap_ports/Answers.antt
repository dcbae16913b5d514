use Rattle.std.proofs.Common.{◌∙◌, subst}
use Rattle.std.proofs.lemmas.List.{length-map}
use Rattle.mq_blocks.specs.Drive.{PortState}
use Rattle.mq_drive.specs.declared.role.Role.TheVariants.{Queue}
use Rattle.mq_recover.specs.Drives.{IsQuiescentPort, drive_of}
use Rattle.mq_replica.proofs.Wrapped.{area_certain, popped, quiet_queue}
use Rattle.mq_replica.proofs.wrapping.wrap_ports.Goals as goal

pub new-requires-clause-certain : goal.new-requires-clause-certain
new-requires-clause-certain g c =
    let S = g.P.Port.state in
    let at = popped S c.args.ports.queues.items c.pop.new.self.items c.in-Some.port c.in-Some.ensures.items c.requires.one in
    let quiet = quiet_queue c.requires.quiet.0 (drive_of S c.args.ports) c.requires.quiet.1 (length-map c.args.ports.queues.items S ∙ c.requires.one) in
    area_certain c.requires.quiet.0 (Queue 0) (S c.in-Some.port) (subst (λ (p : PortState). IsQuiescentPort c.requires.quiet.0 (Queue 0) p) at quiet)

pub new-requires-clause-base : goal.new-requires-clause-base
new-requires-clause-base g c =
    let S = g.P.Port.state in
    let at = popped S c.args.ports.queues.items c.pop.new.self.items c.in-Some.port c.in-Some.ensures.items c.requires.one in
    let quiet = quiet_queue c.requires.quiet.0 (drive_of S c.args.ports) c.requires.quiet.1 (length-map c.args.ports.queues.items S ∙ c.requires.one) in
    (subst (λ (p : PortState). IsQuiescentPort c.requires.quiet.0 (Queue 0) p) at quiet).quiet.base
