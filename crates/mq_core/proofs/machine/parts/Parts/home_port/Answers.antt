use Rattle.std.proofs.Common.{◌≡◌, ◌<◌, length, get_or, Some, sym, ap, subst, ◌∙◌, arith}
use Rattle.mq_blocks.specs.Drive.{PortState}
use Rattle.mq_blocks.specs.Geometry.{zone_of, home_lba}
use Rattle.mq_ledger.specs.State.{port_of}
use Rattle.mq_core.specs.Parts.{whole}
use Rattle.mq_core.specs.Within.{IsWithin}
use Rattle.mq_core.proofs.HomesCalls.{port_within, zone_there}
use Rattle.mq_core.proofs.MachineLifts.{same_port}
use Rattle.mq_core.proofs.machine.parts.Parts.home_port.Goals as goal
use Rattle.mq_core.proofs.machine.parts.Parts.home_port.Goals.{After-zone_of, In-Some}

zone_is : (c : After-zone_of) → zone_of c.args.self.ledger.now.geometry c.args.block ≡ c.zone_of.result
zone_is c = sym (c.zone_of.ensures ∙ ap (λ g. zone_of g c.args.block) c.geometry.ensures)

zone_some : (c : In-Some) → zone_of c.args.self.ledger.now.geometry c.args.block ≡ Some c.in-Some.queue
zone_some c = zone_is (goal.at.In-Some c).After-zone_of ∙ c.in-Some.is

within : (c : In-Some) → c.in-Some.queue < length c.args.self.ports.now
within c = zone_there (whole c.args.self) c.requires.held.sides c.args.block c.requires.block c.in-Some.queue (zone_some c)

pub bounds-self-queue-inside : goal.bounds-self-queue-inside
bounds-self-queue-inside c = omega (arith, within (goal.at.bounds-self-queue-inside c).In-Some, c.queue.view_is)

pub returns-in-Some : goal.returns-in-Some
returns-in-Some c =
    let s = whole c.args.self in
    let x = c.args.block in
    let some = (goal.at.returns-in-Some c).In-Some in
    let own : c.queue.inside.0 < length s.ports = omega (arith, within some, c.queue.view_is) in
    let is : get_or s.ports c.queue.inside.0 c.index-self-queue.result ≡ port_of s (zone_of s.geometry x) = sym c.index-self-queue.is ∙ same_port s.ports c.in-Some.queue c.queue.inside.0 c.index-self-queue.result own c.queue.view_is c.index-self-queue.is ∙ ap (port_of s) (sym (zone_some some)) in
    record { is = is; within = subst (λ (p : PortState). IsWithin p (home_lba s.geometry x)) (sym is) (port_within s c.requires.held.sides x c.requires.block) }

pub returns-in-None : goal.returns-in-None
returns-in-None c =
    let s = whole c.args.self in
    let x = c.args.block in
    let is : c.args.self.root.now ≡ port_of s (zone_of s.geometry x) = ap (port_of s) (sym (zone_is (goal.at.returns-in-None c).After-zone_of ∙ c.in-None.is)) in
    record { is = is; within = subst (λ (p : PortState). IsWithin p (home_lba s.geometry x)) (sym is) (port_within s c.requires.held.sides x c.requires.block) }
