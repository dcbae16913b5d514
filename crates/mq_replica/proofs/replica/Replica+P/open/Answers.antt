use Rattle.std.proofs.Common.{◌≡◌, ◌∙◌, ◌⊎◌, ap, subst, sym}
use Rattle.mq_recover.specs.Drives.{DriveState, drive_of, view_over}
use Rattle.mq_recover.specs.Images.{RefusesImage}
use Rattle.mq_recover.specs.declared.choice.Recovered.{Recovered}
use Rattle.mq_recover.specs.declared.refusal.ImageFault.TheVariants as fault
use Rattle.mq_replica.specs.Applying.{PortsState}
use Rattle.mq_replica.specs.Held.{ports_of}
use Rattle.mq_replica.specs.Offers.{IsOpenRefused}
use Rattle.mq_replica.specs.Views.{below, faults_below}
use Rattle.mq_replica.proofs.Openings.{low_opened, open_refused, opened_on}
use Rattle.mq_replica.proofs.replica.Replica+P.open.Goals as goal

pub returns-in-Err-recover-clause-refused : goal.returns-in-Err-recover-clause-refused
returns-in-Err-recover-clause-refused g c =
    let S = below g.P.Port.state in
    let G = c.args.geometry in
    let e = c.in-Err-recover.refusal in
    let given : DriveState = drive_of g.P.Port.state c.args.ports in
    let wrapped : DriveState = drive_of S c.in-Ok-wrap_ports.wrapped.0 in
    let left : DriveState = drive_of S c.recover.new.ports in
    let back : DriveState = drive_of g.P.Port.state c.unwrap_ports.result in
    let same : wrapped ≡ given = ap (λ (p : PortsState). p.drive) c.in-Ok-wrap_ports.ensures.ports in
    let out : back ≡ left = ap (λ (p : PortsState). p.drive) c.unwrap_ports.ensures in
    let refused : IsOpenRefused G wrapped e left = open_refused Recovered G e wrapped left (λ f. (f ≡ fault.OutOfMemory) ⊎ RefusesImage G wrapped f) c.in-Err-recover.ensures.image c.in-Err-recover.ensures.drive c.recover.ensures.bounds in
    subst (λ (x : DriveState). IsOpenRefused G given e x) (sym out) (subst (λ (x : DriveState). IsOpenRefused G x e left) same refused)

pub invariant_of-result : goal.invariant_of-result
invariant_of-result g c =
    let S = below g.P.Port.state in
    let F = faults_below g.P.Port.faults in
    let same = ap (λ (p : PortsState). p.drive) c.in-Ok-wrap_ports.ensures.ports in
    let whole = c.in_default.ensures.ok in
    record {
      keeping = ∣ record {
        ready = (c.requires.one, whole.recovered.still);
        within = low_opened c.args.geometry (drive_of g.P.Port.state c.args.ports) (ports_of S F c.in-Ok-wrap_ports.wrapped.0) (ports_of S F c.recover.new.ports) _ _ c.requires same whole c.in_default.ensures.cause;
      } ∣₁;
      empty = c.in-Ok-wrap_ports.ensures.spare.0;
      room = c.in-Ok-wrap_ports.ensures.spare.1;
    }

pub returns-clause-ok : goal.returns-clause-ok
returns-clause-ok g c =
    let S = below g.P.Port.state in
    let F = faults_below g.P.Port.faults in
    let same = ap (λ (p : PortsState). p.drive) c.in-Ok-wrap_ports.ensures.ports in
    opened_on c.args.geometry (drive_of g.P.Port.state c.args.ports) (ports_of S F c.in-Ok-wrap_ports.wrapped.0) (ports_of S F c.recover.new.ports) _ _ _ _ c.requires.one same c.in_default.ensures.ok c.in_default.ensures.cause c.recover.ensures.bounds (c.read_home.ensures ∙ ap (λ x. (view_over c.args.geometry (drive_of S c.recover.new.ports)).home x) c.last_home.ensures) c.number_in.ensures
