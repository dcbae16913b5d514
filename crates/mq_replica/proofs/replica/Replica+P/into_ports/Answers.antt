use Rattle.std.proofs.Common.{◌≡◌, ap, false, subst, sym}
use Rattle.mq_recover.specs.Drives.{IsQuiescentDrive, drive_of}
use Rattle.mq_replica.specs.Applying.{PortsState}
use Rattle.mq_replica.specs.Held.{IsKeeping, is_stopped, replica_of}
use Rattle.mq_replica.specs.Replicas.{replica_state}
use Rattle.mq_replica.specs.Views.{below, faults_below}
use Rattle.mq_replica.proofs.Within.{no_keeping, ready_kept}
use Rattle.mq_replica.proofs.replica.Replica+P.into_ports.Goals as goal

pub held_ports-requires : goal.held_ports-requires
held_ports-requires g c =
    let S = below g.P.Port.state in
    let F = faults_below g.P.Port.faults in
    let r = c.args.self in
    (r.geometry, ready_kept S F r.geometry r.offers c.in-Some.held (subst (λ h. ∥ IsKeeping S F r.geometry r.offers h ∥₁) c.in-Some.is r.keeping))

pub unreachable-requires : goal.unreachable-requires
unreachable-requires g c =
    let S = below g.P.Port.state in
    let F = faults_below g.P.Port.faults in
    let r = c.args.self in
    no_keeping (subst (λ h. ∥ IsKeeping S F r.geometry r.offers h ∥₁) c.in-None.is r.keeping)

pub returns-clause-quiet : goal.returns-clause-quiet
returns-clause-quiet g c = λ runs.
    let S = below g.P.Port.state in
    let F = faults_below g.P.Port.faults in
    let r = c.args.self in
    let ready = ready_kept S F r.geometry r.offers c.in-Some.held (subst (λ h. ∥ IsKeeping S F r.geometry r.offers h ∥₁) c.in-Some.is r.keeping) in
    let moves : is_stopped c.in-Some.held ≡ false = subst (λ h. (replica_of S F r.geometry r.reached r.offers h).stopped ≡ false) c.in-Some.is runs in
    let quiet = c.held_ports.ensures.quiet r.geometry ready moves in
    let out = ap (λ (p : PortsState). p.drive) c.unwrap_ports.ensures in
    let same : (replica_state S F r).geometry ≡ r.geometry = ap (λ h. (replica_of S F r.geometry r.reached r.offers h).geometry) c.in-Some.is in
    subst (λ G. IsQuiescentDrive G (drive_of g.P.Port.state c.unwrap_ports.result)) (sym same) (subst (λ d. IsQuiescentDrive r.geometry d) (sym out) quiet)
