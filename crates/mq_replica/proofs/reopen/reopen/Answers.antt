use Rattle.std.proofs.Common.{◌≡◌, ◌≤◌, ℕ, ap, refl, subst, sym}
use Rattle.mq_ledger.specs.State.{port_at}
use Rattle.mq_recover.specs.Drives.{DriveState}
use Rattle.mq_recover.specs.declared.refusal.RecoverRefusal.TheVariants.{Failed, Off}
use Rattle.mq_recover.specs.declared.choice.Recovered.{Recovered}
use Rattle.mq_blocks.specs.Geometry.{home_lba, zone_of}
use Rattle.mq_drive.specs.Steps.{HomeError, PowerOff}
use Rattle.mq_replica.specs.Apart.{IsLow}
use Rattle.mq_replica.specs.Applying.{PortsState}
use Rattle.mq_replica.specs.Held.{ports_of}
use Rattle.mq_replica.specs.Views.{below, faults_below}
use Rattle.mq_replica.proofs.Recovered.{along, base_low, cause_is, cut_off, fits_area, fits_ring, head_at, low_apart, on_is, opened_over, saved}
use Rattle.mq_replica.proofs.reopen.reopen.Goals as goal

pub returns-in-Ok-open_ports-clause-ok : goal.returns-in-Ok-open_ports-clause-ok
returns-in-Ok-open_ports-clause-ok g c =
    let S = below g.P.Port.state in
    let F = faults_below g.P.Port.faults in
    along c.args.geometry (ports_of S F c.args.ports) (ports_of S F c.recover.new.ports) _ c.in-Ok-open_ports.ensures.ports
    (saved c.args.geometry c.requires.one (ports_of S F c.args.ports) (ports_of S F c.recover.new.ports) _ _ c.in-Ok.ensures.ok c.in-Ok.ensures.cause c.recover.ensures.bounds)

pub returns-in-Ok-open_ports-clause-opened : goal.returns-in-Ok-open_ports-clause-opened
returns-in-Ok-open_ports-clause-opened g c =
    let S = below g.P.Port.state in
    let F = faults_below g.P.Port.faults in
    opened_over c.args.geometry c.requires.one (ports_of S F c.args.ports) (ports_of S F c.recover.new.ports) _ _ c.in-Ok.ensures.ok c.in-Ok.ensures.cause _
    (ap (λ (p : PortsState). p.drive) c.in-Ok-open_ports.ensures.ports) c.in-Ok-open_ports.ensures.fresh

pub returns-in-Ok-open_ports-clause-area : goal.returns-in-Ok-open_ports-clause-area
returns-in-Ok-open_ports-clause-area g c = fits_area c.args.geometry _ _ c.args.plan.now c.in-Ok-open_ports.ensures.fresh.rows c.requires.logged c.requires.plain.1

pub returns-in-Ok-open_ports-clause-ring : goal.returns-in-Ok-open_ports-clause-ring
returns-in-Ok-open_ports-clause-ring g c =
    let S = below g.P.Port.state in
    let F = faults_below g.P.Port.faults in
    let at = ap (λ (p : PortsState). p.drive) c.in-Ok-open_ports.ensures.ports in
    let head = subst (λ (d : DriveState). (port_at d.queues 0).head ≡ (port_at d.queues 0).doorbell) (sym at) (head_at c.args.geometry c.requires.one (ports_of S F c.args.ports) (ports_of S F c.recover.new.ports) _ _ c.in-Ok.ensures.ok c.in-Ok.ensures.cause) in
    fits_ring c.args.geometry (S c.in-Ok-open_ports.opened.side.pmr.port) c.args.plan.now c.in-Ok-open_ports.ensures.fresh.fresh.pending head c.requires.logged c.requires.plain.0

pub returns-in-Ok-open_ports-clause-low : goal.returns-in-Ok-open_ports-clause-low
returns-in-Ok-open_ports-clause-low g c = λ doorbell top low.
    let S = below g.P.Port.state in
    let F = faults_below g.P.Port.faults in
    let at = ap (λ (p : PortsState). p.drive) c.in-Ok-open_ports.ensures.ports in
    let both = base_low c.args.geometry c.requires.one (ports_of S F c.args.ports) (ports_of S F c.recover.new.ports) _ _ c.in-Ok.ensures.ok c.in-Ok.ensures.cause doorbell top low in
    (subst (λ (d : DriveState). (port_at d.queues 0).doorbell ≤ doorbell) (sym at) both.0, subst (λ (n : ℕ). n ≤ top) (sym c.in-Ok-open_ports.ensures.fresh.number) both.1)

pub returns-in-Err-clause-err : goal.returns-in-Err-clause-err
returns-in-Err-clause-err g c = λ ws.
    let S = below g.P.Port.state in
    let F = faults_below g.P.Port.faults in (
      refl,
      along c.args.geometry (ports_of S F c.args.ports) (ports_of S F c.recover.new.ports) _ c.in-Err.ensures.err
          (saved c.args.geometry c.requires.one (ports_of S F c.args.ports) (ports_of S F c.recover.new.ports) _ _ c.in-Ok.ensures.ok c.in-Ok.ensures.cause c.recover.ensures.bounds),
    )

pub returns-in-Err-clause-within : goal.returns-in-Err-clause-within
returns-in-Err-clause-within g c = λ doorbell top low.
    let S = below g.P.Port.state in
    let F = faults_below g.P.Port.faults in
    subst (λ (p : PortsState). IsLow c.args.geometry p.drive doorbell top) (sym c.in-Err.ensures.err)
    (low_apart c.args.geometry c.requires.one (ports_of S F c.args.ports) (ports_of S F c.recover.new.ports) _ _ c.in-Ok.ensures.ok c.in-Ok.ensures.cause doorbell top low)

pub returns-in-Err-Off-clause-err : goal.returns-in-Err-Off-clause-err
returns-in-Err-Off-clause-err g c = λ ws.
    let S = below g.P.Port.state in
    let F = faults_below g.P.Port.faults in
    let r = c.in-Err-Off in
    let cause = cause_is Recovered c.args.geometry r.field-0 Off _ _ r.field-0-is r.ensures.cause in
    (refl, cut_off c.args.geometry cause.0 PowerOff Off (ports_of S F c.args.ports) (ports_of S F c.recover.new.ports) (on_is Recovered r.field-0 Off _ r.field-0-is r.ensures.drive) cause.1 c.recover.ensures.bounds ws)

pub returns-in-Err-Failed-clause-err : goal.returns-in-Err-Failed-clause-err
returns-in-Err-Failed-clause-err g c = λ ws.
    let S = below g.P.Port.state in
    let F = faults_below g.P.Port.faults in
    let r = c.in-Err-Failed in
    let cause = cause_is Recovered c.args.geometry r.field-0 (Failed r.field-0-0 r.status) _ _ r.field-0-is r.ensures.cause in
    (refl, cut_off c.args.geometry (zone_of c.args.geometry r.field-0-0) (HomeError (home_lba c.args.geometry r.field-0-0) r.status) (Failed r.field-0-0 r.status) (ports_of S F c.args.ports) (ports_of S F c.recover.new.ports) (on_is Recovered r.field-0 (Failed r.field-0-0 r.status) _ r.field-0-is r.ensures.drive) cause c.recover.ensures.bounds ws)
