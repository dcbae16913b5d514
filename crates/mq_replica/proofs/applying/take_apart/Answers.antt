use Rattle.std.proofs.Common.{rules, subst}
use Rattle.mq_recover.specs.Drives.{DriveState, IsQuiescentDrive}
use Rattle.mq_replica.specs.Apart.{IsLow}
use Rattle.mq_replica.specs.Held.{opened_state}
use Rattle.mq_replica.specs.Views.{below, faults_below}
use Rattle.mq_replica.proofs.OpenedQuiet.{low_opened, quiet_opened}
use Rattle.mq_replica.proofs.applying.take_apart.Goals as goal

pub returns-clause-quiet : goal.returns-clause-quiet
returns-clause-quiet g c = λ h o.
    let p = c.args.opened.side.pmr in
    subst (λ (d : DriveState). IsQuiescentDrive h d) (search rules) (quiet_opened h (opened_state (below g.P.Port.state) (faults_below g.P.Port.faults) c.args.opened) o p.own.port p.port.certain p.port.base)

pub returns-clause-low : goal.returns-clause-low
returns-clause-low g c = λ h doorbell top o rung high.
    subst (λ (d : DriveState). IsLow h d doorbell top) (search rules) (low_opened h (opened_state (below g.P.Port.state) (faults_below g.P.Port.faults) c.args.opened) doorbell top o rung high)
