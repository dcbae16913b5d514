use Rattle.std.proofs.Common.{subst}
use Rattle.std.proofs.Math.Logic.{∥∥₁_elim}
use Rattle.mq_replica.specs.Held.{IsReady}
use Rattle.mq_replica.specs.Views.{below, faults_below}
use Rattle.mq_replica.proofs.Propositions.{quiet_drive-prop}
use Rattle.mq_replica.proofs.Within.{one_apart, one_stopped, quiet_apart}
use Rattle.mq_replica.proofs.wrapping.held_ports.Goals as goal

pub returns-in-Opened-clause-quiet : goal.returns-in-Opened-clause-quiet
returns-in-Opened-clause-quiet g c = λ G ready runs.
    let opened = subst (λ h. ∥ IsReady (below g.P.Port.state) (faults_below g.P.Port.faults) G h ∥₁) c.in-Opened.is ready in
    ∥∥₁_elim opened (quiet_drive-prop G _) (λ o. c.take_apart.ensures.quiet G o)

pub returns-in-Apart-clause-one : goal.returns-in-Apart-clause-one
returns-in-Apart-clause-one g c = one_apart (below g.P.Port.state) c.requires.0 c.in-Apart.ports (subst (λ h. ∥ IsReady (below g.P.Port.state) (faults_below g.P.Port.faults) c.requires.0 h ∥₁) c.in-Apart.is c.requires.1)

pub returns-in-Apart-clause-quiet : goal.returns-in-Apart-clause-quiet
returns-in-Apart-clause-quiet g c = λ G ready runs. quiet_apart (below g.P.Port.state) G c.in-Apart.ports (subst (λ h. ∥ IsReady (below g.P.Port.state) (faults_below g.P.Port.faults) G h ∥₁) c.in-Apart.is ready)

pub returns-in-Stopped-clause-one : goal.returns-in-Stopped-clause-one
returns-in-Stopped-clause-one g c = one_stopped c.in-Stopped.ports (subst (λ h. ∥ IsReady (below g.P.Port.state) (faults_below g.P.Port.faults) c.requires.0 h ∥₁) c.in-Stopped.is c.requires.1)
