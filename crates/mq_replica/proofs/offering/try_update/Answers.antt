use Rattle.std.proofs.Common.{Bool, subst}
use Rattle.std.proofs.Math.Logic.{∥∥₁_map}
use Rattle.mq_replica.specs.Held.{is_stopped, ports_in, ports_over}
use Rattle.mq_replica.specs.Offers.{MayApply}
use Rattle.mq_replica.specs.Views.{below, faults_below}
use Rattle.mq_replica.proofs.Offered.{offers_applied, offers_left}
use Rattle.mq_replica.proofs.Within.{within_more}
use Rattle.mq_replica.proofs.offering.try_update.Goals as goal

pub returns-in-Err-clause-within : goal.returns-in-Err-clause-within
returns-in-Err-clause-within g c = λ doorbell top within. ∣ within_more (below g.P.Port.state) (faults_below g.P.Port.faults) c.args.geometry doorbell top c.args.held within ∣₁

pub returns-in-Ok-clause-offers : goal.returns-in-Ok-clause-offers
returns-in-Ok-clause-offers g c = λ offers.
    let S = below g.P.Port.state in
    let F = faults_below g.P.Port.faults in
    let may : MayApply c.args.geometry c.args.reached (is_stopped c.args.held) c.args.update.now.writes = subst (λ (b : Bool). MayApply c.args.geometry c.args.reached b c.args.update.now.writes) c.is_stopped.ensures c.in_default.ensures.ok in
    offers_applied c.args.geometry c.args.update.now c.args.reached offers (is_stopped c.args.held) (ports_in S F c.args.held) (ports_over S F c.in-Ok.opened) c.requires.next may c.in-Ok.ensures.ok

pub returns-in-Ok-clause-within : goal.returns-in-Ok-clause-within
returns-in-Ok-clause-within g c = λ doorbell top within. ∣ c.in-Ok.ensures.low doorbell top within ∣₁

pub returns-in-Err-apply_update-clause-offers : goal.returns-in-Err-apply_update-clause-offers
returns-in-Err-apply_update-clause-offers g c = λ offers.
    let S = below g.P.Port.state in
    let F = faults_below g.P.Port.faults in
    let may : MayApply c.args.geometry c.args.reached (is_stopped c.args.held) c.args.update.now.writes = subst (λ (b : Bool). MayApply c.args.geometry c.args.reached b c.args.update.now.writes) c.is_stopped.ensures c.in_default.ensures.ok in
    offers_left c.args.geometry c.args.update.now c.args.reached offers (is_stopped c.args.held) (ports_in S F c.args.held) (ports_in S F c.in-Err-apply_update.held) c.requires.next may c.in-Err-apply_update.refusal (is_stopped c.in-Err-apply_update.held) c.in-Err-apply_update.ensures.err

pub returns-in-Err-apply_update-clause-within : goal.returns-in-Err-apply_update-clause-within
returns-in-Err-apply_update-clause-within g c = λ doorbell top within. ∥∥₁_map (c.in-Err-apply_update.ensures.within doorbell top within) (λ w. within_more (below g.P.Port.state) (faults_below g.P.Port.faults) c.args.geometry doorbell top c.in-Err-apply_update.held w)
