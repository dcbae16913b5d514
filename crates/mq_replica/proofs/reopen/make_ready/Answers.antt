use Rattle.std.proofs.Common.{◌≤◌, IfErr, IfOk, ℕ, subst, sym}
use Rattle.std.proofs.Math.Logic.{∥∥₁_elim}
use Rattle.std.proofs.lemmas.Result.{IfErr-weaker}
use Rattle.std.specs.Coded.{Coded-set, coded_ℕ}
use Rattle.mq_blocks.specs.Machine.{Writes}
use Rattle.mq_replica.specs.Applying.{Leaves}
use Rattle.mq_replica.specs.Held.{IsReady, IsWithin, is_stopped, ports_in}
use Rattle.mq_replica.specs.Views.{below, faults_below}
use Rattle.mq_replica.proofs.Propositions.{quiet_drive-prop}
use Rattle.mq_replica.proofs.reopen.make_ready.Goals as goal

pub reopen-requires-clause-one : goal.reopen-requires-clause-one
reopen-requires-clause-one g c = ∥∥₁_elim (subst (λ h. ∥ IsReady (below g.P.Port.state) (faults_below g.P.Port.faults) c.args.geometry h ∥₁) c.in-Apart.is c.requires.ready) (Coded-set coded_ℕ _ _) (λ is. is.0)

pub reopen-requires-clause-quiet : goal.reopen-requires-clause-quiet
reopen-requires-clause-quiet g c = ∥∥₁_elim (subst (λ h. ∥ IsReady (below g.P.Port.state) (faults_below g.P.Port.faults) c.args.geometry h ∥₁) c.in-Apart.is c.requires.ready) (quiet_drive-prop c.args.geometry _) (λ is. is.1)

pub returns-in-Opened-clause-low : goal.returns-in-Opened-clause-low
returns-in-Opened-clause-low g c =
    let S = below g.P.Port.state in
    let F = faults_below g.P.Port.faults in
    subst (λ h. IfOk c.with_room.result (λ o. (doorbell top : ℕ) → IsWithin S F c.args.geometry doorbell top h → ((g.P.Port.state o.side.pmr.port.port).doorbell ≤ doorbell) × (o.number ≤ top))) (sym c.in-Opened.is) (c.with_room.ensures.low)

pub returns-in-Opened-clause-err : goal.returns-in-Opened-clause-err
returns-in-Opened-clause-err g c =
    let S = below g.P.Port.state in
    let F = faults_below g.P.Port.faults in
    subst (λ h. IfErr c.with_room.result (λ e. (ws : Writes) → Leaves c.args.geometry ws (ports_in S F h) e.1 (is_stopped e.0) (ports_in S F e.0))) (sym c.in-Opened.is) (c.with_room.ensures.err)

pub returns-in-Opened-clause-within : goal.returns-in-Opened-clause-within
returns-in-Opened-clause-within g c =
    let S = below g.P.Port.state in
    let F = faults_below g.P.Port.faults in
    subst (λ h. IfErr c.with_room.result (λ e. (doorbell top : ℕ) → IsWithin S F c.args.geometry doorbell top h → ∥ IsWithin S F c.args.geometry doorbell top e.0 ∥₁)) (sym c.in-Opened.is) (IfErr-weaker c.with_room.result _ _ (λ e f doorbell top within. ∣ f doorbell top within ∣₁) c.with_room.ensures.within)

pub returns-in-Apart-clause-low : goal.returns-in-Apart-clause-low
returns-in-Apart-clause-low g c =
    let S = below g.P.Port.state in
    let F = faults_below g.P.Port.faults in
    subst (λ h. IfOk c.reopen.result (λ o. (doorbell top : ℕ) → IsWithin S F c.args.geometry doorbell top h → ((g.P.Port.state o.side.pmr.port.port).doorbell ≤ doorbell) × (o.number ≤ top))) (sym c.in-Apart.is) (c.reopen.ensures.low)

pub returns-in-Apart-clause-err : goal.returns-in-Apart-clause-err
returns-in-Apart-clause-err g c =
    let S = below g.P.Port.state in
    let F = faults_below g.P.Port.faults in
    subst (λ h. IfErr c.reopen.result (λ e. (ws : Writes) → Leaves c.args.geometry ws (ports_in S F h) e.1 (is_stopped e.0) (ports_in S F e.0))) (sym c.in-Apart.is) (c.reopen.ensures.err)

pub returns-in-Apart-clause-within : goal.returns-in-Apart-clause-within
returns-in-Apart-clause-within g c =
    let S = below g.P.Port.state in
    let F = faults_below g.P.Port.faults in
    subst (λ h. IfErr c.reopen.result (λ e. (doorbell top : ℕ) → IsWithin S F c.args.geometry doorbell top h → ∥ IsWithin S F c.args.geometry doorbell top e.0 ∥₁)) (sym c.in-Apart.is) (IfErr-weaker c.reopen.result _ _ (λ e f doorbell top within. ∣ f doorbell top within ∣₁) c.reopen.ensures.within)
