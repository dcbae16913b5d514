use Rattle.std.proofs.Common.{◌≡◌, ◌<◌, ◌+◌, ◌^◌, ◌∙◌, [], Some, ℕ, ap, subst, sym}
use Rattle.std.specs.Vec.{vec_capacity}
use Rattle.mq_replica.specs.Held.{IsKeeping, reached_by, replica_of, replica_with}
use Rattle.mq_replica.specs.Offers.{Offers}
use Rattle.mq_replica.specs.Replicas.{replica_state}
use Rattle.mq_replica.specs.Views.{below, faults_below}
use Rattle.mq_replica.proofs.Within.{keeping_after, keeping_more, low_kept, not_ok, ready_kept}
use Rattle.mq_replica.proofs.replica.Replica+P.offer.Goals as goal

pub invariant_of-self-inside : goal.invariant_of-self-inside
invariant_of-self-inside g c =
    let S = below g.P.Port.state in
    let F = faults_below g.P.Port.faults in
    let kept = subst (λ r. ∥ IsKeeping S F r.geometry r.offers r.held ∥₁) (sym c.self.view_is) c.args.self.now.keeping in
    record {
      keeping = keeping_more S F _ _ _ kept;
      empty = subst (λ r. r.spare.items ≡ []) (sym c.self.view_is) c.args.self.now.empty;
      room = subst (λ r. 0 < vec_capacity r.spare) (sym c.self.view_is) c.args.self.now.room;
    }

pub try_update-held-requires-clause-ready : goal.try_update-held-requires-clause-ready
try_update-held-requires-clause-ready g c =
    let S = below g.P.Port.state in
    let F = faults_below g.P.Port.faults in
    let kept = subst (λ r. ∥ IsKeeping S F r.geometry r.offers r.held ∥₁) (sym c.self.view_is) c.args.self.now.keeping in
    let at : c.self.inside.0.1.1.1.0 ≡ Some c.in-Some.held = sym c.take.ensures.value ∙ c.in-Some.is in
    let held = subst (λ h. ∥ IsKeeping S F c.self.inside.0.0 c.self.inside.0.1.1.0 h ∥₁) at kept in
    ready_kept S F _ _ c.in-Some.held held

pub try_update-held-requires-clause-within : goal.try_update-held-requires-clause-within
try_update-held-requires-clause-within g c =
    let S = below g.P.Port.state in
    let F = faults_below g.P.Port.faults in
    let kept = subst (λ r. ∥ IsKeeping S F r.geometry r.offers r.held ∥₁) (sym c.self.view_is) c.args.self.now.keeping in
    let at : c.self.inside.0.1.1.1.0 ≡ Some c.in-Some.held = sym c.take.ensures.value ∙ c.in-Some.is in
    let held = subst (λ h. ∥ IsKeeping S F c.self.inside.0.0 c.self.inside.0.1.1.0 h ∥₁) at kept in
    let same = ap (λ h. replica_of S F c.self.inside.0.0 c.self.inside.0.1.0.0 c.self.inside.0.1.1.0 h) (sym at) ∙ ap (λ r. replica_state S F r) c.self.view_is in
    let few : c.self.inside.0.1.1.0 < 2 ^ 48 = subst (λ r. r.offers < 2 ^ 48) (sym same) c.requires.few in
    low_kept S F _ _ c.in-Some.held few held

pub invariant_of-self-in-Ok : goal.invariant_of-self-in-Ok
invariant_of-self-in-Ok g c =
    let S = below g.P.Port.state in
    let F = faults_below g.P.Port.faults in
    let kept = subst (λ r. ∥ IsKeeping S F r.geometry r.offers r.held ∥₁) (sym c.self.view_is) c.args.self.now.keeping in
    let at : c.self.inside.0.1.1.1.0 ≡ Some c.in-Some.held = sym c.take.ensures.value ∙ c.in-Some.is in
    let held = subst (λ h. ∥ IsKeeping S F c.self.inside.0.0 c.self.inside.0.1.1.0 h ∥₁) at kept in
    record {
      keeping = keeping_after S F _ _ c.in-Some.held c.try_update-held.result.0 held c.try_update-held.ensures.ready c.try_update-held.ensures.within;
      empty = subst (λ r. r.spare.items ≡ []) (sym c.self.view_is) c.args.self.now.empty;
      room = subst (λ r. 0 < vec_capacity r.spare) (sym c.self.view_is) c.args.self.now.room;
    }

pub invariant_of-self-in_default-answer : goal.invariant_of-self-in_default-answer
invariant_of-self-in_default-answer g c =
    let S = below g.P.Port.state in
    let F = faults_below g.P.Port.faults in
    let kept = subst (λ r. ∥ IsKeeping S F r.geometry r.offers r.held ∥₁) (sym c.self.view_is) c.args.self.now.keeping in
    let at : c.self.inside.0.1.1.1.0 ≡ Some c.in-Some.held = sym c.take.ensures.value ∙ c.in-Some.is in
    let held = subst (λ h. ∥ IsKeeping S F c.self.inside.0.0 c.self.inside.0.1.1.0 h ∥₁) at kept in
    record {
      keeping = keeping_after S F _ _ c.in-Some.held c.try_update-held.result.0 held c.try_update-held.ensures.ready c.try_update-held.ensures.within;
      empty = subst (λ r. r.spare.items ≡ []) (sym c.self.view_is) c.args.self.now.empty;
      room = subst (λ r. 0 < vec_capacity r.spare) (sym c.self.view_is) c.args.self.now.room;
    }

pub returns-in-Ok : goal.returns-in-Ok
returns-in-Ok g c =
    let S = below g.P.Port.state in
    let F = faults_below g.P.Port.faults in
    let kept = subst (λ r. ∥ IsKeeping S F r.geometry r.offers r.held ∥₁) (sym c.self.view_is) c.args.self.now.keeping in
    let at : c.self.inside.0.1.1.1.0 ≡ Some c.in-Some.held = sym c.take.ensures.value ∙ c.in-Some.is in
    let held = subst (λ h. ∥ IsKeeping S F c.self.inside.0.0 c.self.inside.0.1.1.0 h ∥₁) at kept in
    let G = c.self.inside.0.0 in
    let O = c.self.inside.0.1.1.0 in
    let N = c.self.inside.0.1.0.0 in
    let same = ap (λ h. replica_of S F G N O h) (sym at) ∙ ap (λ r. replica_state S F r) c.self.view_is in
    let said = subst (λ r. Offers r c.args.update.now c.try_update-held.result.1 (replica_with S F G (reached_by N c.try_update-held.result.1) (O + 1) c.try_update-held.result.0)) same (c.try_update-held.ensures.offers O) in
    subst (λ a. Offers (replica_state S F c.args.self.now) c.args.update.now a (replica_with S F G (reached_by N a) (O + 1) c.try_update-held.result.0)) c.in-Ok.is said

pub returns-in_default-answer : goal.returns-in_default-answer
returns-in_default-answer g c =
    let S = below g.P.Port.state in
    let F = faults_below g.P.Port.faults in
    let kept = subst (λ r. ∥ IsKeeping S F r.geometry r.offers r.held ∥₁) (sym c.self.view_is) c.args.self.now.keeping in
    let at : c.self.inside.0.1.1.1.0 ≡ Some c.in-Some.held = sym c.take.ensures.value ∙ c.in-Some.is in
    let held = subst (λ h. ∥ IsKeeping S F c.self.inside.0.0 c.self.inside.0.1.1.0 h ∥₁) at kept in
    let G = c.self.inside.0.0 in
    let O = c.self.inside.0.1.1.0 in
    let N = c.self.inside.0.1.0.0 in
    let same = ap (λ h. replica_of S F G N O h) (sym at) ∙ ap (λ r. replica_state S F r) c.self.view_is in
    let said = subst (λ r. Offers r c.args.update.now c.try_update-held.result.1 (replica_with S F G (reached_by N c.try_update-held.result.1) (O + 1) c.try_update-held.result.0)) same (c.try_update-held.ensures.offers O) in
    subst (λ (n : ℕ). Offers (replica_state S F c.args.self.now) c.args.update.now c.try_update-held.result.1 (replica_with S F G n (O + 1) c.try_update-held.result.0)) (not_ok c.try_update-held.result.1 N c.in_default-answer.not-Ok) said
