use Rattle.std.proofs.Common.{ℕ, sym, subst}
use Rattle.std.specs.Prelude.{Result, Err, OnOk}
use Rattle.std.proofs.lemmas.Result.{err_from_is_err_and}
use Rattle.mq_queue_side.specs.Drained.{Drains, DrainCause, IsWhole, DrainMakes}
use Rattle.mq_queue_side.specs.Side.{SideState, side_state}
use Rattle.mq_queue_side.specs.declared.answers.Cause.{Cause}
use Rattle.mq_queue_side.proofs.Drained.{drains, drain_cause, drain_whole, cut_cause, cut_head_cause}
use Rattle.mq_queue_side.proofs.DrainedEvents.{makes, cut_before, cut_between}
use Rattle.mq_queue_side.proofs.side.QueueSide.drain.Goals as goal

pub returns-clause-drains : goal.returns-clause-drains
returns-clause-drains g c =
    let old : SideState = side_state g.P.Port.state g.P.Port.faults c.args.self.now in
    let mid : SideState = side_state g.P.Port.state g.P.Port.faults c.complete.new.self in
    let new : SideState = side_state g.P.Port.state g.P.Port.faults c.advance.new.self in
    subst (λ (r : Result ℕ Cause). Drains old r new) (sym c.answer.ensures) (drains old mid new c.in_ok-failed.failed _ c.in_ok-failed.ensures.completes c.in_ok-advance.ensures.advances)

pub returns-clause-cause : goal.returns-clause-cause
returns-clause-cause g c =
    let old : SideState = side_state g.P.Port.state g.P.Port.faults c.args.self.now in
    let mid : SideState = side_state g.P.Port.state g.P.Port.faults c.complete.new.self in
    let new : SideState = side_state g.P.Port.state g.P.Port.faults c.advance.new.self in
    subst (λ (r : Result ℕ Cause). DrainCause r old.faults new.faults) (sym c.answer.ensures) (drain_cause old mid new c.in_ok-failed.failed _ c.in_ok-failed.ensures.completes c.in_ok-advance.ensures.advances)

pub returns-clause-whole : goal.returns-clause-whole
returns-clause-whole g c =
    let old : SideState = side_state g.P.Port.state g.P.Port.faults c.args.self.now in
    let mid : SideState = side_state g.P.Port.state g.P.Port.faults c.complete.new.self in
    let new : SideState = side_state g.P.Port.state g.P.Port.faults c.advance.new.self in
    subst (λ (r : Result ℕ Cause). OnOk r (IsWhole old new)) (sym c.answer.ensures) (drain_whole old mid new c.in_ok-failed.failed _ c.in_ok-failed.ensures.completes c.in_ok-advance.ensures.advances c.in_ok-failed.ensures.stays)

pub returns-clause-counts : goal.returns-clause-counts
returns-clause-counts g c first q k us log s n = c.in_ok-advance.ensures.counts first q k us log (c.in_ok-failed.ensures.stays q k us log s) (c.in_ok-failed.ensures.counts first q k us log s n)

pub returns-in_err-advance-clause-counts : goal.returns-in_err-advance-clause-counts
returns-in_err-advance-clause-counts g c first q k us log s n = c.in_err-advance.ensures.counts first q k us log (c.in_ok-failed.ensures.stays q k us log s) (c.in_ok-failed.ensures.counts first q k us log s n)

pub returns-in_err-failed-clause-cause : goal.returns-in_err-failed-clause-cause
returns-in_err-failed-clause-cause g c =
    let old : SideState = side_state g.P.Port.state g.P.Port.faults c.args.self.now in
    let new : SideState = side_state g.P.Port.state g.P.Port.faults c.complete.new.self in
    let p = err_from_is_err_and c.from_residual.result c.from_residual.ensures.1 in
    rw p.1 (subst (λ (e : Cause). DrainCause (Err e) old.faults new.faults) (sym p.2) (cut_cause old new _ c.in_err-failed.ensures.completes))

pub returns-in_err-advance-clause-cause : goal.returns-in_err-advance-clause-cause
returns-in_err-advance-clause-cause g c =
    let old : SideState = side_state g.P.Port.state g.P.Port.faults c.args.self.now in
    let mid : SideState = side_state g.P.Port.state g.P.Port.faults c.complete.new.self in
    let new : SideState = side_state g.P.Port.state g.P.Port.faults c.advance.new.self in
    let p = err_from_is_err_and c.from_residual-in_err-advance.result c.from_residual-in_err-advance.ensures.1 in
    rw p.1 (subst (λ (e : Cause). DrainCause (Err e) old.faults new.faults) (sym p.2) (cut_head_cause old mid new c.in_ok-failed.failed _ c.in_ok-failed.ensures.completes c.in_err-advance.ensures.advances))

pub returns-in_err-advance-clause-told : goal.returns-in_err-advance-clause-told
returns-in_err-advance-clause-told g c first d = c.in_err-advance.ensures.told first (c.in_ok-failed.ensures.told first d)

pub returns-clause-told : goal.returns-clause-told
returns-clause-told g c first d = c.in_ok-advance.ensures.told first (c.in_ok-failed.ensures.told first d)

pub returns-clause-makes : goal.returns-clause-makes
returns-clause-makes g c =
    let old : SideState = side_state g.P.Port.state g.P.Port.faults c.args.self.now in
    let mid : SideState = side_state g.P.Port.state g.P.Port.faults c.complete.new.self in
    let new : SideState = side_state g.P.Port.state g.P.Port.faults c.advance.new.self in
    subst (λ (r : Result ℕ Cause). DrainMakes old r new) (sym c.answer.ensures) (makes old mid new c.in_ok-failed.failed c.in_ok-failed.ensures.completes c.in_ok-failed.ensures.ended c.in_ok-advance.ensures.moves)

pub returns-in_err-failed-clause-makes : goal.returns-in_err-failed-clause-makes
returns-in_err-failed-clause-makes g c =
    let old : SideState = side_state g.P.Port.state g.P.Port.faults c.args.self.now in
    let new : SideState = side_state g.P.Port.state g.P.Port.faults c.complete.new.self in
    let p = err_from_is_err_and c.from_residual.result c.from_residual.ensures.1 in
    rw p.1 (subst (λ (e : Cause). DrainMakes old (Err e) new) (sym p.2) (cut_before old new _ c.in_err-failed.ensures.completes c.in_err-failed.ensures.ended))

pub returns-in_err-advance-clause-makes : goal.returns-in_err-advance-clause-makes
returns-in_err-advance-clause-makes g c =
    let old : SideState = side_state g.P.Port.state g.P.Port.faults c.args.self.now in
    let mid : SideState = side_state g.P.Port.state g.P.Port.faults c.complete.new.self in
    let new : SideState = side_state g.P.Port.state g.P.Port.faults c.advance.new.self in
    let p = err_from_is_err_and c.from_residual-in_err-advance.result c.from_residual-in_err-advance.ensures.1 in
    rw p.1 (subst (λ (e : Cause). DrainMakes old (Err e) new) (sym p.2) (cut_between old mid new c.in_ok-failed.failed c.in_ok-failed.ensures.completes c.in_ok-failed.ensures.ended c.in_err-advance.ensures.moves))
