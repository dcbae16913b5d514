use Rattle.std.proofs.Common.{◌≡◌, ◌≢◌, ◌+◌, ◌≤◌, [], length, ap, sym, ◌∙◌, arith, Ok}
use Rattle.std.proofs.lemmas.Result.{err_from_is_err_and}
use Rattle.mq_blocks.specs.Drive.{PortState}
use Rattle.mq_watch.proofs.FlakyAnswers.{step_under, step_ends, off_under, OneEnded}
use Rattle.mq_watch.proofs.flaky.FlakyPortPort.step.Goals as goal

pub returns-in_err-step-clause-gives : goal.returns-in_err-step-clause-gives
returns-in_err-step-clause-gives g c =
    let same = c.is_refused.ensures.no c.if-is_refused.false in
    let gives = c.in_err-step.ensures in
    let p = err_from_is_err_and c.from_residual.result c.from_residual.ensures.1 in
    let at = ap g.P.Port.state c.is_refused.ensures.port in
    rw p.1 ((λ none. gives.0 (ap (λ (s : PortState). s.posted) at ∙ none)), gives.1 ∙ at, off_under _ _ _ _ _ same (ap g.P.Port.faults c.is_refused.ensures.port) gives.2)

pub returns-clause-gives : goal.returns-clause-gives
returns-clause-gives g c =
    let same = c.is_refused.ensures.no c.if-is_refused.false in
    step_under _ _ _ (Ok c.in_ok-step.step) _ _ _ _ _ same (ap g.P.Port.state c.is_refused.ensures.port) (ap g.P.Port.faults c.is_refused.ensures.port) c.in_ok-step.ensures

pub invariant_of-self-2 : goal.invariant_of-self-2
invariant_of-self-2 g c =
    let old : PortState = g.P.Port.state c.is_refused.new.self.port in
    let new : PortState = g.P.Port.state c.step-2.new.self in
    let was : PortState = g.P.Port.state c.args.self.now.port in
    let at : old ≡ was = ap g.P.Port.state c.is_refused.ensures.port in
    let count : c.args.self.now.posted ≡ length was.posted = c.args.self.now.counts_posted in
    let some : old.posted ≢ [] = λ none.
    let nothing : length was.posted ≡ 0 = ap (λ (s : PortState). length s.posted) (sym at) ∙ ap length none in
    c.if-self-eq0.false (omega (arith, count, nothing)) in
    let ended : OneEnded old new = step_ends old new c.in_ok-step.step _ _ some c.in_ok-step.ensures in
    let less : length new.posted + 1 ≡ length old.posted = ended.posted in
    let now : c.is_refused.new.self.posted ≡ length old.posted = c.is_refused.new.self.counts_posted in
    let few : length old.posted ≤ old.doorbell = c.is_refused.new.self.few in
    record {
      counts_staged = c.is_refused.new.self.counts_staged ∙ ap length (sym ended.pending);
      counts_posted = omega (arith, now, less);
      once = c.is_refused.new.self.once;
      few = let door = ended.doorbell in omega (arith, few, less, door);
    }
