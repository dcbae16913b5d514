use Rattle.std.proofs.Common.{◌≡◌, ℕ, ◌+◌, ◌-◌, length, sym, ◌∙◌, subst, arith}
use Rattle.std.proofs.lemmas.Result.{err_from_is_err_and}
use Rattle.mq_blocks.specs.Drive.{PortState}
use Rattle.mq_command_blocks.specs.Cuts.{HasEnded}
use Rattle.mq_command_blocks.proofs.CutsEnded.{ended_done, ended_failed}
use Rattle.mq_command_blocks.proofs.RunsEnding.{goes_on}
use Rattle.mq_command_blocks.proofs.line.complete_all.Goals as goal

pub completion-preserved : goal.completion-preserved
completion-preserved g c =
    let state = g.P.Port.state in
    let start : PortState = state c.args.queue.now.port in
    let old : PortState = state c.completion.queue.port in
    let new : PortState = state c.complete_one.new.self.port in
    let inv = c.completion.invariant in
    let gives = rw c.in-One.is at c.in_ok-complete_one.ensures.gives in
    let well = gives.0 in
    let ended = ended_done start old new (length start.posted - length old.posted) well.at well.command inv.ended well.posted well.is in
    let count : length start.posted - length old.posted + 1 ≡ length start.posted - length new.posted = omega (arith, ended.left) in
    record {
      goes = goes_on start old new well.at well.command inv.goes well.posted well.is;
      ended = subst (HasEnded start new) count ended;
      no_fault = gives.1 ∙ inv.no_fault;
      done = c.complete_one.ensures.done ∙ inv.done;
      rung = c.complete_one.ensures.rung ∙ inv.rung;
    }

pub returns-in_err-complete_one-clause-ended : goal.returns-in_err-complete_one-clause-ended
returns-in_err-complete_one-clause-ended g c =
    let state = g.P.Port.state in
    let start : PortState = state c.args.queue.now.port in
    let old : PortState = state c.completion.queue.port in
    let n : ℕ = length start.posted - length old.posted in
    let p = err_from_is_err_and c.from_residual.result c.from_residual.ensures.1 in
    rw p.1 (n, subst (λ (u : PortState). HasEnded start u n) (sym c.in_err-complete_one.ensures.gives.1) c.completion.invariant.ended)

pub returns-in-Bad-clause-ended : goal.returns-in-Bad-clause-ended
returns-in-Bad-clause-ended g c =
    let state = g.P.Port.state in
    let start : PortState = state c.args.queue.now.port in
    let old : PortState = state c.completion.queue.port in
    let new : PortState = state c.complete_one.new.self.port in
    let inv = c.completion.invariant in
    let gives = rw c.in-Bad.is at c.in_ok-complete_one.ensures.gives in
    let badly = gives.0 in
    let n : ℕ = length start.posted - length old.posted in
    (n + 1, ended_failed start old new n badly.at badly.command inv.ended badly.posted badly.is)
