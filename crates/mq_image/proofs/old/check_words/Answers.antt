use Rattle.std.proofs.Common.{◌≡◌, ◌+◌, ◌-◌, ◌∙◌, ℕ, sym, ap, arith}
use Rattle.std.proofs.lemmas.Result.{err_from_is_err_and}
use Rattle.mq_image.specs.Faults.{old_words_fault}
use Rattle.mq_image.proofs.OldWords.{words-done, words-read, words-step, words-stop}
use Rattle.mq_image.proofs.Versions.{rings-low, size-is}
use Rattle.mq_image.proofs.old.check_words.Goals as goal

pub u64_at-requires : goal.u64_at-requires
u64_at-requires c =
    let low = rings-low 1 c.loop-queue.queue c.args.queues (omega arith) in
    let size = size-is 1 in
    let room = c.requires.room in
    let at = c.end_of_rings-at.ensures.is in
    omega arith

pub u64_at-requires-in-loop-queue : goal.u64_at-requires-in-loop-queue
u64_at-requires-in-loop-queue c =
    let low = rings-low 1 c.loop-queue.queue c.args.queues (omega arith) in
    let size = size-is 1 in
    let room = c.requires.room in
    let at = c.end_of_rings-at.ensures.is in
    omega arith

pub loop-queue-preserved : goal.loop-queue-preserved
loop-queue-preserved c =
    let e : c.args.queues - c.loop-queue.queue ≡ c.args.queues - (c.loop-queue.queue + 1) + 1 = omega arith in
    sym (words-step _ _ c.loop-queue.queue c.args.file.now _ e (words-read c.loop-queue.queue _ _ _ c.args.file.now _ c.end_of_rings-at.ensures.is c.u64_at.ensures c.u64_at-in-loop-queue.ensures c.are_words-passes.ensures) c.in_ok-check.ensures) ∙ c.loop-queue.invariant

pub returns-in_err-check : goal.returns-in_err-check
returns-in_err-check c =
    let p = err_from_is_err_and c.from_residual.result c.from_residual.ensures.1 in
    rw (p.1, p.2) (sym c.loop-queue.invariant
    ∙ words-stop _ c.loop-queue.queue c.args.file.now _ _ (omega arith) (words-read c.loop-queue.queue _ _ _ c.args.file.now _ c.end_of_rings-at.ensures.is c.u64_at.ensures c.u64_at-in-loop-queue.ensures c.are_words-passes.ensures) c.in_err-check.ensures)

pub returns : goal.returns
returns c =
    let e : c.args.queues - c.loop-queue.queue ≡ 0 = omega arith in
    sym c.loop-queue.invariant ∙ ap (λ (n : ℕ). old_words_fault n c.loop-queue.queue c.args.file.now) e ∙ words-done c.loop-queue.queue c.args.file.now
