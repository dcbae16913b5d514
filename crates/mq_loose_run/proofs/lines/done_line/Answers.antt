use Rattle.std.proofs.Common.{◌∙◌, ℕ, true, false, Err, set, refl, ap}
use Rattle.std.proofs.lemmas.Result.{err_from_is_err_and}
use Rattle.mq_loose_run.proofs.LineSteps.{done_fails, done_idle, done_whole, read_wait, sides_long, waits_long}
use Rattle.mq_loose_run.proofs.lines.done_line.Goals as goal

pub returns-then-not-index : goal.returns-then-not-index
returns-then-not-index c fuse start lines n next run =
    let r = c.args.running.now in
    let q = c.args.queue in
    done_idle q fuse start lines n next r run (read_wait r.waits.items q c.queue.inside.0 c.index.result.now false (waits_long q fuse start lines n next r run) c.queue.view_is c.index.ensures c.if-not-index.true)

pub drain-requires-clause-inside : goal.drain-requires-clause-inside
drain-requires-clause-inside c =
    let (fuse, start, lines, n, next, run) = c.requires in
    sides_long c.args.queue fuse start lines n next c.args.running.now run

pub returns-in_err-drain : goal.returns-in_err-drain
returns-in_err-drain c fuse start lines n next run =
    let r = c.args.running.now in
    let q = c.args.queue in
    let some = read_wait r.waits.items q c.queue.inside.0 c.index.result.now true (waits_long q fuse start lines n next r run) c.queue.view_is c.index.ensures c.if-not-index.false in
    let p = err_from_is_err_and c.from_residual.result c.from_residual.ensures.1 in
    done_fails q fuse start lines n next r run some (Unit {0}) c.in_err-drain.field-0.0 _ c.from_residual.result c.in_err-drain.ensures (p.1 ∙ ap (λ s. Err s) p.2)

pub returns : goal.returns
returns c fuse start lines n next run =
    let r = c.args.running.now in
    let q = c.args.queue in
    let some = read_wait r.waits.items q c.queue.inside.0 c.index.result.now true (waits_long q fuse start lines n next r run) c.queue.view_is c.index.ensures c.if-not-index.false in
    done_whole q fuse start lines n next r run some _ c.in_ok-drain.ensures refl (ap (λ (k : ℕ). set r.waits.items k false) c.queue.view_is)
