use Rattle.std.proofs.Common.{◌∙◌, ℕ, Bool, true, List, Ok, Err, length, set, refl, sym, ap, subst}
use Rattle.std.proofs.lemmas.Result.{err_from_is_err_and}
use Rattle.mq_blocks.specs.Machine.{Writes}
use Rattle.mq_loose_queues.specs.Commits.{Commits, IsRequest, MayCommit}
use Rattle.mq_loose_run.specs.Items.{AreItems}
use Rattle.mq_loose_run.specs.Lines.{queues_state}
use Rattle.mq_loose_run.specs.Steps.{CommitsTo}
use Rattle.mq_loose_run.proofs.LineSteps.{commit_done, commit_fails, line_few, line_may, line_request}
use Rattle.mq_loose_run.proofs.lines.commit_line.Goals as goal

pub commit-requires-clause-request : goal.commit-requires-clause-request
commit-requires-clause-request c =
    let r = c.args.running.now in
    let i = c.in_ok-items.items in
    let are : AreItems c.args.line.now r.marks.items i = subst (λ (ms : List Bool). AreItems c.args.line.now ms i) c.deref.ensures.value c.in_ok-items.ensures in
    let (fuse, start, lines, n, next, run) = c.requires in
    subst (λ (ws : Writes). IsRequest (queues_state r.queues) c.args.queue ws c.deref-3.result.now) (sym c.deref-2.ensures.value)
    (subst (λ (bs : List ℕ). IsRequest (queues_state r.queues) c.args.queue i.writes.items bs) (sym c.deref-3.ensures.value)
    (line_request c.args.queue c.args.line.now fuse start lines n next r run i are))

pub commit-requires-clause-few : goal.commit-requires-clause-few
commit-requires-clause-few c =
    let r = c.args.running.now in
    let i = c.in_ok-items.items in
    let are : AreItems c.args.line.now r.marks.items i = subst (λ (ms : List Bool). AreItems c.args.line.now ms i) c.deref.ensures.value c.in_ok-items.ensures in
    let (fuse, start, lines, n, next, run) = c.requires in
    line_few c.args.queue c.args.line.now fuse start lines n next r run i are

pub commit-requires-clause-may : goal.commit-requires-clause-may
commit-requires-clause-may c =
    let r = c.args.running.now in
    let i = c.in_ok-items.items in
    let are : AreItems c.args.line.now r.marks.items i = subst (λ (ms : List Bool). AreItems c.args.line.now ms i) c.deref.ensures.value c.in_ok-items.ensures in
    let (fuse, start, lines, n, next, run) = c.requires in
    subst (λ (ws : Writes). MayCommit (queues_state r.queues) c.args.queue (length ws) (length c.deref-3.result.now)) (sym c.deref-2.ensures.value)
    (subst (λ (bs : List ℕ). MayCommit (queues_state r.queues) c.args.queue (length i.writes.items) (length bs)) (sym c.deref-3.ensures.value)
    (line_may c.args.queue c.args.line.now fuse start lines n next r run i are))

pub returns-in_err-commit : goal.returns-in_err-commit
returns-in_err-commit c fuse start lines n next run =
    let r = c.args.running.now in
    let i = c.in_ok-items.items in
    let are : AreItems c.args.line.now r.marks.items i = subst (λ (ms : List Bool). AreItems c.args.line.now ms i) c.deref.ensures.value c.in_ok-items.ensures in
    let e = c.in_err-commit.field-0.0 in
    let v = queues_state c.commit.new.queues in
    let made = subst (λ (ws : Writes). CommitsTo {A = Unit {0}} (queues_state r.queues) c.args.queue ws i.frees.items (Err e) v) c.deref-2.ensures.value
    (subst (λ (bs : List ℕ). CommitsTo {A = Unit {0}} (queues_state r.queues) c.args.queue c.deref-2.result.now bs (Err e) v) c.deref-3.ensures.value c.in_err-commit.ensures) in
    let p = err_from_is_err_and c.from_residual-in_err-commit.result c.from_residual-in_err-commit.ensures.1 in
    commit_fails c.args.queue c.args.line.now fuse start lines n next r run i are (Unit {0}) e _ c.from_residual-in_err-commit.result made (p.1 ∙ ap (λ s. Err s) p.2)

pub returns : goal.returns
returns c fuse start lines n next run =
    let r = c.args.running.now in
    let i = c.in_ok-items.items in
    let are : AreItems c.args.line.now r.marks.items i = subst (λ (ms : List Bool). AreItems c.args.line.now ms i) c.deref.ensures.value c.in_ok-items.ensures in
    let v = queues_state c.commit.new.queues in
    let made = subst (λ (ws : Writes). (k : ℕ) × Commits (queues_state r.queues) c.args.queue ws i.frees.items (Ok k) v) c.deref-2.ensures.value
    (subst (λ (bs : List ℕ). (k : ℕ) × Commits (queues_state r.queues) c.args.queue c.deref-2.result.now bs (Ok k) v) c.deref-3.ensures.value c.in_ok-commit.ensures) in
    commit_done c.args.queue c.args.line.now fuse start lines n next r run i are _ made refl (ap (λ (k : ℕ). set r.waits.items k true) c.queue.view_is)
