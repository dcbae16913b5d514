use Rattle.std.proofs.Common.{◌++◌, ◌∷◌, [], ℕ, List, take, sym, ap, subst, ◌∙◌}
use Rattle.mq_kv_buckets.specs.declared.operation.KvOp.{KvOp}
use Rattle.mq_kv_entries.specs.Groups.{AreLacking}
use Rattle.mq_kv_entries.proofs.Lacking.{lacking-more, lacking-same, next-taken}
use Rattle.mq_kv_entries.proofs.missing.gather.Goals as goal
use Rattle.mq_kv_entries.proofs.missing.gather.Goals.{in-Some+in_ok-push, in_default}

pub loop-op-preserved : goal.loop-op-preserved
loop-op-preserved c =
    let grown = next-taken c.args.ops.now c.loop-op.op-index c.op-item.result c.loop-op-test.true c.op-item.is in
    let P : List KvOp → Type 0 = λ xs. AreLacking c.args.buckets c.args.held.now.cells xs c.match-bucket_lacked.lacking.items in
    let Q : List ℕ → Type 0 = λ ys. AreLacking c.args.buckets c.args.held.now.cells (take c.loop-op.op-index c.args.ops.now ++ c.op-item.result ∷ []) ys in
    subst P (sym grown) (elim c.match-bucket_lacked.branch [
      | in-Some+in_ok-push w ↦
          subst Q (sym (ap (λ v. v.items) w.lacking-is ∙ w.in_ok-push.ensures.items))
          (lacking-more c.args.buckets c.args.held.now.cells (take c.loop-op.op-index c.args.ops.now) c.loop-op.lacking.items c.op-item.result w.in-Some.b c.loop-op.invariant w.in-Some.ensures.0 w.in-Some.ensures.1)
      | in_default w ↦
          subst Q (sym (ap (λ v. v.items) w.lacking-is))
          (lacking-same c.args.buckets c.args.held.now.cells (take c.loop-op.op-index c.args.ops.now) c.loop-op.lacking.items c.op-item.result c.loop-op.invariant w.in_default.ensures)
    ])
