use Rattle.std.proofs.Common.{◌≡◌, ◌+◌, ◌∷◌, List, drop, sym, ap, subst, ◌∙◌}
use Rattle.std.proofs.lemmas.List.{drop_more}
use Rattle.mq_kv_buckets.specs.declared.operation.KvOp.{KvOp}
use Rattle.mq_kv_buckets.specs.declared.operation.KvReply.{KvReply}
use Rattle.mq_kv_entries.proofs.WorkingStepped.{IsRun, run-more}
use Rattle.mq_kv_entries.proofs.group.run_all.Goals as goal

pub loop-op-preserved : goal.loop-op-preserved
loop-op-preserved c =
    let ops : List KvOp = c.args.ops.now in
    let rest : List KvOp = drop (c.loop-op.op-index + 1) c.args.ops.now in
    let next : drop c.loop-op.op-index c.args.ops.now ≡ c.op-item.result ∷ drop (c.loop-op.op-index + 1) c.args.ops.now =
    drop_more c.args.ops.now c.loop-op.op-index c.op-item.result c.loop-op-test.true ∙ ap (λ (x : KvOp). x ∷ drop (c.loop-op.op-index + 1) c.args.ops.now) (sym c.op-item.is) in
    let P : List KvReply → Type 0 = λ rs. IsRun c.args.buckets c.args.working.now c.step.new.working c.args.ops.now (drop (c.loop-op.op-index + 1) c.args.ops.now) rs in
    subst P (sym c.in_ok-push.ensures.items)
    (run-more c.args.buckets c.args.working.now c.loop-op.working c.step.new.working c.args.ops.now (drop c.loop-op.op-index c.args.ops.now) (drop (c.loop-op.op-index + 1) c.args.ops.now) c.op-item.result c.loop-op.replies.items c.in_ok-step.field-0
    c.requires.some next c.loop-op.invariant c.in_ok-step.ensures.reply c.in_ok-step.ensures.stepped)
