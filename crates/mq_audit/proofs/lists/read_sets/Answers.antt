use Rattle.std.proofs.Common.{List, [], ℕ, Bor, arith}
use Rattle.mq_audit.proofs.ListsReading.{set_more}
use Rattle.mq_audit.proofs.lists.read_sets.Goals as goal

pub loop-word-preserved : goal.loop-word-preserved
loop-word-preserved c =
    let d : Bor (List ℕ) = record { ref_ptr = (0, 0); now = [] } in
    let more = set_more c.args.geometry (λ (w : Bor (List ℕ)). w.now) _ c.args.words.now d c.loop-word.word-index c.loop-word-test.true c.loop-word.low c.loop-word.sets.items c.push.new.self.items c.loop-word.invariant.read _ c.in_ok-filled.field-0 c.block-in-loop-word.inside.0 c.in-Some.ensures c.in_ok-filled.ensures c.block-in-loop-word.view_is (omega (arith, c.if-block-low.false, c.block.view_is, c.block-in-loop-word.view_is)) c.in_ok-push.ensures.items in
    record { low = more.0; read = more.1 }
