use Rattle.std.proofs.Common.{ap, arith, get_or, subst, sym, ◌∙◌, ◌+◌, ◌*◌, Option, ℕ, false}
use Rattle.mq_blocks.specs.Geometry.{meta_of}
use Rattle.mq_tree.specs.Laid.{zone_block}
use Rattle.mq_tree.specs.declared.corrupt.CorruptCause.{CorruptCause}
use Rattle.mq_tree.proofs.Marks.{HasCause, bit-clear, bit-more, bit-right}
use Rattle.mq_tree.proofs.Parts.{agree, differ}
use Rattle.mq_tree.proofs.bitmap_check.zone_cause.Goals as goal
use Rattle.mq_tree.proofs.bitmap_check.zone_cause.Goals.{then-bit-is_used+else-is_used, else-bit-is_used}

pub returns-then-is_used : goal.returns-then-is_used
returns-then-is_used c =
    let is_used = λ (k : ℕ). get_or c.args.used.now (zone_block c.args.geometry c.args.zone k) false in
    let at = ap (λ (n : ℕ). get_or c.args.used.now n false) (ap (λ (m : ℕ). m + c.args.zone * c.zone.result + c.loop-k.k) c.meta.ensures ∙ ap (λ (z : ℕ). meta_of c.args.geometry + c.args.zone * z + c.loop-k.k) c.zone.ensures) in
    bit-clear c.args.block.now is_used _ c.loop-k.k c.bit.result (let t = c.loop-k-test.true in let e = c.zone-k-end.ensures in omega arith) c.bit.ensures (λ e. differ _ _ c.if-bit-is_used.true (e ∙ sym at)) (sym at ∙ c.if-is_used.true)

pub loop-k-preserved : goal.loop-k-preserved
loop-k-preserved c =
    let is_used = λ (k : ℕ). get_or c.args.used.now (zone_block c.args.geometry c.args.zone k) false in
    let at = ap (λ (n : ℕ). get_or c.args.used.now n false) (ap (λ (m : ℕ). m + c.args.zone * c.zone.result + c.loop-k.k) c.meta.ensures ∙ ap (λ (z : ℕ). meta_of c.args.geometry + c.args.zone * z + c.loop-k.k) c.zone.ensures) in
    elim c.if-bit-is_used.branch [
      | then-bit-is_used+else-is_used w ↦
          subst (λ (o : Option CorruptCause). HasCause c.args.block.now is_used (c.loop-k.k + 1) o) (sym w.cause-is) (bit-more c.args.block.now is_used c.loop-k.k c.loop-k.cause c.bit.result c.loop-k.invariant c.bit.ensures (λ e. differ _ _ w.if-bit-is_used.true (e ∙ sym at)) (sym at ∙ w.if-is_used.false))
      | else-bit-is_used w ↦
          subst (λ (o : Option CorruptCause). HasCause c.args.block.now is_used (c.loop-k.k + 1) o) (sym w.cause-is) (bit-right c.args.block.now is_used c.loop-k.k c.loop-k.cause c.bit.result c.loop-k.invariant c.bit.ensures (agree _ _ w.if-bit-is_used.false ∙ at))
    ]
