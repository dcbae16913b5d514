use Rattle.std.proofs.Common.{◌∙◌, [], ◌∷◌, ◌++◌, sym, ap}
use Rattle.mq_loose_recover.proofs.Numbers.{wide-more, wide-none}
use Rattle.mq_loose_recover.proofs.read.read_numbers.Goals as goal

pub loop-i-init : goal.loop-i-init
loop-i-init c = c.in_ok-numbers.ensures.items ∙ sym (wide-none _)

pub loop-i-preserved : goal.loop-i-preserved
loop-i-preserved c =
    c.in_ok-push.ensures.items ∙ ap (λ ys. ys ++ c.u64_at.result ∷ []) c.loop-i.invariant ∙ sym (wide-more c.loop-i.i c.args.at c.args.block.now c.u64_at.result c.u64_at.ensures)
