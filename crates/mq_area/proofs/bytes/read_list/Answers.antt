use Rattle.std.proofs.Common.{◌≡◌, ◌∙◌, ◌+◌, ◌*◌, ℕ, List, [], ◌∷◌, ◌++◌, sym, ap, arith}
use Rattle.mq_blocks.specs.Windows.{number_at}
use Rattle.mq_blocks.proofs.WindowsReadings.{numbers-none, numbers-more}
use Rattle.mq_area.proofs.bytes.read_list.Goals as goal

pub loop-i-init : goal.loop-i-init
loop-i-init c = c.in_ok-list.ensures.items ∙ sym (numbers-none _)

pub loop-i-preserved : goal.loop-i-preserved
loop-i-preserved c =
    let at : 56 + 4 * (c.args.first + c.loop-i.i) ≡ 56 + 4 * c.args.first + 4 * c.loop-i.i = omega arith in
    c.in_ok-push.ensures.items ∙ ap (λ (ys : List ℕ). ys ++ c.entry_at.result ∷ []) c.loop-i.invariant
    ∙ sym (numbers-more c.loop-i.i (56 + 4 * c.args.first) (c.args.block.now ++ c.args.before.now) c.entry_at.result (c.entry_at.ensures ∙ ap (λ (n : ℕ). number_at 4 n (c.args.block.now ++ c.args.before.now)) at))
