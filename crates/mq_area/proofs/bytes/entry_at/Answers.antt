use Rattle.std.proofs.Common.{◌≡◌, ◌∙◌, ◌+◌, ◌-◌, ◌*◌, ◌++◌, ℕ, length, sym, ap, arith}
use Rattle.mq_blocks.specs.Windows.{number_at}
use Rattle.mq_area.proofs.ReadingDescriptors.{number_at-left, number_at-right}
use Rattle.mq_area.proofs.bytes.entry_at.Goals as goal

pub returns-then-index-lt-ENTRIES : goal.returns-then-index-lt-ENTRIES
returns-then-index-lt-ENTRIES c = c.u32_at.ensures ∙ sym (number_at-left 4 _ c.args.block.now c.args.before.now (omega arith))

pub returns : goal.returns
returns c =
    let at : 56 + 4 * c.args.index - length c.args.block.now ≡ 4 * (c.args.index - 1010) = omega arith in
    c.u32_at-2.ensures ∙ sym (number_at-right 4 (56 + 4 * c.args.index) c.args.block.now c.args.before.now (omega arith) ∙ ap (λ (n : ℕ). number_at 4 n c.args.before.now) at)
