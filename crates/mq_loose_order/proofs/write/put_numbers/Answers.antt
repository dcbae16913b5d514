use Rattle.std.proofs.Common.{◌∙◌, ◌<◌, length, refl, sym, arith}
use Rattle.std.proofs.lemmas.List.{get_or_read}
use Rattle.mq_blocks.proofs.WindowsWritten.{written-nothing}
use Rattle.mq_loose_order.proofs.NumbersWritten.{numbers-written}
use Rattle.mq_loose_order.proofs.write.put_numbers.Goals as goal

pub loop-i-init : goal.loop-i-init
loop-i-init c = sym (written-nothing _ _)

pub loop-i-preserved : goal.loop-i-preserved
loop-i-preserved c =
    let inside : c.loop-i.i < length c.args.numbers.now = omega arith in
    numbers-written _ _ _ _ c.args.numbers.now c.loop-i.i _ c.number.inside.0 c.loop-i.invariant (rw c.to_le_bytes.ensures at c.put.ensures) inside
    (c.number.view_is ∙ get_or_read c.args.numbers.now c.loop-i.i c.index-numbers-i.result inside c.index-numbers-i.is 0) refl c.requires
