use Rattle.std.proofs.Common.{◌∙◌, ◌<◌, length, refl, sym, arith}
use Rattle.std.proofs.lemmas.List.{get_or_read}
use Rattle.mq_blocks.proofs.WindowsWritten.{list-written, written-nothing}
use Rattle.mq_blocks.proofs.bytes.put_list.Goals as goal

pub loop-i-init : goal.loop-i-init
loop-i-init c = sym (written-nothing _ _)

pub loop-i-preserved : goal.loop-i-preserved
loop-i-preserved c =
    let inside : c.loop-i.i < length c.args.list.now = omega arith in
    list-written _ _ _ _ c.args.list.now c.loop-i.i _ c.b.inside.0 c.loop-i.invariant (rw c.to_le_bytes.ensures at c.put.ensures) inside
    (c.b.view_is ∙ get_or_read c.args.list.now c.loop-i.i c.index-list-i.result inside c.index-list-i.is 0) refl c.requires
