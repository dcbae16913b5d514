use Rattle.std.proofs.Common.{rules, ◌≡◌, ◌<◌, ◌-◌, List, length, sym, ◌∙◌, subst, arith, vec_len}
use Rattle.mq_block_text.specs.Text.{AreGoodItems}
use Rattle.mq_block_text.specs.declared.item.BlockItem.{BlockItem}
use Rattle.mq_block_trace.proofs.LinesFills.{good_at}
use Rattle.mq_block_trace.proofs.LinesFills.{good_set}
use Rattle.mq_block_trace.proofs.lines.fills_of.Goals as goal

pub index_mut-requires : goal.index_mut-requires
index_mut-requires c =
    let items : List BlockItem = c.as_slice-items.result.now in
    let view : items ≡ c.args.line.now = c.as_slice-items.ensures.value ∙ c.line.view_is in
    let good : AreGoodItems items = subst AreGoodItems (sym view) c.requires in
    let within : c.loop-k.k - 1 < length items = let inside = c.loop-k.invariant.within in let some = c.loop-k-test.true in omega arith in
    let small : c.in-Set.block < 256 = good_set _ c.in-Set.block c.in-Set.byte c.in-Set.is (good_at items (c.loop-k.k - 1) _ within good) in
    let len : vec_len c.loop-k.fills ≡ length c.loop-k.fills.items = search rules in
    let whole = c.loop-k.invariant.whole in
    let is : c.block.inside.0 ≡ c.in-Set.block = c.block.view_is in
    omega (arith, small, len, whole, is)
