use Rattle.std.proofs.Common.{arith, ap, take, ℕ, List}
use Rattle.mq_tree.proofs.TreesKeeping.{read-end, read-more}
use Rattle.mq_tree.proofs.contents.read_file.Goals as goal

pub loop-place-preserved : goal.loop-place-preserved
loop-place-preserved c =
    read-more c.args.blocks.now c.args.inode.now c.loop-place.place c.pointer_at-b.result c.min-count.result c.loop-place.bytes.items c.extend_from_slice.new.self.items c.stored_block.result.now _ c.loop-place.invariant (let t = c.loop-place-test.true in let e = c.block_count-place-end.ensures.is in omega arith)
    c.pointer_at-b.ensures c.stored_block.ensures c.bytes-block.ensures.whole c.min-count.ensures (ap (λ (page : List ℕ). take c.min-count.result page) c.bytes-block.ensures.is) c.in_ok-extend_from_slice.ensures.items

pub returns : goal.returns
returns c = read-end c.args.blocks.now c.args.inode.now c.loop-place.place c.loop-place.bytes.items c.loop-place.invariant (let t = c.loop-place-test.false in let u = c.loop-place.auto.place-end in let e = c.block_count-place-end.ensures.is in omega arith)
