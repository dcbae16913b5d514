use Rattle.std.proofs.Common.{arith, ◌∙◌}
use Rattle.mq_tree.proofs.Parts.{end-bad, end-good}
use Rattle.mq_tree.proofs.file_tails.bad_end.Goals as goal

pub returns-then-bytes-k-ne0 : goal.returns-then-bytes-k-ne0
returns-then-bytes-k-ne0 c =
    end-bad c.args.blocks.now c.args.inode.now c.pointer_at-b.result c.loop-k.k c.bytes-bytes.result.now c.if-inode-ne-FILE.false c.if-from-eq0.false c.pointer_at-b.ensures (c.bytes-bytes.ensures.is ∙ c.stored_block.ensures) c.loop-k.auto.k c.loop-k-test.true c.if-bytes-k-ne0.true

pub returns : goal.returns
returns c = end-good c.args.blocks.now c.args.inode.now c.pointer_at-b.result c.bytes-bytes.result.now c.if-from-eq0.false c.pointer_at-b.ensures (c.bytes-bytes.ensures.is ∙ c.stored_block.ensures) (λ j past inside. c.loop-k.invariant j past (let t = c.loop-k-test.false in omega arith))
