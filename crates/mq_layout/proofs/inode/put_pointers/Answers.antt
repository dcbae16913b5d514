use Rattle.std.proofs.Common.{refl, sym, arith}
use Rattle.mq_blocks.proofs.WindowsWritten.{list-written, written-nothing}
use Rattle.mq_layout.proofs.inode.put_pointers.Goals as goal

pub loop-k-init : goal.loop-k-init
loop-k-init c = sym (written-nothing _ _)

pub loop-k-preserved : goal.loop-k-preserved
loop-k-preserved c = list-written _ _ _ _ c.args.pointers.now c.loop-k.k _ _ c.loop-k.invariant (rw c.to_le_bytes.ensures at c.put.ensures) (omega arith) refl refl (omega arith)
