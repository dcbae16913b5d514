use Rattle.std.proofs.Common.{ap, sym, ◌∙◌, ◌-◌, ℕ, List}
use Rattle.mq_layout.specs.Bits.{pointer_of}
use Rattle.mq_tree.proofs.Decoded.{pointer-far, pointer-near}
use Rattle.mq_tree.proofs.pointers.pointer_at.Goals as goal

pub returns-then-place-lt-DIRECT : goal.returns-then-place-lt-DIRECT
returns-then-place-lt-DIRECT c = sym (pointer-near c.args.blocks.now c.args.inode.now c.args.place c.if-place-lt-DIRECT.true)

pub returns : goal.returns
returns c =
    c.pointer.ensures ∙ ap (λ (page : List ℕ). pointer_of page (c.args.place - 12)) c.stored_block.ensures ∙ sym (pointer-far c.args.blocks.now c.args.inode.now c.args.place c.if-place-lt-DIRECT.false)
