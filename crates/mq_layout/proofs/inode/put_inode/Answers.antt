use Rattle.std.proofs.Common.{◌∙◌, ◌+◌, ℕ, List, ap, refl}
use Rattle.mq_blocks.specs.Windows.{written}
use Rattle.mq_layout.proofs.FieldsWrites.{inode-written, zeros-is}
use Rattle.mq_layout.proofs.inode.put_inode.Goals as goal

pub returns-clause-is : goal.returns-clause-is
returns-clause-is c =
    inode-written _ _ _ _ _ _ _ _ _ c.args.inode.now c.requires.inside c.requires.twelve c.put.ensures (rw c.to_le_bytes.ensures at c.put-2.ensures)
    (c.put-3.ensures ∙ ap (λ (xs : List ℕ). written c.put-2.new.block (c.args.start + 4) xs) (zeros-is 4 4 refl)) (rw c.to_le_bytes-2.ensures at c.put-4.ensures) c.put_pointers.ensures (rw c.to_le_bytes-3.ensures at c.put-5.ensures)
    (c.put-6.ensures ∙ ap (λ (xs : List ℕ). written c.put-5.new.block (c.args.start + 68) xs) (zeros-is 60 60 refl))
