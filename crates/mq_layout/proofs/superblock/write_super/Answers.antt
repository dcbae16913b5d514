use Rattle.std.proofs.Common.{◌∙◌, ap, List, ℕ}
use Rattle.mq_blocks.specs.Windows.{written}
use Rattle.mq_layout.specs.Superblock.{super_header}
use Rattle.mq_layout.proofs.SuperblockForms.{super-written}
use Rattle.mq_layout.proofs.superblock.write_super.Goals as goal

pub returns : goal.returns
returns c = super-written _ _ (c.put_super.ensures ∙ ap (λ (w : List ℕ). written w 0 (super_header c.args.geometry)) (c.bytes_mut.ensures.is ∙ c.clear.ensures))
