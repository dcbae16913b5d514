use Rattle.mq_layout.specs.Superblock.{super_header}
use Rattle.mq_layout.proofs.FieldsWrites.{header-written}
use Rattle.mq_layout.proofs.superblock.put_super.Goals as goal

pub returns : goal.returns
unfolding super_header
returns c =
    header-written _ _ _ _ _ _ _ _ _ _ _ _ _ c.requires c.put.ensures (rw c.to_le_bytes.ensures at c.put-2.ensures) (rw (c.to_le_bytes-2.ensures, c.queues.ensures) at c.put-3.ensures)
    (rw (c.to_le_bytes-3.ensures, c.area.ensures) at c.put-4.ensures) (rw (c.to_le_bytes-4.ensures, c.meta.ensures) at c.put-5.ensures) (rw (c.to_le_bytes-5.ensures, c.zone.ensures) at c.put-6.ensures)
    (rw (c.to_le_bytes-6.ensures, c.inodes.ensures) at c.put-7.ensures)
