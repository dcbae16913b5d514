use Rattle.std.proofs.Common.{◌≡◌, length, subst, rules}
use Rattle.mq_blocks.specs.Descriptor.{Descriptor, header_bytes}
use Rattle.mq_blocks.specs.Windows.{written}
use Rattle.mq_area.proofs.DescriptorWritten.{header-written}
use Rattle.mq_loose_order.specs.Form.{listing, loose_magic}
use Rattle.mq_loose_order.proofs.write.put_header.Goals as goal

pub returns : goal.returns
returns c =
    let i = c.d.inside in
    let deps = c.args.deps.now in
    let l : c.len.result ≡ length i.logged.items = search rules in
    let d : Descriptor = record { queue = i.queue; number = i.number; place = i.place; prev_place = i.prev_place; prev_number = i.prev_number; logged = i.logged.items; revoked = i.revoked.items } in
    let P : Descriptor → Type 0 = λ x. c.put-9.new.block ≡ written c.args.block.now 0 (header_bytes loose_magic 1 (listing deps x)) in
    subst P c.d.view_is (header-written loose_magic 1 _ _ _ _ _ _ _ _ _ _ (listing deps d) c.requires.whole (rw c.to_le_bytes.ensures at c.put.ensures)
    (rw c.to_le_bytes-2.ensures at c.put-2.ensures) (rw c.to_le_bytes-3.ensures at c.put-3.ensures) (rw c.to_le_bytes-4.ensures at c.put-4.ensures) (rw c.to_le_bytes-5.ensures at c.put-5.ensures)
    (rw c.to_le_bytes-6.ensures at c.put-6.ensures) (rw c.to_le_bytes-7.ensures at c.put-7.ensures) (rw (c.to_le_bytes-8.ensures, l) at c.put-8.ensures) (rw c.to_le_bytes-9.ensures at c.put-9.ensures))
