use Rattle.mq_image.proofs.File.{header-put}
use Rattle.mq_image.proofs.write.put_header.Goals as goal

pub returns : goal.returns
returns c =
    header-put c.args.geometry c.args.base _ _ _ _ _ _ _ _ _ _ _ _ _ c.queues.ensures c.area.ensures c.meta.ensures c.zone.ensures
    c.in_ok-put_bytes.ensures c.in_ok-put_u32.ensures c.in_ok-put_u32-2.ensures c.in_ok-put_u32-3.ensures c.in_ok-put_u32-4.ensures c.in_ok-put_u32-5.ensures c.in_ok-put_u32-6.ensures c.in_ok-put_u64.ensures
