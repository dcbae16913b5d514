use Rattle.std.proofs.Common.{◌∙◌, ap}
use Rattle.mq_blocks.specs.Drive.{PortImage}
use Rattle.mq_image.proofs.File.{ring-put}
use Rattle.mq_image.proofs.write.put_ring.Goals as goal

pub returns : goal.returns
returns c =
    ring-put c.args.port.now _ _ _ _ _ _ _ (ap (λ (p : PortImage). p.doorbell) c.port.view_is) (ap (λ (p : PortImage). p.head) c.port.view_is) (c.deref.ensures.value ∙ ap (λ (p : PortImage). p.slots) c.port.view_is)
    c.in_ok-put_u64.ensures c.in_ok-put_u64-2.ensures c.in_ok-put_slots.ensures
