use Rattle.std.proofs.Common.{ap, get_or, None, ◌∙◌}
use Rattle.mq_image_ops.proofs.Empty.{blanked}
use Rattle.mq_image_ops.proofs.format.blank_drive.Goals as goal

pub returns : goal.returns
returns c =
    record {
      is = blanked c.args.geometry c.in_ok-ports.ports.items c.push.new.self.items c.fresh_root.result c.in_ok-ports.ensures (c.fresh_root.ensures.is c.args.geometry (c.in_ok-blocks.ensures.0 ∙ c.meta.ensures))
          (λ b. ap (λ l. get_or l b None) c.fresh_root.ensures.blocks ∙ c.in_ok-blocks.ensures.1 b)
          c.in_ok-push.ensures.items;
    }
