use Rattle.std.proofs.Common.{ap, ◌∙◌}
use Rattle.mq_blocks.specs.Blocks.{block_at}
use Rattle.mq_image_ops.proofs.Empty.{formatted}
use Rattle.mq_image_ops.proofs.format.format_drive.Goals as goal

pub returns : goal.returns
returns c =
    record {
      is = formatted c.args.geometry c.in_ok-ports.ports.items c.push.new.self.items c.fresh_root.result c.in_ok-ports.ensures (c.fresh_root.ensures.is c.args.geometry c.in_ok-blocks.ensures.0)
          (λ b low. ap (λ l. block_at l b) c.fresh_root.ensures.blocks ∙ c.in_ok-blocks.ensures.1 b low)
          c.in_ok-push.ensures.items
          c.an_image_fits_its_file.ensures;
    }
