use Rattle.std.proofs.Common.{◌∙◌, refl, ap, length, arith}
use Rattle.mq_image.proofs.ReadsAssemblies.{ports-read}
use Rattle.mq_image.proofs.read.read_ports.Goals as goal

pub returns : goal.returns
returns c =
    ports-read _ _ _ _ _ _ _ _ _ _ _ _ c.in_ok-push.ensures.items c.requires.start c.requires.size c.in_ok-ports.ensures c.in_ok-blocks.ensures.gives
    (record {
      blocks = c.in_ok-blocks.ensures.count ∙ c.meta.ensures;
      slots = ap length c.new.ensures.items;
      doorbell = refl;
      head = refl;
      base_is = refl;
      widths = record {
        doorbell = omega arith;
        head = omega arith;
        base = c.requires.base;
        slots = λ k d l. absurd (omega (arith, l, ap length c.new.ensures.items));
        blocks = c.in_ok-blocks.ensures.gives.bytes;
      };
    }) c.in_ok-read_zones.ensures
