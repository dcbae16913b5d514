use Rattle.std.proofs.Common.{get_or, ℕ, ◌<◌, ◌∙◌, refl, arith}
use Rattle.mq_image.proofs.ReadsAreas.{ring-read, word-below}
use Rattle.mq_image.proofs.Versions.{size-is}
use Rattle.mq_image.proofs.read.read_port.Goals as goal

pub u64_at-doorbell-requires : goal.u64_at-doorbell-requires
u64_at-doorbell-requires c = let room = c.requires.room in let at = c.end_of_rings-at.ensures.is in let size = size-is c.args.header.now.version in omega arith

pub u64_at-head-requires : goal.u64_at-head-requires
u64_at-head-requires c = let room = c.requires.room in let at = c.end_of_rings-at.ensures.is in let size = size-is c.args.header.now.version in omega arith

pub read_slots-requires : goal.read_slots-requires
read_slots-requires c = let room = c.requires.room in let at = c.end_of_rings-at.ensures.is in let size = size-is c.args.header.now.version in let d = c.slots_in.ensures in omega arith

pub returns : goal.returns
returns c =
    let small : (k : ℕ) → get_or c.args.file.now k 0 < 256 = λ k. let f : get_or c.args.file.now k 0 < 256 = omega (arith, c.type_inv.file k) in f in
    record {
      port = record {
        area = c.in_ok-blocks.ensures.count ∙ c.area.ensures;
        slots = c.in_ok-slots.ensures.count ∙ c.slots_in.ensures;
        base = refl;
        widths = record {
          doorbell = word-below _ _ c.args.file.now small c.u64_at-doorbell.ensures;
          head = word-below _ _ c.args.file.now small c.u64_at-head.ensures;
          base = omega arith;
          slots = c.in_ok-slots.ensures.dwords;
          blocks = c.in_ok-blocks.ensures.gives.bytes;
        };
      };
      span = c.in_ok-blocks.ensures.gives;
      ring = ring-read c.args.file.now c.args.header.now.version _ _ _ _ c.end_of_rings-at.ensures.is c.slots_in.ensures c.requires.room small c.u64_at-doorbell.ensures c.u64_at-head.ensures c.in_ok-slots.ensures.bytes;
    }
