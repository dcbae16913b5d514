-- A port that starts from an image.
use Rattle.std.proofs.Common.{◌≡◌, true, false, length, refl, arith, ℕ, Option}
use Rattle.std.proofs.lemmas.List.{get_or-replicate, length-replicate}
use Rattle.mq_blocks.specs.Drive.{FuseName, PortImage, IsQuiescent}
use Rattle.mq_blocks.specs.Limits.{depth}
use Rattle.mq_blocks.specs.Geometry.{area_of, zone_size}
use Rattle.mq_blocks.specs.declared.geometry.Geometry.{Geometry}
use Rattle.mq_drive.specs.Start.{IsImageOf, IsPortOf, start_of}
use Rattle.mq_drive.specs.declared.role.Role.{Role}
use Rattle.mq_drive.specs.declared.role.Role.TheVariants.{Queue}

pub port_of-start : (g : Geometry) (role : Role) (i : PortImage) (fuse : FuseName) (fail : Option ℕ) → IsImageOf g role i → IsPortOf g role (start_of g role i fuse fail)
port_of-start g role i fuse fail image = record {
  queue = refl;
  area_first = refl;
  area_size = refl;
  homes_first = refl;
  homes_size = refl;
  flushed = image.slots;
  staged = image.slots;
  blocks = image.blocks;
  certain = length-replicate (length i.blocks) true;
  settled = λ k within flushed. refl;
}

pub quiet-start : (g : Geometry) (role : Role) (i : PortImage) (fuse : FuseName) (fail : Option ℕ) → IsQuiescent (start_of g role i fuse fail)
quiet-start g role i fuse fail = record {
  flushed_end = refl;
  pending = refl;
  posted = refl;
  failed = refl;
  head = refl;
  base = refl;
  certain = λ k within. get_or-replicate (length i.blocks) k true false (let long = length-replicate (length i.blocks) true in omega arith);
}

-- where a queue has an area of 1,024 blocks and a zone of 240, an image is of it by its sizes
pub of_one : (g : Geometry) (i : PortImage) → area_of g ≡ 1024 → zone_size g ≡ 240 → length i.slots ≡ depth → length i.blocks ≡ 1264 → i.base ≡ 0 → IsImageOf g (Queue 0) i
of_one g i area zone slots blocks base = record { slots = slots; blocks = omega (arith, blocks, area, zone); words = base }
