-- The superblock.
use Rattle.std.specs.Prelude.{ℕ, List, [], ◌∷◌, ◌++◌, Option, nat_eq}
use Rattle.byteorder.specs.Endian.{little_number}
use Rattle.mq_blocks.specs.Descriptor.{list_bytes}
use Rattle.mq_blocks.specs.Geometry.{queues_of, area_of, meta_of, zone_size}
use Rattle.mq_blocks.specs.Windows.{number_at}
use Rattle.mq_blocks.specs.declared.geometry.Geometry.{Geometry}
use Rattle.mq_layout.specs.Fields.{field, first, nonzero, zero_bytes}
use Rattle.mq_layout.specs.Places.{inodes_of}
use Rattle.mq_layout.specs.declared.refusal.LayoutCause.TheVariants.{Magic, Version, Geometry as Shape}
use Rattle.mq_layout.specs.declared.refusal.LayoutRefusal.{LayoutRefusal}

-- "MQFSSUP1"
abbrev pub magic : List ℕ
magic = 77 ∷ 81 ∷ 70 ∷ 83 ∷ 83 ∷ 85 ∷ 80 ∷ 49 ∷ []

-- the numbers behind it, four bytes each: the version first
abbrev pub super_numbers : Geometry → List ℕ
super_numbers g = 1 ∷ queues_of g ∷ area_of g ∷ meta_of g ∷ zone_size g ∷ inodes_of g ∷ []

-- the bytes before the zeros
unfoldable pub super_header : Geometry → List ℕ
super_header g = magic ++ list_bytes (super_numbers g)

-- the superblock of a geometry
unfoldable pub super_bytes : Geometry → List ℕ
super_bytes g = super_header g ++ zero_bytes 4064

-- what is wrong with a block that should be it
unfoldable pub wrong_super : Geometry → List ℕ → Option LayoutRefusal
wrong_super g block = first (
    field Magic 0 (nat_eq (number_at 8 0 block) (little_number 8 magic)) ∷
    field Version 8 (nat_eq (number_at 4 8 block) 1) ∷
    field Shape 12 (nat_eq (number_at 4 12 block) (queues_of g)) ∷
    field Shape 16 (nat_eq (number_at 4 16 block) (area_of g)) ∷
    field Shape 20 (nat_eq (number_at 4 20 block) (meta_of g)) ∷
    field Shape 24 (nat_eq (number_at 4 24 block) (zone_size g)) ∷
    field Shape 28 (nat_eq (number_at 4 28 block) (inodes_of g)) ∷
    nonzero 1 4064 32 block ∷ [])
