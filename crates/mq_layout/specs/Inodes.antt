-- Inodes: 128 bytes each, 32 in a block.
use Rattle.std.specs.Prelude.{◌≡◌, ◌<◌, ◌≤◌, ℕ, ◌+◌, ◌*◌, ◌%◌, ◌^◌, Bool, ◌&&◌, ◌||◌, List, [], ◌∷◌, ◌++◌, length, drop, Option, None, slice_index, nat_eq, nat_le, if◌then◌else◌, replicate}
use Rattle.std.specs.List.{All}
use Rattle.std.specs.Int.{to_le_bytes, w16, w32, w64}
use Rattle.mq_blocks.specs.Descriptor.{list_bytes}
use Rattle.mq_blocks.specs.Windows.{number_at, numbers, Shows}
use Rattle.mq_layout.specs.Fields.{field, first, nonzero, zero_bytes}
use Rattle.mq_layout.specs.Places.{file_limit}
use Rattle.mq_layout.specs.declared.inode.Inode.{Inode}
use Rattle.mq_layout.specs.declared.refusal.LayoutCause.TheVariants.{Kind, Links, Size}
use Rattle.mq_layout.specs.declared.refusal.LayoutRefusal.{LayoutRefusal}

-- A free inode is of kind 0, a file's of kind 1, a directory's of kind 2. A free one is all zeros. A
-- directory has one link. Which pointers are 0 and which are not follows from the size, and is not said
-- here.
pub record IsInode (i : Inode) : Type 0 where
  pub kind : i.kind ≤ 2
  pub free : i.kind ≡ 0 → (i.links ≡ 0) × (i.size ≡ 0) × (i.direct ≡ replicate 12 0) × (i.indirect ≡ 0)
  pub used : 1 ≤ i.kind → (1 ≤ i.links) × (i.size ≤ file_limit)
  pub directory : i.kind ≡ 2 → (i.links ≡ 1) × (i.size % 4096 ≡ 0)
  pub links : i.links < 2 ^ 16
  pub twelve : length i.direct ≡ 12
  pub direct : All (λ p. p < 2 ^ 32) i.direct
  pub indirect : i.indirect < 2 ^ 32

unfoldable pub inode_bytes : Inode → List ℕ
inode_bytes i =
    (i.kind ∷ 0 ∷ []) ++ to_le_bytes w16 i.links ++ zero_bytes 4 ++ to_le_bytes w64 i.size
    ++ list_bytes i.direct ++ to_le_bytes w32 i.indirect ++ zero_bytes 60

-- the inode of this number within its block
abbrev pub ShowsInode : List ℕ → ℕ → Inode → Type 0
ShowsInode block at i = IsInode i × Shows block (128 * at) (inode_bytes i)

-- the fields of the 128 bytes from an offset on, whatever they say
unfoldable pub inode_at : ℕ → List ℕ → Inode
inode_at from block = record {
  kind = slice_index block from;
  links = number_at 2 (from + 2) block;
  size = number_at 8 (from + 8) block;
  direct = numbers 12 (drop (from + 16) block);
  indirect = number_at 4 (from + 64) block;
}

-- a free inode has no link, a directory one, and a file at least one
abbrev pub is_links : Inode → Bool
is_links i =
    if nat_eq i.kind 0 then nat_eq i.links 0
    else (nat_le 1 i.links && (nat_eq i.kind 1 || nat_eq i.links 1))

-- the size of a free inode is 0, and a directory's is whole blocks
abbrev pub is_size : Inode → Bool
is_size i =
    if nat_eq i.kind 0 then nat_eq i.size 0
    else (nat_le i.size file_limit && (nat_eq i.kind 1 || nat_eq (i.size % 4096) 0))

-- what is wrong with them, where `i` is what they say
unfoldable pub wrong_fields : Inode → ℕ → List ℕ → Option LayoutRefusal
wrong_fields i from block = first (
    field Kind from (nat_le i.kind 2) ∷
    nonzero 1 1 (from + 1) block ∷
    field Links (from + 2) (is_links i) ∷
    nonzero 1 4 (from + 4) block ∷
    field Size (from + 8) (is_size i) ∷
    (if nat_eq i.kind 0 then nonzero 4 13 (from + 16) block else None) ∷
    nonzero 1 60 (from + 68) block ∷ [])

abbrev pub wrong_inode : List ℕ → ℕ → Option LayoutRefusal
wrong_inode block at = wrong_fields (inode_at (128 * at) block) (128 * at) block
