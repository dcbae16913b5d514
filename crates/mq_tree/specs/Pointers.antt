-- Pointers that are there exactly where a block is.
use Rattle.std.specs.Prelude.{◌≡◌, ℕ, ◌<◌, ◌≤◌, Bool, true, false, nat_lt, slice_index}
use Rattle.mq_blocks.specs.declared.geometry.Geometry.{Geometry}
use Rattle.mq_layout.specs.Places.{inode_block}
use Rattle.mq_layout.specs.declared.inode.Inode.{Inode}
use Rattle.mq_tree.specs.Clean.{IsInZone}
use Rattle.mq_tree.specs.Decoded.{Stored, count_of, pointer_to, the_inode}

-- a pointer that has to be there leads into a zone, and one that has not is 0
abbrev pub IsRight : Geometry → (wanted : Bool) → ℕ → Type 0
IsRight g true p = IsInZone g p
IsRight g false p = p ≡ 0

-- the twelve in the inode, where it has `count` blocks
abbrev pub AreNear : Geometry → Inode → (count : ℕ) → Type 0
AreNear g n count = (k : ℕ) → k < 12 → IsRight g (nat_lt k count) (slice_index n.direct k)

-- the 1,024 in its block of pointers
abbrev pub AreFar : Geometry → Stored → Inode → (count : ℕ) → Type 0
AreFar g s n count = (k : ℕ) → 12 ≤ k → k < 1036 → IsRight g (nat_lt k count) (pointer_to s n k)

-- a pointer of this inode is wrong, and stands in this block
pub data HasWrong (g : Geometry) (s : Stored) (i b : ℕ) : Type 0 where
  near : (k : ℕ) → b ≡ inode_block g i → k < 12
      → (IsRight g (nat_lt k (count_of (the_inode g s i))) (slice_index (the_inode g s i).direct k) → ⊥)
      → HasWrong g s i b
  middle : b ≡ inode_block g i
      → (IsRight g (nat_lt 12 (count_of (the_inode g s i))) (the_inode g s i).indirect → ⊥) → HasWrong g s i b
  beyond : (k : ℕ) → b ≡ (the_inode g s i).indirect → IsInZone g b → 12 < count_of (the_inode g s i) → 12 ≤ k
      → k < 1036 → (IsRight g (nat_lt k (count_of (the_inode g s i))) (pointer_to s (the_inode g s i) k) → ⊥)
      → HasWrong g s i b
