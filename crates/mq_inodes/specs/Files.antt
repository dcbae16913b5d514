-- The bytes of files.
use Rattle.std.specs.Prelude.{◌≡◌, ◌≤◌, ◌<◌, ◌+◌, ◌/◌, ◌⊎◌, ℕ, min, List, [], ◌∷◌, ◌++◌, length, slice_get, Some}
use Rattle.mq_inodes.specs.Pages.{Pages, content}
use Rattle.mq_layout.specs.declared.inode.Inode.{Inode}
use Rattle.mq_tree.specs.Laid.{inode_of}
use Rattle.mq_tree.specs.Volume.{File, Volume, body, node}

-- a block of a file with a byte in this range, or its block of pointers
abbrev pub HasByte : List ℕ → (first past b : ℕ) → Type 0
HasByte blocks first past b =
    (byte : ℕ) × (slice_get blocks (byte / 4096) ≡ Some b) × (first ≤ byte) × (byte < past)

pub record LooksInFile (v : Volume) (i at count b : ℕ) : Type 0 where
  pub bytes : List ℕ
  pub is : body v i ≡ File bytes
  pub looks : ((node v i).indirect ≡ Some b)
      ⊎ HasByte (node v i).blocks at (min (at + count) (length bytes)) b

-- the bytes of held blocks, one after another
abbrev pub bytes_at : Pages → (blocks : List ℕ) → List ℕ
bytes_at pages [] = []
bytes_at pages (b ∷ bs) = content (pages b) ++ bytes_at pages bs

-- what an inode says that is a file's
pub record IsFileOf (v : Volume) (i : ℕ) (inode : Inode) : Type 0 where
  pub says : inode ≡ inode_of (node v i)
  pub bytes : List ℕ
  pub is : body v i ≡ File bytes
