-- Files that get other bytes, and are not shorter then.
use Rattle.std.specs.Prelude.{◌≡◌, ◌≤◌, ◌<◌, ◌/◌, ℕ, List, length, slice_get, Some}
use Rattle.std.specs.List.{Contains}
use Rattle.mq_blocks.specs.declared.geometry.Geometry.{Geometry}
use Rattle.mq_exec.specs.Overwrites.{past_place}
use Rattle.mq_inodes.specs.Picks.{ArePicked, IsSearched}
use Rattle.mq_tree.specs.Free.{needs}
use Rattle.mq_tree.specs.Requests.{Makes, Verdict, resized}
use Rattle.mq_tree.specs.Sound.{blocks_for}
use Rattle.mq_tree.specs.Volume.{File, Volume, body, node}

-- how many blocks a file takes to have `size` bytes
abbrev pub longer_needs : Volume → (i size : ℕ) → ℕ
longer_needs v i size = needs (length (node v i).blocks) (blocks_for size)

-- the file gets other bytes, `size` in all
pub record IsRewriting (g : Geometry) (q : ℕ) (v : Volume) (i size : ℕ) (verdict : Verdict)
    (rewritten : List ℕ → List ℕ) (bytes : List ℕ) : Type 0 where
  pub is : body v i ≡ File bytes
  pub makes : verdict ≡ Makes (longer_needs v i size) (resized g q v i (rewritten bytes))
  pub length_is : length (rewritten bytes) ≡ size

-- The bitmap of a zone before which there are not enough free blocks; and where there are enough its block
-- of pointers, a block that it takes, or one that it has at a byte that is written.
pub data LooksLonger (g : Geometry) (q : ℕ) (v : Volume) (i size at count b : ℕ) : Type 0 where
  short : IsSearched g q v (longer_needs v i size) b → LooksLonger g q v i size at count b
  indirect : (picks : List ℕ) → ArePicked g q v (longer_needs v i size) picks
      → (node v i).indirect ≡ Some b → LooksLonger g q v i size at count b
  picked : (picks : List ℕ) → ArePicked g q v (longer_needs v i size) picks → Contains picks b
      → LooksLonger g q v i size at count b
  part : (picks : List ℕ) → ArePicked g q v (longer_needs v i size) picks → (place : ℕ)
      → at / 4096 ≤ place → place < past_place at count → slice_get (node v i).blocks place ≡ Some b
      → LooksLonger g q v i size at count b
