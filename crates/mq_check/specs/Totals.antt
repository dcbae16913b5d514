-- How many directories, files and blocks a volume has.
use Rattle.std.specs.Prelude.{◌≡◌, ℕ, ◌-◌, Bool, true, false, List}
use Rattle.std.specs.List.{count_by, range_with_len}
use Rattle.mq_blocks.specs.Geometry.{homes_of, meta_of}
use Rattle.mq_blocks.specs.declared.geometry.Geometry.{Geometry}
use Rattle.mq_tree.specs.Volume.{Body, Free, File, Dir, Volume, is_taken}

abbrev pub is_dir : Body → Bool
is_dir Free = false
is_dir (File bytes) = false
is_dir (Dir slots) = true

abbrev pub is_file : Body → Bool
is_file Free = false
is_file (File bytes) = true
is_file (Dir slots) = false

-- the inodes that are directories, the root among them
abbrev pub dirs_of : Volume → ℕ
dirs_of v = count_by (λ n. is_dir n.body) v

-- the inodes that are files, each once, however many names it has
abbrev pub files_of : Volume → ℕ
files_of v = count_by (λ n. is_file n.body) v

-- the blocks of all zones, which lie behind the metadata region
abbrev pub all_blocks : Geometry → List ℕ
all_blocks g = range_with_len (meta_of g) (homes_of g - meta_of g)

-- those of them that some inode uses
abbrev pub blocks_of : Geometry → Volume → ℕ
blocks_of g v = count_by (is_taken v) (all_blocks g)

-- the volume has so many
pub record HasTotals (g : Geometry) (v : Volume) (dirs files blocks : ℕ) : Type 0 where
  pub directories : dirs ≡ dirs_of v
  pub numbers : files ≡ files_of v
  pub used : blocks ≡ blocks_of g v
