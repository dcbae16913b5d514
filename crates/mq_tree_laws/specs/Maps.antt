-- The two maps of a volume: from paths to what they name, and from file numbers to bytes.
use Rattle.std.specs.Prelude.{◌≡◌, ℕ, List, Option, Some, None, option_and_then}
use Rattle.std.specs.List.{Contains}
use Rattle.mq_tree.specs.Volume.{ADir, AFile, Body, Free, File, Dir, Path, Thing, Volume, body, inode_at, way}

-- what a path names: a directory, or a file by its number, which paths may share
pub data Named : Type 0 where
  IsDir : Named
  IsFile : (number : ℕ) → Named

abbrev pub named : ℕ → Body → Option Named
named i Free = None
named i (File bytes) = Some (IsFile i)
named i (Dir slots) = Some IsDir

-- the first map; a file's number is that of its inode
abbrev pub named_at : Volume → Path → Option Named
named_at v path = option_and_then (λ i. named i (body v i)) (inode_at v (way path))

abbrev pub bytes_in : Body → Option (List ℕ)
bytes_in Free = None
bytes_in (File bytes) = Some bytes
bytes_in (Dir slots) = None

-- the second map
abbrev pub bytes_of : Volume → ℕ → Option (List ℕ)
bytes_of v number = bytes_in (body v number)

-- what stands at a path that names this, where the files have these bytes
abbrev pub thing_of : (ℕ → Option (List ℕ)) → Option Named → Option Thing
thing_of bytes None = None
thing_of bytes (Some IsDir) = Some ADir
thing_of bytes (Some (IsFile number)) = option_and_then (λ found. Some (AFile found)) (bytes number)

-- a map that has something at the keys of a list, and nowhere else
pub record IsFiniteMap {K A : Type 0} (lookup : K → Option A) : Type 0 where
  pub keys : List K
  pub found : (key : K) → Contains keys key → (there : A) × (lookup key ≡ Some there)
  pub all : (key : K) (there : A) → lookup key ≡ Some there → Contains keys key
