-- What a listing of a tree is: a line for each of its paths, in rising order.
use Rattle.std.specs.Prelude.{◌≡◌, ℕ, List, [], ◌∷◌, ◌++◌, length, codes, Option, Some, None}
use Rattle.std.specs.Cmp.Lexicographic.{slice_cmp}
use Rattle.std.specs.Fmt.{decimal}
use Rattle.std.specs.List.{Contains}
use Rattle.std.specs.List.Sorted.{IsStrictlySortedBy}
use Rattle.std.specs.Ordering.{nat_cmp}
use Rattle.std.specs.declared.cmp.Ordering.{Ordering}
use Rattle.mq_tree.specs.Volume.{ADir, AFile, Path, Thing, Things}

-- each name behind a `/`
abbrev pub names_text : Path → List ℕ
names_text [] = []
names_text (name ∷ names) = codes "/" ++ name ++ names_text names

abbrev pub path_text : Path → List ℕ
path_text [] = codes "/"
path_text (name ∷ names) = names_text (name ∷ names)

-- the line of a path where this stands: `d PATH` of a directory, `f SIZE PATH` of a file
abbrev pub thing_line : Path → Option Thing → List ℕ
thing_line path None = []
thing_line path (Some ADir) = codes "d " ++ path_text path ++ codes "\n"
thing_line path (Some (AFile bytes)) =
    (codes "f " ++ decimal (length bytes) ++ codes " ") ++ path_text path ++ codes "\n"

abbrev pub lines_at : Things → List Path → List ℕ
lines_at t [] = []
lines_at t (path ∷ paths) = thing_line path (t path) ++ lines_at t paths

-- paths by their names, and names by their bytes
abbrev pub path_cmp : Path → Path → Ordering
path_cmp p q = slice_cmp (slice_cmp nat_cmp) p q

-- just these paths has the tree; they rise, so none of them stands twice
pub record ArePaths (t : Things) (paths : List Path) : Type 0 where
  pub rising : IsStrictlySortedBy path_cmp paths
  pub found : (path : Path) → Contains paths path → (there : Thing) × (t path ≡ Some there)
  pub all : (path : Path) (there : Thing) → t path ≡ Some there → Contains paths path

pub record IsListing (t : Things) (text : List ℕ) : Type 0 where
  pub paths : List Path
  pub each : ArePaths t paths
  pub lines : text ≡ lines_at t paths
