-- The paths that lead to an inode.
use Rattle.std.specs.Prelude.{◌≡◌, ◌≢◌, ℕ, List, length, Some}
use Rattle.std.specs.List.{AllPairs, Contains}
use Rattle.mq_tree.specs.Volume.{Path, Volume, inode_at, way}

-- just these paths lead to the inode, and none of them stands twice
pub record ArePathsTo (v : Volume) (i : ℕ) (paths : List Path) : Type 0 where
  pub apart : AllPairs ◌≢◌ paths
  pub found : (path : Path) → Contains paths path → inode_at v (way path) ≡ Some i
  pub all : (path : Path) → inode_at v (way path) ≡ Some i → Contains paths path

-- this many paths lead to it
pub record HasPaths (v : Volume) (i : ℕ) (number : ℕ) : Type 0 where
  pub paths : List Path
  pub each : ArePathsTo v i paths
  pub count : length paths ≡ number
