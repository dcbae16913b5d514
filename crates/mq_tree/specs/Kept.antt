-- What requests do to the tree, path by path.
use Rattle.std.specs.Prelude.{◌≡◌, ◌≢◌, ℕ, List, [], ◌∷◌, ◌++◌, length, Some, None, true, ◌<◌, ◌≤◌, ◌+◌, ◌⊎◌, max, slice_index}
use Rattle.std.specs.Bool.{⊤}
use Rattle.std.specs.Cmp.Lexicographic.{slice_cmp}
use Rattle.std.specs.List.{Contains}
use Rattle.std.specs.Ordering.{is_lt, nat_cmp}
use Rattle.mq_blocks.specs.declared.geometry.Geometry.{Geometry}
use Rattle.mq_tree.specs.Requests.{step}
use Rattle.mq_tree.specs.Sound.{AreBytes}
use Rattle.mq_tree.specs.Volume.{AFile, Path, Thing, Volume, inode_at, tree, way}
use Rattle.mq_tree.specs.declared.request.Reply.TheVariants.{Dir as Count, Names}
use Rattle.mq_tree.specs.declared.request.Request.{Request}
use Rattle.mq_tree.specs.declared.request.Request.TheVariants.{Mkdir, Create, Write, Truncate, Unlink, Rmdir, Rename, Link, Read, List as ListOf, Stat}

-- what a request writes are bytes
abbrev pub HasBytes : Request → Type 0
HasBytes (Mkdir p) = ⊤
HasBytes (Create p) = ⊤
HasBytes (Write p at bytes) = AreBytes bytes
HasBytes (Truncate p size) = ⊤
HasBytes (Unlink p) = ⊤
HasBytes (Rmdir p) = ⊤
HasBytes (Rename p q) = ⊤
HasBytes (Link p q) = ⊤
HasBytes (Read p at count) = ⊤
HasBytes (ListOf p) = ⊤
HasBytes (Stat p) = ⊤

-- every other path has what it had
abbrev pub AreOthers : (v w : Volume) → Path → Type 0
AreOthers v w path = (other : Path) → other ≢ path → tree w other ≡ tree v other

-- the path had nothing, and has this
pub record IsAdded (v w : Volume) (path : Path) (new : Thing) : Type 0 where
  pub before : tree v path ≡ None
  pub here : tree w path ≡ Some new
  pub others : AreOthers v w path

-- The path had a file, whose bytes change so, at each of its paths.
pub record IsRewritten (v w : Volume) (path : Path) (change : List ℕ → List ℕ) : Type 0 where
  pub number : ℕ
  pub names : inode_at v (way path) ≡ Some number
  pub old : List ℕ
  pub before : tree v path ≡ Some (AFile old)
  pub same : (other : Path) → inode_at w (way other) ≡ inode_at v (way other)
  pub here : (other : Path) → inode_at v (way other) ≡ Some number
      → tree w other ≡ Some (AFile (change old))
  pub others : (other : Path) → inode_at v (way other) ≢ Some number → tree w other ≡ tree v other

-- What a `Write` makes of the bytes of a file, read as zeros past their end.
pub record IsSpliced (at : ℕ) (bytes old new : List ℕ) : Type 0 where
  -- without bytes nothing changes
  pub none : bytes ≡ [] → new ≡ old
  pub size : bytes ≢ [] → length new ≡ max (length old) (at + length bytes)
  pub here : (k : ℕ) → k < length bytes → slice_index new (at + k) ≡ slice_index bytes k
  pub others : (k : ℕ) → (k < at) ⊎ (at + length bytes ≤ k) → slice_index new k ≡ slice_index old k

-- what a `Truncate` makes of them
pub record IsCut (size : ℕ) (old new : List ℕ) : Type 0 where
  pub length_is : length new ≡ size
  pub bytes : (k : ℕ) → k < size → slice_index new k ≡ slice_index old k

-- the path had this, and has nothing
pub record IsRemoved (v w : Volume) (path : Path) (old : Thing) : Type 0 where
  pub before : tree v path ≡ Some old
  pub here : tree w path ≡ None
  pub others : AreOthers v w path

-- the file at the first path has the second one, too
pub record IsLinked (v w : Volume) (from to : Path) : Type 0 where
  pub number : ℕ
  pub names : inode_at v (way from) ≡ Some number
  pub bytes : List ℕ
  pub file : tree v from ≡ Some (AFile bytes)
  pub here : inode_at w (way to) ≡ Some number
  pub added : IsAdded v w to (AFile bytes)
  pub same : (other : Path) → other ≢ to → inode_at w (way other) ≡ inode_at v (way other)

-- nothing stands below the path
abbrev pub IsBare : Volume → Path → Type 0
IsBare v path = (name : List ℕ) → tree v (path ++ name ∷ []) ≡ None

-- a path leads neither to the other nor below it
abbrev pub IsApart : (other path : Path) → Type 0
IsApart other path = (below : Path) → other ≢ path ++ below

-- what stood at `from` and below it stands at `to`
pub record IsRenamed (v w : Volume) (from to : Path) : Type 0 where
  pub old : Thing
  pub before : tree v from ≡ Some old
  pub missing : tree v to ≡ None
  pub here : (below : Path) → tree w (to ++ below) ≡ tree v (from ++ below)
  pub gone : (below : Path) → tree w (from ++ below) ≡ None
  pub others : (other : Path) → IsApart other from → IsApart other to → tree w other ≡ tree v other

-- ---- what is asked

-- the first of these names, if there is one, comes after this one in the order of bytes
abbrev pub IsBefore : List ℕ → List (List ℕ) → Type 0
IsBefore name [] = ⊤
IsBefore name (next ∷ names) = is_lt (slice_cmp nat_cmp name next) ≡ true

-- in rising order of bytes, so none of them twice
abbrev pub AreRising : List (List ℕ) → Type 0
AreRising [] = ⊤
AreRising (name ∷ names) = IsBefore name names × AreRising names

-- just these names stand in the directory at the path
pub record AreNamesAt (v : Volume) (path : Path) (names : List (List ℕ)) : Type 0 where
  pub rising : AreRising names
  pub found : (name : List ℕ) → Contains names name
      → (there : Thing) × (tree v (path ++ name ∷ []) ≡ Some there)
  pub all : (name : List ℕ) (there : Thing) → tree v (path ++ name ∷ []) ≡ Some there → Contains names name

-- the names in a directory are those that `List` answers, and `Stat` says how many there are
pub record IsListed (g : Geometry) (queue : ℕ) (v : Volume) (path : Path) : Type 0 where
  pub names : List (List ℕ)
  pub at : AreNamesAt v path names
  pub list : (step g queue v (ListOf path)).reply ≡ Names names
  pub stat : (step g queue v (Stat path)).reply ≡ Count (length names)
