-- Which requests are refused, and why: for what stands at their paths, or because there is no room.
use Rattle.std.specs.Prelude.{◌≡◌, ◌≢◌, ◌<◌, ◌≤◌, ◌⊎◌, ℕ, ◌+◌, List, [], ◌∷◌, ◌++◌, length, Option, Some, None, true, false}
use Rattle.mq_blocks.specs.declared.geometry.Geometry.{Geometry}
use Rattle.mq_layout.specs.Places.{file_limit, names_limit}
use Rattle.mq_tree.specs.Free.{first_free, free_blocks}
use Rattle.mq_tree.specs.Kept.{IsBare}
use Rattle.mq_tree.specs.Links.{links_to}
use Rattle.mq_tree.specs.Requests.{Makes, act, is_below, links_limit, step}
use Rattle.mq_tree.specs.Volume.{ADir, AFile, Path, Thing, Volume, inode_at, tree, way}
use Rattle.mq_tree.specs.declared.request.Fault.{Fault}
use Rattle.mq_tree.specs.declared.request.Fault.TheVariants.{NotFound, Exists, NotDir, IsDir, NotEmpty, BadName, TooBig, Subtree, NoSpace, NoInodes, Links}
use Rattle.mq_tree.specs.declared.request.Reply.TheVariants.{Dir as Count}
use Rattle.mq_tree.specs.declared.request.Request.{Request}
use Rattle.mq_tree.specs.declared.request.Request.TheVariants.{Mkdir, Create, Write, Truncate, Unlink, Rmdir, Rename, Link, Read, List as ListOf, Stat}

-- why a walk does not go on from here
abbrev pub IsEnd : Option Thing → Fault → Type 0
IsEnd None fault = fault ≡ NotFound
IsEnd (Some ADir) fault = ⊥
IsEnd (Some (AFile bytes)) fault = fault ≡ NotDir

-- the walk to the path ends before its last name
pub record IsLost (v : Volume) (path : Path) (fault : Fault) : Type 0 where
  pub before : Path
  pub name : List ℕ
  pub rest : Path
  pub is : path ≡ (before ++ name ∷ []) ++ rest
  pub more : rest ≢ []
  pub directory : tree v before ≡ Some ADir
  pub ends : IsEnd (tree v (before ++ name ∷ [])) fault

-- the walk ends in a directory that does not have the last name
pub record IsMissing (v : Volume) (path : Path) : Type 0 where
  pub parent : Path
  pub name : List ℕ
  pub is : path ≡ parent ++ name ∷ []
  pub directory : tree v parent ≡ Some ADir
  pub nothing : tree v path ≡ None

-- nothing is found there
abbrev pub IsUnfound : Volume → Path → Fault → Type 0
IsUnfound v path fault = IsLost v path fault ⊎ (IsMissing v path × (fault ≡ NotFound))

abbrev pub IsDirFault : Volume → Path → Fault → Type 0
IsDirFault v path fault = (tree v path ≡ Some ADir) × (fault ≡ IsDir)

abbrev pub IsFileFault : Volume → Path → Fault → Type 0
IsFileFault v path fault = (old : List ℕ) × (tree v path ≡ Some (AFile old)) × (fault ≡ NotDir)

-- nothing can be added there
abbrev pub IsAddFault : Volume → Path → Fault → Type 0
IsAddFault v path fault =
    IsLost v path fault ⊎ ((there : Thing) × (tree v path ≡ Some there) × (fault ≡ Exists))

-- no file there can have this size
abbrev pub IsSizeFault : Volume → Path → (size : ℕ) → Fault → Type 0
IsSizeFault v path size fault =
    IsUnfound v path fault
    ⊎ (IsDirFault v path fault
    ⊎ ((old : List ℕ) × (tree v path ≡ Some (AFile old)) × (file_limit < size) × (fault ≡ TooBig)))

abbrev pub IsRmdirFault : Volume → Path → Fault → Type 0
IsRmdirFault v path fault =
    ((path ≡ []) × (fault ≡ BadName))
    ⊎ (IsUnfound v path fault
    ⊎ (IsFileFault v path fault
    ⊎ ((path ≢ []) × (tree v path ≡ Some ADir) × (IsBare v path → ⊥) × (fault ≡ NotEmpty))))

-- what stands at `from` cannot go to `to`
abbrev pub IsMoveFault : Volume → (from to : Path) → Fault → Type 0
IsMoveFault v from to fault =
    ((is_below from to ≡ true) × (fault ≡ Subtree))
    ⊎ ((is_below from to ≡ false) × IsAddFault v to fault)

abbrev pub IsRenameFault : Volume → (from to : Path) → Fault → Type 0
IsRenameFault v from to fault =
    ((from ≡ []) × (fault ≡ Subtree))
    ⊎ (IsUnfound v from fault
    ⊎ ((there : Thing) × (from ≢ []) × (tree v from ≡ Some there) × IsMoveFault v from to fault))

-- nothing that has a path may have it as a further one
abbrev pub IsLinkFault : Volume → (from to : Path) → Fault → Type 0
IsLinkFault v from to fault =
    IsUnfound v from fault
    ⊎ (IsDirFault v from fault
    ⊎ ((old : List ℕ) × (tree v from ≡ Some (AFile old)) × IsAddFault v to fault))

-- a request with good names is refused by what stands at its paths
abbrev pub IsFault : Volume → Request → Fault → Type 0
IsFault v (Mkdir p) fault = IsAddFault v p fault
IsFault v (Create p) fault = IsAddFault v p fault
IsFault v (Write p at bytes) fault = IsSizeFault v p (at + length bytes) fault
IsFault v (Truncate p size) fault = IsSizeFault v p size fault
IsFault v (Unlink p) fault = IsUnfound v p fault ⊎ IsDirFault v p fault
IsFault v (Rmdir p) fault = IsRmdirFault v p fault
IsFault v (Rename p q) fault = IsRenameFault v p q fault
IsFault v (Link p q) fault = IsLinkFault v p q fault
IsFault v (Read p at count) fault = IsUnfound v p fault ⊎ IsDirFault v p fault
IsFault v (ListOf p) fault = IsUnfound v p fault ⊎ IsFileFault v p fault
IsFault v (Stat p) fault = IsUnfound v p fault

-- ---- room

-- the directory has as many names as it may have
abbrev pub IsFullDir : Geometry → (queue : ℕ) → Volume → Path → Type 0
IsFullDir g q v path = (count : ℕ) × ((step g q v (Stat path)).reply ≡ Count count) × (names_limit ≤ count)

-- the request needs more new blocks than are free
abbrev pub IsSpaceFault : Geometry → (queue : ℕ) → Volume → Request → Fault → Type 0
IsSpaceFault g q v r fault =
    (blocks : ℕ) × (next : Volume) × (act g q v r ≡ Makes blocks next) × (free_blocks g v < blocks)
    × (fault ≡ NoSpace)

-- the directory has no room for the last name, or there is no inode for what is new
abbrev pub IsAddRoomFault : Geometry → (queue : ℕ) → Volume → (parent : Path) → Fault → Type 0
IsAddRoomFault g q v parent fault =
    (IsFullDir g q v parent × (fault ≡ TooBig))
    ⊎ ((IsFullDir g q v parent → ⊥) × (first_free 0 v ≡ None) × (fault ≡ NoInodes))

abbrev pub IsAddFull : Geometry → (queue : ℕ) → Volume → Path → Fault → Type 0
IsAddFull g q v path fault = (m : IsMissing v path) × IsAddRoomFault g q v m.parent fault

-- Nothing is in the way of an entry that moves, but the directory has no room for it. Within one directory
-- there is always room.
pub record IsMoveFull (g : Geometry) (q : ℕ) (v : Volume) (from to : Path) (fault : Fault) : Type 0 where
  pub some : from ≢ []
  pub old : Thing
  pub there : tree v from ≡ Some old
  pub apart : is_below from to ≡ false
  pub missing : IsMissing v to
  pub other : (name : List ℕ) → from ≢ missing.parent ++ name ∷ []
  pub full : IsFullDir g q v missing.parent
  pub fault_is : fault ≡ TooBig

-- the file at the path has as many names as it may have
abbrev pub HasMostNames : Volume → Path → Type 0
HasMostNames v path = (i : ℕ) × (inode_at v (way path) ≡ Some i) × (links_limit ≤ links_to v i)

-- nothing is in the way of a further name for a file, but the directory or the file has no room for it
pub record IsLinkFull (g : Geometry) (q : ℕ) (v : Volume) (from to : Path) (fault : Fault) : Type 0 where
  pub old : List ℕ
  pub there : tree v from ≡ Some (AFile old)
  pub missing : IsMissing v to
  pub full : (IsFullDir g q v missing.parent × (fault ≡ TooBig))
      ⊎ ((IsFullDir g q v missing.parent → ⊥) × HasMostNames v from × (fault ≡ Links))

-- nothing is in the way of a request, but there is no room
abbrev pub IsFull : Geometry → (queue : ℕ) → Volume → Request → Fault → Type 0
IsFull g q v (Mkdir p) fault = IsAddFull g q v p fault ⊎ IsSpaceFault g q v (Mkdir p) fault
IsFull g q v (Create p) fault = IsAddFull g q v p fault ⊎ IsSpaceFault g q v (Create p) fault
IsFull g q v (Write p at bytes) fault = IsSpaceFault g q v (Write p at bytes) fault
IsFull g q v (Truncate p size) fault = IsSpaceFault g q v (Truncate p size) fault
IsFull g q v (Unlink p) fault = ⊥
IsFull g q v (Rmdir p) fault = ⊥
IsFull g q v (Rename p to) fault = IsMoveFull g q v p to fault ⊎ IsSpaceFault g q v (Rename p to) fault
IsFull g q v (Link p to) fault = IsLinkFull g q v p to fault ⊎ IsSpaceFault g q v (Link p to) fault
IsFull g q v (Read p at count) fault = ⊥
IsFull g q v (ListOf p) fault = ⊥
IsFull g q v (Stat p) fault = ⊥
