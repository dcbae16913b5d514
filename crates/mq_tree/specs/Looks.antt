-- The pages at which a request looks.
use Rattle.std.specs.Prelude.{◌≡◌, ◌≢◌, ℕ, suc, ◌+◌, ◌-◌, ◌*◌, ◌/◌, ◌<◌, ◌≤◌, ◌⊎◌, min, max, Bool, true, false, List, [], ◌∷◌, ◌++◌, length, slice_get, Option, Some, None, if◌then◌else◌, nat_eq, nat_le, nat_lt}
use Rattle.std.specs.List.{range_with_len}
use Rattle.mq_blocks.specs.Geometry.{meta_of, queues_of, zone_size}
use Rattle.mq_blocks.specs.declared.geometry.Geometry.{Geometry}
use Rattle.mq_layout.specs.Places.{inode_bitmap, inode_block, zone_bitmap}
use Rattle.mq_layout.specs.Slots.{Entry}
use Rattle.mq_tree.specs.Free.{count_free, zone_blocks}
use Rattle.mq_tree.specs.Laid.{zone_block}
use Rattle.mq_tree.specs.Requests.{Makes, Says, Verdict, is_named, step, verdict}
use Rattle.mq_tree.specs.Volume.{File, Dir, Path, Volume, Way, body, has_block, inode_at, is_taken, is_used, node, way}
use Rattle.mq_tree.specs.declared.request.Fault.TheVariants.{NoInodes, NoSpace}
use Rattle.mq_tree.specs.declared.request.Reply.{Reply}
use Rattle.mq_tree.specs.declared.request.Reply.TheVariants.{Ok as Done, Data, Names, File as Size, Dir as Count, Refused}
use Rattle.mq_tree.specs.declared.request.Request.{Request}
use Rattle.mq_tree.specs.declared.request.Request.TheVariants.{Mkdir, Create, Write, Truncate, Unlink, Rmdir, Rename, Link, Read, List as ListOf, Stat}

abbrev pub paths_of : Request → List Path
paths_of (Mkdir p) = p ∷ []
paths_of (Create p) = p ∷ []
paths_of (Write p at bytes) = p ∷ []
paths_of (Truncate p size) = p ∷ []
paths_of (Unlink p) = p ∷ []
paths_of (Rmdir p) = p ∷ []
paths_of (Rename p to) = p ∷ to ∷ []
paths_of (Link p to) = p ∷ to ∷ []
paths_of (Read p at count) = p ∷ []
paths_of (ListOf p) = p ∷ []
paths_of (Stat p) = p ∷ []

-- the names of a way, from the first on, lead to this inode
abbrev pub Leads : Volume → Way → ℕ → Type 0
Leads v [] i = inode_at v [] ≡ Some i
Leads v (name ∷ way) i = (inode_at v (name ∷ way) ≡ Some i) ⊎ Leads v way i

abbrev pub LeadsIn : Volume → List Path → ℕ → Type 0
LeadsIn v [] i = ⊥
LeadsIn v (p ∷ ps) i = Leads v (way p) i ⊎ LeadsIn v ps i

-- The file whose bytes are read, written, filled, cut off or freed, where it has this many links: an
-- unlink frees them with the last name.
abbrev pub file_of : Request → (links : ℕ) → Option Path
file_of (Mkdir p) links = None
file_of (Create p) links = None
file_of (Write p at bytes) links = Some p
file_of (Truncate p size) links = Some p
file_of (Unlink p) links = if nat_le links 1 then Some p else None
file_of (Rmdir p) links = None
file_of (Rename p to) links = None
file_of (Link p to) links = None
file_of (Read p at count) links = Some p
file_of (ListOf p) links = None
file_of (Stat p) links = None

-- The bytes of a file of this size that are read, written, filled, cut off or freed: from the first on,
-- and before the second.
abbrev pub touched : Request → (size : ℕ) → ℕ × ℕ
touched (Mkdir p) size = (0, 0)
touched (Create p) size = (0, 0)
touched (Write p at []) size = (0, 0)
touched (Write p at (x ∷ xs)) size = (min at size, at + length (x ∷ xs))
touched (Truncate p to) size = (min to size, max to size)
touched (Unlink p) size = (0, size)
touched (Rmdir p) size = (0, 0)
touched (Rename p to) size = (0, 0)
touched (Link p to) size = (0, 0)
touched (Read p at count) size = (at, min (at + count) size)
touched (ListOf p) size = (0, 0)
touched (Stat p) size = (0, 0)

abbrev pub is_refused : Reply → Bool
is_refused Done = false
is_refused (Data bytes) = false
is_refused (Names names) = false
is_refused (Size size) = false
is_refused (Count count) = false
is_refused (Refused fault) = true

-- a request that makes a file or a directory
abbrev pub is_making : Request → Bool
is_making (Mkdir p) = true
is_making (Create p) = true
is_making (Write p at bytes) = false
is_making (Truncate p size) = false
is_making (Unlink p) = false
is_making (Rmdir p) = false
is_making (Rename p to) = false
is_making (Link p to) = false
is_making (Read p at count) = false
is_making (ListOf p) = false
is_making (Stat p) = false

-- the blocks that come before those of a zone where a session of this queue looks for free ones
abbrev pub before : Geometry → (queue zone : ℕ) → List ℕ
before g q z =
    if nat_eq z q then []
    else (if nat_lt z q then zone_blocks g q ++ range_with_len (meta_of g) (z * zone_size g)
    else zone_blocks g q ++ range_with_len (meta_of g) (q * zone_size g)
    ++ range_with_len (zone_block g (suc q) 0) ((z - suc q) * zone_size g))

-- how many new blocks it needs
abbrev pub needed : Verdict → ℕ
needed (Says reply) = 0
needed (Makes blocks next) = blocks

-- a file on whose bytes the request works
pub record WorksOn (v : Volume) (r : Request) (i : ℕ) (bytes : List ℕ) : Type 0 where
  pub path : Path
  pub names : file_of r (node v i).links ≡ Some path
  pub leads : inode_at v (way path) ≡ Some i
  pub is : body v i ≡ File bytes

-- the request takes or frees the inode
abbrev pub TakesInode : Geometry → (queue : ℕ) → Volume → Request → ℕ → Type 0
TakesInode g q v r i = is_used (body v i) ≢ is_used (body (step g q v r).next i)

-- A request whose names are good looks at block `b`.
pub data LooksAt (g : Geometry) (q : ℕ) (v : Volume) (r : Request) (b : ℕ) : Type 0 where
  -- the block of an inode to which its names lead
  inode : (i : ℕ) → LeadsIn v (paths_of r) i → b ≡ inode_block g i → LooksAt g q v r b
  -- the blocks of a directory to which they lead, and its block of pointers
  directory : (i : ℕ) (slots : List (Option Entry)) → LeadsIn v (paths_of r) i → body v i ≡ Dir slots
      → has_block (node v i) b ≡ true → LooksAt g q v r b
  -- a file's block of pointers
  pointers : (i : ℕ) (bytes : List ℕ) → WorksOn v r i bytes → is_refused (step g q v r).reply ≡ false
      → (node v i).indirect ≡ Some b → LooksAt g q v r b
  -- each block of a file with a byte that is touched
  bytes : (i place byte : ℕ) (bytes : List ℕ) → WorksOn v r i bytes
      → is_refused (step g q v r).reply ≡ false → slice_get (node v i).blocks place ≡ Some b
      → byte / 4096 ≡ place → (touched r (length bytes)).0 ≤ byte → byte < (touched r (length bytes)).1
      → LooksAt g q v r b
  -- where it takes or frees an inode, that inode's block and the bitmap of inodes
  taken_inode : (i : ℕ) → TakesInode g q v r i → b ≡ inode_block g i → LooksAt g q v r b
  marks : (i : ℕ) → TakesInode g q v r i → b ≡ inode_bitmap g → LooksAt g q v r b
  -- the bitmap of inodes, even if no inode is free or there is no space for a new name
  no_inodes : (step g q v r).reply ≡ Refused NoInodes → b ≡ inode_bitmap g → LooksAt g q v r b
  no_space : is_making r ≡ true → (step g q v r).reply ≡ Refused NoSpace → b ≡ inode_bitmap g
      → LooksAt g q v r b
  -- the bitmap of each zone of which it frees a block
  freed : (x : ℕ) → is_taken v x ≡ true → is_taken (step g q v r).next x ≡ false
      → b ≡ zone_bitmap ((x - meta_of g) / zone_size g) → LooksAt g q v r b
  -- each block that it takes
  taken : is_taken v b ≡ false → is_taken (step g q v r).next b ≡ true → LooksAt g q v r b
  -- the bitmap of each zone before which the need is not met
  searched : (zone : ℕ) → zone < queues_of g → count_free v (before g q zone) < needed (verdict g q v r)
      → b ≡ zone_bitmap zone → LooksAt g q v r b

-- A request with a name that is not good looks at nothing.
pub record Looks (g : Geometry) (q : ℕ) (v : Volume) (r : Request) (b : ℕ) : Type 0 where
  pub named : is_named r ≡ true
  pub looks : LooksAt g q v r b

-- one of the requests of a group looks at the block
abbrev pub GroupLooks : Geometry → (queue : ℕ) → Volume → List Request → ℕ → Type 0
GroupLooks g q v [] b = ⊥
GroupLooks g q v (r ∷ rs) b = Looks g q v r b ⊎ GroupLooks g q (step g q v r).next rs b
