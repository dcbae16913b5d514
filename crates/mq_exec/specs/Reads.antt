-- Requests that read: what their paths name, and the bytes of files.
use Rattle.std.specs.Prelude.{◌≡◌, ℕ, true, Result, Ok, Err, Some, None, if◌then◌else◌}
use Rattle.std.specs.List.{list_all}
use Rattle.mq_blocks.specs.declared.geometry.Geometry.{Geometry}
use Rattle.mq_exec.specs.declared.named_inode.Subject.{Subject}
use Rattle.mq_inodes.specs.Walks.{IsDirectory, LeadsPast}
use Rattle.mq_inodes.specs.declared.walk.Target.{Target}
use Rattle.mq_inodes.specs.declared.walk.Target.TheVariants.{Root, Lost, In}
use Rattle.mq_layout.specs.Names.{is_name}
use Rattle.mq_tree.specs.Laid.{inode_of}
use Rattle.mq_tree.specs.Looks.{Looks}
use Rattle.mq_tree.specs.Requests.{Says, Verdict, asks, list_in, read_in, refused, stat_in, step, target}
use Rattle.mq_tree.specs.Volume.{Body, Path, Volume, body, has_block, inode_at, is_used, node, way}
use Rattle.mq_tree.specs.declared.request.Fault.{Fault}
use Rattle.mq_tree.specs.declared.request.Fault.TheVariants.{BadName, NotFound}
use Rattle.mq_tree.specs.declared.request.Reply.{Reply}
use Rattle.mq_tree.specs.declared.request.Reply.TheVariants.{Ok as Ready}
use Rattle.mq_tree.specs.declared.request.Request.{Request}
use Rattle.mq_tree.specs.declared.request.Request.TheVariants.{Mkdir, Create, Write, Truncate, Unlink, Rmdir, Rename, Link, Read, List as ListOf, Stat}

-- the inode that is read at a target
abbrev pub number_of : Target → Result ℕ Fault
number_of Root = Ok 0
number_of (Lost fault) = Err fault
number_of (In directory None) = Err NotFound
number_of (In directory (Some i)) = Ok i

-- what a request that reads says of what its path names, where bad names are refused first
abbrev pub asked : Volume → (Body → Reply) → Path → Verdict
asked v reply path = if list_all is_name path then asks v reply (target v (way path)) else refused BadName

-- an inode that is used, and what it says
pub record IsInodeOf (v : Volume) (s : Subject) : Type 0 where
  pub says : s.inode ≡ inode_of (node v s.number)
  pub used : is_used (body v s.number) ≡ true

-- it is what the path names
pub record IsNamed (v : Volume) (path : Path) (s : Subject) : Type 0 where
  pub is : IsInodeOf v s
  pub names : list_all is_name path ≡ true
  pub leads : inode_at v (way path) ≡ Some s.number
  pub answers : (reply : Body → Reply) → asked v reply path ≡ Says (reply (body v s.number))

-- what a path was found to name, or why each request that reads is refused
abbrev pub IsNamedOrRefused : Volume → Path → Result Subject Fault → Type 0
IsNamedOrRefused v path (Ok s) = IsNamed v path s
IsNamedOrRefused v path (Err fault) = (reply : Body → Reply) → asked v reply path ≡ refused fault

-- good names lead past the block
pub record NamesLeadPast (g : Geometry) (v : Volume) (path : Path) (b : ℕ) : Type 0 where
  pub names : list_all is_name path ≡ true
  pub past : LeadsPast g v (way path) b

-- a block of a directory
pub record LooksInDir (v : Volume) (i b : ℕ) : Type 0 where
  pub dir : IsDirectory v i
  pub has : has_block (node v i) b ≡ true

-- ---- by request

-- the first path of a request
abbrev pub path_of : Request → Path
path_of (Mkdir p) = p
path_of (Create p) = p
path_of (Write p at bytes) = p
path_of (Truncate p size) = p
path_of (Unlink p) = p
path_of (Rmdir p) = p
path_of (Rename p to) = p
path_of (Link p to) = p
path_of (Read p at count) = p
path_of (ListOf p) = p
path_of (Stat p) = p

-- what one that reads answers of what stands there
abbrev pub reading : Request → Body → Reply
reading (Mkdir p) x = Ready
reading (Create p) x = Ready
reading (Write p at bytes) x = Ready
reading (Truncate p size) x = Ready
reading (Unlink p) x = Ready
reading (Rmdir p) x = Ready
reading (Rename p to) x = Ready
reading (Link p to) x = Ready
reading (Read p at count) x = read_in at count x
reading (ListOf p) x = list_in x
reading (Stat p) x = stat_in x

-- its answer, after which all stands as before
abbrev pub Reads : Geometry → Volume → Request → Reply → Type 0
Reads g v r reply = (q : ℕ) → step g q v r ≡ record { reply = reply; next = v }

-- it looks at the block, whichever queue its session has
abbrev pub LooksAlways : Geometry → Volume → Request → ℕ → Type 0
LooksAlways g v r b = (q : ℕ) → Looks g q v r b
