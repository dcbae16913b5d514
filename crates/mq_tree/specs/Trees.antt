-- A tree as it is kept: what each inode is, without its place on the blocks.
use Rattle.std.specs.Prelude.{◌≡◌, ℕ, List, [], ◌∷◌, length, take, drop, Option, Some, None, Result, Ok, Err}
use Rattle.mq_blocks.specs.declared.geometry.Geometry.{Geometry}
use Rattle.mq_tree.specs.Directories.{AreSameNames}
use Rattle.mq_tree.specs.Requests.{Says, Verdict, refused, verdict}
use Rattle.mq_tree.specs.Volume.{Body, Free, File, Dir, Path, Volume, body, slots_of, thing}
use Rattle.mq_tree.specs.declared.contents.InodeContent.{InodeContent}
use Rattle.mq_tree.specs.declared.contents.InodeContent.TheVariants.{Free as NoContent, File as Bytes, Dir as Names}
use Rattle.mq_tree.specs.declared.request.Fault.{Fault}
use Rattle.mq_tree.specs.declared.request.Fault.TheVariants.{IsDir, NotFound}
use Rattle.mq_tree.specs.declared.request.Reply.TheVariants.{Data}
use Rattle.mq_tree.specs.declared.request.Request.TheVariants.{Read}

abbrev pub body_kept : InodeContent → Body
body_kept NoContent = Free
body_kept (Bytes bytes) = File bytes
body_kept (Names names) = Dir names

-- the volume of what is kept, whose directories have a slot for each name, in rising order
abbrev pub kept : List InodeContent → Volume
kept [] = []
kept (c ∷ cs) = record { body = body_kept c; blocks = []; indirect = None; links = 0 } ∷ kept cs

-- the same kind, the same bytes, and the same names with the same inodes
abbrev pub IsSameBody : Body → Body → Type 0
IsSameBody a b = (thing a ≡ thing b) × AreSameNames (slots_of a) (slots_of b)

-- the same inode by inode
pub record IsAlike (v w : Volume) : Type 0 where
  pub count : length v ≡ length w
  pub each : (i : ℕ) → IsSameBody (body v i) (body w i)

-- ---- files

abbrev pub found_in : Option ℕ → Result ℕ Fault
found_in None = Err NotFound
found_in (Some i) = Ok i

-- the bytes of an inode that is a file
abbrev pub file_in : Body → Result (List ℕ) Fault
file_in Free = Err NotFound
file_in (File bytes) = Ok bytes
file_in (Dir slots) = Err IsDir

-- what a request to read answers, where these are the bytes of the file or this is why it is refused
abbrev pub read_answer : (at count : ℕ) → Result (List ℕ) Fault → Verdict
read_answer at count (Ok bytes) = Says (Data (take count (drop at bytes)))
read_answer at count (Err fault) = refused fault

-- each request to read this path answers so
abbrev pub ReadsAs : Volume → Path → Result (List ℕ) Fault → Type 0
ReadsAs v path r =
    (g : Geometry) (q at count : ℕ) → verdict g q v (Read path at count) ≡ read_answer at count r
