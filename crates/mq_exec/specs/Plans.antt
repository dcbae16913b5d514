-- Requests that change, once it is known what they come to.
use Rattle.std.specs.Prelude.{◌≡◌, ◌≢◌, ◌<◌, ◌≤◌, ◌+◌, ◌-◌, ℕ, Bool, true, false, List, [], ◌∷◌, ◌++◌, length, slice_index, Option, Some, None, if◌then◌else◌, nat_eq, nat_le}
use Rattle.std.specs.List.{All}
use Rattle.mq_blocks.specs.declared.geometry.Geometry.{Geometry}
use Rattle.mq_exec.specs.declared.link.Linking.{Linking}
use Rattle.mq_exec.specs.declared.make.Creation.{Creation}
use Rattle.mq_exec.specs.declared.remove.Removal.{Removal}
use Rattle.mq_exec.specs.declared.rename.Renaming.{Renaming}
use Rattle.mq_exec.specs.declared.rewrite.Rewriting.{Rewriting}
use Rattle.mq_exec.specs.declared.file.Found.{Found}
use Rattle.mq_inodes.specs.Bare.{with_inode}
use Rattle.mq_inodes.specs.Dirs.{AreDirsAt, slots_at}
use Rattle.mq_inodes.specs.Edits.{Becomes}
use Rattle.mq_inodes.specs.Opened.{HoldsPointers, IsOpened, IsReleasable, IsTakeable, MayCount, MayGrow, MayLink, MayUnlink}
use Rattle.mq_inodes.specs.Pages.{IsHeld, Pages}
use Rattle.mq_inodes.specs.Files.{IsFileOf}
use Rattle.mq_inodes.specs.Picks.{IsMarkable}
use Rattle.mq_inodes.specs.Unseen.{AreFree}
use Rattle.mq_inodes.specs.Walks.{last_of}
use Rattle.mq_inodes.specs.declared.opened.Opened.{Opened}
use Rattle.mq_inodes.specs.declared.working.Working.{Working}
use Rattle.mq_layout.specs.Places.{file_limit, inode_bitmap, inode_block, inodes_of, names_limit}
use Rattle.mq_layout.specs.Slots.{Entry}
use Rattle.mq_tree.specs.Requests.{In, Lost, Root, RequestTarget, Verdict, carried_out, count_names, entry_needs, freed, is_below, link, linked, make, refused, rename, resized, target, unlinked, unused, with_links}
use Rattle.mq_tree.specs.Sound.{blocks_for}
use Rattle.mq_tree.specs.Volume.{Body, Free, File, Dir, Path, Volume, body, find, slots_of, way}
use Rattle.mq_tree.specs.declared.request.Fault.{Fault}
use Rattle.mq_tree.specs.declared.request.Fault.TheVariants.{IsDir, NotFound}
use Rattle.mq_tree.specs.declared.request.Reply.{Reply}
use Rattle.mq_tree.specs.declared.request.Reply.TheVariants.{Ok as Ready, Refused}
use Rattle.mq_tree.specs.declared.request.Request.{Request}
use Rattle.mq_tree.specs.declared.request.Request.TheVariants.{Create, Mkdir}

-- ---- what a request comes to

-- it is refused, and changes nothing
abbrev pub IsRefused : Geometry → Volume → Verdict → Fault → Type 0
IsRefused g v verdict fault = carried_out g v verdict ≡ record { reply = Refused fault; next = v }

-- it makes this volume
abbrev pub IsCarried : Geometry → Volume → Verdict → (next : Volume) → Type 0
IsCarried g v verdict next = carried_out g v verdict ≡ record { reply = Ready; next = next }

-- it was answered so, and the pages carry the volume that it makes
pub record ComesTo (g : Geometry) (v : Volume) (verdict : Verdict) (reply : Reply)
    (old new : Working) : Type 0 where
  pub reply_is : reply ≡ (carried_out g v verdict).reply
  pub becomes : Becomes g v (carried_out g v verdict).next old new

-- ---- creations

abbrev pub make_request : (is_directory : Bool) → Path → Request
make_request true path = Mkdir path
make_request false path = Create path

abbrev pub made_entry : Path → Creation → Entry
made_entry path m = record { inode = m.inode; name = last_of (way path) }

pub record PlansMake (g : Geometry) (q : ℕ) (v : Volume) (new : Body) (path : Path)
    (m : Creation) : Type 0 where
  pub carried : IsCarried g v (make g q v new (target v (way path)))
      (linked g q (with_inode v m.inode new) m.directory.number (made_entry path m))
  pub low : m.inode < inodes_of g
  pub free : body v m.inode ≡ Free
  pub link : MayLink g q v m.directory (made_entry path m) m.picks.items

pub record HoldsMake (g : Geometry) (pages : Pages) (m : Creation) : Type 0 where
  pub dirs : AreDirsAt pages m.directory.blocks.items
  pub few : length m.directory.blocks.items ≤ 1036
  pub table : IsHeld pages (inode_block g m.directory.number)
  pub pointers : HoldsPointers pages m.directory
  pub picks : All (IsMarkable g pages) m.picks.items
  pub marks : IsHeld pages (inode_bitmap g)
  pub slot : m.unused ≡ unused 0 (slots_at pages m.directory.blocks.items)

-- the blocks that are looked at last: those that are taken, and that of the inode
abbrev pub wanted : Geometry → Creation → List ℕ
wanted g m = m.picks.items ++ inode_block g m.inode ∷ []

-- they are known
pub record IsSeen (g : Geometry) (pages : Pages) (m : Creation) : Type 0 where
  pub picks : AreFree pages m.picks.items
  pub inode : IsHeld pages (inode_block g m.inode)

-- ---- removing

pub record PlansRemove (g : Geometry) (v : Volume) (verdict : Verdict) (path : Path)
    (m : Removal) : Type 0 where
  pub target_is : target v (way path) ≡ In m.directory.number (last_of (way path)) (Some m.gone.number)
  pub carried : IsCarried g v verdict
      (freed (unlinked v m.directory.number (last_of (way path))) m.gone.number)
  pub unlink : MayUnlink g v m.directory.number m.directory.blocks.items
  pub found : find (last_of (way path)) (slots_of (body v m.directory.number)) ≡ Some m.gone.number
  pub gone : IsOpened g v m.gone
  pub other : m.gone.number ≢ m.directory.number

-- all blocks of an inode may be freed
pub record MayRelease (g : Geometry) (pages : Pages) (o : Opened) : Type 0 where
  pub blocks : All (IsReleasable g pages) o.blocks.items
  pub pointers : 12 < length o.blocks.items → IsReleasable g pages o.inode.indirect

pub record HoldsRemove (g : Geometry) (pages : Pages) (m : Removal) : Type 0 where
  pub dirs : AreDirsAt pages m.directory.blocks.items
  pub few : length m.directory.blocks.items ≤ 1036
  pub table : IsHeld pages (inode_block g m.gone.number)
  pub marks : IsHeld pages (inode_bitmap g)
  pub release : MayRelease g pages m.gone

-- ---- renaming

-- what is to move, and where its name stands
pub record IsSource (v : Volume) (from to : Path) (found : ℕ × ℕ) : Type 0 where
  pub target_is : target v (way from) ≡ In found.0 (last_of (way from)) (Some found.1)
  pub apart : is_below from to ≡ false

abbrev pub moved_entry : Path → Renaming → Entry
moved_entry to m = record { inode = m.inode; name = last_of (way to) }

-- Within one directory the slot of the old name is unused again: no block is needed, and there is room.
abbrev pub move_needs : (from into : ℕ) → (count : ℕ) → List (Option Entry) → ℕ
move_needs from into count slots = if nat_eq from into then 0 else entry_needs count (unused 0 slots)

abbrev pub is_full : (from into : ℕ) → List (Option Entry) → Bool
is_full from into slots = if nat_eq from into then false else nat_le names_limit (count_names slots)

pub record PlansRename (g : Geometry) (q : ℕ) (v : Volume) (from to : Path) (m : Renaming) : Type 0 where
  pub carried : IsCarried g v (rename g q v from to (target v (way from)))
      (linked g q (unlinked v m.source.number (last_of (way from))) m.directory.number
      (moved_entry to m))
  pub unlink : MayUnlink g v m.source.number m.source.blocks.items
  pub found : find (last_of (way from)) (slots_of (body v m.source.number)) ≡ Some m.inode
  pub link : MayLink g q (unlinked v m.source.number (last_of (way from))) m.directory
      (moved_entry to m) m.picks.items

pub record HoldsRename (g : Geometry) (pages : Pages) (m : Renaming) : Type 0 where
  pub source : AreDirsAt pages m.source.blocks.items
  pub few : length m.source.blocks.items ≤ 1036
  pub dirs : AreDirsAt pages m.directory.blocks.items
  pub few_dirs : length m.directory.blocks.items ≤ 1036
  pub table : IsHeld pages (inode_block g m.directory.number)
  pub pointers : HoldsPointers pages m.directory
  pub picks : All (IsTakeable g pages) m.picks.items

-- ---- files

abbrev pub on_body : (act : ℕ → List ℕ → ℕ → List ℕ → Verdict) → (d : ℕ) → (name : List ℕ) → ℕ → Body
    → Verdict
on_body act d name i Free = refused NotFound
on_body act d name i (File bytes) = act d name i bytes
on_body act d name i (Dir slots) = refused IsDir

-- what a request comes to that works on a file: on its directory, its name, its inode and its bytes
abbrev pub on_file : Volume → (act : ℕ → List ℕ → ℕ → List ℕ → Verdict) → RequestTarget → Verdict
on_file v act Root = refused IsDir
on_file v act (Lost fault) = refused fault
on_file v act (In d name None) = refused NotFound
on_file v act (In d name (Some i)) = on_body act d name i (body v i)

-- the file that a path names
pub record IsFound (v : Volume) (path : Path) (f : Found) : Type 0 where
  pub target_is : target v (way path) ≡ In f.directory (last_of (way path)) (Some f.number)
  pub file : IsFileOf v f.number f.inode

-- A file gets other bytes, and is as long as before or longer.
pub record PlansRewrite (g : Geometry) (q : ℕ) (v : Volume) (verdict : Verdict)
    (rewritten : List ℕ → List ℕ) (m : Rewriting) : Type 0 where
  pub bytes : List ℕ
  pub is : body v m.file.number ≡ File bytes
  pub carried : IsCarried g v verdict (resized g q v m.file.number (rewritten bytes))
  pub size : m.size ≡ length (rewritten bytes)
  pub limit : m.size ≤ file_limit
  pub longer : length bytes ≤ m.size
  pub count : length m.file.blocks.items ≡ blocks_for (length bytes)
  pub grow : MayGrow g q v m.file m.picks.items (blocks_for m.size - blocks_for (length bytes))

pub record HoldsRewrite (g : Geometry) (pages : Pages) (m : Rewriting) : Type 0 where
  pub picks : All (IsTakeable g pages) m.picks.items
  pub table : IsHeld pages (inode_block g m.file.number)
  pub pointers : HoldsPointers pages m.file

-- the blocks that a file has from a place on, and before another, are held
abbrev pub HoldsPlaces : Pages → (blocks : List ℕ) → (first past : ℕ) → Type 0
HoldsPlaces pages blocks first past =
    (place : ℕ) → first ≤ place → place < past → place < length blocks
    → IsHeld pages (slice_index blocks place)

-- A file loses the name of the path and keeps others: the blocks are its directory's.
pub record PlansShed (g : Geometry) (v : Volume) (path : Path) (blocks : List ℕ)
    (f : Found) : Type 0 where
  pub target_is : target v (way path) ≡ In f.directory (last_of (way path)) (Some f.number)
  pub unlink : MayUnlink g v f.directory blocks
  pub found : find (last_of (way path)) (slots_of (body v f.directory)) ≡ Some f.number
  pub other : f.number ≢ f.directory
  pub count : MayCount g v f.number (f.inode.links - 1) f.inode

-- ---- one more name of a file

abbrev pub linked_entry : Path → Linking → Entry
linked_entry to m = record { inode = m.file.number; name = last_of (way to) }

-- the file with a link more, before its name is added
abbrev pub more_links : Volume → Linking → Volume
more_links v m = with_links v m.file.number (m.file.inode.links + 1)

pub record PlansLink (g : Geometry) (q : ℕ) (v : Volume) (from to : Path) (m : Linking) : Type 0 where
  pub carried : IsCarried g v (link g q v (target v (way to)) (target v (way from)))
      (linked g q (more_links v m) m.directory.number (linked_entry to m))
  pub count : MayCount g v m.file.number (m.file.inode.links + 1) m.file.inode
  pub link : MayLink g q (more_links v m) m.directory (linked_entry to m) m.picks.items
  pub some : (name : List ℕ) × (rest : List (List ℕ)) × (way to ≡ name ∷ rest)

pub record HoldsLink (g : Geometry) (pages : Pages) (m : Linking) : Type 0 where
  pub file : IsHeld pages (inode_block g m.file.number)
  pub dirs : AreDirsAt pages m.directory.blocks.items
  pub few : length m.directory.blocks.items ≤ 1036
  pub table : IsHeld pages (inode_block g m.directory.number)
  pub pointers : HoldsPointers pages m.directory
  pub picks : All (IsTakeable g pages) m.picks.items
