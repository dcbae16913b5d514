-- Requests on a volume: what each one answers, what it changes, and which blocks it needs.
use Rattle.std.specs.Prelude.{ℕ, suc, ◌+◌, ◌-◌, Bool, true, false, ◌&&◌, List, [], ◌∷◌, ◌++◌, length, take, drop, replicate, slice_set, Option, Some, None, Result, Ok, Err, if◌then◌else◌, nat_eq, nat_lt, nat_le}
use Rattle.std.specs.Cmp.Lexicographic.{slice_cmp}
use Rattle.std.specs.List.{list_all}
use Rattle.std.specs.Ordering.{is_lt, nat_cmp}
use Rattle.std.specs.Str.{bytes_eq}
use Rattle.mq_blocks.specs.declared.geometry.Geometry.{Geometry}
use Rattle.mq_layout.specs.Names.{is_name}
use Rattle.mq_layout.specs.Places.{file_limit, names_limit}
use Rattle.mq_layout.specs.Slots.{Entry}
use Rattle.mq_tree.specs.Free.{first_free, free_blocks, grown, needs}
use Rattle.mq_tree.specs.Sound.{blocks_for}
use Rattle.mq_tree.specs.Volume.{Body, Free, File, Dir, Node, Path, Volume, Way, body, find, free_node, node, slots_of, way}
use Rattle.mq_tree.specs.declared.request.Fault.{Fault}
use Rattle.mq_tree.specs.declared.request.Fault.TheVariants.{NotFound, Exists, NotDir, IsDir, NotEmpty, BadName, TooBig, Subtree, NoSpace, NoInodes, Links}
use Rattle.mq_tree.specs.declared.request.Reply.{Reply}
use Rattle.mq_tree.specs.declared.request.Reply.TheVariants.{Ok as Done, Data, Names, File as Size, Dir as Count, Refused}
use Rattle.mq_tree.specs.declared.request.Request.{Request}
use Rattle.mq_tree.specs.declared.request.Request.TheVariants.{Mkdir, Create, Write, Truncate, Unlink, Rmdir, Rename, Link, Read, List as ListOf, Stat}

-- a request that may change the tree
abbrev pub is_change : Request → Bool
is_change (Mkdir p) = true
is_change (Create p) = true
is_change (Write p at bytes) = true
is_change (Truncate p size) = true
is_change (Unlink p) = true
is_change (Rmdir p) = true
is_change (Rename p q) = true
is_change (Link p q) = true
is_change (Read p at count) = false
is_change (ListOf p) = false
is_change (Stat p) = false

-- each name of its paths is good
abbrev pub is_named : Request → Bool
is_named (Mkdir p) = list_all is_name p
is_named (Create p) = list_all is_name p
is_named (Write p at bytes) = list_all is_name p
is_named (Truncate p size) = list_all is_name p
is_named (Unlink p) = list_all is_name p
is_named (Rmdir p) = list_all is_name p
is_named (Rename p q) = list_all is_name p && list_all is_name q
is_named (Link p q) = list_all is_name p && list_all is_name q
is_named (Read p at count) = list_all is_name p
is_named (ListOf p) = list_all is_name p
is_named (Stat p) = list_all is_name p

-- ---- walking

abbrev pub into_dir : ℕ → Body → Result ℕ Fault
into_dir i Free = Err NotFound
into_dir i (File bytes) = Err NotDir
into_dir i (Dir slots) = Ok i

-- into what stands under a name, which has to be a directory
abbrev pub enter : Volume → Option ℕ → Result ℕ Fault
enter v None = Err NotFound
enter v (Some i) = into_dir i (body v i)

abbrev pub go_on : Volume → List ℕ → Result ℕ Fault → Result ℕ Fault
go_on v name (Err fault) = Err fault
go_on v name (Ok d) = enter v (find name (slots_of (body v d)))

-- through all the names of a way
abbrev pub walk : Volume → Way → Result ℕ Fault
walk v [] = Ok 0
walk v (name ∷ way) = go_on v name (walk v way)

-- What a path names: the root; nothing, where walking to it is refused; or a name in a directory, with
-- the inode under it.
pub data RequestTarget : Type 0 where
  Root : RequestTarget
  Lost : Fault → RequestTarget
  In : (directory : ℕ) (name : List ℕ) (found : Option ℕ) → RequestTarget

abbrev pub target_in : Volume → List ℕ → Result ℕ Fault → RequestTarget
target_in v name (Err fault) = Lost fault
target_in v name (Ok d) = In d name (find name (slots_of (body v d)))

-- through all its names but the last
abbrev pub target : Volume → Way → RequestTarget
target v [] = Root
target v (name ∷ way) = target_in v name (walk v way)

-- ---- changes of one inode

abbrev pub with_body : Volume → ℕ → Body → Volume
with_body v i b =
    slice_set v i
    (record {
      body = b;
      blocks = (node v i).blocks;
      indirect = (node v i).indirect;
      links = (node v i).links;
    })

abbrev pub freed : Volume → ℕ → Volume
freed v i = slice_set v i free_node

abbrev pub with_links : Volume → ℕ → (links : ℕ) → Volume
with_links v i links =
    slice_set v i
    (record {
      body = body v i;
      blocks = (node v i).blocks;
      indirect = (node v i).indirect;
      links = links;
    })

-- a file with a link less, or free without the last one
abbrev pub released : Volume → ℕ → Volume
released v i = if nat_le (node v i).links 1 then freed v i else with_links v i ((node v i).links - 1)

-- how many names there are
abbrev pub count_names : List (Option Entry) → ℕ
count_names [] = 0
count_names (None ∷ slots) = count_names slots
count_names (Some e ∷ slots) = suc (count_names slots)

-- the first unused slot
abbrev pub unused : ℕ → List (Option Entry) → Option ℕ
unused k [] = None
unused k (None ∷ slots) = Some k
unused k (Some e ∷ slots) = unused (suc k) slots

-- the slots without the first entry of this name
abbrev pub cleared : List ℕ → List (Option Entry) → List (Option Entry)
cleared name [] = []
cleared name (None ∷ slots) = None ∷ cleared name slots
cleared name (Some e ∷ slots) = if bytes_eq e.name name then None ∷ slots else Some e ∷ cleared name slots

-- the directory without this name
abbrev pub unlinked : Volume → ℕ → List ℕ → Volume
unlinked v d name = with_body v d (Dir (cleared name (slots_of (body v d))))

-- how many blocks an entry more takes: none where a slot is unused
abbrev pub entry_needs : ℕ → Option ℕ → ℕ
entry_needs count (Some k) = 0
entry_needs count None = needs count (suc count)

abbrev pub link_needs : Node → ℕ
link_needs n = entry_needs (length n.blocks) (unused 0 (slots_of n.body))

abbrev pub linked_at : Geometry → (queue : ℕ) → Volume → ℕ → Entry → Option ℕ → Volume
linked_at g q v d e (Some k) = with_body v d (Dir (slice_set (slots_of (body v d)) k (Some e)))
linked_at g q v d e None =
    with_body (grown g q v d 1) d (Dir (slots_of (body v d) ++ (Some e ∷ replicate 14 None)))

-- the directory with an entry more: in its first unused slot, or in the first of a new block
abbrev pub linked : Geometry → (queue : ℕ) → Volume → ℕ → Entry → Volume
linked g q v d e = linked_at g q v d e (unused 0 (slots_of (body v d)))

-- cut to this size, or filled with zeros up to it
abbrev pub cut_to : ℕ → List ℕ → List ℕ
cut_to size bytes = take size bytes ++ replicate (size - length bytes) 0

-- These bytes at this offset, and zeros up to there where there were fewer. Without bytes nothing changes.
abbrev pub spliced : ℕ → (new : List ℕ) → List ℕ → List ℕ
spliced at [] bytes = bytes
spliced at (x ∷ xs) bytes = cut_to at bytes ++ (x ∷ xs) ++ drop (at + length (x ∷ xs)) bytes

-- The file with these bytes. It takes the blocks that it still needs; those past the end are freed, and
-- the block of pointers where it is not needed.
abbrev pub resized : Geometry → (queue : ℕ) → Volume → ℕ → List ℕ → Volume
resized g q v i bytes =
    let count = blocks_for (length bytes) in
    let grown_node = node (grown g q v i (count - length (node v i).blocks)) i in
    slice_set (grown g q v i (count - length (node v i).blocks)) i
    (record {
      body = File bytes;
      blocks = take count grown_node.blocks;
      indirect = if nat_lt 12 count then grown_node.indirect else None;
      links = grown_node.links;
    })

-- ---- what a request comes to

-- It answers and changes nothing; or it needs this number of new blocks, and where these are free it
-- makes this volume.
pub data Verdict : Type 0 where
  Says : Reply → Verdict
  Makes : (blocks : ℕ) (next : Volume) → Verdict

abbrev pub refused : Fault → Verdict
refused fault = Says (Refused fault)

-- a new file or directory, without blocks
abbrev pub make_free : Geometry → (queue : ℕ) → Volume → Body → (d : ℕ) → (name : List ℕ) → Option ℕ
    → Verdict
make_free g q v new d name None = refused NoInodes
make_free g q v new d name (Some i) =
    Makes (link_needs (node v d))
    (linked g q (slice_set v i (record { body = new; blocks = []; indirect = None; links = 1 })) d
    (record { inode = i; name = name }))

abbrev pub make : Geometry → (queue : ℕ) → Volume → Body → RequestTarget → Verdict
make g q v new Root = refused Exists
make g q v new (Lost fault) = refused fault
make g q v new (In d name (Some i)) = refused Exists
make g q v new (In d name None) =
    if nat_le names_limit (count_names (slots_of (body v d))) then refused TooBig
    else make_free g q v new d name (first_free 0 v)

-- a file with other bytes
abbrev pub set_bytes : Geometry → (queue : ℕ) → Volume → ℕ → (size : ℕ) → List ℕ → Verdict
set_bytes g q v i size bytes =
    if nat_lt file_limit size then refused TooBig
    else Makes (needs (length (node v i).blocks) (blocks_for (length bytes))) (resized g q v i bytes)

abbrev pub write_in : Geometry → (queue : ℕ) → Volume → ℕ → (at : ℕ) → List ℕ → Body → Verdict
write_in g q v i at new Free = refused NotFound
write_in g q v i at new (File bytes) = set_bytes g q v i (at + length new) (spliced at new bytes)
write_in g q v i at new (Dir slots) = refused IsDir

abbrev pub write : Geometry → (queue : ℕ) → Volume → (at : ℕ) → List ℕ → RequestTarget → Verdict
write g q v at new Root = refused IsDir
write g q v at new (Lost fault) = refused fault
write g q v at new (In d name None) = refused NotFound
write g q v at new (In d name (Some i)) = write_in g q v i at new (body v i)

abbrev pub truncate_in : Geometry → (queue : ℕ) → Volume → ℕ → (size : ℕ) → Body → Verdict
truncate_in g q v i size Free = refused NotFound
truncate_in g q v i size (File bytes) = set_bytes g q v i size (cut_to size bytes)
truncate_in g q v i size (Dir slots) = refused IsDir

abbrev pub truncate : Geometry → (queue : ℕ) → Volume → (size : ℕ) → RequestTarget → Verdict
truncate g q v size Root = refused IsDir
truncate g q v size (Lost fault) = refused fault
truncate g q v size (In d name None) = refused NotFound
truncate g q v size (In d name (Some i)) = truncate_in g q v i size (body v i)

abbrev pub unlink_in : Volume → (d : ℕ) → (name : List ℕ) → ℕ → Body → Verdict
unlink_in v d name i Free = refused NotFound
unlink_in v d name i (File bytes) = Makes 0 (released (unlinked v d name) i)
unlink_in v d name i (Dir slots) = refused IsDir

abbrev pub unlink : Volume → RequestTarget → Verdict
unlink v Root = refused IsDir
unlink v (Lost fault) = refused fault
unlink v (In d name None) = refused NotFound
unlink v (In d name (Some i)) = unlink_in v d name i (body v i)

abbrev pub rmdir_in : Volume → (d : ℕ) → (name : List ℕ) → ℕ → Body → Verdict
rmdir_in v d name i Free = refused NotFound
rmdir_in v d name i (File bytes) = refused NotDir
rmdir_in v d name i (Dir slots) =
    if nat_eq (count_names slots) 0 then Makes 0 (freed (unlinked v d name) i) else refused NotEmpty

abbrev pub rmdir : Volume → RequestTarget → Verdict
rmdir v Root = refused BadName
rmdir v (Lost fault) = refused fault
rmdir v (In d name None) = refused NotFound
rmdir v (In d name (Some i)) = rmdir_in v d name i (body v i)

-- the second path has the names of the first, and more
abbrev pub is_below : Path → Path → Bool
is_below [] [] = false
is_below [] (name ∷ path) = true
is_below (name ∷ path) [] = false
is_below (name ∷ path) (other ∷ below) = bytes_eq name other && is_below path below

-- into a directory of the volume from which the old name is gone
abbrev pub move_in : Geometry → (queue : ℕ) → (without : Volume) → ℕ → (d : ℕ) → (name : List ℕ) → Verdict
move_in g q w i d name =
    if nat_le names_limit (count_names (slots_of (body w d))) then refused TooBig
    else Makes (link_needs (node w d)) (linked g q w d (record { inode = i; name = name }))

abbrev pub move : Geometry → (queue : ℕ) → (without : Volume) → ℕ → RequestTarget → Verdict
move g q w i Root = refused Exists
move g q w i (Lost fault) = refused fault
move g q w i (In d name (Some j)) = refused Exists
move g q w i (In d name None) = move_in g q w i d name

abbrev pub rename : Geometry → (queue : ℕ) → Volume → (from to : Path) → RequestTarget → Verdict
rename g q v from to Root = refused Subtree
rename g q v from to (Lost fault) = refused fault
rename g q v from to (In d name None) = refused NotFound
rename g q v from to (In d name (Some i)) =
    if is_below from to then refused Subtree else move g q (unlinked v d name) i (target v (way to))

-- the most names of a file
abbrev pub links_limit : ℕ
links_limit = 65535

-- a name more for a file, in a directory that does not have it
abbrev pub link_in : Geometry → (queue : ℕ) → Volume → ℕ → (d : ℕ) → (name : List ℕ) → Verdict
link_in g q v i d name =
    if nat_le names_limit (count_names (slots_of (body v d))) then refused TooBig
    else (if nat_le links_limit (node v i).links then refused Links
    else Makes (link_needs (node v d))
    (linked g q (with_links v i (suc (node v i).links)) d (record { inode = i; name = name })))

abbrev pub link_to : Geometry → (queue : ℕ) → Volume → ℕ → RequestTarget → Verdict
link_to g q v i Root = refused Exists
link_to g q v i (Lost fault) = refused fault
link_to g q v i (In d name (Some j)) = refused Exists
link_to g q v i (In d name None) = link_in g q v i d name

abbrev pub link_file : Geometry → (queue : ℕ) → Volume → ℕ → (to : RequestTarget) → Body → Verdict
link_file g q v i to Free = refused NotFound
link_file g q v i to (File bytes) = link_to g q v i to
link_file g q v i to (Dir slots) = refused IsDir

abbrev pub link : Geometry → (queue : ℕ) → Volume → (to : RequestTarget) → RequestTarget → Verdict
link g q v to Root = refused IsDir
link g q v to (Lost fault) = refused fault
link g q v to (In d name None) = refused NotFound
link g q v to (In d name (Some i)) = link_file g q v i to (body v i)

-- ---- reading

abbrev pub read_in : (at count : ℕ) → Body → Reply
read_in at count Free = Refused NotFound
read_in at count (File bytes) = Data (take count (drop at bytes))
read_in at count (Dir slots) = Refused IsDir

-- names in rising order of bytes
abbrev pub insert_name : List ℕ → List (List ℕ) → List (List ℕ)
insert_name name [] = name ∷ []
insert_name name (other ∷ names) =
    if is_lt (slice_cmp nat_cmp name other) then name ∷ other ∷ names
    else other ∷ insert_name name names

abbrev pub names_in : List (Option Entry) → List (List ℕ)
names_in [] = []
names_in (None ∷ slots) = names_in slots
names_in (Some e ∷ slots) = insert_name e.name (names_in slots)

abbrev pub list_in : Body → Reply
list_in Free = Refused NotFound
list_in (File bytes) = Refused NotDir
list_in (Dir slots) = Names (names_in slots)

abbrev pub stat_in : Body → Reply
stat_in Free = Refused NotFound
stat_in (File bytes) = Size (length bytes)
stat_in (Dir slots) = Count (count_names slots)

-- what such a request says of what its path names
abbrev pub asks : Volume → (Body → Reply) → RequestTarget → Verdict
asks v reply Root = Says (reply (body v 0))
asks v reply (Lost fault) = refused fault
asks v reply (In d name None) = refused NotFound
asks v reply (In d name (Some i)) = Says (reply (body v i))

-- ---- one request, and a group

abbrev pub act : Geometry → (queue : ℕ) → Volume → Request → Verdict
act g q v (Mkdir p) = make g q v (Dir []) (target v (way p))
act g q v (Create p) = make g q v (File []) (target v (way p))
act g q v (Write p at bytes) = write g q v at bytes (target v (way p))
act g q v (Truncate p size) = truncate g q v size (target v (way p))
act g q v (Unlink p) = unlink v (target v (way p))
act g q v (Rmdir p) = rmdir v (target v (way p))
act g q v (Rename p to) = rename g q v p to (target v (way p))
act g q v (Link p to) = link g q v (target v (way to)) (target v (way p))
act g q v (Read p at count) = asks v (read_in at count) (target v (way p))
act g q v (ListOf p) = asks v list_in (target v (way p))
act g q v (Stat p) = asks v stat_in (target v (way p))

-- a name that is not good is refused first
abbrev pub verdict : Geometry → (queue : ℕ) → Volume → Request → Verdict
verdict g q v r = if is_named r then act g q v r else refused BadName

-- what a request comes to: its reply, and the volume after it
pub record RequestOutcome : Type 0 where
  pub reply : Reply
  pub next : Volume

-- More blocks than are free are refused last.
abbrev pub carried_out : Geometry → Volume → Verdict → RequestOutcome
carried_out g v (Says reply) = record { reply = reply; next = v }
carried_out g v (Makes blocks next) =
    if nat_lt (free_blocks g v) blocks then record { reply = Refused NoSpace; next = v }
    else record { reply = Done; next = next }

-- a request of a session on this queue
unfoldable pub step : Geometry → (queue : ℕ) → Volume → Request → RequestOutcome
step g q v r = carried_out g v (verdict g q v r)

-- one request of a group after another: the replies, and the volume at the end
unfoldable pub replies : Geometry → (queue : ℕ) → Volume → List Request → List Reply
replies g q v [] = []
replies g q v (r ∷ rs) = (step g q v r).reply ∷ replies g q (step g q v r).next rs

unfoldable pub after_group : Geometry → (queue : ℕ) → Volume → List Request → Volume
after_group g q v [] = v
after_group g q v (r ∷ rs) = after_group g q (step g q v r).next rs
