-- Requests on a small file system: one queue, 32 inodes, and a zone of 3 blocks from block 4 on.
use Rattle.std.proofs.Common.{◌≡◌, ℕ, List, [], ◌∷◌, refl, lit≤}
use Rattle.std.specs.Prelude.{Option, Some, None, codes, replicate}
use Rattle.std.specs.Fmt.{digits}
use Rattle.mq_blocks.specs.Geometry.{shaped}
use Rattle.mq_blocks.specs.declared.geometry.Geometry.{Geometry}
use Rattle.mq_layout.specs.Names.{is_name}
use Rattle.mq_layout.specs.Slots.{Entry}
use Rattle.mq_tree.specs.Empty.{empty_volume}
use Rattle.mq_tree.specs.Free.{needs, order}
use Rattle.mq_tree.specs.ListText.{lines, list_text}
use Rattle.mq_tree.specs.Requests.{after_group, replies, step}
use Rattle.mq_tree.specs.Volume.{AFile, Dir, File, Volume, free_node, node, tree}
use Rattle.mq_tree.specs.declared.request.Fault.TheVariants.{NotFound, Exists, NotDir, IsDir, BadName, Subtree, NoSpace}
use Rattle.mq_tree.specs.declared.request.Reply.TheVariants.{Ok as Done, Data, Names, File as Size, Dir as Count, Refused}
use Rattle.mq_tree.specs.declared.request.Request.{Request}
use Rattle.mq_tree.specs.declared.request.Request.TheVariants.{Mkdir, Create, Write, Truncate, Unlink, Rmdir, Rename, Read, List as ListOf, Stat}

unfoldable pub small : Geometry
small = shaped 1 1024 4 3 (lit≤ tt, lit≤ tt) (lit≤ tt, lit≤ tt) (lit≤ tt, lit≤ tt, lit≤ tt)

abbrev pub a : List ℕ
a = 97 ∷ []

abbrev pub f : List ℕ
f = 102 ∷ []

-- mkdir /a, create /a/f, write /a/f 0 "hi"
abbrev pub first : List Request
first = Mkdir (a ∷ []) ∷ Create (a ∷ f ∷ []) ∷ Write (a ∷ f ∷ []) 0 (104 ∷ 105 ∷ []) ∷ []

abbrev pub v : Volume
v = after_group small 0 (empty_volume small) first

all-done : replies small 0 (empty_volume small) first ≡ Done ∷ Done ∷ Done ∷ []
unfolding replies step after_group small is_name
all-done = refl

the-file : tree v (a ∷ f ∷ []) ≡ Some (AFile (104 ∷ 105 ∷ []))
unfolding step after_group small is_name
the-file = refl

-- the least free inodes, and the first free blocks, are taken
abbrev slots_with : Entry → List (Option Entry)
slots_with e = Some e ∷ replicate 14 None

the-root : node v 0 ≡ record { body = Dir (slots_with (record { inode = 1; name = a })); blocks = 4 ∷ []; indirect = None; links = 1 }
unfolding step after_group small is_name
the-root = refl

the-directory : node v 1 ≡ record { body = Dir (slots_with (record { inode = 2; name = f })); blocks = 5 ∷ []; indirect = None; links = 1 }
unfolding step after_group small is_name
the-directory = refl

the-inode : node v 2 ≡ record { body = File (104 ∷ 105 ∷ []); blocks = 6 ∷ []; indirect = None; links = 1 }
unfolding step after_group small is_name
the-inode = refl

-- All three blocks are taken. A refused request changes nothing, and the others act.
abbrev second : List Request
second =
    Mkdir (a ∷ []) ∷ Mkdir (f ∷ f ∷ []) ∷ Mkdir (a ∷ f ∷ f ∷ []) ∷ Mkdir ((47 ∷ []) ∷ []) ∷ Mkdir [] ∷ Truncate (a ∷ f ∷ []) 5000
    ∷ Create (a ∷ a ∷ []) ∷ Write (a ∷ a ∷ []) 0 (1 ∷ []) ∷ Write (a ∷ f ∷ []) 3 (33 ∷ []) ∷ Read (a ∷ f ∷ []) 1 9 ∷ ListOf (a ∷ []) ∷ Stat (a ∷ []) ∷ Stat (a ∷ f ∷ []) ∷ Read [] 0 1 ∷ []

second-replies : replies small 0 v second ≡
    Refused Exists ∷ Refused NotFound ∷ Refused NotDir ∷ Refused BadName ∷ Refused Exists ∷ Refused NoSpace
    ∷ Done ∷ Refused NoSpace ∷ Done ∷ Data (105 ∷ 0 ∷ 33 ∷ []) ∷ Names (a ∷ f ∷ []) ∷ Count 2 ∷ Size 4 ∷ Refused IsDir ∷ []
unfolding replies step after_group small is_name
second-replies = refl

-- A directory does not move into itself, and a name is not replaced. A file that is gone frees its block.
abbrev third : List Request
third =
    Rename (a ∷ []) (a ∷ f ∷ a ∷ []) ∷ Rename [] (f ∷ []) ∷ Rename (a ∷ f ∷ []) (a ∷ []) ∷ Rename (a ∷ f ∷ []) (f ∷ []) ∷ Read (f ∷ []) 0 2
    ∷ Rmdir (f ∷ []) ∷ Unlink (a ∷ []) ∷ Rmdir (a ∷ []) ∷ Unlink (f ∷ []) ∷ Unlink (f ∷ []) ∷ Rmdir [] ∷ ListOf [] ∷ []

third-replies : replies small 0 v third ≡
    Refused Subtree ∷ Refused Subtree ∷ Refused Exists ∷ Done ∷ Data (104 ∷ 105 ∷ [])
    ∷ Refused NotDir ∷ Refused IsDir ∷ Done ∷ Done ∷ Refused NotFound ∷ Refused BadName ∷ Names [] ∷ []
unfolding replies step after_group small is_name
third-replies = refl

-- what is left of the inodes, and a block of a directory stays
third-left : after_group small 0 v third ≡ (record { body = Dir (replicate 15 None); blocks = 4 ∷ []; indirect = None; links = 1 }) ∷ replicate 31 free_node
unfolding step after_group small is_name
third-left = refl

-- ---- which blocks are taken

three : Geometry
three = shaped 3 1024 6 2 (lit≤ tt, lit≤ tt) (lit≤ tt, lit≤ tt) (lit≤ tt, lit≤ tt, lit≤ tt)

-- those of the own zone first
order-own : order three 1 ≡ 8 ∷ 9 ∷ 6 ∷ 7 ∷ 10 ∷ 11 ∷ []
unfolding three
order-own = refl

-- the thirteenth block takes one for the pointers with it
needs-thirteen : (needs 12 13 ≡ 2) × (needs 0 12 ≡ 12) × (needs 13 14 ≡ 1) × (needs 14 3 ≡ 0)
needs-thirteen = (refl, refl, refl, refl)

-- what lists it
the-text : list_text v ≡ codes "d /\nd /a\nf 2 /a/f\n"
unfolding step after_group small is_name lines digits
the-text = refl

the-empty_text : list_text (empty_volume small) ≡ codes "d /\n"
unfolding small lines
the-empty_text = refl
