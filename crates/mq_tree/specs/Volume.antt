-- What a file system holds, by inode numbers: the tree together with its layout.
use Rattle.std.specs.Prelude.{ℕ, ◌+◌, Bool, true, false, ◌||◌, List, [], ◌∷◌, reverse, slice_get, slice_index_or, Option, Some, None, option_and_then, if◌then◌else◌, nat_eq, take, nat_lt}
use Rattle.std.specs.Str.{bytes_eq}
use Rattle.mq_blocks.specs.Journal.{is_among}
use Rattle.mq_layout.specs.Slots.{Entry}

-- What an inode is: free, a file with its bytes, or a directory with its slots, 15 in each block.
pub data Body : Type 0 where
  Free : Body
  File : List ℕ → Body
  Dir : List (Option Entry) → Body

pub record Node : Type 0 where
  pub body : Body
  -- the blocks of its bytes or slots, in order
  pub blocks : List ℕ
  -- the block with the pointers to those beyond the twelfth
  pub indirect : Option ℕ
  -- how many slots are said to name it
  pub links : ℕ

-- the inodes, by number
abbrev pub Volume : Type 0
Volume = List Node

abbrev pub free_node : Node
free_node = record { body = Free; blocks = []; indirect = None; links = 0 }

-- A file with these bytes and the first `count` of its blocks. Its block of pointers stays only where
-- `count` is over 12.
abbrev pub cut_node : Node → (count : ℕ) → List ℕ → Node
cut_node n count bytes =
    record {
      body = File bytes;
      blocks = take count n.blocks;
      indirect = if nat_lt 12 count then n.indirect else None;
      links = n.links;
    }

abbrev pub node : Volume → ℕ → Node
node v i = slice_index_or v i free_node

abbrev pub body : Volume → ℕ → Body
body v i = (node v i).body

abbrev pub is_used : Body → Bool
is_used Free = false
is_used (File bytes) = true
is_used (Dir slots) = true

-- ---- slots and paths

-- the slots of a directory; a file has none
abbrev pub slots_of : Body → List (Option Entry)
slots_of Free = []
slots_of (File bytes) = []
slots_of (Dir slots) = slots

-- the entry in a slot of an inode
abbrev pub slot : Volume → ℕ → ℕ → Option Entry
slot v d k = slice_index_or (slots_of (body v d)) k None

-- the inode that the first slot with this name names
abbrev pub find : List ℕ → List (Option Entry) → Option ℕ
find name [] = None
find name (None ∷ slots) = find name slots
find name (Some e ∷ slots) = if bytes_eq e.name name then Some e.inode else find name slots

-- A path is a list of names, from the root on; without names it is the root's. A way is a path whose
-- last name comes first.
abbrev pub Path : Type 0
Path = List (List ℕ)

abbrev pub Way : Type 0
Way = List (List ℕ)

abbrev pub way : Path → Way
way path = reverse path

-- the inode to which a way leads from inode 0, the root
abbrev pub inode_at : Volume → Way → Option ℕ
inode_at v [] = Some 0
inode_at v (name ∷ way) = option_and_then (λ d. find name (slots_of (body v d))) (inode_at v way)

-- ---- the tree

-- what stands at a path
pub data Thing : Type 0 where
  ADir : Thing
  AFile : List ℕ → Thing

-- a finite map from paths
abbrev pub Things : Type 0
Things = Path → Option Thing

abbrev pub thing : Body → Option Thing
thing Free = None
thing (File bytes) = Some (AFile bytes)
thing (Dir slots) = Some ADir

-- what a volume has at each path
abbrev pub tree : Volume → Things
tree v path = option_and_then (λ i. thing (body v i)) (inode_at v (way path))

-- ---- the layout

-- the slot, counted over the blocks of its directory, that has this name
abbrev pub slot_number : ℕ → List ℕ → List (Option Entry) → Option ℕ
slot_number k name [] = None
slot_number k name (None ∷ slots) = slot_number (k + 1) name slots
slot_number k name (Some e ∷ slots) =
    if bytes_eq e.name name then Some k else slot_number (k + 1) name slots

-- the slot in which the last name of a way stands; the root has none
abbrev pub slot_at : Volume → Way → Option ℕ
slot_at v [] = None
slot_at v (name ∷ way) = option_and_then (λ d. slot_number 0 name (slots_of (body v d))) (inode_at v way)

-- where what stands at a path lies
pub record Place : Type 0 where
  pub inode : ℕ
  pub blocks : List ℕ
  pub indirect : Option ℕ
  pub slot : Option ℕ

abbrev pub Layout : Type 0
Layout = Path → Option Place

abbrev pub place_at : Volume → Way → ℕ → Place
place_at v way i =
    record {
      inode = i;
      blocks = (node v i).blocks;
      indirect = (node v i).indirect;
      slot = slot_at v way;
    }

-- where a volume has each path
abbrev pub layout : Volume → Layout
layout v path = option_and_then (λ i. Some (place_at v (way path) i)) (inode_at v (way path))

-- ---- blocks

-- What a block of a zone is for: it has a part of what an inode is, or its pointers.
pub data Use : Type 0 where
  Part : (inode place : ℕ) → Use
  Pointers : (inode : ℕ) → Use

-- the block that is used so
abbrev pub block_in : Volume → Use → Option ℕ
block_in v (Part i k) = slice_get (node v i).blocks k
block_in v (Pointers i) = (node v i).indirect

abbrev pub is_block : ℕ → Option ℕ → Bool
is_block b None = false
is_block b (Some x) = nat_eq x b

abbrev pub has_block : Node → ℕ → Bool
has_block n b = is_among b n.blocks || is_block b n.indirect

-- some inode uses the block
abbrev pub is_taken : Volume → ℕ → Bool
is_taken [] b = false
is_taken (n ∷ v) b = has_block n b || is_taken v b
