-- Walking along a path.
use Rattle.std.specs.Prelude.{◌≡◌, ◌⊎◌, ◌≤◌, ℕ, true, List, [], ◌∷◌, length, Option, Some, None}
use Rattle.mq_blocks.specs.declared.geometry.Geometry.{Geometry}
use Rattle.mq_inodes.specs.Dirs.{AreDirsAt, slots_at}
use Rattle.mq_inodes.specs.MissingPages.{OfEach}
use Rattle.mq_inodes.specs.Opened.{HoldsPointers, IsOpened}
use Rattle.mq_inodes.specs.Pages.{IsHeld, pages_of}
use Rattle.mq_inodes.specs.declared.opened.Opened.{Opened}
use Rattle.mq_inodes.specs.declared.walk.Place.{Place}
use Rattle.mq_inodes.specs.declared.walk.Place.TheVariants.{Root as PlacedRoot, Lost as PlacedLost, In as PlacedIn}
use Rattle.mq_inodes.specs.declared.walk.Target.{Target}
use Rattle.mq_inodes.specs.declared.walk.Target.TheVariants.{Root, Lost, In}
use Rattle.mq_layout.specs.Places.{inode_block}
use Rattle.mq_layout.specs.Slots.{Entry}
use Rattle.mq_tree.specs.Looks.{Leads}
use Rattle.mq_inodes.specs.declared.working.Working.{Working}
use Rattle.mq_tree.specs.Requests.{RequestTarget, Root as AtRoot, Lost as AtFault, In as AtName, unused}
use Rattle.mq_tree.specs.Volume.{Dir, Volume, Way, body, find, has_block, node, slots_of}

abbrev pub IsDirectory : Volume → ℕ → Type 0
IsDirectory v d = (slots : List (Option Entry)) × (body v d ≡ Dir slots)

-- the last name of a path
abbrev pub last_of : Way → List ℕ
last_of [] = []
last_of (name ∷ way) = name

-- what a path with this way was found to name
abbrev pub named : Way → Target → RequestTarget
named way Root = AtRoot
named way (Lost fault) = AtFault fault
named way (In directory found) = AtName directory (last_of way) found

-- and the same of its place
abbrev pub placed : Way → Place → RequestTarget
placed way PlacedRoot = AtRoot
placed way (PlacedLost fault) = AtFault fault
placed way (PlacedIn directory found free) = AtName directory.number (last_of way) found

-- a directory with all its blocks is held
pub record HoldsDirectory (w : Working) (o : Opened) : Type 0 where
  pub opened : OfEach w (λ v. IsOpened w.geometry v o)
  pub slots : OfEach w (λ v. body v o.number ≡ Dir (slots_at (pages_of w) o.blocks.items))
  pub dirs : AreDirsAt (pages_of w) o.blocks.items
  pub few : length o.blocks.items ≤ 1036
  pub table : IsHeld (pages_of w) (inode_block w.geometry o.number)
  pub pointers : HoldsPointers (pages_of w) o

-- and where a new name goes
pub record HoldsName (w : Working) (o : Opened) (found free : Option ℕ) : Type 0 where
  pub directory : HoldsDirectory w o
  pub slot : found ≡ None → free ≡ unused 0 (slots_at (pages_of w) o.blocks.items)

abbrev pub HoldsPlace : Working → Place → Type 0
HoldsPlace w PlacedRoot = Unit {0}
HoldsPlace w (PlacedLost fault) = Unit {0}
HoldsPlace w (PlacedIn directory found free) = HoldsName w directory found free

-- the block of a directory's inode, its blocks, or its block of pointers
abbrev pub LooksIn : Geometry → Volume → (d b : ℕ) → Type 0
LooksIn g v d b = (b ≡ inode_block g d) ⊎ (has_block (node v d) b ≡ true)

-- and the block of the inode under a name there
abbrev pub LooksUnder : Geometry → Volume → (d : ℕ) → (name : List ℕ) → (b : ℕ) → Type 0
LooksUnder g v d name b =
    LooksIn g v d b ⊎ ((i : ℕ) × (find name (slots_of (body v d)) ≡ Some i) × (b ≡ inode_block g i))

-- A way leads past the block: it is that of an inode to which its names lead, or one of a directory.
pub data LeadsPast (g : Geometry) (v : Volume) (way : Way) (b : ℕ) : Type 0 where
  inode : (i : ℕ) → Leads v way i → b ≡ inode_block g i → LeadsPast g v way b
  directory : (i : ℕ) (slots : List (Option Entry)) → Leads v way i → body v i ≡ Dir slots
      → has_block (node v i) b ≡ true → LeadsPast g v way b
