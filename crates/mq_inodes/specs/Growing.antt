-- Inodes that get one block more: for its next part, or for its pointers.
use Rattle.std.specs.Prelude.{◌≡◌, ◌≢◌, ◌≤◌, ◌<◌, ◌+◌, ℕ, false, ◌&&◌, length, slice_set, Some, None, is_none, nat_eq, nat_lt, if◌then◌else◌}
use Rattle.mq_blocks.specs.Geometry.{homes_of, meta_of}
use Rattle.mq_blocks.specs.declared.geometry.Geometry.{Geometry}
use Rattle.mq_inodes.specs.Edits.{Becomes}
use Rattle.mq_inodes.specs.Opened.{IsWithin}
use Rattle.mq_inodes.specs.Pages.{IsHeld, Pages}
use Rattle.mq_inodes.specs.declared.opened.Opened.{Opened}
use Rattle.mq_inodes.specs.declared.working.Working.{Working}
use Rattle.mq_layout.specs.Places.{inodes_of}
use Rattle.mq_layout.specs.declared.inode.Inode.{Inode}
use Rattle.mq_pages.specs.declared.page.Kind.{Kind}
use Rattle.mq_pages.specs.declared.page.Kind.TheVariants.{Data, Meta}
use Rattle.mq_tree.specs.Free.{with_block, with_pointers}
use Rattle.mq_tree.specs.Laid.{inode_of}
use Rattle.mq_tree.specs.Volume.{Volume, body, is_taken, node}

-- ---- pages

-- What was held is held, and no block but this one was free and is no more.
pub record KeepsOthers (old new : Pages) (b : ℕ) : Type 0 where
  pub held : (x : ℕ) → IsHeld old x → IsHeld new x
  pub free : (x : ℕ) → x ≢ b → old x ≡ Some None → new x ≡ Some None

-- the block of pointers of an inode is held, where it names one
abbrev pub HoldsIndirect : Pages → Inode → Type 0
HoldsIndirect pages inode = inode.indirect ≢ 0 → IsHeld pages inode.indirect

-- ---- inodes

-- with one block more behind `count`
abbrev pub longer_inode : Inode → (count b : ℕ) → Inode
longer_inode i count b = record {
  kind = i.kind;
  links = i.links;
  size = if nat_eq i.kind 2 then i.size + 4096 else i.size;
  direct = if nat_lt count 12 then slice_set i.direct count b else i.direct;
  indirect = i.indirect;
}

-- the kind under which its blocks are put
abbrev pub kind_in : Inode → Kind
kind_in i = if nat_eq i.kind 2 then Meta else Data

-- ---- volumes

-- the volume in which the block was taken
abbrev pub with_one : Volume → ℕ → (b : ℕ) → Volume
with_one v i b =
    if nat_eq (length (node v i).blocks) 12 && is_none (node v i).indirect
    then with_pointers v i (Some b) else with_block v i (Some b)

-- The inode of a file or directory may get this free block. Its block of pointers may be there right before
-- the thirteenth block.
pub record MayGet (g : Geometry) (v : Volume) (o : Opened) (b : ℕ) : Type 0 where
  pub low : o.number < inodes_of g
  pub inode : o.inode ≡ inode_of (node v o.number)
  pub blocks : o.blocks.items ≡ (node v o.number).blocks
  pub within : IsWithin (body v o.number) (length o.blocks.items)
  pub few : length o.blocks.items < 1036
  pub near : (node v o.number).indirect ≡ None → length o.blocks.items ≤ 12
  pub free : is_taken v b ≡ false
  pub high : meta_of g ≤ b
  pub home : b < homes_of g

-- and it has got it, whereby the volume became another
pub record HasGot (g : Geometry) (v w : Volume) (old new : Working) (before after : Opened) : Type 0 where
  pub number : after.number ≡ before.number
  pub becomes : Becomes g v w old new
  pub inode : after.inode ≡ inode_of (node w before.number)
  pub blocks : after.blocks.items ≡ (node w before.number).blocks
