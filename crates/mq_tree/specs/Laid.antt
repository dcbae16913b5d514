-- How a volume lies on the home blocks, and which tree a map of blocks has.
use Rattle.std.specs.Prelude.{◌≡◌, ℕ, zero, suc, ◌+◌, ◌-◌, ◌*◌, ◌/◌, ◌%◌, ◌<◌, ◌≤◌, Bool, false, ◌&&◌, List, [], ◌∷◌, length, slice_index, slice_index_or, Option, Some, None, if◌then◌else◌, nat_eq, nat_lt}
use Rattle.mq_blocks.specs.Blocks.{block_at}
use Rattle.mq_blocks.specs.Geometry.{homes_of, meta_of, zone_size}
use Rattle.mq_blocks.specs.Machine.{Map}
use Rattle.mq_blocks.specs.Windows.{Shows as ShowsBytes}
use Rattle.mq_blocks.specs.declared.geometry.Geometry.{Geometry}
use Rattle.mq_layout.specs.Bits.{bit_of, pointer_of}
use Rattle.mq_layout.specs.Fields.{zero_bytes}
use Rattle.mq_layout.specs.Inodes.{ShowsInode}
use Rattle.mq_layout.specs.Places.{inode_bitmap, table_first, zone_bitmap}
use Rattle.mq_layout.specs.Slots.{ShowsSlot}
use Rattle.mq_layout.specs.Superblock.{super_bytes}
use Rattle.mq_layout.specs.declared.inode.Inode.{Inode}
use Rattle.mq_tree.specs.Sound.{AreBytes, IsSound}
use Rattle.mq_tree.specs.Volume.{Body, Free, File, Dir, Node, Volume, node, body, is_used, is_taken, Use, Part, Pointers, block_in, tree, layout, Things, Layout, Path}

-- ---- regions of the home blocks

pub data Region : Type 0 where
  Super : Region
  -- the bitmap of this zone
  ZoneMarks : ℕ → Region
  InodeMarks : Region
  -- this block of the inode table, from 0
  Table : ℕ → Region
  Zone : Region
  -- no home block
  Outside : Region

abbrev pub region : Geometry → ℕ → Region
region g b =
    if nat_eq b 0 then Super
    else (if nat_lt b (inode_bitmap g) then ZoneMarks (b - 1)
    else (if nat_eq b (inode_bitmap g) then InodeMarks
    else (if nat_lt b (meta_of g) then Table (b - table_first g)
    else (if nat_lt b (homes_of g) then Zone else Outside))))

-- the k-th block of a zone
abbrev pub zone_block : Geometry → (zone k : ℕ) → ℕ
zone_block g zone k = meta_of g + zone * zone_size g + k

-- ---- what an inode says

abbrev pub kind_of : Body → ℕ
kind_of Free = 0
kind_of (File bytes) = 1
kind_of (Dir slots) = 2

-- in bytes, where a directory has whole blocks
abbrev pub size_of : Body → (count : ℕ) → ℕ
size_of Free count = 0
size_of (File bytes) count = length bytes
size_of (Dir slots) count = 4096 * count

-- `count` numbers, which are 0 past the end of the list
unfoldable pub padded : (count : ℕ) → List ℕ → List ℕ
padded zero xs = []
padded (suc count) [] = 0 ∷ padded count []
padded (suc count) (x ∷ xs) = x ∷ padded count xs

abbrev pub or_zero : Option ℕ → ℕ
or_zero None = 0
or_zero (Some b) = b

abbrev pub inode_of : Node → Inode
inode_of n = record {
  kind = kind_of n.body;
  links = n.links;
  size = size_of n.body (length n.blocks);
  direct = padded 12 n.blocks;
  indirect = or_zero n.indirect;
}

-- ---- what a block shows

-- a page is a block's content
pub record IsPage (page : List ℕ) : Type 0 where
  pub whole : length page ≡ 4096
  pub bytes : AreBytes page

-- bit `k` of a bitmap is set exactly where this is marked
abbrev pub ShowsMarks : List ℕ → (ℕ → Bool) → Type 0
ShowsMarks page marked = (k : ℕ) → k < 32768 → bit_of page k ≡ (if marked k then 1 else 0)

-- the blocks of a zone that are used; bits past its last block are 0
abbrev pub zone_marked : Geometry → Volume → (zone : ℕ) → ℕ → Bool
zone_marked g v zone k = nat_lt k (zone_size g) && is_taken v (zone_block g zone k)

abbrev pub inode_marked : Volume → ℕ → Bool
inode_marked v k = is_used (body v k)

-- 32 inodes, of which those past the last are free
abbrev pub ShowsTable : Volume → (block : ℕ) → List ℕ → Type 0
ShowsTable v block page = (k : ℕ) → k < 32 → ShowsInode page k (inode_of (node v (32 * block + k)))

-- 1,024 pointers, which are 0 past the last block
abbrev pub ShowsPointers : List ℕ → List ℕ → Type 0
ShowsPointers blocks page = (k : ℕ) → k < 1024 → pointer_of page k ≡ slice_index blocks (12 + k)

-- The bytes of a file, with zeros past its end; or 15 slots, and zeros behind them.
abbrev pub ShowsPart : Body → (place : ℕ) → List ℕ → Type 0
ShowsPart Free place page = ⊥
ShowsPart (File bytes) place page =
    (k : ℕ) → k < 4096 → slice_index page k ≡ slice_index bytes (4096 * place + k)
ShowsPart (Dir slots) place page =
    ((k : ℕ) → k < 15 → ShowsSlot page k (slice_index_or slots (15 * place + k) None))
    × ShowsBytes page 4080 (zero_bytes 16)

abbrev pub ShowsUse : Volume → Use → List ℕ → Type 0
ShowsUse v (Part i place) page = ShowsPart (body v i) place page
ShowsUse v (Pointers i) page = ShowsPointers (node v i).blocks page

-- a block of a zone shows what some inode uses it for
pub record ShowsZone (v : Volume) (b : ℕ) (page : List ℕ) : Type 0 where
  pub purpose : Use
  pub is : block_in v purpose ≡ Some b
  pub shows : ShowsUse v purpose page

abbrev pub ShowsRegion : Geometry → Volume → (b : ℕ) → Region → List ℕ → Type 0
ShowsRegion g v b Super page = page ≡ super_bytes g
ShowsRegion g v b (ZoneMarks zone) page = ShowsMarks page (zone_marked g v zone)
ShowsRegion g v b InodeMarks page = ShowsMarks page (inode_marked v)
ShowsRegion g v b (Table block) page = ShowsTable v block page
ShowsRegion g v b Zone page = ShowsZone v b page
ShowsRegion g v b Outside page = ⊥

-- the volume has this page at the block
abbrev pub ShowsPage : Geometry → Volume → (b : ℕ) → List ℕ → Type 0
ShowsPage g v b page = IsPage page × ShowsRegion g v b (region g b) page

-- the volume has no page at the block
abbrev pub IsVacant : Geometry → Volume → ℕ → Type 0
IsVacant g v b = (meta_of g ≤ b) × (is_taken v b ≡ false)

-- ---- maps

-- A volume lies on a map: each block of the map shows what the volume has there, and where the map
-- has no block the volume has none.
pub record IsLaid (g : Geometry) (map : Map) (v : Volume) : Type 0 where
  pub sound : IsSound g v
  pub shown : (b : ℕ) (page : List ℕ) → map b ≡ Some page → ShowsPage g v b page
  pub vacant : (b : ℕ) → map b ≡ None → IsVacant g v b

-- tree, layout and map agree
pub record Laid (g : Geometry) (map : Map) (t : Things) (a : Layout) : Type 0 where
  pub volume : Volume
  pub laid : IsLaid g map volume
  pub things : (path : Path) → t path ≡ tree volume path
  pub places : (path : Path) → a path ≡ layout volume path

-- the map has this tree
pub record IsTreeOf (g : Geometry) (map : Map) (t : Things) : Type 0 where
  pub places : Layout
  pub laid : Laid g map t places

-- the bit of a block in the bitmap of its zone is set
abbrev pub is_marked : Geometry → List (Option (List ℕ)) → ℕ → Bool
is_marked g stored b =
    nat_eq (bit_of (block_at stored (zone_bitmap ((b - meta_of g) / zone_size g)))
    ((b - meta_of g) % zone_size g)) 1

-- the map of stored home blocks: the metadata region, and the blocks of the zones whose bit is set
unfoldable pub map_of : Geometry → List (Option (List ℕ)) → Map
map_of g stored b =
    if nat_lt b (meta_of g) then Some (block_at stored b)
    else (if nat_lt b (homes_of g) && is_marked g stored b then Some (block_at stored b) else None)
