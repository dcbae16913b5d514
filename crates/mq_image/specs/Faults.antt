-- Why bytes are not the file of an image: the first fault in the order of the tests.
use Rattle.std.specs.Prelude.{◌≡◌, ℕ, zero, suc, ◌+◌, ◌-◌, ◌*◌, ◌^◌, Bool, ◌||◌, ◌&&◌, List, length, Option, Some, None, Result, Ok, Err, MatchResult, nat_eq, nat_le, nat_lt, if◌then◌else◌}
use Rattle.byteorder.specs.Endian.{little_number}
use Rattle.mq_blocks.specs.Windows.{number_at, window}
use Rattle.mq_blocks.specs.Geometry.{IsQueues, IsArea, AreHomes, queues_of, area_of, meta_of, zone_size, blocks_of_drive}
use Rattle.mq_blocks.specs.declared.geometry.Geometry.{Geometry}
use Rattle.mq_blocks.specs.declared.geometry.GeometryRefusal.{GeometryRefusal}
use Rattle.mq_blocks.specs.declared.geometry.GeometryRefusal.TheVariants.{Queues, Area, Homes}
use Rattle.mq_image.specs.File.{is_blank, is_version, magic, rings_end}
use Rattle.mq_image.specs.declared.fault.FileFault.{FileFault}
use Rattle.mq_image.specs.declared.fault.FileFault.TheVariants.{Short, Magic, Version, Geometry as Shape, Reserved, Count, Order, Zero, Extra, OldWords, OutOfMemory}

-- a test, and the fault of bytes that do not pass it
abbrev pub unless : {X : Type 0} → Bool → X → Option X
unless passes fault = if passes then None else Some fault

abbrev pub or_then : Option FileFault → Option FileFault → Option FileFault
or_then None next = next
or_then (Some fault) next = Some fault

-- the file is shorter than this
abbrev pub short_fault : ℕ → List ℕ → Option FileFault
short_fault need file = unless (nat_le need (length file)) (Short need (length file))

-- ---- the header

abbrev pub version_in : List ℕ → ℕ
version_in file = number_at 4 8 file

abbrev pub queues_in : List ℕ → ℕ
queues_in file = number_at 4 12 file

abbrev pub area_in : List ℕ → ℕ
area_in file = number_at 4 16 file

abbrev pub meta_in : List ℕ → ℕ
meta_in file = number_at 4 20 file

abbrev pub zone_in : List ℕ → ℕ
zone_in file = number_at 4 24 file

-- the geometry that the header gives
pub record IsGeometryIn (file : List ℕ) (g : Geometry) : Type 0 where
  pub queues : queues_of g ≡ queues_in file
  pub area : area_of g ≡ area_in file
  pub meta : meta_of g ≡ meta_in file
  pub zone : zone_size g ≡ zone_in file

-- the four numbers of a header are those of a geometry, or the first that is out of its range is refused
abbrev pub HasShape : List ℕ → Result Geometry GeometryRefusal → Type 0
HasShape file (Ok g) = IsGeometryIn file g
HasShape file (Err (Queues found)) = (IsQueues (queues_in file) → ⊥) × (found ≡ queues_in file)
HasShape file (Err (Area found)) =
    IsQueues (queues_in file) × (IsArea (area_in file) → ⊥) × (found ≡ area_in file)
HasShape file (Err (Homes meta zone)) =
    IsQueues (queues_in file) × IsArea (area_in file)
    × (AreHomes (queues_in file) (meta_in file) (zone_in file) → ⊥)
    × (meta ≡ meta_in file) × (zone ≡ zone_in file)

abbrev pub geometry_fault : Result Geometry GeometryRefusal → Option FileFault
geometry_fault (Ok g) = None
geometry_fault (Err refusal) = Some (Shape refusal)

-- the first fault of a header of this shape
unfoldable pub header_fault : Result Geometry GeometryRefusal → List ℕ → Option FileFault
header_fault shape file =
    or_then (short_fault 40 file)
    (or_then (unless (nat_eq (number_at 8 0 file) (little_number 8 magic)) Magic)
    (or_then (unless (is_version (version_in file)) (Version (version_in file)))
    (or_then (geometry_fault shape)
    (unless (nat_eq (number_at 4 28 file) 0) (Reserved (number_at 4 28 file))))))

-- ---- the lengths

-- where the number of blocks stands, behind the rings
abbrev pub count_at : List ℕ → ℕ
count_at file = rings_end (version_in file) (queues_in file)

abbrev pub count_in : List ℕ → ℕ
count_in file = number_at 4 (count_at file) file

-- where the blocks stand, and where they end
abbrev pub blocks_at : List ℕ → ℕ
blocks_at file = count_at file + 4

abbrev pub blocks_end : List ℕ → ℕ
blocks_end file = blocks_at file + 4100 * count_in file

unfoldable pub length_fault : Geometry → List ℕ → Option FileFault
length_fault g file =
    or_then (short_fault (blocks_at file) file)
    (or_then (unless (nat_le (count_in file) (blocks_of_drive g)) (Count (count_in file)))
    (short_fault (blocks_end file) file))

-- ---- the blocks

-- `count` blocks from an offset on, the first of which has this index: each Lba is at least `low`,
-- which is above the one before, and is in the namespace, and no block is all zeros.
unfoldable pub record_fault : (size count index low at : ℕ) → List ℕ → Option FileFault
record_fault size zero index low at file = None
record_fault size (suc count) index low at file =
    if nat_lt (number_at 4 at file) low || nat_le size (number_at 4 at file)
    then Some (Order index)
    else (if is_blank (window file (at + 4) 4096)
    then Some (Zero (number_at 4 at file))
    else record_fault size count (index + 1) (number_at 4 at file + 1) (at + 4100) file)

abbrev pub block_fault : Geometry → List ℕ → Option FileFault
block_fault g file = record_fault (blocks_of_drive g) (count_in file) 0 0 (blocks_at file) file

-- ---- the words of version 1

-- the words of a queue
abbrev pub doorbell_in : ℕ → List ℕ → ℕ
doorbell_in queue file = number_at 8 (rings_end 1 queue) file

abbrev pub head_in : ℕ → List ℕ → ℕ
head_in queue file = number_at 8 (rings_end 1 queue + 8) file

-- at most 1,023 of a ring's 1,024 slots are in use, and counts have room
abbrev pub are_old_words : (head doorbell : ℕ) → Bool
are_old_words head doorbell =
    nat_le head doorbell && (nat_le (doorbell - head) 1023 && nat_le doorbell (2 ^ 63))

-- the first of `count` queues, from this one on, of which they are not
unfoldable pub old_words_fault : (count queue : ℕ) → List ℕ → Option FileFault
old_words_fault zero queue file = None
old_words_fault (suc count) queue file =
    if are_old_words (head_in queue file) (doorbell_in queue file)
    then old_words_fault count (queue + 1) file
    else Some (OldWords queue)

-- only version 1 has a ring that is moved
unfoldable pub words_fault : (version : ℕ) → List ℕ → Option FileFault
words_fault version file = if nat_eq version 1 then old_words_fault (queues_in file) 0 file else None

-- ---- all

abbrev pub extra_fault : ℕ → List ℕ → Option FileFault
extra_fault end file = unless (nat_le (length file) end) (Extra (length file - end))

-- the first fault of the parts of a file with this geometry
abbrev pub body_fault : Geometry → List ℕ → Option FileFault
body_fault g file =
    or_then (length_fault g file) (or_then (block_fault g file) (extra_fault (blocks_end file) file))

-- the first fault of a file of this shape
unfoldable pub fault_of : Result Geometry GeometryRefusal → List ℕ → Option FileFault
fault_of (Ok g) file =
    or_then (header_fault (Ok g) file)
    (or_then (body_fault g file) (words_fault (version_in file) file))
fault_of (Err refusal) file = header_fault (Err refusal) file

-- the first fault of a file, or none
pub record HasFault (file : List ℕ) (fault : Option FileFault) : Type 0 where
  pub shape : Result Geometry GeometryRefusal
  pub has : HasShape file shape
  pub is : fault_of shape file ≡ fault

-- a test is refused exactly where there is a fault, and names it
abbrev pub Finds : {X : Type 0} → Option FileFault → Result X FileFault → Type 0
Finds fault result = MatchResult result (λ _. fault ≡ None) (λ e. fault ≡ Some e)

-- the same of a reading that takes memory
abbrev pub Refuses : Option FileFault → FileFault → Type 0
Refuses fault OutOfMemory = Unit {0}
Refuses fault cause = fault ≡ Some cause

-- whatever the shape of the file's numbers, this is its first fault, unless memory ran out
abbrev pub RefusesIn : List ℕ → FileFault → Type 0
RefusesIn file e =
    (shape : Result Geometry GeometryRefusal) → HasShape file shape → Refuses (fault_of shape file) e

-- a reading finds the first fault of the file, or none, unless memory runs out
abbrev pub FindsFirst : {X : Type 0} → List ℕ → Result X FileFault → Type 0
FindsFirst file result =
    (fault : Option FileFault) → HasFault file fault
    → MatchResult result (λ _. fault ≡ None) (Refuses fault)
