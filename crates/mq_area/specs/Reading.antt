-- What a block reads as, which blocks are descriptors, and why others are refused.
use Rattle.std.specs.Prelude.{◌≡◌, ◌≢◌, ℕ, ◌+◌, ◌-◌, ◌*◌, ◌%◌, ◌^◌, ◌<◌, ◌≤◌, List, ◌++◌, length, take, drop, slice_index}
use Rattle.mq_blocks.specs.Descriptor.{Descriptor, IsDescriptor, IsVersion, AreRising, AreApart, form_with, journal_form, journal_magic, most_listed, further_for}
use Rattle.mq_blocks.specs.Limits.{newest_version}
use Rattle.mq_blocks.specs.Geometry.{homes_of, area_of, write_limit}
use Rattle.mq_blocks.specs.declared.geometry.Geometry.{Geometry}
use Rattle.mq_blocks.specs.Windows.{number_at, numbers}
use Rattle.mq_area.specs.declared.descriptor.Expect.{Expect}
use Rattle.mq_area.specs.declared.descriptor.PlaceIs.{PlaceIs}
use Rattle.mq_area.specs.declared.descriptor.PlaceIs.TheVariants.{Index, Exact}
use Rattle.mq_area.specs.declared.header.Header.{Header}
use Rattle.mq_area.specs.declared.header.Stamp.{Stamp}
use Rattle.mq_area.specs.declared.refusal.DescriptorRefusal.{DescriptorRefusal}
use Rattle.mq_area.specs.declared.refusal.DescriptorRefusal.TheVariants.{Magic, Version, Queue, Number, Place, Previous, Counts, List as Listed, Rest, OutOfMemory}

-- the place is the one that is expected, in an area of this number of blocks
abbrev pub PlaceFits : ℕ → PlaceIs → ℕ → Type 0
PlaceFits area (Index index) place = place % area ≡ index
PlaceFits area (Exact exact) place = place ≡ exact

-- this block, with the one before it, is the descriptor d, and d is what is expected
pub record Accepts (g : Geometry) (at : Expect) (block before : List ℕ) (d : Descriptor) : Type 0 where
  pub is : IsDescriptor journal_form (write_limit g) (homes_of g) block before d
  pub queue : d.queue ≡ at.queue
  pub number : d.number ≡ at.number
  pub place : PlaceFits (area_of g) at.place d.place

-- the fields before the lists
unfoldable pub header_of : List ℕ → Header
header_of block = record {
  magic = number_at 8 0 block;
  version = number_at 4 8 block;
  queue = number_at 4 12 block;
  number = number_at 8 16 block;
  place = number_at 8 24 block;
  prev_place = number_at 8 32 block;
  prev_number = number_at 8 40 block;
  logged = number_at 4 48 block;
  revoked = number_at 4 52 block;
}

-- the two lists, of as many entries as these, in the bytes of both blocks one after the other
abbrev pub logged_of : List ℕ → ℕ → List ℕ
logged_of bytes count = numbers count (drop 56 bytes)

abbrev pub revoked_of : List ℕ → (before count : ℕ) → List ℕ
revoked_of bytes before count = numbers count (drop (56 + 4 * before) bytes)

-- how many further blocks it has
abbrev pub further_of : Header → ℕ
further_of h = further_for (h.logged + h.revoked)

-- that of the journal's descriptors
abbrev pub journal_stamp : Stamp
journal_stamp = record { magic = journal_magic; version = newest_version }

-- The tests of the header, in their order. Each stands for those before it too.
abbrev pub GoodMagic : Stamp → Header → Type 0
GoodMagic stamp h = h.magic ≡ stamp.magic

abbrev pub GoodVersion : Stamp → Header → Type 0
GoodVersion stamp h = GoodMagic stamp h × IsVersion (form_with stamp.magic stamp.version) h.version

abbrev pub GoodQueue : Stamp → Expect → Header → Type 0
GoodQueue stamp at h = GoodVersion stamp h × (h.queue ≡ at.queue)

abbrev pub GoodNumber : Stamp → Expect → Header → Type 0
GoodNumber stamp at h = GoodQueue stamp at h × (h.number ≡ at.number)

abbrev pub IsPlaced : ℕ → PlaceIs → ℕ → Type 0
IsPlaced area place_is place = (place < 2 ^ 62) × PlaceFits area place_is place

abbrev pub GoodPlace : Stamp → ℕ → Expect → Header → Type 0
GoodPlace stamp area at h = GoodNumber stamp at h × IsPlaced area at.place h.place

abbrev pub Follows : Header → Type 0
Follows h =
    (h.prev_number < h.number) × (h.prev_number ≡ 0 → h.prev_place ≡ 0)
    × (0 < h.prev_number → h.prev_place + (h.logged + further_of h) < h.place)

abbrev pub GoodPrevious : Stamp → ℕ → Expect → Header → Type 0
GoodPrevious stamp area at h = GoodPlace stamp area at h × Follows h

abbrev pub AreFew : ℕ → Header → Type 0
AreFew limit h = (h.logged + h.revoked ≤ most_listed limit h.version) × (h.logged + further_of h ≤ h.place)

abbrev pub GoodCounts : Stamp → (area limit : ℕ) → Expect → Header → Type 0
GoodCounts stamp area limit at h = GoodPrevious stamp area at h × AreFew limit h

-- the first of the tests up to that of the place that fails
abbrev pub RefusesPlace : Stamp → ℕ → Expect → Header → DescriptorRefusal → Type 0
RefusesPlace stamp area at h (Magic found) = (found ≡ h.magic) × (GoodMagic stamp h → ⊥)
RefusesPlace stamp area at h (Version found) =
    (found ≡ h.version) × GoodMagic stamp h × (GoodVersion stamp h → ⊥)
RefusesPlace stamp area at h (Queue found) =
    (found ≡ h.queue) × GoodVersion stamp h × (GoodQueue stamp at h → ⊥)
RefusesPlace stamp area at h (Number found) =
    (found ≡ h.number) × GoodQueue stamp at h × (GoodNumber stamp at h → ⊥)
RefusesPlace stamp area at h (Place found) =
    (found ≡ h.place) × GoodNumber stamp at h × (GoodPlace stamp area at h → ⊥)
RefusesPlace stamp area at h _ = ⊥

-- the first test of the header that fails
abbrev pub RefusesHeader : Stamp → (area limit : ℕ) → Expect → Header → DescriptorRefusal → Type 0
RefusesHeader stamp area limit at h (Previous place number) =
    (place ≡ h.prev_place) × (number ≡ h.prev_number) × GoodPlace stamp area at h
    × (GoodPrevious stamp area at h → ⊥)
RefusesHeader stamp area limit at h (Counts logged revoked) =
    (logged ≡ h.logged) × (revoked ≡ h.revoked) × GoodPrevious stamp area at h
    × (GoodCounts stamp area limit at h → ⊥)
RefusesHeader stamp area limit at h cause = RefusesPlace stamp area at h cause

-- the list has this property up to the entry k, and with it no more
abbrev pub StopsAt : (List ℕ → Type 0) → List ℕ → ℕ → Type 0
StopsAt P list k = (k < length list) × P (take k list) × (P (take (k + 1) list) → ⊥)

abbrev pub GoodRevoked : ℕ → List ℕ → List ℕ → Type 0
GoodRevoked homes logged revoked = AreRising 0 homes revoked × AreApart revoked logged

-- what holds of two good lists, by the first entries alone, counted over both
abbrev pub AreListed : (homes count : ℕ) → (logged revoked : List ℕ) → Type 0
AreListed homes count logged revoked =
    AreRising 0 homes (take count logged)
    × GoodRevoked homes logged (take (count - length logged) revoked)

-- the first entry of the two lists that may not stand there
pub record RefusesList (homes : ℕ) (logged revoked : List ℕ) (index found : ℕ) : Type 0 where
  pub inside : index < length logged + length revoked
  pub found_is : found ≡ slice_index (logged ++ revoked) index
  pub before : AreListed homes index logged revoked
  pub wrong : AreListed homes (index + 1) logged revoked → ⊥

-- no byte from `from` on and below `to` is other than zero
abbrev pub IsZero : (from to : ℕ) → List ℕ → Type 0
IsZero from to block = (k : ℕ) → from ≤ k → k < to → slice_index block k ≡ 0

-- the first byte after the lists and below `to` that is not zero
pub record RefusesRest (from to : ℕ) (bytes : List ℕ) (offset : ℕ) : Type 0 where
  pub low : from ≤ offset
  pub high : offset < to
  pub before : IsZero from offset bytes
  pub wrong : slice_index bytes offset ≢ 0

-- a refusal of the lists, or of the bytes after them
abbrev pub IsListRefusal : ℕ → List ℕ → List ℕ → DescriptorRefusal → Type 0
IsListRefusal homes logged revoked (Listed index found) = RefusesList homes logged revoked index found
IsListRefusal homes logged revoked _ = ⊥

abbrev pub IsRestRefusal : (from to : ℕ) → List ℕ → DescriptorRefusal → Type 0
IsRestRefusal from to bytes (Rest offset) = RefusesRest from to bytes offset
IsRestRefusal from to bytes _ = ⊥

-- the two lists pass
abbrev pub GoodLists : ℕ → List ℕ → Header → Type 0
GoodLists homes bytes h =
    AreRising 0 homes (logged_of bytes h.logged)
    × GoodRevoked homes (logged_of bytes h.logged) (revoked_of bytes h.logged h.revoked)

-- where the zeros begin, and where the last of its blocks ends
abbrev pub end_of : Header → ℕ
end_of h = 56 + 4 * h.logged + 4 * h.revoked

abbrev pub size_of : Header → ℕ
size_of h = 4096 * (further_of h + 1)

-- Why a block, with the one before it, is refused: each cause is the first in the order of the tests, and
-- says what was found. An offset counts on from the block into the one before it.
abbrev pub Refuses : Geometry → Expect → (block before : List ℕ) → DescriptorRefusal → Type 0
Refuses g at block before (Listed index found) =
    GoodCounts journal_stamp (area_of g) (write_limit g) at (header_of block)
    × RefusesList (homes_of g) (logged_of (block ++ before) (header_of block).logged)
    (revoked_of (block ++ before) (header_of block).logged (header_of block).revoked) index found
Refuses g at block before (Rest offset) =
    GoodCounts journal_stamp (area_of g) (write_limit g) at (header_of block)
    × GoodLists (homes_of g) (block ++ before) (header_of block)
    × RefusesRest (end_of (header_of block)) (size_of (header_of block)) (block ++ before) offset
Refuses g at block before OutOfMemory = Unit {0}
Refuses g at block before cause =
    RefusesHeader journal_stamp (area_of g) (write_limit g) at (header_of block) cause
