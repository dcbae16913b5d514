-- Which blocks are descriptors of the loose order, and why others are refused.
use Rattle.std.specs.Prelude.{◌≡◌, ℕ, zero, suc, ◌+◌, ◌-◌, ◌*◌, ◌<◌, ◌≤◌, List, [], ◌∷◌, ◌++◌, length, take, drop, slice_index}
use Rattle.mq_area.specs.Reading.{GoodPlace, PlaceFits, RefusesPlace, RefusesRest, header_of, logged_of}
use Rattle.mq_area.specs.declared.descriptor.Expect.{Expect}
use Rattle.mq_area.specs.declared.header.Header.{Header}
use Rattle.mq_area.specs.declared.header.Stamp.{Stamp}
use Rattle.mq_area.specs.declared.refusal.DescriptorRefusal.{DescriptorRefusal}
use Rattle.mq_area.specs.declared.refusal.DescriptorRefusal.TheVariants.{Previous, Counts, List as Listed, Rest, OutOfMemory}
use Rattle.mq_blocks.specs.Descriptor.{AreRising, Descriptor, IsGood}
use Rattle.mq_blocks.specs.Geometry.{area_of, homes_of}
use Rattle.mq_blocks.specs.Windows.{number_at}
use Rattle.mq_blocks.specs.declared.geometry.Geometry.{Geometry}
use Rattle.mq_loose_order.specs.Form.{IsLoose, loose_bytes, loose_limit, loose_magic}

-- this block is the descriptor d, which depends on these numbers, and d is what is expected
pub record AcceptsLoose (g : Geometry) (at : Expect) (block : List ℕ) (d : Descriptor)
    (deps : List ℕ) : Type 0 where
  pub bytes : block ≡ loose_bytes d deps
  pub good : IsGood loose_limit (homes_of g) d
  pub loose : IsLoose d deps
  pub queue : d.queue ≡ at.queue
  pub number : d.number ≡ at.number
  pub place : PlaceFits (area_of g) at.place d.place

-- it is a descriptor, whatever it depends on; the block before it counts for nothing
abbrev pub accepts_loose : Geometry → Expect → (block before : List ℕ) → Descriptor → Type 0
accepts_loose g at block before d = (deps : List ℕ) × AcceptsLoose g at block d deps

-- ---- what a block reads as

abbrev pub loose_stamp : Stamp
loose_stamp = record { magic = loose_magic; version = 1 }

-- the first numbers of eight bytes each
unfoldable pub wide_numbers : ℕ → List ℕ → List ℕ
wide_numbers zero bytes = []
wide_numbers (suc count) bytes = number_at 8 0 bytes ∷ wide_numbers count (drop 8 bytes)

-- The dependences in the bytes of a block. Their number stands where a journal's descriptor has that of the
-- revoked blocks.
abbrev pub deps_in : List ℕ → Header → List ℕ
deps_in block h = wide_numbers h.revoked (drop (56 + 4 * h.logged) block)

-- those of a block that is a descriptor
abbrev pub deps_of_block : List ℕ → List ℕ
deps_of_block block = deps_in block (header_of block)

-- where the zeros begin
abbrev pub end_of : Header → ℕ
end_of h = 56 + 4 * h.logged + 8 * h.revoked

-- ---- the tests, in their order; each stands for those before it too

-- the previous descriptor is before it
abbrev pub FollowsLoose : Header → Type 0
FollowsLoose h =
    (h.prev_number < h.number) × (h.prev_number ≡ 0 → h.prev_place ≡ 0)
    × (0 < h.prev_number → h.prev_place + h.logged < h.place)

abbrev pub GoodPrevious : ℕ → Expect → Header → Type 0
GoodPrevious area at h = GoodPlace loose_stamp area at h × FollowsLoose h

abbrev pub AreFewLoose : Header → Type 0
AreFewLoose h = (h.logged ≤ loose_limit) × (h.revoked ≤ loose_limit) × (h.logged ≤ h.place)

abbrev pub GoodHeader : ℕ → Expect → Header → Type 0
GoodHeader area at h = GoodPrevious area at h × AreFewLoose h

-- what holds of two good lists, by the first entries alone, counted over both
abbrev pub AreListed : (homes number count : ℕ) → (logged deps : List ℕ) → Type 0
AreListed homes number count logged deps =
    AreRising 0 homes (take count logged) × AreRising 1 number (take (count - length logged) deps)

-- the first entry of the two lists that may not stand there
pub record RefusesList (homes number : ℕ) (logged deps : List ℕ) (index found : ℕ) : Type 0 where
  pub inside : index < length logged + length deps
  pub found_is : found ≡ slice_index (logged ++ deps) index
  pub before : AreListed homes number index logged deps
  pub wrong : AreListed homes number (index + 1) logged deps → ⊥

abbrev pub GoodLists : ℕ → List ℕ → Header → Type 0
GoodLists homes block h =
    AreRising 0 homes (logged_of block h.logged) × AreRising 1 h.number (deps_in block h)

-- Why the header is refused: the first test that fails, and what was found.
abbrev pub RefusesHeader : ℕ → Expect → Header → DescriptorRefusal → Type 0
RefusesHeader area at h (Previous place number) =
    (place ≡ h.prev_place) × (number ≡ h.prev_number) × GoodPlace loose_stamp area at h
    × (GoodPrevious area at h → ⊥)
RefusesHeader area at h (Counts logged revoked) =
    (logged ≡ h.logged) × (revoked ≡ h.revoked) × GoodPrevious area at h × (GoodHeader area at h → ⊥)
RefusesHeader area at h cause = RefusesPlace loose_stamp area at h cause

-- Why a block is refused: each cause is the first in the order of the tests, and says what was found.
abbrev pub RefusesLoose : Geometry → Expect → (block : List ℕ) → DescriptorRefusal → Type 0
RefusesLoose g at block (Listed index found) =
    GoodHeader (area_of g) at (header_of block)
    × RefusesList (homes_of g) (header_of block).number (logged_of block (header_of block).logged)
    (deps_of_block block) index found
RefusesLoose g at block (Rest offset) =
    GoodHeader (area_of g) at (header_of block) × GoodLists (homes_of g) block (header_of block)
    × RefusesRest (end_of (header_of block)) 4096 block offset
RefusesLoose g at block OutOfMemory = Unit {0}
RefusesLoose g at block cause = RefusesHeader (area_of g) at (header_of block) cause

abbrev pub refuses_loose : Geometry → Expect → (block before : List ℕ) → DescriptorRefusal → Type 0
refuses_loose g at block before cause = RefusesLoose g at block cause
