-- What an image of the drive says of the journal: which transactions are whole, how far they go
-- without a gap, and which content stands on each home block.
use Rattle.std.specs.Prelude.{◌≡◌, ◌≢◌, ◌⊎◌, ◌<◌, ◌≤◌, ℕ, ◌+◌, ◌-◌, ◌*◌, ◌%◌, ◌^◌, Bool, true, false, List, [], ◌∷◌, length, Option, Some, None, slice_index_or, nat_eq, if◌then◌else◌}
use Rattle.mq_blocks.specs.Blocks.{block_at}
use Rattle.mq_blocks.specs.Limits.{depth, usable_depth}
use Rattle.mq_blocks.specs.Descriptor.{Descriptor, DescriptorForm, IsDescriptor, first_place}
use Rattle.mq_blocks.specs.Drive.{PortImage}
use Rattle.mq_blocks.specs.Geometry.{homes_of, area_lba, zone_of, write_limit}
use Rattle.mq_blocks.specs.declared.geometry.Geometry.{Geometry}

-- what a write entry says: its transaction's number, the Lba that it writes, and whether it is the
-- transaction's last
abbrev pub WriteFields : Type 0
WriteFields = ℕ × ℕ × Bool

-- how a journal is read: what an entry says, and the form of its descriptors
pub record Reading : Type 0 where
  pub says : List ℕ → Option WriteFields
  pub form : DescriptorForm

-- an image as recovery sees it: the form of its descriptors, words, entries by queue and slot, area
-- blocks by queue and index, home blocks
pub record Shown : Type 0 where
  pub form : DescriptorForm
  pub base : ℕ
  pub head : ℕ → ℕ
  pub doorbell : ℕ → ℕ
  pub entry : ℕ → ℕ → Option WriteFields
  pub area : ℕ → ℕ → List ℕ
  pub home : ℕ → List ℕ

abbrev pub no_image : PortImage
no_image = record { doorbell = 0; head = 0; base = 0; slots = []; blocks = [] }

abbrev pub image_at : List PortImage → ℕ → PortImage
image_at queues q = slice_index_or queues q no_image

abbrev pub home_block : Geometry → List PortImage → PortImage → ℕ → Option ℕ → List ℕ
home_block g queues root b None = block_at root.blocks b
home_block g queues root b (Some q) =
    block_at (image_at queues q).blocks (g.area + (b - (g.meta + q * g.zone)))

-- the images of all ports together, as they are read
abbrev pub shown : Reading → Geometry → List PortImage → PortImage → Shown
shown reading g queues root = record {
  form = reading.form;
  base = root.base;
  head = λ q. (image_at queues q).head;
  doorbell = λ q. (image_at queues q).doorbell;
  entry = λ q k. reading.says (slice_index_or (image_at queues q).slots k []);
  area = λ q k. block_at (image_at queues q).blocks k;
  home = λ b. home_block g queues root b (zone_of g b);
}

-- ---- chains

-- the descriptor of this number stands at this place of the queue, and its further block right before
pub record Holds (g : Geometry) (i : Shown) (q number place : ℕ) (d : Descriptor) : Type 0 where
  pub is : IsDescriptor i.form (write_limit g) (homes_of g) (i.area q (place % g.area))
      (i.area q ((place - 1) % g.area)) d
  pub queue_is : d.queue ≡ q
  pub number_is : d.number ≡ number
  pub place_is : d.place ≡ place

-- Newest first: the descriptors from the one of this number at this place back to the base.
abbrev pub IsChain : Geometry → Shown → ℕ → ℕ → ℕ → List Descriptor → Type 0
IsChain g i q number place [] = number ≤ i.base
IsChain g i q number place (d ∷ ds) =
    (i.base < number) × Holds g i q number place d × IsChain g i q d.prev_number d.prev_place ds

-- the oldest copy of each transaction is not yet overwritten by the newest descriptor's lap
abbrev pub AreInReach : Geometry → ℕ → List Descriptor → Type 0
AreInReach g newest [] = Unit {0}
AreInReach g newest (d ∷ ds) = (newest < first_place d + g.area) × AreInReach g newest ds

-- the entry in the slot of this count is a commit request of this number to this Lba
abbrev pub IsCommit : Shown → ℕ → ℕ → ℕ → ℕ → Type 0
IsCommit i q count number lba = i.entry q (count % depth) ≡ Some (number, lba, true)

abbrev pub number_limit : ℕ
number_limit = 2 ^ 63

-- A readable queue, and its chain: the entry before the head is a commit request, whose Lba names
-- the newest descriptor where its number is above the base.
pub record IsQueueChain (g : Geometry) (i : Shown) (q : ℕ) (ds : List Descriptor) : Type 0 where
  pub number : ℕ
  pub lba : ℕ
  pub place : ℕ
  pub order : i.head q ≤ i.doorbell q
  pub few : i.doorbell q - i.head q ≤ usable_depth
  pub low : i.doorbell q ≤ number_limit
  pub none : i.head q ≡ 0 → number ≡ 0
  pub newest : 0 < i.head q → IsCommit i q (i.head q - 1) number lba
  pub limit : number ≤ number_limit
  pub own : i.base < number → lba ≡ area_lba g q place
  pub chain : IsChain g i q number place ds
  pub reach : AreInReach g place ds
  -- the entries from head to doorbell are readable, and the last is a commit request
  pub rung : (c : ℕ) → i.head q ≤ c → c < i.doorbell q
      → (s : WriteFields) × (i.entry q (c % depth) ≡ Some s) × (s.0 ≤ number_limit)
  pub rung_whole : i.head q < i.doorbell q → (n : ℕ) × (l : ℕ) × IsCommit i q (i.doorbell q - 1) n l

abbrev pub Has : List Descriptor → Descriptor → Type 0
Has [] d = ⊥
Has (e ∷ es) d = (e ≡ d) ⊎ Has es d

-- A readable image, and the chains of its queues: exactly the transactions in them are whole. By
-- `rung_whole` every readable image is rung whole.
pub record AreWhole (g : Geometry) (i : Shown) (chains : ℕ → List Descriptor) : Type 0 where
  pub limit : i.base ≤ number_limit
  pub each : (q : ℕ) → q < g.queues → IsQueueChain g i q (chains q)
  pub once : (q r : ℕ) → q < g.queues → r < g.queues → q ≢ r → (d e : Descriptor) → Has (chains q) d
      → Has (chains r) e → d.number ≢ e.number

-- ---- prefix and standing

-- the numbers right above the base, newest first
abbrev pub AreInRow : ℕ → List Descriptor → Type 0
AreInRow base [] = Unit {0}
AreInRow base (d ∷ ds) = (d.number ≡ base + length ds + 1) × AreInRow base ds

-- the whole transactions from the base on without a gap, newest first, as far as there are
pub record IsPrefix (g : Geometry) (i : Shown) (chains : ℕ → List Descriptor)
    (ds : List Descriptor) : Type 0 where
  pub row : AreInRow i.base ds
  pub whole : (d : Descriptor) → Has ds d → (d.queue < g.queues) × Has (chains d.queue) d
  pub greatest : (q : ℕ) (d : Descriptor) → q < g.queues → Has (chains q) d
      → d.number ≢ i.base + length ds + 1

-- the copy of a block among the logged ones, which stand from a place on
abbrev pub logged_copy : (ℕ → List ℕ) → ℕ → ℕ → List ℕ → ℕ → Option (List ℕ)
logged_copy area size place [] x = None
logged_copy area size place (b ∷ bs) x =
    if nat_eq b x then Some (area (place % size)) else logged_copy area size (place + 1) bs x

abbrev pub is_among : ℕ → List ℕ → Bool
is_among x [] = false
is_among x (b ∷ bs) = if nat_eq b x then true else is_among x bs

abbrev pub or_else : Option (List ℕ) → List ℕ → List ℕ
or_else (Some v) old = v
or_else None old = old

-- what stands on a home block: its newest logged copy that no later transaction revokes, else what
-- is at home
abbrev pub stands : Geometry → Shown → List Descriptor → ℕ → List ℕ
stands g i [] x = i.home x
stands g i (d ∷ ds) x =
    or_else (logged_copy (i.area d.queue) g.area (first_place d) d.logged x)
    (if is_among x d.revoked then i.home x else stands g i ds x)

-- An image is readable, and these are the descriptors of its prefix, newest first. Their count is
-- the prefix, and the image reaches the base plus it.
pub record Reaches (g : Geometry) (i : Shown) (ds : List Descriptor) : Type 0 where
  pub chains : ℕ → List Descriptor
  pub whole : AreWhole g i chains
  pub prefix : IsPrefix g i chains ds

-- the numbers that an image shows: its base, those in its chains, and those of the entries from
-- head to doorbell
pub record ShowsNumber (g : Geometry) (i : Shown) (chains : ℕ → List Descriptor) (n : ℕ) : Type 0 where
  pub where_from : (n ≡ i.base)
      ⊎ (((q : ℕ) × (d : Descriptor) × (q < g.queues) × Has (chains q) d × (d.number ≡ n))
      ⊎ ((q : ℕ) × (c : ℕ) × (s : WriteFields) × (q < g.queues) × (i.head q ≤ c) × (c < i.doorbell q)
      × (i.entry q (c % depth) ≡ Some s) × (s.0 ≡ n)))

-- the greatest number that a readable image shows
pub record IsTop (g : Geometry) (i : Shown) (chains : ℕ → List Descriptor) (top : ℕ) : Type 0 where
  pub whole : AreWhole g i chains
  pub shown : ShowsNumber g i chains top
  pub greatest : (n : ℕ) → ShowsNumber g i chains n → n ≤ top
