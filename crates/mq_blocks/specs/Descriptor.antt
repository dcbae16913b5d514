-- The descriptor of a transaction: one or two blocks at the end of the transaction's blocks in the
-- journal area, which name them (Liao et al., SOSP 2021, "journal description block"; the layout is this
-- project's own). There are two versions of it: the first always has one block.
use Rattle.std.specs.Prelude.{◌≡◌, ◌≢◌, ◌⊎◌, ◌<◌, ◌≤◌, ℕ, ◌+◌, ◌-◌, ◌*◌, ◌^◌, List, [], ◌∷◌, ◌++◌, length, replicate, take, drop, nat_lt, nat_eq, if◌then◌else◌}
use Rattle.std.specs.Int.{to_le_bytes, w32, w64}
use Rattle.byteorder.specs.Endian.{little_number}
use Rattle.mq_blocks.specs.Geometry.{homes_of, write_limit}
use Rattle.mq_blocks.specs.Limits.{newest_version}
use Rattle.mq_blocks.specs.declared.geometry.Geometry.{Geometry}

pub record Descriptor : Type 0 where
  pub queue : ℕ
  pub number : ℕ
  -- where the descriptor's last block stands, as an absolute count of blocks of its queue's area
  pub place : ℕ
  -- the descriptor before it of the same queue, or two zeros
  pub prev_place : ℕ
  pub prev_number : ℕ
  -- the home blocks whose copies stand right before the descriptor's blocks, in this order
  pub logged : List ℕ
  -- the home blocks whose earlier copies count no more
  pub revoked : List ℕ

-- the most that one of a version lists, on a drive whose transactions write this many blocks
abbrev pub most_listed : (limit version : ℕ) → ℕ
most_listed limit version = if nat_eq version 1 then 1000 else limit

-- how many further blocks a descriptor of so many entries has, beside its last: 1,010 fit there
unfoldable pub further_for : ℕ → ℕ
further_for count = if nat_lt 1010 count then 1 else 0

abbrev pub further : Descriptor → ℕ
further d = further_for (length d.logged + length d.revoked)

-- the place of its first copy
abbrev pub first_place : Descriptor → ℕ
first_place d = d.place - (length d.logged + further d)

-- numbers from `low` on and below `high`, each above the one before it
abbrev pub AreRising : ℕ → ℕ → List ℕ → Type 0
AreRising low high [] = Unit {0}
AreRising low high (x ∷ xs) = (low ≤ x) × (x < high) × AreRising (x + 1) high xs

-- this number is none of those
abbrev pub IsNoneOf : ℕ → List ℕ → Type 0
IsNoneOf x [] = Unit {0}
IsNoneOf x (y ∷ ys) = (x ≢ y) × IsNoneOf x ys

-- none of the first numbers is one of the second
abbrev pub AreApart : List ℕ → List ℕ → Type 0
AreApart [] ys = Unit {0}
AreApart (x ∷ xs) ys = IsNoneOf x ys × AreApart xs ys

-- what holds of every descriptor that lists at most so many blocks, on a drive with `homes` home blocks
pub record IsGood (most homes : ℕ) (d : Descriptor) : Type 0 where
  pub queue : d.queue < 2 ^ 32
  pub number : d.number < 2 ^ 64
  pub place : d.place < 2 ^ 62
  pub falls : d.prev_number < d.number
  pub first : d.prev_number ≡ 0 → d.prev_place ≡ 0
  pub before : 0 < d.prev_number → d.prev_place + (length d.logged + further d) < d.place
  pub counts : length d.logged + length d.revoked ≤ most
  pub fits : length d.logged + further d ≤ d.place
  pub logged : AreRising 0 homes d.logged
  pub revoked : AreRising 0 homes d.revoked
  pub apart : AreApart d.revoked d.logged

-- home blocks as they are listed: four bytes each, the least first
abbrev pub list_bytes : List ℕ → List ℕ
list_bytes [] = []
list_bytes (b ∷ bs) = to_le_bytes w32 b ++ list_bytes bs

-- the fields before the lists, 56 bytes
unfoldable pub header_bytes : (magic version : ℕ) → Descriptor → List ℕ
header_bytes magic version d =
    to_le_bytes w64 magic ++ to_le_bytes w32 version ++ to_le_bytes w32 d.queue ++ to_le_bytes w64 d.number
    ++ to_le_bytes w64 d.place
    ++ to_le_bytes w64 d.prev_place ++ to_le_bytes w64 d.prev_number
    ++ to_le_bytes w32 (length d.logged) ++ to_le_bytes w32 (length d.revoked)

-- the bytes of a descriptor's last block, and then those of its further block
unfoldable pub descriptor_text : (magic version : ℕ) → Descriptor → List ℕ
descriptor_text magic version d =
    header_bytes magic version d ++ list_bytes d.logged ++ list_bytes d.revoked
    ++ replicate (4096 * (further d + 1) - (56 + 4 * length d.logged + 4 * length d.revoked)) 0

-- ---- the form of descriptors

-- How a descriptor stands in its blocks.
pub record DescriptorForm : Type 0 where
  -- the version that is written; the first is read too
  pub version : ℕ
  -- the bytes of its blocks, the last block first
  pub text : (version : ℕ) → Descriptor → List ℕ
  -- the most that one of a version lists, on a drive whose transactions write so many blocks
  pub most : (limit version : ℕ) → ℕ

-- that of descriptors which begin with these eight bytes, the least first
abbrev pub form_with : (magic version : ℕ) → DescriptorForm
form_with magic version = record { version = version; text = descriptor_text magic; most = most_listed }

-- "MQFSDSC1"
abbrev pub journal_magic : ℕ
journal_magic = little_number 8 (77 ∷ 81 ∷ 70 ∷ 83 ∷ 68 ∷ 83 ∷ 67 ∷ 49 ∷ [])

-- that of the journal
abbrev pub journal_form : DescriptorForm
journal_form = form_with journal_magic newest_version

-- the last block of a descriptor, and the further one before it
unfoldable pub last_block : DescriptorForm → (version : ℕ) → Descriptor → List ℕ
last_block form version d = take 4096 (form.text version d)

unfoldable pub further_block : DescriptorForm → (version : ℕ) → Descriptor → List ℕ
further_block form version d = drop 4096 (form.text version d)

-- the versions that are read
abbrev pub IsVersion : DescriptorForm → ℕ → Type 0
IsVersion form version = (version ≡ 1) ⊎ (version ≡ form.version)

-- On a drive of so many home blocks, whose transactions write at most `limit`, this block is the last of
-- the descriptor, and the one before it is its further block, if it has one.
pub record IsDescriptor (form : DescriptorForm) (limit homes : ℕ) (block before : List ℕ)
    (d : Descriptor) : Type 0 where
  pub version : ℕ
  pub known : IsVersion form version
  pub last : block ≡ last_block form version d
  pub rest : further d ≡ 1 → before ≡ further_block form version d
  pub good : IsGood (form.most limit version) homes d

-- Two blocks are those of one descriptor at most, and the last one tells its place.
pub record IsReadOnce (form : DescriptorForm) : Type 0 where
  pub once : (g : Geometry) (block before : List ℕ) (d e : Descriptor)
      → IsDescriptor form (write_limit g) (homes_of g) block before d
      → IsDescriptor form (write_limit g) (homes_of g) block before e → d ≡ e
  pub placed : (g : Geometry) (block before other : List ℕ) (d e : Descriptor)
      → IsDescriptor form (write_limit g) (homes_of g) block before d
      → IsDescriptor form (write_limit g) (homes_of g) block other e → d.place ≡ e.place

-- What is written can be read, and as nothing else: one of the version that is written lists as many
-- blocks as a transaction may write.
pub record IsSound (form : DescriptorForm) : Type 0 where
  pub read : IsReadOnce form
  pub lists : (g : Geometry) → write_limit g ≤ form.most (write_limit g) form.version
