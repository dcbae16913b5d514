-- The descriptor of a transaction of the loose order. It is laid out like the journal's in its first version, with
-- another magic number; in place of the revoked blocks it lists the numbers on which the transaction depends.
use Rattle.std.specs.Prelude.{◌≡◌, ◌≤◌, ℕ, ◌+◌, ◌-◌, ◌*◌, Bool, true, false, ◌&&◌, List, [], ◌∷◌, ◌++◌, length, replicate, nat_le, if◌then◌else◌}
use Rattle.std.specs.Int.{to_le_bytes, w64}
use Rattle.byteorder.specs.Endian.{little_number}
use Rattle.mq_blocks.specs.Descriptor.{Descriptor, DescriptorForm, AreRising, descriptor_text, header_bytes, journal_magic, list_bytes}
use Rattle.mq_blocks.specs.Limits.{newest_version}

-- the most blocks that it logs, and the most numbers on which it depends
abbrev pub loose_limit : ℕ
loose_limit = 256

-- "MQFSLSE1"
abbrev pub loose_magic : ℕ
loose_magic = little_number 8 (77 ∷ 81 ∷ 70 ∷ 83 ∷ 76 ∷ 83 ∷ 69 ∷ 49 ∷ [])

-- numbers as they are listed: eight bytes each, the least first
abbrev pub number_bytes : List ℕ → List ℕ
number_bytes [] = []
number_bytes (n ∷ ns) = to_le_bytes w64 n ++ number_bytes ns

-- a descriptor with this list in place of its revoked blocks
abbrev pub listing : List ℕ → Descriptor → Descriptor
listing deps d = record d { revoked = deps }

-- The bytes of the block of a descriptor that depends on these numbers.
unfoldable pub loose_bytes : Descriptor → List ℕ → List ℕ
loose_bytes d deps =
    header_bytes loose_magic 1 (listing deps d) ++ list_bytes d.logged ++ number_bytes deps
    ++ replicate (4096 - (56 + 4 * length d.logged + 8 * length deps)) 0

-- what holds of a descriptor of the loose order that depends on these numbers
pub record IsLoose (d : Descriptor) (deps : List ℕ) : Type 0 where
  pub few : length d.logged ≤ loose_limit
  pub none : d.revoked ≡ []
  pub deps_few : length deps ≤ loose_limit
  pub rising : AreRising 1 d.number deps

abbrev pub is_none : List ℕ → Bool
is_none [] = true
is_none (x ∷ xs) = false

-- it logs few blocks and revokes none
abbrev pub logs_few : Descriptor → Bool
logs_few d = is_none d.revoked && nat_le (length d.logged) loose_limit

-- The text of a descriptor, where the transactions of these numbers depend on these. No descriptor of the
-- loose order logs more blocks or revokes any: such a one has the bytes that it has in the journal's form.
unfoldable pub loose_text : (ℕ → List ℕ) → (version : ℕ) → Descriptor → List ℕ
loose_text deps version d =
    if logs_few d then loose_bytes d (deps d.number) else descriptor_text journal_magic newest_version d

-- the form of descriptors, where the transactions of these numbers depend on these
abbrev pub loose_form : (ℕ → List ℕ) → DescriptorForm
loose_form deps = record { version = 1; text = loose_text deps; most = λ limit version. limit }
