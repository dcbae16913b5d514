-- What the three numbers of a page say, and when nothing of a page waits for a home write.
use Rattle.std.specs.Prelude.{◌≡◌, ◌⊎◌, ◌<◌, ◌≤◌, ℕ, ◌&&◌, ◌||◌, max, nat_eq, is_some, Bool, true, false, List, [], ◌∷◌, Some, if◌then◌else◌}
use Rattle.mq_blocks.specs.Geometry.{homes_of}
use Rattle.mq_blocks.specs.Machine.{write_of}
use Rattle.mq_ledger.specs.History.{map_after, last, last_logged}
use Rattle.mq_ledger.specs.KnownJournal.{KnownJournal, LogOk, front}
use Rattle.mq_ledger.specs.declared.tx.Tx.{Tx}
use Rattle.mq_desk_laws.specs.Bases.{WroteDirectly}
use Rattle.mq_desk_laws.specs.Grown.{HasGrown}

-- ---- home writes that ended

-- of these home writes, one is of the block, with the content of the number
abbrev pub is_ended : List (ℕ × ℕ) → ℕ → ℕ → Bool
is_ended [] x v = false
is_ended (h ∷ hs) x v = (nat_eq h.0 x && nat_eq h.1 v) || is_ended hs x v

-- the last number whose content of the block was written home, else the base
abbrev pub last_ended : ℕ → List (ℕ × ℕ) → ℕ → ℕ
last_ended base [] x = base
last_ended base (h ∷ hs) x = if nat_eq h.0 x then max h.1 (last_ended base hs x) else last_ended base hs x

-- the last number that wrote the block directly, else the base
abbrev pub last_direct : ℕ → List Tx → ℕ → ℕ
last_direct base [] x = base
last_direct base (t ∷ ts) x = if is_some (write_of t.direct x) then t.number else last_direct base ts x

-- kept at home are the whole map at the base, and the contents whose home writes ended
abbrev pub due_by : ℕ → List (ℕ × ℕ) → ℕ → ℕ → Bool
due_by base ended x v = nat_eq v base || is_ended ended x v

-- the last number whose content of the block came home, by a home write or directly, else the base
abbrev pub home_number : KnownJournal → List (ℕ × ℕ) → ℕ → ℕ
home_number k ended x = max (last_direct k.base k.history x) (last_ended k.base ended x)

-- ---- a page

-- The numbers of a page are its block's last change, the last that logged it, and one whose content of it
-- is kept at home or was written directly.
pub record IsNumbered (k : KnownJournal) (x version logged home : ℕ) : Type 0 where
  pub version_is : version ≡ last k.base k.history x
  pub logged_is : logged ≡ last_logged k.base k.history x
  pub home_is : (k.due x home ≡ true) ⊎ WroteDirectly k.history x home

-- A base needs no home write of the page: where the block is in the map, and its last change logged it and
-- is not above the base, its content is at home.
abbrev pub IsBrought : KnownJournal → ℕ → ℕ → ℕ → ℕ → ℕ → Type 0
IsBrought k b x version logged home =
    (content : List ℕ) → map_after k.start k.history x ≡ Some content → logged ≡ version → version ≤ b
    → version ≤ home

-- At an earlier moment, at which the front was at the base or above it, the page had these numbers, its
-- last change was done, and the base needed no home write of it.
pub record WasBrought (k : KnownJournal) (b x : ℕ) : Type 0 where
  pub earlier : KnownJournal
  pub log : LogOk earlier
  pub grown : HasGrown earlier k
  pub reached : b ≤ front earlier
  pub version : ℕ
  pub logged : ℕ
  pub home : ℕ
  pub numbers : IsNumbered earlier x version logged home
  pub done : version ≤ front earlier
  pub brought : IsBrought earlier b x version logged home

-- so it was with each page, with each at a moment of its own
abbrev pub AreBrought : KnownJournal → ℕ → Type 0
AreBrought k b = (x : ℕ) → x < homes_of k.geometry → WasBrought k b x

-- ---- a page that is written home

-- The page waits for a home write: its last change logged it, is done, and is above the last number whose
-- content came home.
pub record IsToBring (k : KnownJournal) (ended : List (ℕ × ℕ)) (x version logged home : ℕ) : Type 0 where
  pub version_is : version ≡ last k.base k.history x
  pub logged_is : logged ≡ last_logged k.base k.history x
  pub home_is : home ≡ home_number k ended x
  pub due_is : k.due ≡ due_by k.base ended
  pub last : logged ≡ version
  pub waits : home < version
  pub done : version ≤ front k

-- it is known besides that a home write of the block ended, with the content of the number
abbrev pub known_after : KnownJournal → List (ℕ × ℕ) → ℕ → ℕ → KnownJournal
known_after k ended x version = record k { due = due_by k.base ((x, version) ∷ ended) }
