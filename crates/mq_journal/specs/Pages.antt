-- The pages that a checkpoint has passed, and the one that it holds.
use Rattle.std.specs.Prelude.{◌≡◌, ◌⊎◌, ◌<◌, ◌≤◌, ℕ, List, [], ◌∷◌, length, Option, None, Some}
use Rattle.mq_blocks.specs.Drive.{PortState}
use Rattle.mq_drive.specs.Steps.{PortFault}
use Rattle.mq_drive.specs.declared.port.Port.{Ghosts}
use Rattle.mq_journal.specs.Numbers.{Seat, Shared, Start, values}
use Rattle.mq_ledger.specs.KnownJournal.{front}
use Rattle.mq_pages.specs.declared.page.PageCell.{PageCell}
use Rattle.mq_desk_laws.specs.Groups.{GroupView}
use Rattle.mq_desk_laws.specs.Rule.{IsPage, core_of}

-- the cell once the content of its last change is at home
abbrev pub at_home : PageCell → PageCell
at_home c = record c { home_version = c.version }

-- no base up to the block's last change needs a home write of it: where the block is in the map, and its
-- last change logged it, its content is at home
abbrev pub IsAtHome : PageCell → Type 0
IsAtHome c =
    (content : List ℕ) → c.content ≡ Some content → c.last_logged ≡ c.version
    → c.version ≤ c.home_version

-- a copy of what waits for a home write, where the cell does
abbrev pub IsCopyOf : PageCell → Option (List ℕ) → Type 0
IsCopyOf c None = IsAtHome c
IsCopyOf c (Some copy) =
    (c.content ≡ Some copy) × (c.last_logged ≡ c.version) × (c.home_version < c.version)

module _ {P E : Type 0} {G : Ghosts P} where
  -- The cell waits for a home write: its last change logged it, is above the last number whose content came
  -- home, and is known to be done.
  pub record IsDue (c : PageCell) (v : Seat P E G) : Type 0 where
    pub last : c.last_logged ≡ c.version
    pub waits : c.home_version < c.version
    pub done : c.version ≤ v.reading.done

module _ {P E : Type 0} {G : Ghosts P} (state : P → PortState) (faults : P → List PortFault)
    (group : GroupView E) where
  -- By what was known then, the base was done and so was the page's last change, and the base needed no
  -- home write of the page: where the block is in the map, and its last change logged it and is not above
  -- the base, its content is at home.
  pub record WasBroughtHome (base : ℕ) (c : PageCell) (K : Shared P E G) : Type 0 where
    pub reached : base ≤ front (core_of (values state faults group) group K)
    pub done : c.version ≤ front (core_of (values state faults group) group K)
    pub home : (content : List ℕ) → c.content ≡ Some content → c.last_logged ≡ c.version
        → c.version ≤ base → c.version ≤ c.home_version

  -- one of the notes is of the page, and says so
  abbrev pub IsNoted : (base x : ℕ) → List (ℕ × PageCell × Shared P E G) → Type 0
  IsNoted base x [] = ⊥
  IsNoted base x (n ∷ ns) = ((n.0 ≡ x) × WasBroughtHome base n.1 n.2) ⊎ IsNoted base x ns

  -- each of the first pages is noted
  abbrev pub AreNoted : (base n : ℕ) → List (ℕ × PageCell × Shared P E G) → Type 0
  AreNoted base n notes = (x : ℕ) → x < n → IsNoted base x notes

  -- The session holds the page of the block and no other turn, and the cell is what the rule says of the
  -- page by what it knows of that turn.
  pub record HoldsOnlyPage (o : Start P E G) (b : ℕ) (c : PageCell) (v : Seat P E G) : Type 0 where
    pub known : Shared P E G
    pub turn : b < length o.pages
    pub held : v.held ≡ (b, known) ∷ []
    pub is : IsPage (values state faults group) group b known c
