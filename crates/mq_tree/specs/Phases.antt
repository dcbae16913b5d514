-- The six phases of a mount: what each of them looks for, and which finding counts.
use Rattle.std.specs.Prelude.{◌≡◌, ◌⊎◌, ◌<◌, ◌≤◌, ℕ, Option, Some, None, nat_le, if◌then◌else◌}
use Rattle.mq_blocks.specs.declared.geometry.Geometry.{Geometry}
use Rattle.mq_tree.specs.Corrupt.{BadDir, BadName, BadPointer, BadRoot, BadTable, HasTail, IsMiscounted, IsShared, IsTwin, IsUnmarked, IsUnreached}
use Rattle.mq_tree.specs.Decoded.{Stored}
use Rattle.mq_tree.specs.declared.corrupt.CorruptCause.{CorruptCause}
use Rattle.mq_tree.specs.declared.corrupt.CorruptCause.TheVariants.{Layout, Pointer, Unmarked, Shared, Count, Twin, Unreached, Kind, Tail}
use Rattle.mq_tree.specs.declared.corrupt.MountRefusal.{MountRefusal}
use Rattle.mq_tree.specs.declared.corrupt.MountRefusal.TheVariants.{Corrupt, OutOfMemory}
use Rattle.mq_tree.specs.declared.corrupt.PhaseRefusal.{PhaseRefusal}
use Rattle.mq_tree.specs.declared.corrupt.PhaseRefusal.TheVariants.{Found, OutOfMemory as NoMemory}

-- a phase looks for this cause, and it holds at this block
pub data Finds (g : Geometry) (s : Stored) (phase : ℕ) (cause : CorruptCause) (b : ℕ) : Type 0 where
  -- 1: superblock, bitmaps and inode table; inode 0
  table : phase ≡ 1 → cause ≡ Layout → BadTable g s b → Finds g s phase cause b
  root : phase ≡ 1 → cause ≡ Kind → BadRoot g s b → Finds g s phase cause b
  -- 2: the pointers of inodes; the blocks of directories
  pointers : phase ≡ 2 → cause ≡ Pointer → BadPointer g s b → Finds g s phase cause b
  dirs : phase ≡ 2 → cause ≡ Layout → BadDir g s b → Finds g s phase cause b
  -- 3: slots
  names : phase ≡ 3 → cause ≡ Kind → BadName g s b → Finds g s phase cause b
  twins : phase ≡ 3 → cause ≡ Twin → IsTwin g s b → Finds g s phase cause b
  -- 4: how often a block or a directory is reached; the links of files
  shared : phase ≡ 4 → cause ≡ Shared → IsShared g s b → Finds g s phase cause b
  counts : phase ≡ 4 → cause ≡ Count → IsMiscounted g s b → Finds g s phase cause b
  -- 5: marks and paths
  unmarked : phase ≡ 5 → cause ≡ Unmarked → IsUnmarked g s b → Finds g s phase cause b
  unreached : phase ≡ 5 → cause ≡ Unreached → IsUnreached g s b → Finds g s phase cause b
  -- 6: the last blocks of files
  tails : phase ≡ 6 → cause ≡ Tail → HasTail g s b → Finds g s phase cause b

-- At one block a phase names its two causes in this order.
abbrev pub rank : CorruptCause → ℕ
rank Layout = 1
rank Pointer = 0
rank Unmarked = 0
rank Shared = 0
rank Count = 1
rank Twin = 3
rank Unreached = 1
rank Kind = 2
rank Tail = 0

abbrev pub IsBefore : (cause : CorruptCause) (b : ℕ) (other : CorruptCause) (c : ℕ) → Type 0
IsBefore cause b other c = (b < c) ⊎ ((b ≡ c) × (rank cause ≤ rank other))

-- what a phase answers: the finding at its least block, and there its first cause
pub record IsFirstIn (g : Geometry) (s : Stored) (phase : ℕ) (cause : CorruptCause) (b : ℕ) : Type 0 where
  pub found : Finds g s phase cause b
  pub first : (other : CorruptCause) (c : ℕ) → Finds g s phase other c → IsBefore cause b other c

-- no phase before this one finds anything
abbrev pub AreClean : Geometry → Stored → (phase : ℕ) → Type 0
AreClean g s phase = (p : ℕ) (cause : CorruptCause) (b : ℕ) → p < phase → Finds g s p cause b → ⊥

-- A call that runs out of memory says nothing about the volume.
abbrev pub RefusesIn : Geometry → Stored → (phase : ℕ) → MountRefusal → Type 0
RefusesIn g s phase (Corrupt cause b) = IsFirstIn g s phase cause b
RefusesIn g s phase OutOfMemory = Unit {0}

-- The first finding of the first phase that finds something.
pub record IsFirst (g : Geometry) (s : Stored) (phase : ℕ) (cause : CorruptCause) (b : ℕ) : Type 0 where
  pub clean : AreClean g s phase
  pub first : IsFirstIn g s phase cause b

abbrev pub RefusesByPhase : Geometry → Stored → PhaseRefusal → Type 0
RefusesByPhase g s (Found phase cause b) = IsFirst g s phase cause b
RefusesByPhase g s NoMemory = Unit {0}

abbrev pub RefusesFirst : Geometry → Stored → MountRefusal → Type 0
RefusesFirst g s (Corrupt cause b) = (phase : ℕ) × IsFirst g s phase cause b
RefusesFirst g s OutOfMemory = Unit {0}

-- a refusal with its phase
abbrev pub refusal_in : (phase : ℕ) → MountRefusal → PhaseRefusal
refusal_in phase (Corrupt cause b) = Found phase cause b
refusal_in phase OutOfMemory = NoMemory

-- and one without it
abbrev pub refusal_of : PhaseRefusal → MountRefusal
refusal_of (Found phase cause b) = Corrupt cause b
refusal_of NoMemory = OutOfMemory

-- of two searches, each for its cause: the lesser block, and at one block the first of the two
abbrev pub first_of : CorruptCause → Option ℕ → CorruptCause → Option ℕ → Option MountRefusal
first_of cause None other None = None
first_of cause (Some a) other None = Some (Corrupt cause a)
first_of cause None other (Some b) = Some (Corrupt other b)
first_of cause (Some a) other (Some b) = Some (if nat_le a b then Corrupt cause a else Corrupt other b)

-- the same for the third phase, where the second search refused
abbrev pub IsFirstName : Option ℕ → MountRefusal → MountRefusal → Type 0
IsFirstName name (Corrupt cause b) e = first_of Kind name Twin (Some b) ≡ Some e
IsFirstName name OutOfMemory e = e ≡ OutOfMemory
