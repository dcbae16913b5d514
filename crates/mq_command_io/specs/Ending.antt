-- How a command ends: the one text that there is to say, with a status.
use Rattle.std.specs.Prelude.{◌≡◌, ◌<◌, ◌≤◌, ◌⊎◌, ℕ, ◌+◌, ◌*◌, false, List, [], ◌∷◌, ◌++◌, All, Option, Some, None, nat_eq, bytes_eq, if◌then◌else◌, codes}
use Rattle.mq_outside.specs.Outside.{FilesState, Held, SinkState, Holds, HoldsOver, OthersSame, Rose, TriesAtMost, appended, AppendsPrefix, count_end, load_limit, put_name, tried_too}

-- ---- the lines that are no output

abbrev pub memory_line : List ℕ
memory_line = codes "memory\n"

-- a word and a name, as `fault load d`
abbrev pub named_line : List ℕ → List ℕ → List ℕ
named_line first name = first ++ (name ++ 10 ∷ [])

abbrev pub fault_line : List ℕ → List ℕ
fault_line name = named_line (codes "fault load ") name

abbrev pub too_long_line : List ℕ → List ℕ
too_long_line name = named_line (codes "too long ") name

abbrev pub save_line : List ℕ → List ℕ
save_line name = named_line (codes "fault save ") name

-- ---- the end

-- A text was to be said with a status. It was, or the sink failed, or memory ran out, which
-- doesn't go before 4.
abbrev pub EndsWith : (status : ℕ) (text : List ℕ) (result : ℕ) (old new : SinkState) → Type 0
EndsWith status text result old new =
    ((result ≡ status) × (new.contents ≡ appended old.contents text) × (new.faults ≡ old.faults))
    ⊎ (((result ≡ 4) × AppendsPrefix old.contents new.contents text × Rose old.faults new.faults)
    ⊎ ((result ≡ if nat_eq status 4 then 4 else 6) × AppendsPrefix old.contents new.contents text
    × (new.faults ≡ old.faults)))

-- the status is this one, or a fault or out of memory went before it
abbrev pub IsUnlessFailed : ℕ → ℕ → Type 0
IsUnlessFailed s result = (result ≡ s) ⊎ ((result ≡ 4) ⊎ (result ≡ 6))

-- ---- loads

-- the loads took at most what one load gives
abbrev pub TakesWithin : ℕ → ℕ → Type 0
TakesWithin old new = (old ≤ new) × (new ≤ old + load_limit)

-- the loads took more than what one load gives, or the count stands at its end
abbrev pub TakesOver : ℕ → ℕ → Type 0
TakesOver old new = (old + load_limit < new) ⊎ (new ≡ count_end)

-- the name gave these bytes, by one load of this name
pub record IsLoaded (name bytes : List ℕ) (old new : FilesState) : Type 0 where
  pub holds : Holds old.contents name bytes
  pub contents : new.contents ≡ old.contents
  pub faults : new.faults ≡ old.faults
  pub takes : TakesWithin old.taken new.taken
  pub tried : new.tried ≡ tried_too old.tried name

-- What is printed for a name that gave no bytes, by what the files show before and after. The load that
-- failed, or was too long, was one of this name.
pub data IsNotLoaded (name : List ℕ) (old new : FilesState) : (status : ℕ) → (text : List ℕ) → Type 0 where
  load_failed : new.contents ≡ old.contents → Rose old.faults new.faults
      → new.tried ≡ tried_too old.tried name → IsNotLoaded name old new 4 (fault_line name)
  load_too_long : new.contents ≡ old.contents → HoldsOver old.contents name → new.faults ≡ old.faults
      → TakesOver old.taken new.taken → new.tried ≡ tried_too old.tried name
      → IsNotLoaded name old new 4 (too_long_line name)
  load_memory : new.contents ≡ old.contents → new.faults ≡ old.faults
      → TriesAtMost name old.tried new.tried → IsNotLoaded name old new 6 memory_line

-- What is printed for a name that is loaded, where the bytes alone decide the text and the status.
-- Nothing is saved.
pub data SaysOf (Of : (bytes : List ℕ) → (status : ℕ) → (text : List ℕ) → Type 0) (name : List ℕ)
    (old new : FilesState) (status : ℕ) (text : List ℕ) : Type 0 where
  loaded : (bytes : List ℕ) → IsLoaded name bytes old new → Of bytes status text
      → SaysOf Of name old new status text
  not_loaded : IsNotLoaded name old new status text → SaysOf Of name old new status text
  wanting : (bytes : List ℕ) → IsLoaded name bytes old new → status ≡ 6 → text ≡ memory_line
      → SaysOf Of name old new status text

-- ---- saves

-- the bytes were saved, and nothing else changed
pub record IsSaved (name bytes : List ℕ) (old new : FilesState) : Type 0 where
  pub contents : new.contents ≡ put_name old.contents name bytes
  pub faults : new.faults ≡ old.faults
  pub taken : new.taken ≡ old.taken
  pub tried : new.tried ≡ old.tried

-- what is printed for bytes that were not saved
pub data IsNotSaved (name : List ℕ) (old new : FilesState) : (status : ℕ) → (text : List ℕ) → Type 0 where
  save_failed : OthersSame old.contents new.contents name → Rose old.faults new.faults
      → new.taken ≡ old.taken → new.tried ≡ old.tried → IsNotSaved name old new 4 (save_line name)
  save_memory : new.contents ≡ old.contents → new.faults ≡ old.faults → new.taken ≡ old.taken
      → new.tried ≡ old.tried → IsNotSaved name old new 6 memory_line

-- ---- several names

-- this text, and no file is looked at
pub data SaysOnly (line : List ℕ) (old new : FilesState) : (status : ℕ) → (text : List ℕ) → Type 0 where
  said : new ≡ old → SaysOnly line old new 0 line

-- After the names before it were loaded, one of these names holds more bytes than one load gives, and the
-- load of this name took more.
abbrev pub HoldsTooMuch : List (List ℕ) → (old new : FilesState) → Type 0
HoldsTooMuch [] old new = ⊥
HoldsTooMuch (name ∷ names) old new =
    (HoldsOver old.contents name × TakesOver old.taken new.taken)
    ⊎ ((bytes : List ℕ) × (mid : FilesState) × IsLoaded name bytes old mid × HoldsTooMuch names mid new)

-- the loads took at most what so many loads give
abbrev pub TakesUpTo : (loads : ℕ) → (old new : ℕ) → Type 0
TakesUpTo loads old new = (old ≤ new) × (new ≤ old + loads * load_limit)

-- what each name holds that is none of these is as before
abbrev pub KeepsOthers : (names : List (List ℕ)) → (old new : Option Held) → Type 0
KeepsOthers names None None = Unit {0}
KeepsOthers names None (Some new) = ⊥
KeepsOthers names (Some old) None = ⊥
KeepsOthers names (Some old) (Some new) =
    (other : List ℕ) → All (λ name. bytes_eq other name ≡ false) names → new other ≡ old other
