-- What the program says to words, and what its status reports.
use Rattle.std.specs.Prelude.{◌≡◌, ◌⊎◌, ◌≤◌, ℕ, ◌+◌, ◌*◌, false, List, [], ◌∷◌, length, All, Option, Some, None, bytes_eq}
use Rattle.mq_command_io.specs.Ending.{IsLoaded, TakesOver, memory_line, HoldsTooMuch, TakesUpTo, KeepsOthers}
use Rattle.mq_kv_cli.specs.Asked.{Asked, apply, asked_of, help, make, version}
use Rattle.mq_cli.specs.Asked.{Words}
use Rattle.mq_kv_text.specs.Reports.{usage_text}
use Rattle.mq_kv_tool.specs.Says.{Says}
use Rattle.mq_outside.specs.Outside.{FilesState, Held, HoldsOver, Rose, SinkState, appended, load_limit}

-- the words are no command
abbrev pub AreUnknown : Words → Type 0
AreUnknown words = asked_of words ≡ None

-- What there is to say to the words, and with which status: the usage line, what there is to say of what
-- they ask, or that memory ran out to read them.
pub data IsToSay (words : Words) (old new : FilesState) : (status : ℕ) → (text : List ℕ) → Type 0 where
  no_command : AreUnknown words → new ≡ old → IsToSay words old new 1 usage_text
  of_command : {status : ℕ} {text : List ℕ} (a : Asked) → asked_of words ≡ Some a
      → Says a old new status text → IsToSay words old new status text
  no_memory : new ≡ old → IsToSay words old new 6 memory_line

-- the status is one of these
abbrev pub IsStatus : ℕ → Type 0
IsStatus s = (s ≡ 0) ⊎ ((s ≡ 1) ⊎ ((s ≡ 2) ⊎ ((s ≡ 3) ⊎ ((s ≡ 4) ⊎ (s ≡ 6)))))

-- what there was to say with this status was said whole
abbrev pub IsSaid : Words → (files new_files : FilesState) → (old new : SinkState) → (status : ℕ) → Type 0
IsSaid words files new_files old new status =
    (text : List ℕ) × IsToSay words files new_files status text
    × (new.contents ≡ appended old.contents text)

-- ---- names

-- the names that are loaded
abbrev pub loaded_names : Asked → List (List ℕ)
loaded_names (make image) = []
loaded_names (apply image file options) = image ∷ file ∷ []
loaded_names (help topic) = []
loaded_names version = []

abbrev pub loaded_by : Option Asked → List (List ℕ)
loaded_by None = []
loaded_by (Some a) = loaded_names a

-- the name that is saved
abbrev pub saved_names : Asked → List (List ℕ)
saved_names (make image) = image ∷ []
saved_names (apply image file options) = image ∷ []
saved_names (help topic) = []
saved_names version = []

abbrev pub saved_by : Option Asked → List (List ℕ)
saved_by None = []
saved_by (Some a) = saved_names a

abbrev pub IsTooLong : Words → (old new : FilesState) → Type 0
IsTooLong words old new = HoldsTooMuch (loaded_by (asked_of words)) old new

-- the loads took at most what one load for each name that is loaded gives
abbrev pub TakesFor : Words → (old new : FilesState) → Type 0
TakesFor words old new = TakesUpTo (length (loaded_by (asked_of words))) old.taken new.taken

-- no name changes but the image that is saved
abbrev pub KeepsNames : Words → (old new : FilesState) → Type 0
KeepsNames words old new = KeepsOthers (saved_by (asked_of words)) old.contents new.contents
