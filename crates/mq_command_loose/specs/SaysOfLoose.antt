-- What there is to say for `loose` of a file, and with which status; and which status the file decides.
use Rattle.std.specs.Prelude.{◌≡◌, ◌⊎◌, ℕ, Bool, List, Option, Some}
use Rattle.mq_command_blocks.specs.Left.{SavesLeft}
use Rattle.mq_command_io.specs.Ending.{EndsWith, IsLoaded, IsNotLoaded, IsNotSaved, memory_line}
use Rattle.mq_image.specs.File.{DriveImage}
use Rattle.mq_loose_run.specs.Runs.{IsLeftLoose}
use Rattle.mq_loose_text.specs.Meaning.{IsSetIn, output_of}
use Rattle.mq_loose_text.specs.Text.{IsLooseText, RefusesText, refused_line}
use Rattle.mq_loose_text.specs.declared.line.LooseLine.{LooseLine}
use Rattle.mq_loose_text.specs.declared.refusal.LooseTextRefusal.{LooseTextRefusal}
use Rattle.mq_loose_text.specs.declared.refusal.LooseTextRefusal.TheVariants.{Line, OutOfMemory}
use Rattle.mq_outside.specs.Outside.{FilesState, Held, SinkState, Tells}

-- what is said of a text that is not run, or that memory ran out for that
abbrev pub EndsRefused : LooseTextRefusal → (result : ℕ) → (old new : SinkState) → Type 0
EndsRefused (Line line) result old new =
    EndsWith 2 (refused_line line) result old new ⊎ EndsWith 6 memory_line result old new
EndsRefused OutOfMemory result old new = EndsWith 6 memory_line result old new

-- The file holds a text, and the output is that of its lines, run until the cut, with the set of an image that the cut
-- left, which is saved before, where a name for it is given. Or the text is refused; or it is not loaded, or the image
-- not saved.
pub data SaysOfLoose (file : List ℕ) (cut : Option ℕ) (save : Option (List ℕ)) (old new : FilesState) : (status : ℕ)
    → (text : List ℕ) → Type 0 where
  printed : (bytes : List ℕ) (lines : List LooseLine) (set : ℕ → Bool) (x : DriveImage) (loaded : FilesState)
      → IsLoaded file bytes old loaded → IsLooseText bytes lines → IsSetIn cut lines set
      → IsLeftLoose cut lines set x → SavesLeft save x loaded new
      → SaysOfLoose file cut save old new 0 (output_of cut lines set)
  refused : (bytes : List ℕ) (line : ℕ) → IsLoaded file bytes old new → RefusesText bytes line
      → SaysOfLoose file cut save old new 2 (refused_line line)
  not_loaded : {status : ℕ} {text : List ℕ} → IsNotLoaded file old new status text
      → SaysOfLoose file cut save old new status text
  not_saved : {status : ℕ} {text : List ℕ} (bytes : List ℕ) (lines : List LooseLine) (name : List ℕ)
      (loaded : FilesState)
      → save ≡ Some name → IsLoaded file bytes old loaded → IsLooseText bytes lines
      → IsNotSaved name loaded new status text → SaysOfLoose file cut save old new status text
  wants_memory : (bytes : List ℕ) → IsLoaded file bytes old new
      → SaysOfLoose file cut save old new 6 memory_line

-- the status where nothing fails and memory does not run out: the file holds a text, or bytes that are
-- refused
pub data LooseDecides (file : List ℕ) (held : Option Held) : ℕ → Type 0 where
  good_text : (bytes : List ℕ) (lines : List LooseLine) → Tells held file (Some bytes) → IsLooseText bytes lines
      → LooseDecides file held 0
  bad_text : (bytes : List ℕ) (line : ℕ) → Tells held file (Some bytes) → RefusesText bytes line
      → LooseDecides file held 2
