-- How `blocks` ends, by its parts.
use Rattle.std.specs.Prelude.{◌≡◌, ◌⊎◌, ℕ, List, Option, Some, None}
use Rattle.std.specs.declared.vec.Vec.{Vec}
use Rattle.mq_command_io.specs.Ending.{EndsWith, IsNotSaved, IsSaved, memory_line}
use Rattle.mq_outside.specs.Outside.{FilesState, SinkState}
use Rattle.mq_block_text.specs.declared.refusal.BlockTextRefusal.{BlockTextRefusal}
use Rattle.mq_block_text.specs.declared.refusal.BlockTextRefusal.TheVariants.{At, OutOfMemory}
use Rattle.mq_command_blocks.specs.Blocks.{refused_line}

-- what is said of a text that is not run, or that memory ran out for that
abbrev pub EndsRefused : BlockTextRefusal → (result : ℕ) → (old new : SinkState) → Type 0
EndsRefused (At line cause) result old new =
    EndsWith 2 (refused_line line cause) result old new ⊎ EndsWith 6 memory_line result old new
EndsRefused OutOfMemory result old new = EndsWith 6 memory_line result old new

-- why a file is not saved is said
abbrev pub EndsUnsaved : Option (List ℕ) → (files new_files : FilesState) → (result : ℕ)
    → (old new : SinkState) → Type 0
EndsUnsaved save files new_files result old new =
    (status : ℕ) × (text : List ℕ) × (name : List ℕ) × (save ≡ Some name)
    × IsNotSaved name files new_files status text × EndsWith status text result old new

module _ {Z : Type 0} where
  -- a file is saved under a name, where both are given
  abbrev pub SavesFile : Option (Vec ℕ Z) → Option (List ℕ) → (old new : FilesState) → Type 0
  SavesFile None save old new = new ≡ old
  SavesFile (Some file) None old new = new ≡ old
  SavesFile (Some file) (Some name) old new = IsSaved name file.items old new

  -- both files are saved
  abbrev pub SavesBoth : (left traced : Option (Vec ℕ Z)) → (save trace : Option (List ℕ))
      → (old new : FilesState) → Type 0
  SavesBoth left traced save trace old new =
      (kept : FilesState) × SavesFile left save old kept × SavesFile traced trace kept new

  -- why one of them is not saved is said; the trace comes second
  abbrev pub EndsHalfway : Option (Vec ℕ Z) → (save trace : Option (List ℕ))
      → (files new_files : FilesState) → (result : ℕ) → (old new : SinkState) → Type 0
  EndsHalfway left save trace files new_files result old new =
      EndsUnsaved save files new_files result old new
      ⊎ ((kept : FilesState) × SavesFile left save files kept × EndsUnsaved trace kept new_files result old new)

  -- both files are saved and the output said; or why one of them is not saved
  abbrev pub EndsRun : (left traced : Option (Vec ℕ Z)) → List ℕ → (save trace : Option (List ℕ))
      → (files new_files : FilesState) → (result : ℕ) → (old new : SinkState) → Type 0
  EndsRun left traced output save trace files new_files result old new =
      (SavesBoth left traced save trace files new_files × EndsWith 0 output result old new)
      ⊎ EndsHalfway left save trace files new_files result old new
