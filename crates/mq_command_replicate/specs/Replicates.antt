-- What there is to say for `replicate` of a file, and with which status.
use Rattle.std.specs.Prelude.{◌≡◌, ℕ, List, Option, Some}
use Rattle.mq_block_text.specs.Refusals.{RefusesText}
use Rattle.mq_block_text.specs.declared.item.BlockItem.{BlockItem}
use Rattle.mq_block_text.specs.declared.refusal.BlockTextCause.{BlockTextCause}
use Rattle.mq_command_blocks.specs.Blocks.{IsBlockText, refused_line}
use Rattle.mq_command_blocks.specs.Left.{SavesLeft}
use Rattle.mq_command_io.specs.Ending.{IsLoaded, IsNotLoaded, IsNotSaved, memory_line}
use Rattle.mq_image.specs.File.{DriveImage}
use Rattle.mq_outside.specs.Outside.{FilesState}
use Rattle.mq_command_replicate.specs.Replicas.{IsReplicaOf, output_of}

-- The file holds a text, and the output is that of a replica of all its lines, whose image is saved before,
-- where a name for it is given. Or the text is refused; or it is not loaded, or the image not saved. The
-- seed is in none of it: whatever is lost and repeated, the replica comes to the same.
pub data Replicates (file : List ℕ) (save : Option (List ℕ)) (old new : FilesState) : (status : ℕ)
    → (text : List ℕ) → Type 0 where
  printed : (bytes : List ℕ) (lines : List (List BlockItem)) (x : DriveImage) (loaded : FilesState)
      → IsLoaded file bytes old loaded → IsBlockText bytes lines → IsReplicaOf lines x
      → SavesLeft save x loaded new → Replicates file save old new 0 (output_of lines)
  refused : (bytes : List ℕ) (line : ℕ) (cause : BlockTextCause) → IsLoaded file bytes old new
      → RefusesText bytes line cause → Replicates file save old new 2 (refused_line line cause)
  not_loaded : {status : ℕ} {text : List ℕ} → IsNotLoaded file old new status text
      → Replicates file save old new status text
  not_saved : {status : ℕ} {text : List ℕ} (bytes : List ℕ) (lines : List (List BlockItem)) (name : List ℕ)
      (loaded : FilesState)
      → save ≡ Some name → IsLoaded file bytes old loaded → IsBlockText bytes lines
      → IsNotSaved name loaded new status text → Replicates file save old new status text
  wants_memory : (bytes : List ℕ) → IsLoaded file bytes old new
      → Replicates file save old new 6 memory_line
