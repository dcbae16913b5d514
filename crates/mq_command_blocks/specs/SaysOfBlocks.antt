-- What there is to say for `blocks` of a file, and with which status; and which status the file decides.
use Rattle.std.specs.Prelude.{◌≡◌, ℕ, List, Option, Some}
use Rattle.mq_command_io.specs.Ending.{IsLoaded, IsNotLoaded, IsNotSaved, memory_line}
use Rattle.mq_image.specs.File.{DriveImage}
use Rattle.mq_outside.specs.Outside.{FilesState, Held, Tells}
use Rattle.mq_block_text.specs.Refusals.{RefusesText}
use Rattle.mq_block_text.specs.declared.item.BlockItem.{BlockItem}
use Rattle.mq_block_text.specs.declared.refusal.BlockTextCause.{BlockTextCause}
use Rattle.mq_command_blocks.specs.Blocks.{IsBlockText, output_of, refused_line}
use Rattle.mq_block_trace.specs.Prefixes.{IsPrefixAt}
use Rattle.mq_command_blocks.specs.Left.{SavesLeft, SavesTrace}
use Rattle.mq_command_blocks.specs.Picked.{IsRunBy, pick_of}
use Rattle.mq_cli.specs.declared.command.BlocksOptions.{BlocksOptions}

-- The file holds a text, and the output is that of the lines that stand after the cut, on an image that the
-- pick chose. Before, the image is saved, and then the trace of the events up to the cut, each where a name for
-- it is given. Or the text is refused; or it is not loaded, or the image or the trace not saved.
pub data SaysOfBlocks (file : List ℕ) (options : BlocksOptions) (save trace : Option (List ℕ))
    (old new : FilesState) : (status : ℕ)
    → (text : List ℕ) → Type 0 where
  printed : (bytes : List ℕ) (lines : List (List BlockItem)) (p : ℕ) (x : DriveImage)
      (loaded kept : FilesState)
      → IsLoaded file bytes old loaded → IsBlockText bytes lines → IsPrefixAt lines options.cut p
      → IsRunBy lines options.cut options.again (pick_of options) p x → SavesLeft save x loaded kept
      → SavesTrace trace lines options.cut kept new
      → SaysOfBlocks file options save trace old new 0 (output_of lines p)
  refused : (bytes : List ℕ) (line : ℕ) (cause : BlockTextCause) → IsLoaded file bytes old new
      → RefusesText bytes line cause
      → SaysOfBlocks file options save trace old new 2 (refused_line line cause)
  not_loaded : {status : ℕ} {text : List ℕ} → IsNotLoaded file old new status text
      → SaysOfBlocks file options save trace old new status text
  not_saved : {status : ℕ} {text : List ℕ} (bytes : List ℕ) (lines : List (List BlockItem))
      (name : List ℕ) (loaded : FilesState)
      → save ≡ Some name → IsLoaded file bytes old loaded → IsBlockText bytes lines
      → IsNotSaved name loaded new status text → SaysOfBlocks file options save trace old new status text
  trace_not_saved : {status : ℕ} {text : List ℕ} (bytes : List ℕ) (lines : List (List BlockItem))
      (name : List ℕ) (p : ℕ) (x : DriveImage) (loaded kept : FilesState)
      → trace ≡ Some name → IsLoaded file bytes old loaded → IsBlockText bytes lines
      → IsPrefixAt lines options.cut p → IsRunBy lines options.cut options.again (pick_of options) p x
      → SavesLeft save x loaded kept → IsNotSaved name kept new status text
      → SaysOfBlocks file options save trace old new status text
  wants_memory : (bytes : List ℕ) → IsLoaded file bytes old new
      → SaysOfBlocks file options save trace old new 6 memory_line

-- the status where nothing fails and memory does not run out: the file holds a text, or bytes that are
-- refused
pub data TextDecides (file : List ℕ) (held : Option Held) : ℕ → Type 0 where
  good_text : (bytes : List ℕ) (lines : List (List BlockItem)) → Tells held file (Some bytes)
      → IsBlockText bytes lines → TextDecides file held 0
  bad_text : (bytes : List ℕ) (line : ℕ) (cause : BlockTextCause) → Tells held file (Some bytes)
      → RefusesText bytes line cause → TextDecides file held 2
