-- What `mqfs loose` comes to where the lines were run.
use Rattle.std.specs.Prelude.{◌≡◌, ℕ, Bool, List, Option}
use Rattle.mq_command_blocks.specs.Left.{SavesLeft}
use Rattle.mq_image.specs.File.{DriveImage}
use Rattle.mq_loose_run.specs.Runs.{IsLeftLoose}
use Rattle.mq_loose_text.specs.Meaning.{IsSetIn, output_of}
use Rattle.mq_loose_text.specs.Text.{IsLooseText}
use Rattle.mq_loose_text.specs.declared.line.LooseLine.{LooseLine}
use Rattle.mq_outside.specs.Outside.{FilesState, Holds, SinkState, appended}

-- The file held a text of the loose order, whose lines were run until the cut. What was said is the settled numbers, the
-- set of an image that the cut left, and the blocks of the map after the transactions of this set. Where a name is given,
-- it holds this image now, and no other name changed; else none did.
pub record IsLoosed (file : List ℕ) (cut : Option ℕ) (save : Option (List ℕ)) (files new_files : FilesState)
    (old new : SinkState) : Type 0 where
  pub bytes : List ℕ
  pub lines : List LooseLine
  pub set : ℕ → Bool
  pub x : DriveImage
  pub loaded : FilesState
  pub holds : Holds files.contents file bytes
  pub same : loaded.contents ≡ files.contents
  pub text : IsLooseText bytes lines
  pub set_in : IsSetIn cut lines set
  pub left : IsLeftLoose cut lines set x
  pub saved : SavesLeft save x loaded new_files
  pub said : new.contents ≡ appended old.contents (output_of cut lines set)
