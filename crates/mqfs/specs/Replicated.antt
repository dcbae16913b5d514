-- What `mqfs replicate` comes to where the lines were fed to a replica.
use Rattle.std.specs.Prelude.{◌≡◌, ℕ, List, Option}
use Rattle.mq_block_text.specs.declared.item.BlockItem.{BlockItem}
use Rattle.mq_command_blocks.specs.Blocks.{IsBlockText}
use Rattle.mq_command_blocks.specs.Left.{SavesLeft}
use Rattle.mq_command_replicate.specs.Replicas.{IsReplicaOf, output_of}
use Rattle.mq_image.specs.File.{DriveImage}
use Rattle.mq_outside.specs.Outside.{FilesState, Holds, SinkState, appended}

-- The file held a block text. What was said is the number of its lines, and the blocks of the block machine's
-- map after all of them. Where a name is given, it holds the image of a replica of the lines now, and no other
-- name changed; else none did.
pub record IsReplicated (file : List ℕ) (save : Option (List ℕ)) (files new_files : FilesState)
    (old new : SinkState) : Type 0 where
  pub bytes : List ℕ
  pub lines : List (List BlockItem)
  pub x : DriveImage
  pub loaded : FilesState
  pub holds : Holds files.contents file bytes
  pub same : loaded.contents ≡ files.contents
  pub text : IsBlockText bytes lines
  pub replica : IsReplicaOf lines x
  pub saved : SavesLeft save x loaded new_files
  pub said : new.contents ≡ appended old.contents (output_of lines)
