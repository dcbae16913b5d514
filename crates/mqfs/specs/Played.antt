-- What `mqfs gen` comes to where the workload was played.
use Rattle.std.specs.Prelude.{◌≡◌, ℕ, List, Option}
use Rattle.mq_command_run.specs.Generates.{IsPlayOf, SavesUnder, generated_line}
use Rattle.mq_command_run.specs.declared.workload.Workload.{Workload}
use Rattle.mq_command_run.specs.declared.generated.Generated.{Generated}
use Rattle.mq_outside.specs.Outside.{FilesState, SinkState, appended}

-- The workload was played on an empty file system, and this was left. Where a name was given, it holds the
-- file of the image now, and no other name changed; else none did. The line was said that gives how many
-- numbers were drawn, and how much the tree has.
pub record IsPlayed (w : Workload) (save : Option (List ℕ)) (files new_files : FilesState)
    (old new : SinkState) : Type 0 where
  pub made : Generated
  pub play : IsPlayOf w save made
  pub saved : SavesUnder save made.file.items files new_files
  pub said : new.contents ≡ appended old.contents (generated_line w made)
