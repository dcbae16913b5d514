-- What `gen` makes of a workload and of a name, and what it says.
use Rattle.std.specs.Prelude.{◌≡◌, ℕ, List, ◌++◌, Option, Some, None, is_some, codes}
use Rattle.std.specs.Fmt.{decimal}
use Rattle.mq_command_run.specs.declared.workload.Workload.{Workload}
use Rattle.mq_command_io.specs.Ending.{IsNotSaved, IsSaved, memory_line}
use Rattle.mq_command_run.specs.Generated.{IsGenerated}
use Rattle.mq_command_run.specs.declared.generated.Generated.{Generated}
use Rattle.mq_outside.specs.Outside.{FilesState}

-- how many threads and groups the workload has, and how many numbers were drawn
abbrev pub generated_head : Workload → (commits : ℕ) → List ℕ
generated_head w commits =
    codes "threads "
    ++ (decimal w.threads
    ++ (codes " groups " ++ (decimal w.groups ++ (codes " commits " ++ decimal commits))))

-- the same, and how much the tree has after the last
abbrev pub generated_line : Workload → Generated → List ℕ
generated_line w made =
    generated_head w made.commits
    ++ (codes " dirs "
    ++ (decimal made.counts.directories
    ++ (codes " files "
    ++ (decimal made.counts.files
    ++ (codes " bytes " ++ (decimal made.counts.bytes ++ codes "\n"))))))

-- the workload was played on an empty file system, and this was left; its file is made where a name is
-- given for it
abbrev pub IsPlayOf : Workload → (save : Option (List ℕ)) → Generated → Type 0
IsPlayOf w save made = IsGenerated w.seed w.threads w.groups (is_some save) made

-- a file is saved under a name, where one is given; else nothing changes
abbrev pub SavesUnder : (save : Option (List ℕ)) → (file : List ℕ) → (old new : FilesState) → Type 0
SavesUnder None file old new = new ≡ old
SavesUnder (Some name) file old new = IsSaved name file old new

-- The workload was played, the image that the cut left is saved, where a name is given for it, and the line
-- gives how much the tree has. Or the image is not saved, and why is said; or memory ran out.
pub data Generates (w : Workload) (save : Option (List ℕ)) (old new : FilesState) : (status : ℕ)
    → (text : List ℕ) → Type 0 where
  generated : (made : Generated) → IsPlayOf w save made → SavesUnder save made.file.items old new
      → Generates w save old new 0 (generated_line w made)
  not_saved : {status : ℕ} {text : List ℕ} (name : List ℕ) (made : Generated) → save ≡ Some name
      → IsPlayOf w save made → IsNotSaved name old new status text
      → Generates w save old new status text
  wants_memory : new ≡ old → Generates w save old new 6 memory_line
