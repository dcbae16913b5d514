-- What `gen` says where the workload was played.
use Rattle.std.proofs.Common.{◌≡◌, ℕ, List, Option, Some, None, Bool, subst}
use Rattle.std.specs.Prelude.{is_some, option_map}
use Rattle.mq_command_run.specs.Generates.{Generates, IsPlayOf, SavesUnder, generated, generated_line}
use Rattle.mq_command_run.specs.declared.workload.Workload.{Workload}
use Rattle.mq_command_io.specs.Ending.{EndsWith}
use Rattle.mq_command_run.specs.Generated.{IsGenerated}
use Rattle.mq_command_run.specs.declared.generated.Generated.{Generated}
use Rattle.mq_outside.specs.Outside.{FilesState, SinkState}

-- it is made where a name is given for it
pub played-for : {A : Type 0} (w : Workload) (name : A → List ℕ) (save : Option A) (keeps : Bool) (made : Generated) → keeps ≡ is_some save → IsGenerated w.seed w.threads w.groups keeps made → IsPlayOf w (option_map name save) made
played-for w name None keeps made is made_so = subst (λ (b : Bool). IsGenerated w.seed w.threads w.groups b made) is made_so
played-for w name (Some n) keeps made is made_so = subst (λ (b : Bool). IsGenerated w.seed w.threads w.groups b made) is made_so

-- the file is saved where a name is given, and then the line is said
pub played-ends : (w : Workload) (save : Option (List ℕ)) (made : Generated) (file line : List ℕ) (old new : FilesState) (before mid after : SinkState) (result : ℕ) → IsPlayOf w save made → file ≡ made.file.items → SavesUnder save file old new → mid ≡ before → line ≡ generated_line w made
    → EndsWith 0 line result mid after → (status : ℕ) × (text : List ℕ) × Generates w save old new status text × EndsWith status text result before after
played-ends w save made file line old new before mid after result is same saves silent said ends = (
  0,
  generated_line w made,
  generated made is (subst (λ (l : List ℕ). SavesUnder save l old new) same saves),
  subst (λ (l : List ℕ). EndsWith 0 l result before after) said (subst (λ (s : SinkState). EndsWith 0 line result s after) silent ends),
)
