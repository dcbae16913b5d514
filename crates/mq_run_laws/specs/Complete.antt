-- What a run comes to whose power stays on and of which no command is to fail, where memory runs out for no
-- group.
use Rattle.std.specs.Prelude.{◌≡◌, ◌≤◌, ℕ, List, None, Result, Ok, Err}
use Rattle.std.specs.List.{Contains}
use Rattle.mq_blocks.specs.declared.geometry.Geometry.{Geometry}
use Rattle.mq_queue_side.specs.declared.answers.CallCause.{CallCause}
use Rattle.mq_queue_side.specs.declared.answers.CallCause.TheVariants.{Changes, Drive, OutOfMemory, TooLarge}
use Rattle.mq_queue_side.specs.declared.answers.Refusal.{Refusal}
use Rattle.mq_run_laws.specs.Answers.{HasSeen, IsOf, group_told}
use Rattle.mq_run_laws.specs.Cuts.{IsClean}
use Rattle.mq_run_laws.specs.Groups.{IsGroup}
use Rattle.mq_run_laws.specs.Legal.{WritesFew, newest, volume_at}
use Rattle.mq_image.specs.File.{DriveImage}
use Rattle.mq_image_ops.specs.Views.{view_of}
use Rattle.mq_run_laws.specs.declared.ran.ImageRun.{ImageRun}
use Rattle.mq_report.specs.declared.line.Last.TheVariants.{Clean}
use Rattle.mq_report.specs.declared.line.Line.{Line}
use Rattle.mq_report.specs.declared.line.Told.{Told}
use Rattle.mq_script.specs.Scripts.{Script}
use Rattle.mq_script.specs.declared.group.End.TheVariants.{Fsync}
use Rattle.mq_tree.specs.Requests.{after_group}
use Rattle.mq_tree.specs.Volume.{Volume}

-- memory ran out for one of the groups
abbrev pub HaveWanted : List Told → Type 0
HaveWanted answers =
    (t : Told) × Contains answers t × (r : Refusal) × (t.answer ≡ Err r) × (r.cause ≡ OutOfMemory)

-- the group itself is the cause: it is too large, or a request of a group that asks may change something
abbrev pub IsOfGroup : CallCause → Type 0
IsOfGroup (TooLarge count limit) = Unit {0}
IsOfGroup (Changes index) = Unit {0}
IsOfGroup OutOfMemory = ⊥
IsOfGroup (Drive cause) = ⊥

-- The answer is `ok`, `large` or `changes`, and a refusal names no number.
abbrev pub IsSettled : Result ℕ Refusal → Type 0
IsSettled (Ok number) = Unit {0}
IsSettled (Err r) = IsOfGroup r.cause × (r.drawn ≡ None)

-- The group writes no more than a transaction may, on the volume at whichever number its session may have met:
-- from those of the session's lines before it on, up to the last.
abbrev pub WritesFewThere : Geometry → List Script → Volume → (base : ℕ) → List Line → Told → Type 0
WritesFewThere g scripts v base lines t =
    (at : ℕ)
    → base ≤ at
    → HasSeen lines t.session t.group at
    → at ≤ newest base lines
    → WritesFew g (volume_at g scripts v lines at)
    (after_group g t.session (volume_at g scripts v lines at) (group_told scripts t).requests)

-- Each group of the scripts is answered, by `ok`, `large` or `changes`. Each that ends with `fsync` and writes
-- no more than a transaction may is acknowledged. And the run ended clean, at the last number.
pub record IsComplete (x : DriveImage) (scripts : List Script) (v : Volume) (r : ImageRun) : Type 0 where
  pub groups : (s k : ℕ) → IsGroup scripts s k
      → (t : Told) × Contains r.answers.items t × IsOf t s k × IsSettled t.answer
  pub durable : (t : Told) → Contains r.answers.items t → (group_told scripts t).end ≡ Fsync
      → WritesFewThere x.geometry scripts v r.base r.entries.items t
      → (n : ℕ) × (t.answer ≡ Ok n)
  pub last : r.last ≡ Clean (newest r.base r.entries.items)
  pub clean : IsClean x.geometry (view_of r.image) (newest r.base r.entries.items)
