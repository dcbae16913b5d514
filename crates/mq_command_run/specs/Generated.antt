-- What a run of the generated workload on an empty file system leaves.
use Rattle.std.specs.Prelude.{◌≡◌, ◌<◌, ◌≤◌, ◌+◌, ℕ, Bool, true, List, length, None, Result, Ok, Err}
use Rattle.std.specs.List.{All, Contains}
use Rattle.mq_blocks.specs.Descriptor.{Descriptor}
use Rattle.mq_blocks.specs.Geometry.{area_of, meta_of, queues_of, zone_size}
use Rattle.mq_blocks.specs.declared.geometry.Geometry.{Geometry}
use Rattle.mq_queue_side.specs.declared.answers.CallCause.TheVariants.{OutOfMemory}
use Rattle.mq_queue_side.specs.declared.answers.Refusal.{Refusal}
use Rattle.mq_image.specs.Drives.{IsDrive}
use Rattle.mq_image.specs.File.{DriveImage, image_bytes}
use Rattle.mq_run_laws.specs.Runs.{IsRunOf}
use Rattle.mq_run_laws.specs.declared.options.Ending.TheVariants.{Sessions}
use Rattle.mq_run_laws.specs.declared.options.RunOptions.{RunOptions}
use Rattle.mq_run_laws.specs.declared.ran.ImageRun.{ImageRun}
use Rattle.mq_image_ops.specs.Empty.{IsEmptyDrive}
use Rattle.mq_image_ops.specs.Views.{view_of}
use Rattle.mq_run_laws.specs.Answers.{IsLineOf, is_good}
use Rattle.mq_run_laws.specs.Cuts.{HasEntries, ShowsVolume}
use Rattle.mq_run_laws.specs.Groups.{IsGroup, group_at, groups_of}
use Rattle.mq_run_laws.specs.Legal.{IsLegal, newest, volume_at}
use Rattle.mq_recover.specs.Recovery.{IsReadPrefix}
use Rattle.mq_report.specs.Lines.{Line}
use Rattle.mq_report.specs.declared.line.Told.{Told}
use Rattle.mq_script.specs.Scripts.{Script}
use Rattle.mq_script.specs.Workloads.{workload_of}
use Rattle.mq_script.specs.declared.group.End.TheVariants.{Fsync}
use Rattle.mq_tree.specs.Counts.{counts_in}
use Rattle.mq_tree.specs.Empty.{empty_volume}
use Rattle.mq_tree.specs.Volume.{Volume}
use Rattle.mq_command_run.specs.declared.generated.Generated.{Generated}

-- ---- the drive

-- a queue for each thread, journal areas of 1,024 blocks, 18 blocks of metadata more than threads, and
-- zones of 256
pub record IsShape (threads : ℕ) (g : Geometry) : Type 0 where
  pub queues : queues_of g ≡ threads
  pub area : area_of g ≡ 1024
  pub meta : meta_of g ≡ threads + 18
  pub zone : zone_size g ≡ 256

-- ---- the history

-- From the empty file system on, the lines are a legal list of commits and reads of the groups of the
-- scripts, and each group has its line.
pub record IsHistory (g : Geometry) (scripts : List Script) (lines : List Line) : Type 0 where
  pub legal : IsLegal g scripts (empty_volume g) 0 lines
  pub whole : (session group : ℕ) → IsGroup scripts session group
      → (l : Line) × Contains lines l × IsLineOf l session group

-- the volume after all lines
abbrev pub last_volume : Geometry → List Script → List Line → Volume
last_volume g scripts lines = volume_at g scripts (empty_volume g) lines (newest 0 lines)

-- ---- the drive after it

-- The image is readable, reaches the last number, and stands for the volume there. The doorbell of each
-- queue is the sum, over all its commits, of the blocks that they write and of those of their descriptors.
pub record HoldsAll (g : Geometry) (scripts : List Script) (lines : List Line)
    (x : DriveImage) : Type 0 where
  pub geometry_is : x.geometry ≡ g
  pub drive : IsDrive x
  pub ds : List Descriptor
  pub top : ℕ
  pub read : IsReadPrefix g (view_of x) ds top
  pub reaches : newest 0 lines ≡ (view_of x).base + length ds
  pub stand : ShowsVolume g (view_of x) ds (last_volume g scripts lines)
  pub rung : (q : ℕ) → q < queues_of g
      → HasEntries g scripts q (empty_volume g) lines ((view_of x).doorbell q)

-- ---- the whole

-- The workload of this seed was played on an empty file system: what was counted is in the tree after the
-- last number, which gives how many were drawn, and the file, where it is to be kept, is that of an image
-- that holds all of it.
pub record IsGenerated (seed threads groups : ℕ) (keeps : Bool) (made : Generated) : Type 0 where
  pub geometry : Geometry
  pub shape : IsShape threads geometry
  pub lines : List Line
  pub history : IsHistory geometry (workload_of seed threads groups) lines
  pub image : DriveImage
  pub left : HoldsAll geometry (workload_of seed threads groups) lines image
  pub file : keeps ≡ true → made.file.items ≡ image_bytes image
  pub commits : made.commits ≡ newest 0 lines
  pub counts : made.counts ≡ counts_in (last_volume geometry (workload_of seed threads groups) lines)

-- ---- on the way there

-- a run that ends with its sessions, and on which no command fails
abbrev pub sessions_alone : RunOptions
sessions_alone = record { ending = Sessions; pick = 0; fail = None }

-- what the answer refuses is refused since memory ran out
abbrev pub IsForMemory : Result ℕ Refusal → Type 0
IsForMemory (Ok number) = Unit {0}
IsForMemory (Err r) = r.cause ≡ OutOfMemory

-- memory ran out for the group
abbrev pub IsWanting : Result ℕ Refusal → Type 0
IsWanting answer = (r : Refusal) × (answer ≡ Err r) × (r.cause ≡ OutOfMemory)

-- all that these answers refuse is refused since memory ran out
abbrev pub AreForMemory : List Told → Type 0
AreForMemory answers = (t : Told) → Contains answers t → IsForMemory t.answer

-- each group that was answered was answered well
abbrev pub AreGood : List Told → Type 0
AreGood answers = All (λ t. is_good t.answer ≡ true) answers

-- the last group of each script ends with `fsync`
abbrev pub EndDurable : List Script → Type 0
EndDurable scripts =
    (session group : ℕ) → group + 1 ≡ length (groups_of scripts session)
    → (group_at scripts session group).end ≡ Fsync

-- this is a run of the scripts on an empty file system
pub record IsPlayed (g : Geometry) (scripts : List Script) (r : ImageRun) : Type 0 where
  pub start : DriveImage
  pub empty : IsEmptyDrive g start
  pub run : IsRunOf start scripts sessions_alone r

-- and each group was answered well
pub record IsWholeRun (g : Geometry) (scripts : List Script) (r : ImageRun) : Type 0 where
  pub played : IsPlayed g scripts r
  pub good : AreGood r.answers.items

-- Where a group of a workload is refused, memory ran out for it.
abbrev pub WorkloadsAreRefusedForMemory : Type 0
WorkloadsAreRefusedForMemory =
    (seed threads groups : ℕ) (g : Geometry) (r : ImageRun)
    → threads ≤ 16
    → IsShape threads g
    → IsPlayed g (workload_of seed threads groups) r
    → AreForMemory r.answers.items
