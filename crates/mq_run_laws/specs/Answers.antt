-- What the groups of the scripts were answered, as far as scripts and history say.
use Rattle.std.specs.Prelude.{◌≡◌, ◌≢◌, ◌<◌, ◌≤◌, ◌+◌, ℕ, Bool, true, false, List, length, Option, Some, None, Result, Ok, Err}
use Rattle.std.specs.List.{AllPairs, Contains}
use Rattle.mq_blocks.specs.Geometry.{homes_of, queues_of, write_limit}
use Rattle.mq_blocks.specs.declared.geometry.Geometry.{Geometry}
use Rattle.mq_calls.specs.Asking.{IsFirstChange, refusal_at}
use Rattle.mq_queue_side.specs.declared.answers.CallCause.{CallCause}
use Rattle.mq_queue_side.specs.declared.answers.CallCause.TheVariants.{Changes, Drive, OutOfMemory, TooLarge}
use Rattle.mq_queue_side.specs.declared.answers.Refusal.{Refusal}
use Rattle.mq_run_laws.specs.Groups.{IsGroup, group_at, groups_of}
use Rattle.mq_run_laws.specs.Legal.{Writes, newest, volume_at}
use Rattle.mq_report.specs.Lines.{Line}
use Rattle.mq_report.specs.Sessions.{ends_session}
use Rattle.mq_report.specs.declared.line.Told.{Told}
use Rattle.mq_script.specs.Scripts.{Group, Script}
use Rattle.mq_script.specs.declared.group.End.{End}
use Rattle.mq_script.specs.declared.group.End.TheVariants.{Ask, Fsync}
use Rattle.mq_queue_side.specs.declared.answers.Cause.{Cause}
use Rattle.mq_queue_side.specs.declared.answers.Cause.TheVariants.{Failed, FailedHome, Off, Stopped}
use Rattle.mq_queue_side.specs.declared.answers.Why.{Why}
use Rattle.mq_queue_side.specs.declared.answers.Why.TheVariants.{Status}
use Rattle.mq_tree.specs.Requests.{after_group}
use Rattle.mq_tree.specs.Volume.{Volume}

-- the answer of this group
abbrev pub IsOf : Told → (session group : ℕ) → Type 0
IsOf t s k = (t.session ≡ s) × (t.group ≡ k)

-- the line of this group
abbrev pub IsLineOf : Line → (session group : ℕ) → Type 0
IsLineOf l s k = (l.session ≡ s) × (l.group ≡ k)

-- the group that was answered
abbrev pub group_told : List Script → Told → Group
group_told scripts t = group_at scripts t.session t.group

-- ---- which groups are answered

-- The groups of a session that are answered are the first ones of its script: all of them, unless the last
-- answer ends the session. No other answer does.
pub record IsPrefixAnswered (scripts : List Script) (answers : List Told) (s : ℕ) : Type 0 where
  pub count : ℕ
  pub most : count ≤ length (groups_of scripts s)
  pub each : (k : ℕ) → k < count → (t : Told) × Contains answers t × IsOf t s k
  pub only : (t : Told) → Contains answers t → t.session ≡ s → t.group < count
  pub last : (t : Told) → Contains answers t → t.session ≡ s → ends_session t.answer ≡ true
      → t.group + 1 ≡ count
  pub stopped : count < length (groups_of scripts s)
      → (t : Told) × Contains answers t × (t.session ≡ s) × (t.group + 1 ≡ count)
      × (ends_session t.answer ≡ true)

-- ---- answers and lines

abbrev pub is_good : Result ℕ Refusal → Bool
is_good (Ok n) = true
is_good (Err r) = false

-- the number of the group's line: that of a good answer, or the one that a refused group had drawn
abbrev pub number_in : Result ℕ Refusal → Option ℕ
number_in (Ok n) = Some n
number_in (Err r) = r.drawn

-- The line of the group has the number that the answer names, and is a commit where the answer is a
-- refusal. Where the answer names none, the group has no line.
abbrev pub Names : List Line → Told → Option ℕ → Type 0
Names lines t None = (l : Line) → Contains lines l → IsLineOf l t.session t.group → ⊥
Names lines t (Some n) =
    (l : Line) × Contains lines l × IsLineOf l t.session t.group × (l.number ≡ n)
    × (is_good t.answer ≡ false → l.commit ≡ true)

-- Of each script the groups of a prefix are answered, each once. Each answer names the line of its group,
-- and each line is that of an answered group.
pub record AreAnswered (scripts : List Script) (lines : List Line) (answers : List Told) : Type 0 where
  pub of : (t : Told) → Contains answers t → IsGroup scripts t.session t.group
  pub ends : (t : Told) → Contains answers t → t.end ≡ (group_told scripts t).end
  pub prefixes : (s : ℕ) → s < length scripts → IsPrefixAnswered scripts answers s
  pub once : AllPairs (λ t u. t.session ≡ u.session → t.group ≢ u.group) answers
  pub names : (t : Told) → Contains answers t → Names lines t (number_in t.answer)
  pub told : (l : Line) → Contains lines l → (t : Told) × Contains answers t × IsOf t l.session l.group

-- `fsync` answered a group with this number
abbrev pub IsAcknowledged : List Script → List Told → ℕ → Type 0
IsAcknowledged scripts answers n =
    (t : Told) × Contains answers t × (t.answer ≡ Ok n) × ((group_told scripts t).end ≡ Fsync)

-- ---- why

-- the numbers of the session's lines before the group are at most n
abbrev pub HasSeen : List Line → (session group n : ℕ) → Type 0
HasSeen lines s k n = (l : Line) → Contains lines l → l.session ≡ s → l.group < k → l.number ≤ n

-- The group writes `count` blocks, more than a transaction may, on the volume at a number that its session
-- had not passed.
pub record IsLarge (g : Geometry) (scripts : List Script) (v : Volume) (base : ℕ) (lines : List Line)
    (t : Told) (count : ℕ) : Type 0 where
  pub at : ℕ
  pub least : base ≤ at
  pub seen : HasSeen lines t.session t.group at
  pub most : at ≤ newest base lines
  pub writes : Writes g (volume_at g scripts v lines at)
      (after_group g t.session (volume_at g scripts v lines at) (group_told scripts t).requests) count
  pub many : write_limit g < count

-- the group asks, and this is its first request that may change something
pub record IsChanging (scripts : List Script) (t : Told) (index : ℕ) : Type 0 where
  pub asks : (group_told scripts t).end ≡ Ask
  pub first : IsFirstChange (group_told scripts t).requests index

-- a commit among the lines has this number
abbrev pub HasCommit : List Line → ℕ → Type 0
HasCommit lines n = (l : Line) × Contains lines l × (l.commit ≡ true) × (l.number ≡ n)

-- A commit among the lines has this number, is of a queue of the drive, and was not reached: it is above
-- `reached`, the number that the image at the end reaches.
pub record IsUndone (g : Geometry) (lines : List Line) (reached n : ℕ) : Type 0 where
  pub line : Line
  pub told : Contains lines line
  pub commit : line.commit ≡ true
  pub number : line.number ≡ n
  pub queue : line.session < queues_of g
  pub above : reached < n

-- a command that fails ends with this status
abbrev pub IsFailure : ℕ → Type 0
IsFailure status = status ≡ 640

-- so where a queue was stopped by one
abbrev pub HasFailure : Why → Type 0
HasFailure (Status status) = IsFailure status
HasFailure why = Unit {0}

-- what a port's cause says of the history: a transaction that failed, or that stopped its queue, is undone
abbrev pub IsPortCause : Geometry → List Line → (reached : ℕ) → Cause → Type 0
IsPortCause g lines reached (Failed tx status) = IsUndone g lines reached tx
IsPortCause g lines reached (Stopped tx why) = IsUndone g lines reached tx
IsPortCause g lines reached cause = Unit {0}

-- What a port's cause says of the write that failed, if it tells of one: it ended with the status of one that
-- fails; and a home write is of a home block, so of the port of a queue or of the root.
abbrev pub IsErrorOf : Geometry → Cause → Type 0
IsErrorOf g (Failed tx status) = IsFailure status
IsErrorOf g (FailedHome block status) = (block < homes_of g) × IsFailure status
IsErrorOf g (Stopped tx why) = HasFailure why
IsErrorOf g cause = Unit {0}

-- what a cause says of the scripts and of the history
abbrev pub IsCause : Geometry → List Script → Volume → (base : ℕ) → List Line → (reached : ℕ) → Told
    → CallCause → Type 0
IsCause g scripts v base lines reached t (TooLarge count limit) =
    IsLarge g scripts v base lines t count × (limit ≡ write_limit g)
IsCause g scripts v base lines reached t (Changes index) = IsChanging scripts t index
IsCause g scripts v base lines reached t (Drive cause) = IsPortCause g lines reached cause
IsCause g scripts v base lines reached t cause = Unit {0}

-- `ask` is refused because memory ran out, and for a request that may change something
abbrev pub MayRefuseAsk : CallCause → Type 0
MayRefuseAsk OutOfMemory = Unit {0}
MayRefuseAsk (Changes index) = Unit {0}
MayRefuseAsk cause = ⊥

-- A group that has drawn the number n is refused for a port that is off; or, by a drain of `fsync`, for a
-- transaction up to its own.
abbrev pub IsLatePort : End → (n : ℕ) → Cause → Type 0
IsLatePort end n Off = Unit {0}
IsLatePort end n (Failed tx status) = (end ≡ Fsync) × (tx ≤ n)
IsLatePort end n (FailedHome block status) = ⊥
IsLatePort end n (Stopped tx why) = (end ≡ Fsync) × (tx ≤ n)

abbrev pub IsLate : End → (n : ℕ) → CallCause → Type 0
IsLate end n (Drive cause) = IsLatePort end n cause
IsLate end n cause = ⊥

-- A refusal has its cause, which is one of those that the group's end has; and it names a drawn number only
-- where it may come after the draw.
pub record IsRefusedFor (g : Geometry) (scripts : List Script) (v : Volume) (base : ℕ)
    (lines : List Line) (reached : ℕ) (t : Told) (r : Refusal) : Type 0 where
  pub cause_is : IsCause g scripts v base lines reached t r.cause
  pub asks : (group_told scripts t).end ≡ Ask → MayRefuseAsk r.cause
  pub late : (n : ℕ) → r.drawn ≡ Some n → IsLate (group_told scripts t).end n r.cause

-- A group is refused for a cause that holds; and a group that asks is refused for a request that may change
-- something wherever it has one.
pub record IsCaused (g : Geometry) (scripts : List Script) (v : Volume) (base : ℕ) (lines : List Line)
    (reached : ℕ) (t : Told) : Type 0 where
  pub refused : (r : Refusal) → t.answer ≡ Err r → IsRefusedFor g scripts v base lines reached t r
  pub changing : (index : ℕ) → IsChanging scripts t index → t.answer ≡ Err (refusal_at index)

-- So are all groups. The image at the end reaches the number `reached`.
abbrev pub AreCaused : Geometry → List Script → Volume → (base : ℕ) → List Line → (reached : ℕ)
    → List Told → Type 0
AreCaused g scripts v base lines reached answers =
    (t : Told) → Contains answers t → IsCaused g scripts v base lines reached t

-- Each refusal for a port's cause tells of such a write. The causes above say nothing of it.
abbrev pub TellErrors : Geometry → List Told → Type 0
TellErrors g answers =
    (t : Told) (r : Refusal) (cause : Cause)
    → Contains answers t
    → t.answer ≡ Err r
    → r.cause ≡ Drive cause
    → IsErrorOf g cause
