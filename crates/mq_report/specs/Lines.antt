-- What is reported of a group.
use Rattle.std.specs.Prelude.{ℕ, Bool, List, Option, Result, Ok, Err}
use Rattle.mq_queue_side.specs.declared.answers.CallCause.{CallCause}
use Rattle.mq_queue_side.specs.declared.answers.CallCause.TheVariants.{OutOfMemory, TooLarge, Changes as Changing, Drive}
use Rattle.mq_queue_side.specs.declared.answers.Refusal.{Refusal}
use Rattle.mq_queue_side.specs.declared.answers.Cause.{Cause}
use Rattle.mq_queue_side.specs.declared.answers.Cause.TheVariants.{Off as PowerOff, Failed as CommandFailed, FailedHome, Stopped as WasStopped}
use Rattle.mq_script.specs.declared.group.End.{End}
use Rattle.mq_tree.specs.declared.request.Reply.{Reply}
use Rattle.mq_report.specs.declared.line.Told.{Told}

-- A group that was carried out: as the commit of this number, or as a read on the volume at it.
pub record Line : Type 0 where
  pub number : ℕ
  pub commit : Bool
  pub session : ℕ
  pub group : ℕ
  pub end : End
  pub replies : List Reply

-- What is printed of an answer; `drawn` is the number that a refused group had drawn.
pub data Answer : Type 0 where
  Good : (number : ℕ) → Answer
  Large : (count : ℕ) → Answer
  Changes : (index : ℕ) → Answer
  Off : (drawn : Option ℕ) → Answer
  Failed : (tx status : ℕ) (drawn : Option ℕ) → Answer
  Home : (block status : ℕ) → Answer
  Stopped : (tx : ℕ) (drawn : Option ℕ) → Answer
  Memory : Answer

abbrev pub drive_answer : Cause → (drawn : Option ℕ) → Answer
drive_answer PowerOff drawn = Off drawn
drive_answer (CommandFailed tx status) drawn = Failed tx status drawn
drive_answer (FailedHome block status) drawn = Home block status
drive_answer (WasStopped tx why) drawn = Stopped tx drawn

abbrev pub call_answer : CallCause → (drawn : Option ℕ) → Answer
call_answer OutOfMemory drawn = Memory
call_answer (TooLarge count limit) drawn = Large count
call_answer (Changing index) drawn = Changes index
call_answer (Drive cause) drawn = drive_answer cause drawn

abbrev pub answer_of : Result ℕ Refusal → Answer
answer_of (Ok number) = Good number
answer_of (Err refusal) = call_answer refusal.cause refusal.drawn

-- What is printed of a group's answer: not how the group ends, the limit that it passed or why its queue
-- stopped.
pub record Printed : Type 0 where
  pub session : ℕ
  pub group : ℕ
  pub answer : Answer

abbrev pub as_printed : Told → Printed
as_printed t = record { session = t.session; group = t.group; answer = answer_of t.answer }
