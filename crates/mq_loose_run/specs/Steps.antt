-- What one line makes of the queues.
use Rattle.std.specs.Prelude.{◌≡◌, ◌<◌, ℕ, suc, List, [], length, None, Result, Ok, Err}
use Rattle.mq_blocks.specs.Drive.{FuseName}
use Rattle.mq_blocks.specs.Machine.{Writes}
use Rattle.mq_ledger.specs.State.{State}
use Rattle.mq_loose_queues.specs.Commits.{Commits}
use Rattle.mq_loose_queues.specs.Drains.{IsDrainOf}
use Rattle.mq_loose_queues.specs.Queues.{QueuesState, at_queue}
use Rattle.mq_loose_queues.specs.declared.refusal.LooseRefusal.TheVariants as refusal
use Rattle.mq_loose_text.specs.Meaning.{line_at}
use Rattle.mq_loose_text.specs.Text.{IsGoodText}
use Rattle.mq_loose_text.specs.declared.line.LooseLine.{LooseLine}
use Rattle.mq_queue_side.specs.declared.answers.Cause.TheVariants as cause
use Rattle.mq_loose_run.specs.Lines.{HasStopped, IsRunning, queues_state}
use Rattle.mq_loose_run.specs.declared.running.Running.{Running}
use Rattle.mq_loose_run.specs.declared.running.Stop.{Stop}
use Rattle.mq_loose_run.specs.declared.running.Stop.TheVariants.{Off, OutOfMemory}

-- the next of the lines of a good text
pub record IsNext (lines : List LooseLine) (n : ℕ) (l : LooseLine) : Type 0 where
  pub good : IsGoodText lines
  pub inside : n < length lines
  pub is : line_at lines n ≡ l

-- the line is the next that may be run
abbrev pub MayRun : LooseLine → Running → Type 0
MayRun l r =
    (fuse : FuseName) × (start : State) × (lines : List LooseLine) × (n : ℕ) × IsNext lines n l
    × IsRunning fuse start lines n r

abbrev pub RunsTo : {A : Type 0} → FuseName → State → List LooseLine → ℕ → Result A Stop → Running → Type 0
RunsTo fuse start lines n (Ok _) new = IsRunning fuse start lines (suc n) new
RunsTo fuse start lines n (Err Off) new = HasStopped fuse start lines n (queues_state new.queues)
RunsTo fuse start lines n (Err OutOfMemory) new = Unit {0}

-- whatever lines were run, this one is run behind them
abbrev pub Runs : {A : Type 0} → LooseLine → Running → Result A Stop → Running → Type 0
Runs l old result new =
    (fuse : FuseName) (start : State) (lines : List LooseLine) (n : ℕ) → IsNext lines n l
    → IsRunning fuse start lines n old → RunsTo fuse start lines n result new

-- ---- the calls on the queues

-- a commit that is refused for memory alone
abbrev pub CommitsTo : {A : Type 0} → QueuesState → ℕ → Writes → List ℕ → Result A Stop → QueuesState → Type 0
CommitsTo old q ws frees (Ok _) new = (n : ℕ) × Commits old q ws frees (Ok n) new
CommitsTo old q ws frees (Err Off) new = (tx : ℕ) × Commits old q ws frees (Err (refusal.Off tx)) new
CommitsTo old q ws frees (Err OutOfMemory) new = Unit {0}

-- a drain that fails for its power alone
abbrev pub DrainsTo : {A : Type 0} → QueuesState → ℕ → Result A Stop → QueuesState → Type 0
DrainsTo old q (Ok _) new = (n : ℕ) × IsDrainOf old q (Ok n) new
DrainsTo old q (Err Off) new = IsDrainOf old q (Err cause.Off) new
DrainsTo old q (Err OutOfMemory) new = ⊥

-- no command of the queue has failed or is to fail
pub record IsQuiet (v : QueuesState) (q : ℕ) : Type 0 where
  pub kept : (at_queue v q).side.kept ≡ None
  pub failed : (at_queue v q).side.port.failed ≡ []
  pub fail : (at_queue v q).side.port.fail ≡ None
