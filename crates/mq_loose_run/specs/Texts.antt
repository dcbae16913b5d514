-- What the lines of a text make of the queues.
use Rattle.std.specs.Prelude.{◌⊎◌, ℕ, List, length, Result, Ok, Err}
use Rattle.mq_blocks.specs.Drive.{FuseName}
use Rattle.mq_ledger.specs.State.{State}
use Rattle.mq_loose_text.specs.Text.{IsGoodText}
use Rattle.mq_loose_text.specs.declared.line.LooseLine.{LooseLine}
use Rattle.mq_loose_run.specs.Lines.{HasRun, HasStopped, IsRunning, queues_state}
use Rattle.mq_loose_run.specs.declared.running.Running.{Running}
use Rattle.mq_loose_run.specs.declared.running.Stop.{Stop}
use Rattle.mq_loose_run.specs.declared.running.Stop.TheVariants.{Off, OutOfMemory}

-- the lines of a good text, of which none was run yet
abbrev pub MayRunAll : List LooseLine → Running → Type 0
MayRunAll lines r = IsGoodText lines × (fuse : FuseName) × (start : State) × IsRunning fuse start lines 0 r

abbrev pub RunsAllTo : {A : Type 0} → FuseName → State → List LooseLine → Result A Stop → Running → Type 0
RunsAllTo fuse start lines (Ok _) new = HasRun fuse start lines (length lines) (queues_state new.queues)
RunsAllTo fuse start lines (Err Off) new = (n : ℕ) × HasStopped fuse start lines n (queues_state new.queues)
RunsAllTo fuse start lines (Err OutOfMemory) new = Unit {0}

-- all lines are run, or the power goes off in one of them
abbrev pub RunsAll : {A : Type 0} → List LooseLine → Running → Result A Stop → Running → Type 0
RunsAll lines old result new =
    (fuse : FuseName) (start : State) → IsRunning fuse start lines 0 old → RunsAllTo fuse start lines result new

-- the same, where memory did not run out
abbrev pub IsOver : List LooseLine → Running → Running → Type 0
IsOver lines old new =
    (fuse : FuseName) (start : State) → IsRunning fuse start lines 0 old
    → HasRun fuse start lines (length lines) (queues_state new.queues)
    ⊎ ((n : ℕ) × HasStopped fuse start lines n (queues_state new.queues))
