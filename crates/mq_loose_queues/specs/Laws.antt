-- What holds of the queues and of whatever a power cut leaves of their ports.
use Rattle.std.specs.Prelude.{◌≡◌, ◌⊎◌, ◌<◌, ◌≤◌, ◌^◌, ℕ, true, List, [], ◌∷◌}
use Rattle.mq_blocks.specs.Journal.{is_among}
use Rattle.mq_blocks.specs.declared.geometry.Geometry.{Geometry}
use Rattle.mq_ledger.specs.State.{State, port_at}
use Rattle.mq_ledger.specs.Written.{journal_entries}
use Rattle.mq_ledger.specs.declared.tx.Tx.{Tx}
use Rattle.mq_loose.specs.Guards.{settled}
use Rattle.mq_loose.specs.Safe.{Facts, IsSafe}
use Rattle.mq_loose_recover.specs.Standing.{HasLooselyRecovered}
use Rattle.mq_loose_recover.specs.declared.standing.LooseStanding.{LooseStanding}
use Rattle.mq_recover.specs.Drives.{DriveState}
use Rattle.mq_loose_queues.specs.Commits.{HeadsStay}
use Rattle.mq_loose_queues.specs.Journal.{IsJournal, state_over}
use Rattle.mq_loose_queues.specs.Opening.{MayOpen}
use Rattle.mq_loose_queues.specs.Queues.{QueuesState}

-- each of these numbers is settled
abbrev pub AreSettled : State → List Tx → QueuesState → List ℕ → Type 0
AreSettled s h v acknowledged =
    (n : ℕ) → is_among n acknowledged ≡ true → settled (state_over s h [] v) n ≡ true

-- The queues are in a state of the core: it has the facts that each event of the core keeps, and whatever a power
-- cut leaves has a closed set of transactions with all that was acknowledged, and stands for the map after these.
abbrev pub QueuesAreSafe : Type 0
QueuesAreSafe =
    (s : State) (h : List Tx) (v : QueuesState) (acknowledged : List ℕ) → IsJournal s h v
    → AreSettled s h v acknowledged
    → Facts journal_entries (state_over s h acknowledged v) × IsSafe journal_entries (state_over s h acknowledged v)

-- What is settled stays settled, whatever is drawn and drained then.
abbrev pub SettledStays : Type 0
SettledStays =
    (s : State) (h : List Tx) (v : QueuesState) (later : List Tx) (w : QueuesState) (n : ℕ) → IsJournal s h v
    → IsJournal s later w → (later ≡ h) ⊎ ((t : Tx) × (later ≡ t ∷ h)) → HeadsStay v w
    → settled (state_over s h [] v) n ≡ true → settled (state_over s later [] w) n ≡ true

-- Over the ports that a recovery leaves, with what it answers, the queues may be opened, where base and doorbells are
-- at most 2^62.
abbrev pub RecoveredMayOpen : Type 0
RecoveredMayOpen =
    (g : Geometry) (old new : DriveState) (standing : LooseStanding) → HasLooselyRecovered g old standing new
    → standing.base ≤ 2 ^ 62
    → ((q : ℕ) → q < g.queues → (port_at new.queues q).doorbell ≤ 2 ^ 62)
    → MayOpen g new standing
