-- How often the ports of a run rang, and how many events happened on them.
use Rattle.std.specs.Prelude.{◌≡◌, ◌⊎◌, ◌<◌, ◌≤◌, ◌+◌, ◌-◌, ◌^◌, ℕ, List, length, map, reverse}
use Rattle.mq_blocks.specs.Drive.{PortState, counted}
use Rattle.mq_drive.specs.Steps.{PortFault}
use Rattle.mq_drive.specs.declared.port.Port.{Ghosts}
use Rattle.mq_journal.specs.Numbers.{Seat, Start}
use Rattle.mq_journal.specs.Values.{rung_of}
use Rattle.mq_ledger.specs.History.{of_queue}
use Rattle.mq_ledger.specs.State.{port_at}
use Rattle.mq_ledger.specs.declared.tx.Tx.{Tx}
use Rattle.mq_recover.specs.Drives.{faults_of}
use Rattle.mq_desk_laws.specs.Groups.{GroupView}
use Rattle.mq_desk_laws.specs.Rule.{numbered}
use Rattle.mq_queue_side.specs.Counts.{most_events}
use Rattle.mq_tie.specs.Backed.{faults_at}
use Rattle.mq_tie.specs.Closed.{HasRun}
use Rattle.mq_tie.specs.Ports.{opened_states}
use Rattle.mq_tie.specs.Runs.{history_of, ports_of}
use Rattle.mq_tie.specs.declared.ended.Ended.{Ended}

-- the transactions of a queue in a history, newest first
abbrev pub txs_in : {E : Type 0} → GroupView E → ℕ → List (ℕ × E) → List Tx
txs_in group q history = of_queue q (map (λ h. numbered h.0 (group.tx h.1)) (reverse history))

-- The port of a queue rang once for each of these transactions of the queue, newest first, that was sent.
-- Home writes aside, at most 2n + 4 events happened on it for each one of n entries, and one for each of
-- its faults, unless these are as many as a count of 64 bits can say.
pub record RangOnceEach (txs : List Tx) (faults : List PortFault) (old new : PortState) : Type 0 where
  pub rings : new.rings ≡ counted old.rings (rung_of old.doorbell txs new.doorbell)
  pub events : (2 ^ 64 - 1 ≤ length faults) ⊎ (new.events ≤ old.events + most_events txs + length faults)

module _ {P E : Type 0} (G : Ghosts P) (state : P → PortState) (faults : P → List PortFault)
    (group : GroupView E) where
  -- so did the port of each queue, between the opening of a desk and its end
  abbrev pub CommitsRingOnce : Type 0
  CommitsRingOnce =
      (o : Start P E G) (views : List (Seat P E G)) (r : Ended P E G) (q : ℕ)
      → HasRun state faults group o views r
      → q < length o.sides
      → RangOnceEach (txs_in group q (history_of r))
      (faults_at (faults_of faults (ports_of r) r.root.port) q)
      (port_at (opened_states G state faults group o) q) (port_at (map state (ports_of r)) q)
