-- Where the drive refused the checkpoint at the end of a run, a port has gained a fault for it.
use Rattle.std.proofs.Common.{◌≡◌, ℕ, Bool, true, false, List, [], ◌∷◌, map, Option, Some, refl, sym, ap, subst, ◌∙◌, inl, inr, arith}
use Rattle.std.specs.List.{Contains}
use Rattle.std.specs.Prelude.{Err, Result}
use Rattle.mq_blocks.specs.Drive.{PortState}
use Rattle.mq_blocks.specs.declared.geometry.Geometry.{Geometry}
use Rattle.mq_journal.specs.Raised.{HasRefused}
use Rattle.mq_journal.specs.declared.refusal.CheckpointRefusal.{CheckpointRefusal}
use Rattle.mq_journal.specs.declared.refusal.CheckpointRefusal.TheVariants as checkpoint
use Rattle.mq_drive.specs.Steps.{PortFault}
use Rattle.mq_drive.specs.declared.port.Port.{Ghosts}
use Rattle.mq_drive.specs.declared.port.Ports.{Ports}
use Rattle.mq_journal.specs.Draining.{report_of}
use Rattle.mq_journal.specs.Numbers.{Seat, Start}
use Rattle.mq_kv_buckets.specs.declared.operation.KvOp.{KvOp}
use Rattle.mq_kv_entries.specs.Group.{store_group}
use Rattle.mq_kv_entries.specs.declared.entry.KvEntry.{KvEntry}
use Rattle.mq_kv_run.specs.Played.{EndsBy, HasRunStore}
use Rattle.mq_kv_run.specs.declared.storing.StoreEnd.{StoreEnd}
use Rattle.mq_queue_side.specs.declared.answers.Cause.{Cause}
use Rattle.mq_recover.specs.Drives.{DriveFaults, faults_of, faults_on}
use Rattle.mq_recover.specs.declared.standing.Standing.{Standing}
use Rattle.mq_tie.specs.Backed.{IsBehindAt, opened_faults}
use Rattle.mq_tie.specs.Runs.{ports_of}
use Rattle.mq_tie.specs.declared.ended.Ended.{Ended}
use Rattle.mq_tie.proofs.Backed as closed
use Rattle.mq_tie.proofs.Runs.{same-ports}
use Rattle.mq_turns.specs.Desk.{charged_of}
use Rattle.mq_turns.specs.declared.rule.Charge.{Charge}
use Rattle.mq_turns.specs.declared.turn.Turn.{Turn}

module _ {P : Type 0} (G : Ghosts P) (state : P → PortState) (faults : P → List PortFault) where
  -- what this port has gained is behind the report of the checkpoint's refusal
  abbrev pub StopsAreBehind : Type 0
  StopsAreBehind =
      (g : Geometry) (ports : Ports P) (s : Standing) (groups : List (List KvOp)) (finish : Bool) (e : StoreEnd P) (why : Cause)
      → HasRunStore G state faults g ports s groups finish e
      → e.finished ≡ Some (Err (checkpoint.Drive why))
      → (port : Turn) × IsBehindAt g port (report_of why) (faults_on faults ports) (faults_on faults e.ports)

module _ {P : Type 0} (G : Ghosts P) (state : P → PortState) (faults : P → List PortFault) (g : Geometry) (ports : Ports P) (s : Standing) (groups : List (List KvOp)) (finish : Bool) (e : StoreEnd P) (why : Cause)
    (run : HasRunStore G state faults g ports s groups finish e) (is : e.finished ≡ Some (Err (checkpoint.Drive why))) where
  abbrev o : Start P KvEntry G
  o = run.opening

  abbrev end : Ended P KvEntry G
  end = run.run.left

  was-refused : (asked : Bool) (old new : Seat P KvEntry G) → EndsBy state faults asked (Some (Err (checkpoint.Drive why))) old new → HasRefused state faults store_group (checkpoint.Drive why) old new
  was-refused false old new ended = absurd ended
  was-refused true old new ended = ended

  refusal : HasRefused state faults store_group (checkpoint.Drive why) run.run.between run.run.last
  refusal = was-refused finish run.run.between run.run.last (subst (λ (a : Option (Result ℕ CheckpointRefusal)). EndsBy state faults finish a run.run.between run.run.last) is run.run.ended)

  -- a port was named, and the report of it stands first
  record Names : Type 0 where
    port : Turn
    before : List Charge
    charged : run.run.last.reading.charged ≡ record { port = port; report = report_of why } ∷ before

  names : HasRefused state faults store_group (checkpoint.Drive why) run.run.between run.run.last → Names
  names (inl refused) = record { port = refused.port; before = run.run.between.reading.charged; charged = refused.moves.charged }
  names (inr later) = let refused = later.1 in record { port = refused.port; before = run.run.between.reading.charged; charged = refused.moves.charged }

  named : Names
  named = names refusal

  abbrev charge : Charge
  charge = record { port = named.port; report = report_of why }

  reported : Contains (charged_of (run.run.last ∷ [])) charge
  reported =
      let first : Contains (charge ∷ named.before) charge = (0, omega arith, refl) in
      subst (λ cs. Contains cs charge) (sym named.charged) first

  taken : opened_faults G state faults store_group o ≡ faults_on faults ports
  taken =
      let queues : map (λ q. faults q.pmr.port) o.sides ≡ map faults ports.queues.items = same-ports faults o.sides ∙ ap (map faults) run.opened.queues in
      λ i. record { queues = queues i; root = faults (run.opened.root i) }

  given : faults_of faults (ports_of end) end.root.port ≡ faults_on faults e.ports
  given = λ i. faults_of faults (sym run.run.queues i) (sym run.run.root i)

  pub stop-behind : (port : Turn) × IsBehindAt g port (report_of why) (faults_on faults ports) (faults_on faults e.ports)
  stop-behind = (
    named.port,
    subst (λ (z : Geometry × DriveFaults × DriveFaults). IsBehindAt z.0 named.port (report_of why) z.1 z.2) (λ i. (run.opened.shape i, taken i, given i))
        (closed.reports-backed state faults store_group o (run.run.last ∷ []) end charge run.run.closed reported),
  )
