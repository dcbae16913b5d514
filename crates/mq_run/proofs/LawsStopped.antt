-- Where the drive refused the checkpoint at the end of a run, a port has gained a fault for it.
use Rattle.std.proofs.Common.{◌≡◌, Bool, List, ◌∷◌, ◌++◌, map, Some, refl, sym, ap, subst, ◌∙◌, inl, inr, arith}
use Rattle.std.specs.Prelude.{Err}
use Rattle.std.specs.List.{Contains}
use Rattle.std.proofs.lemmas.List.Elements.{Contains-append_right}
use Rattle.mq_blocks.specs.Drive.{PortState}
use Rattle.mq_blocks.specs.declared.geometry.Geometry.{Geometry}
use Rattle.mq_journal.specs.Raised.{HasRefused}
use Rattle.mq_journal.specs.declared.refusal.CheckpointRefusal.TheVariants.{Drive}
use Rattle.mq_drive.specs.Steps.{PortFault}
use Rattle.mq_drive.specs.declared.port.Port.{Ghosts}
use Rattle.mq_drive.specs.declared.port.Ports.{Ports}
use Rattle.mq_calls.specs.Group.{file_group}
use Rattle.mq_calls.specs.declared.entry.FileEntry.{FileEntry}
use Rattle.mq_journal.specs.Draining.{report_of}
use Rattle.mq_journal.specs.Numbers.{Seat, Start}
use Rattle.mq_recover.specs.Drives.{DriveFaults, faults_of, faults_on}
use Rattle.mq_recover.specs.declared.standing.Standing.{Standing}
use Rattle.mq_script.specs.Scripts.{Script}
use Rattle.mq_queue_side.specs.declared.answers.Cause.{Cause}
use Rattle.mq_tie.specs.Backed.{IsBehindAt, opened_faults}
use Rattle.mq_tie.specs.Runs.{ports_of}
use Rattle.mq_tie.specs.declared.ended.Ended.{Ended}
use Rattle.mq_tie.proofs.Backed as closed
use Rattle.mq_tie.proofs.Runs.{same-ports}
use Rattle.mq_turns.specs.Desk.{charged_of}
use Rattle.mq_turns.specs.declared.rule.Charge.{Charge}
use Rattle.mq_turns.specs.declared.turn.Turn.{Turn}
use Rattle.mq_run.specs.Ending.{Finishes, HasFinished}
use Rattle.mq_run.specs.Laws.{IsBehindStop}
use Rattle.mq_run.specs.Runs.{HasRunScripts}
use Rattle.mq_run.specs.declared.end.RunEnd.{RunEnd}
use Rattle.mq_run.proofs.RunsHelpers.{all-left}

module _ {P : Type 0} (G : Ghosts P) (state : P → PortState) (faults : P → List PortFault) (g : Geometry) (ports : Ports P) (s : Standing) (scripts : List Script) (finish : Bool) (e : RunEnd P) (why : Cause)
    (run : HasRunScripts G state faults g ports s scripts finish e) (is : e.finished ≡ Some (Err (Drive why))) where
  abbrev o : Start P FileEntry G
  o = run.opening

  abbrev end : Ended P FileEntry G
  end = run.ends.end

  fin : HasFinished state faults finish e.finished (map (λ t. t.view) run.tracks) run.ends.sessions
  fin = run.ends.finished

  answered : Finishes state faults (Some (Err (Drive why))) fin.others fin.first fin.last
  answered = subst (λ a. Finishes state faults a fin.others fin.first fin.last) is fin.finishes

  -- a port was named, and the report of it stands first
  record Names : Type 0 where
    port : Turn
    before : List Charge
    charged : fin.last.reading.charged ≡ record { port = port; report = report_of why } ∷ before

  names : (between : Seat P FileEntry G) → HasRefused state faults file_group (Drive why) between fin.last → Names
  names between (inl refused) = record { port = refused.port; before = between.reading.charged; charged = refused.moves.charged }
  names between (inr later) = let refused = later.1 in record { port = refused.port; before = between.reading.charged; charged = refused.moves.charged }

  named : Names
  named = names answered.0 answered.2

  abbrev charge : Charge
  charge = record { port = named.port; report = report_of why }

  reported : Contains (charged_of run.ends.left) charge
  unfolding fin
  reported =
      let first : Contains (charge ∷ named.before) charge = (0, omega arith, refl) in
      let last : Contains fin.last.reading.charged charge = subst (λ cs. Contains cs charge) (sym named.charged) first in
      subst (λ vs. Contains (charged_of vs) charge) (sym (all-left G state faults g ports s scripts finish e run)) (Contains-append_right (charged_of (fin.others ++ map (λ t. t.helper) run.tracks)) fin.last.reading.charged charge last)

  taken : opened_faults G state faults file_group o ≡ faults_on faults ports
  taken =
      let queues : map (λ q. faults q.pmr.port) o.sides ≡ map faults ports.queues.items = same-ports faults o.sides ∙ ap (map faults) run.opened.queues in
      λ i. record { queues = queues i; root = faults (run.opened.root i) }

  given : faults_of faults (ports_of end) end.root.port ≡ faults_on faults e.ports
  given = λ i. faults_of faults (sym run.ends.leaves.queues i) (sym run.ends.leaves.root i)

  -- it was reported of a port at the end of the run
  pub stop-reported : (t : Turn) × Contains (charged_of run.ends.left) (record { port = t; report = report_of why })
  stop-reported = (named.port, reported)

  pub stop-backed : IsBehindStop g why (faults_on faults ports) (faults_on faults e.ports)
  stop-backed = record {
    port = named.port;
    behind =
        subst (λ (z : Geometry × DriveFaults × DriveFaults). IsBehindAt z.0 named.port (report_of why) z.1 z.2) (λ i. (run.opened.shape i, taken i, given i))
        (closed.reports-backed state faults file_group o run.ends.left end charge run.ends.run reported);
  }
