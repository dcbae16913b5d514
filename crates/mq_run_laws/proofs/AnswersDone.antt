-- What `fsync` has answered is known to be done at the end of a run.
use Rattle.std.proofs.Common.{◌≡◌, ◌∙◌, ℕ, ◌≤◌, Bool, List, sym, ap, arith}
use Rattle.std.specs.Prelude.{Some}
use Rattle.std.specs.List.{All, Contains}
use Rattle.std.proofs.lemmas.List.{length-reverse}
use Rattle.std.proofs.lemmas.Option.{slice_get_within}
use Rattle.mq_blocks.specs.Drive.{PortState}
use Rattle.mq_blocks.specs.declared.geometry.Geometry.{Geometry}
use Rattle.mq_drive.specs.Steps.{PortFault}
use Rattle.mq_drive.specs.declared.port.Port.{Ghosts}
use Rattle.mq_drive.specs.declared.port.Ports.{Ports}
use Rattle.mq_calls.specs.Group.{file_group}
use Rattle.mq_calls.specs.declared.entry.FileEntry.{FileEntry}
use Rattle.mq_ledger.specs.KnownJournal.{front}
use Rattle.mq_journal.specs.Numbers.{Shared}
use Rattle.mq_journal.specs.Values.{side_values}
use Rattle.mq_run_laws.specs.Answers.{IsAcknowledged, number_in}
use Rattle.mq_recover.specs.declared.standing.Standing.{Standing}
use Rattle.mq_report.specs.declared.line.Line.{Line}
use Rattle.mq_desk_laws.specs.Rule.{core_of}
use Rattle.mq_desk_laws.proofs.RuleSettled.{front_claimed}
use Rattle.mq_script.specs.Scripts.{Group, Script}
use Rattle.mq_script.specs.declared.group.End.TheVariants.{Fsync}
use Rattle.mq_tie.specs.Runs.{IsKnownDone}
use Rattle.mq_turns.specs.Marks.{DoneTo}
use Rattle.mq_turns.specs.Meaning.{newest}
use Rattle.mq_run.specs.Playing.{IsShort}
use Rattle.mq_run.specs.Runs.{HasRunScripts}
use Rattle.mq_run.specs.declared.end.RunEnd.{RunEnd}
use Rattle.mq_run_laws.proofs.AnswersGiven.{names, told-in}
use Rattle.mq_run_laws.proofs.LinesBuilding.{drawn, seen}
use Rattle.mq_run_laws.proofs.LinesNumbered.{group-found}
use Rattle.mq_run_laws.proofs.Pairs.{each-in, get-in}
use Rattle.mq_run_laws.proofs.RunsWhole.{kinds, machine}

module _ {P : Type 0} (G : Ghosts P) (state : P → PortState) (faults : P → List PortFault) (g : Geometry) (ports : Ports P) (s : Standing) (scripts : List Script) (finish : Bool) (e : RunEnd P)
    (run : HasRunScripts G state faults g ports s scripts finish e) (short : All (λ script. IsShort script.groups) scripts) where
  abbrev K : Shared P FileEntry G
  K = run.ends.run.end.known

  -- no line has a number above the last one
  line-high : (l : Line) → Contains e.entries.items l → l.number ≤ newest K
  line-high l c =
      let long = length-reverse K.log in
      elim (kinds G state faults g ports s scripts finish e run short l c) [
        | drawn i f at k ↦ (let low = slice_get_within _ i f at in let is = k.number in omega arith)
        | seen i f few r ↦ (let is = r.number in omega arith)
      ]

  -- some session knew that all numbers up to an acknowledged one are done
  pub known-done : (n : ℕ) → IsAcknowledged scripts e.answers.items n → IsKnownDone run.ends.left run.ends.end.next n
  known-done n (t, c, good, ends) =
      let b = told-in G state faults g ports s scripts finish e run short t c in
      let of = group-found scripts t.session t.group b.session.script b.is.group b.session.at b.is.at in
      let fsync : b.is.group.end ≡ Fsync = sym (ap (λ (x : Group). x.end) of.1) ∙ ends in
      let low = b.is.durable n good fsync in
      let kept = b.session.keeps.done in
      let l = names G state faults g ports s scripts finish e run short t c (Some n) (ap number_in good) in
      let high = line-high l.0 l.1 in
      let number = l.3 in
      let next = run.ends.run.end.next_is in
      record {
        low = omega arith;
        view = b.session.last;
        one = get-in run.ends.left t.session b.session.last b.session.last_at;
        done = omega arith;
      }

  pub acknowledged-low : (n : ℕ) → IsAcknowledged scripts e.answers.items n → n ≤ front (core_of (side_values state faults) file_group K)
  acknowledged-low n is =
      let k = known-done n is in
      let low = k.low in
      let next = run.ends.run.end.next_is in
      front_claimed (side_values state faults) file_group n K run.ends.run.end.ok (omega arith) (λ m f at le.
      let claimed : DoneTo (machine G state faults g ports s scripts finish e run) k.view.reading.done K = each-in (λ v. DoneTo (machine G state faults g ports s scripts finish e run) v.reading.done K) run.ends.left k.view run.ends.run.end.done k.one in
      let high = k.done in
      claimed m f at (omega arith))
