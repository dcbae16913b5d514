-- `run` without a cut and without a failing command ends with 0 only where the run is complete.
use Rattle.std.proofs.Common.{◌≡◌, ◌⊎◌, inl, inr, ℕ, Bool, true, List, [], ◌∷◌, Some, None, ap, ◌∙◌, subst, arith}
use Rattle.std.specs.Prelude.{if◌then◌else◌, option_map}
use Rattle.std.proofs.lemmas.Bool.{or_left, or_right}
use Rattle.mq_command_io.specs.Ending.{EndsWith, IsUnlessFailed}
use Rattle.mq_command_run.specs.RunsScripts.{are_wanting, is_memory, is_wanting, run_status}
use Rattle.mq_run_laws.specs.declared.ran.ImageRun.{ImageRun}
use Rattle.mq_outside.specs.Outside.{FilesState, SinkState}
use Rattle.mq_report.specs.declared.line.Told.{Told}
use Rattle.mq_run_laws.specs.Complete.{HaveWanted}
use Rattle.mq_run_laws.proofs.Pairs.{cons-cases, none-in}
use Rattle.mq_cli.specs.Asked.{Words, asked_of, run}
use Rattle.mq_cli.specs.declared.command.RunFlags.{RunFlags}
use Rattle.mqfs.specs.Program.{IsToSay}
use Rattle.mqfs.specs.Ran.{IsRan, IsRanWhole}
use Rattle.mqfs.specs.Says.{failing, run_ending}
use Rattle.mqfs.proofs.Ran.{ran_told}

-- the test finds a group for which memory ran out
wanting-in : (answers : List Told) → HaveWanted answers → are_wanting answers ≡ true
wanting-in [] w = absurd (none-in w.0 w.1)
wanting-in (u ∷ us) w = elim (cons-cases w.0 u us w.1) [
  | inl same ↦ or_left (is_wanting u.answer) (are_wanting us) (ap (λ (z : Told). is_wanting z.answer) same ∙ (ap is_wanting w.3 ∙ ap is_memory w.4))
  | inr deeper ↦ or_right (is_wanting u.answer) (are_wanting us) (wanting-in us (w.0, deeper, w.2, w.3, w.4))
]

-- so the status is 6 then
wanting-status : (r : ImageRun) → HaveWanted r.answers.items → run_status r ≡ 6
wanting-status r w = ap (λ (b : Bool). if b then 6 else (if r.failed then 5 else 0)) (wanting-in r.answers.items w)

module _ (image : List ℕ) (names : List (List ℕ)) (options : RunFlags) (files new_files : FilesState) (old new : SinkState) where
  whole : options.cut ≡ None → options.fail ≡ None → IsRan image names options 0 files new_files old new → IsRanWhole image names options files new_files old new
  whole no_cut none ran = record {
    ran = ran;
    complete = ran.promise.complete (ap run_ending no_cut) (ap (option_map failing) none) (λ wanted. let six = wanting-status ran.r wanted in let zero = ran.status in absurd (omega (arith, six, zero)));
  }

  pub whole_told : (words : Words) (status : ℕ) (text : List ℕ) (result : ℕ) → asked_of words ≡ Some (run image names options) → IsToSay words files new_files status text → EndsWith status text result old new → options.cut ≡ None → options.fail ≡ None → IsUnlessFailed 0 result
      → ((result ≡ 0) × IsRanWhole image names options files new_files old new) ⊎ ((result ≡ 4) ⊎ (result ≡ 6))
  whole_told words status text result asks say ends no_cut none ended = elim ended [
    | inl zero ↦ inl (zero, whole no_cut none (subst (λ (s : ℕ). IsRan image names options s files new_files old new) zero (ran_told image names options files new_files old new words status text result asks say ends (inl zero))))
    | inr other ↦ inr other
  ]
