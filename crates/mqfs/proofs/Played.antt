-- `gen` ends with 0 only where the workload was played, the image was saved where a name is given, and the
-- line was said.
use Rattle.std.proofs.Common.{◌≡◌, inl, inr, ℕ, List, Option, Some, sym, ◌∙◌, subst, arith}
use Rattle.mq_command_run.specs.Generates.{Generates, generated, not_saved, wants_memory}
use Rattle.mq_command_io.specs.Ending.{EndsWith}
use Rattle.mq_command_io.proofs.Ending.{said_or, not-saved-zero}
use Rattle.mq_outside.specs.Outside.{FilesState, SinkState, appended}
use Rattle.mq_cli.specs.Asked.{Asked, Words, asked_of, gen}
use Rattle.mqfs.specs.Played.{IsPlayed}
use Rattle.mqfs.specs.Program.{IsToSay, no_command, no_memory, of_command}
use Rattle.mqfs.specs.Says.{Says, asked_workload}

module _ (seed threads groups : ℕ) (save : Option (List ℕ)) (files new_files : FilesState) (old new : SinkState) where
  played_of : (status : ℕ) (text : List ℕ) → Generates (asked_workload seed threads groups) save files new_files status text → status ≡ 0 → new.contents ≡ appended old.contents text → IsPlayed (asked_workload seed threads groups) save files new_files old new
  played_of _ _ (generated made is saves) zero out = record { made = made; play = is; saved = saves; said = out }
  played_of status text (not_saved name made asks is not) zero out = absurd (not-saved-zero name files new_files status text not zero)
  played_of _ _ (wants_memory same) zero out = absurd (omega (arith, zero))

  played_words : (words : Words) (status : ℕ) (text : List ℕ) → asked_of words ≡ Some (gen seed threads groups save) → IsToSay words files new_files status text → status ≡ 0 → new.contents ≡ appended old.contents text → IsPlayed (asked_workload seed threads groups) save files new_files old new
  played_words words _ _ asks (no_command none same) zero out = absurd (omega (arith, zero))
  played_words words status text asks (of_command a is says) zero out =
      let same : ◌≡◌ {A = Option Asked} (Some a) (Some (gen seed threads groups save)) = sym is ∙ asks in
      let one : a ≡ gen seed threads groups save = cc in
      played_of status text (subst (λ (b : Asked). Says b files new_files status text) one says) zero out
  played_words words _ _ asks (no_memory same) zero out = absurd (omega (arith, zero))

  pub played_told : (words : Words) (status : ℕ) (text : List ℕ) (result : ℕ) → asked_of words ≡ Some (gen seed threads groups save) → IsToSay words files new_files status text → EndsWith status text result old new → result ≡ 0 → IsPlayed (asked_workload seed threads groups) save files new_files old new
  played_told words status text result asks say ends zero = elim (said_or status text result old new ends) [
    | inl e ↦ played_words words status text asks say (sym e.0 ∙ zero) e.1
    | inr e ↦ elim e [ inl four ↦ absurd (omega (arith, four, zero)) | inr six ↦ absurd (omega (arith, six, zero)) ]
  ]
