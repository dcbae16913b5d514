-- `replicate` ends with 0 only where the lines were fed to a replica, its image was saved where a name is given,
-- and what it holds was said.
use Rattle.std.proofs.Common.{◌≡◌, inl, inr, ℕ, List, Option, Some, sym, ◌∙◌, subst, arith}
use Rattle.mq_command_io.specs.Ending.{EndsWith}
use Rattle.mq_command_io.proofs.Ending.{said_or, not-saved-zero, not-loaded-zero}
use Rattle.mq_command_replicate.specs.Replicates.{Replicates}
use Rattle.mq_command_replicate.specs.Replicates as replicates
use Rattle.mq_outside.specs.Outside.{FilesState, SinkState, appended}
use Rattle.mq_cli.specs.Asked.{Asked, Words, asked_of, replicate}
use Rattle.mqfs.specs.Program.{IsToSay, no_command, no_memory, of_command}
use Rattle.mqfs.specs.Replicated.{IsReplicated}
use Rattle.mqfs.specs.Says.{Says}

module _ (file : List ℕ) (seed : Option ℕ) (save : Option (List ℕ)) (files new_files : FilesState) (old new : SinkState) where
  replicated_of : (status : ℕ) (text : List ℕ) → Replicates file save files new_files status text → status ≡ 0 → new.contents ≡ appended old.contents text → IsReplicated file save files new_files old new
  replicated_of _ _ (replicates.printed bytes lines x mid load is of saves) zero out =
      record { bytes = bytes; lines = lines; x = x; loaded = mid; holds = load.holds; same = load.contents; text = is; replica = of; saved = saves; said = out }
  replicated_of _ _ (replicates.refused bytes line cause load refuses) zero out = absurd (omega (arith, zero))
  replicated_of status text (replicates.not_loaded not) zero out = absurd (not-loaded-zero file files new_files status text not zero)
  replicated_of status text (replicates.not_saved bytes lines name mid asks load is not) zero out = absurd (not-saved-zero name mid new_files status text not zero)
  replicated_of _ _ (replicates.wants_memory bytes load) zero out = absurd (omega (arith, zero))

  replicated_words : (words : Words) (status : ℕ) (text : List ℕ) → asked_of words ≡ Some (replicate file seed save) → IsToSay words files new_files status text → status ≡ 0 → new.contents ≡ appended old.contents text → IsReplicated file save files new_files old new
  replicated_words words _ _ asks (no_command none same) zero out = absurd (omega (arith, zero))
  replicated_words words status text asks (of_command a is says) zero out =
      let same : ◌≡◌ {A = Option Asked} (Some a) (Some (replicate file seed save)) = sym is ∙ asks in
      let one : a ≡ replicate file seed save = cc in
      replicated_of status text (subst (λ (b : Asked). Says b files new_files status text) one says) zero out
  replicated_words words _ _ asks (no_memory same) zero out = absurd (omega (arith, zero))

  pub replicated_told : (words : Words) (status : ℕ) (text : List ℕ) (result : ℕ) → asked_of words ≡ Some (replicate file seed save) → IsToSay words files new_files status text → EndsWith status text result old new → result ≡ 0 → IsReplicated file save files new_files old new
  replicated_told words status text result asks say ends zero = elim (said_or status text result old new ends) [
    | inl e ↦ replicated_words words status text asks say (sym e.0 ∙ zero) e.1
    | inr e ↦ elim e [ inl four ↦ absurd (omega (arith, four, zero)) | inr six ↦ absurd (omega (arith, six, zero)) ]
  ]
