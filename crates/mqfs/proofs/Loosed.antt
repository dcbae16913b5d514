-- `loose` ends with 0 only where the lines were run, the image that the cut left was saved where a name is given, and what
-- was acknowledged and what stands was said.
use Rattle.std.proofs.Common.{◌≡◌, inl, inr, ℕ, List, Option, Some, sym, ◌∙◌, subst, arith}
use Rattle.mq_command_io.specs.Ending.{EndsWith}
use Rattle.mq_command_io.proofs.Ending.{said_or, not-saved-zero, not-loaded-zero}
use Rattle.mq_command_loose.specs.SaysOfLoose.{SaysOfLoose}
use Rattle.mq_command_loose.specs.SaysOfLoose as loose_says
use Rattle.mq_outside.specs.Outside.{FilesState, SinkState, appended}
use Rattle.mq_cli.specs.Asked.{Asked, Words, asked_of, loose}
use Rattle.mqfs.specs.Loosed.{IsLoosed}
use Rattle.mqfs.specs.Program.{IsToSay, no_command, no_memory, of_command}
use Rattle.mqfs.specs.Says.{Says}

module _ (file : List ℕ) (cut pick : Option ℕ) (save : Option (List ℕ)) (files new_files : FilesState) (old new : SinkState) where
  loosed_of : (status : ℕ) (text : List ℕ) → SaysOfLoose file cut save files new_files status text → status ≡ 0 → new.contents ≡ appended old.contents text → IsLoosed file cut save files new_files old new
  loosed_of _ _ (loose_says.printed bytes lines set x mid load is set_in left saves) zero out =
      record { bytes = bytes; lines = lines; set = set; x = x; loaded = mid; holds = load.holds; same = load.contents; text = is; set_in = set_in; left = left; saved = saves; said = out }
  loosed_of _ _ (loose_says.refused bytes line load refuses) zero out = absurd (omega (arith, zero))
  loosed_of status text (loose_says.not_loaded not) zero out = absurd (not-loaded-zero file files new_files status text not zero)
  loosed_of status text (loose_says.not_saved bytes lines name mid asks load is not) zero out = absurd (not-saved-zero name mid new_files status text not zero)
  loosed_of _ _ (loose_says.wants_memory bytes load) zero out = absurd (omega (arith, zero))

  loosed_words : (words : Words) (status : ℕ) (text : List ℕ) → asked_of words ≡ Some (loose file cut pick save) → IsToSay words files new_files status text → status ≡ 0 → new.contents ≡ appended old.contents text → IsLoosed file cut save files new_files old new
  loosed_words words _ _ asks (no_command none same) zero out = absurd (omega (arith, zero))
  loosed_words words status text asks (of_command a is says) zero out =
      let same : ◌≡◌ {A = Option Asked} (Some a) (Some (loose file cut pick save)) = sym is ∙ asks in
      let one : a ≡ loose file cut pick save = cc in
      loosed_of status text (subst (λ (b : Asked). Says b files new_files status text) one says) zero out
  loosed_words words _ _ asks (no_memory same) zero out = absurd (omega (arith, zero))

  pub loosed_told : (words : Words) (status : ℕ) (text : List ℕ) (result : ℕ) → asked_of words ≡ Some (loose file cut pick save) → IsToSay words files new_files status text → EndsWith status text result old new → result ≡ 0 → IsLoosed file cut save files new_files old new
  loosed_told words status text result asks say ends zero = elim (said_or status text result old new ends) [
    | inl e ↦ loosed_words words status text asks say (sym e.0 ∙ zero) e.1
    | inr e ↦ elim e [ inl four ↦ absurd (omega (arith, four, zero)) | inr six ↦ absurd (omega (arith, six, zero)) ]
  ]
