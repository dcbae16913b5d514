-- What the status of the program reports, by what there was to say and how that ended.
use Rattle.std.proofs.Common.{◌≡◌, ◌≢◌, ◌⊎◌, inl, inr, ℕ, cond, List, Option, Some, None, sym, ◌∙◌, ap, subst, arith}
use Rattle.std.specs.Prelude.{nat_eq}
use Rattle.mq_command_io.specs.Ending.{EndsWith, IsUnlessFailed}
use Rattle.mq_command_io.proofs.Ending.{unless_wanting, four-or-six, said_or, not-saved-zero, not-loaded-zero, low_failed}
use Rattle.mq_outside.specs.Outside.{FilesState, Rose, SinkState, appended}
use Rattle.mq_command_blocks.specs.SaysOfBlocks.{SaysOfBlocks, printed, refused}
use Rattle.mq_command_blocks.specs.SaysOfBlocks as blocks_says
use Rattle.mq_cli.specs.Asked.{Asked, Words, asked_of, blocks}
use Rattle.mq_cli.specs.declared.command.BlocksOptions.{BlocksOptions}
use Rattle.mq_cli.specs.declared.refusal.WordsRefusal.{WordsRefusal}
use Rattle.mq_cli.specs.declared.refusal.WordsRefusal.TheVariants as refusal
use Rattle.mq_command_io.specs.Ending.{IsNotLoaded, IsNotSaved, load_failed, load_memory, load_too_long, save_failed, save_memory}
use Rattle.mqfs.specs.Decided.{Decides, RunsThere}
use Rattle.mqfs.specs.Program.{AreUnknown, IsDone, IsEndedRun, IsMisreadTrace, IsRefusedLoose, IsRefusedText, IsSaid, IsStatus, IsToSay, IsTooLong, KeepsNames, TakesFor, no_command, no_memory, of_command, usage_line}
use Rattle.mqfs.specs.Says.{Says}
use Rattle.mqfs.proofs.ProgramTold.{RefusedWords, SaysWords, told_words}

-- where the output wants memory, the status is 4 only where it was
wanting_four : (status result : ℕ) → IsStatus status → result ≡ cond (nat_eq status 4) 4 6 → result ≡ 4 → status ≡ 4
wanting_four status result (inl e) want four = let is : result ≡ 6 = subst (λ (s : ℕ). result ≡ cond (nat_eq s 4) 4 6) e want in absurd (omega (arith, is, four))
wanting_four status result (inr (inl e)) want four = let is : result ≡ 6 = subst (λ (s : ℕ). result ≡ cond (nat_eq s 4) 4 6) e want in absurd (omega (arith, is, four))
wanting_four status result (inr (inr (inl e))) want four = let is : result ≡ 6 = subst (λ (s : ℕ). result ≡ cond (nat_eq s 4) 4 6) e want in absurd (omega (arith, is, four))
wanting_four status result (inr (inr (inr (inl e)))) want four = let is : result ≡ 6 = subst (λ (s : ℕ). result ≡ cond (nat_eq s 4) 4 6) e want in absurd (omega (arith, is, four))
wanting_four status result (inr (inr (inr (inr (inl e))))) want four = e
wanting_four status result (inr (inr (inr (inr (inr (inl e)))))) want four = let is : result ≡ 6 = subst (λ (s : ℕ). result ≡ cond (nat_eq s 4) 4 6) e want in absurd (omega (arith, is, four))
wanting_four status result (inr (inr (inr (inr (inr (inr e)))))) want four = let is : result ≡ 6 = subst (λ (s : ℕ). result ≡ cond (nat_eq s 4) 4 6) e want in absurd (omega (arith, is, four))

as_status : (result : ℕ) → (result ≡ 4) ⊎ (result ≡ 6) → IsStatus result
as_status result (inl e) = inr (inr (inr (inr (inl e))))
as_status result (inr e) = inr (inr (inr (inr (inr (inr e)))))

some-none : (a : Asked) → ◌≡◌ {A = Option Asked} (Some a) None → ⊥
some-none a e = cc

-- where the words are no command
usage_by : (words : Words) (files new_files : FilesState) (result status : ℕ) (text : List ℕ) → AreUnknown words → IsToSay words files new_files status text → IsUnlessFailed status result → IsUnlessFailed 1 result
usage_by words files new_files result _ _ none (no_command un same) ends = ends
usage_by words files new_files result status text none (of_command a is says) ends = absurd (some-none a (sym is ∙ none))
usage_by words files new_files result _ _ none (no_memory same) (inl six) = inr (inr six)
usage_by words files new_files result _ _ none (no_memory same) (inr other) = inr other

module _ (words : Words) (files new_files : FilesState) (status : ℕ) (text : List ℕ) (result : ℕ) (old new : SinkState) (say : IsToSay words files new_files status text) (ends : EndsWith status text result old new) where
  tells : SaysWords words files new_files status text
  tells = told_words words files new_files status text say

  pub status_told : IsStatus result
  status_told = elim (said_or status text result old new ends) [ inl e ↦ subst IsStatus (sym e.0) tells.is | inr e ↦ as_status result e ]

  pub said_told : result ≢ 4 → result ≢ 6 → IsSaid words files new_files old new result
  said_told not_four not_six = elim (said_or status text result old new ends) [
    | inl e ↦ (text, subst (λ (s : ℕ). IsToSay words files new_files s text) (sym e.0) say, e.1)
    | inr e ↦ elim e [ inl four ↦ absurd (not_four four) | inr six ↦ absurd (not_six six) ]
  ]

  pub usage_told : result ≡ 1 → AreUnknown words × (new.contents ≡ appended old.contents usage_line) × (new_files ≡ files)
  usage_told one = elim (said_or status text result old new ends) [
    | inl e ↦ (let t = tells.usage (sym e.0 ∙ one) in (t.0, e.1 ∙ ap (appended old.contents) t.1, t.2))
    | inr e ↦ elim e [ inl four ↦ absurd (omega (arith, four, one)) | inr six ↦ absurd (omega (arith, six, one)) ]
  ]

  -- what was refused, with its line
  bad_said : new.contents ≡ appended old.contents text → RefusedWords words files new_files text → IsRefusedText words files old new ⊎ (IsRefusedLoose words files old new ⊎ (IsMisreadTrace words files old new ⊎ IsEndedRun 2 words files new_files old new))
  bad_said whole (inl t) = inl (t.0, t.1, t.2, t.3, t.4, t.5, t.6, whole ∙ ap (appended old.contents) t.7)
  bad_said whole (inr (inl t)) = inr (inl (t.0, t.1, t.2, t.3, t.4, t.5, t.6, t.7, t.8, whole ∙ ap (appended old.contents) t.9))
  bad_said whole (inr (inr (inl t))) = inr (inr (inl (t.0, t.1, t.2, t.3, t.4, t.5, whole ∙ ap (appended old.contents) t.6)))
  bad_said whole (inr (inr (inr t))) = inr (inr (inr (t.0, t.1, t.2, text, t.3, t.4, whole)))

  pub refused_told : result ≡ 2 → IsRefusedText words files old new ⊎ (IsRefusedLoose words files old new ⊎ (IsMisreadTrace words files old new ⊎ IsEndedRun 2 words files new_files old new))
  refused_told two = elim (said_or status text result old new ends) [
    | inl e ↦ bad_said e.1 (tells.bad (sym e.0 ∙ two))
    | inr e ↦ elim e [ inl four ↦ absurd (omega (arith, four, two)) | inr six ↦ absurd (omega (arith, six, two)) ]
  ]

  pub failed_told : result ≡ 5 → IsEndedRun 5 words files new_files old new
  failed_told five = elim (said_or status text result old new ends) [
    | inl e ↦ (let t = tells.ended (sym e.0 ∙ five) in (t.0, t.1, t.2, text, t.3, t.4, e.1))
    | inr e ↦ elim e [ inl four ↦ absurd (omega (arith, four, five)) | inr six ↦ absurd (omega (arith, six, five)) ]
  ]

  of_files : Rose files.faults new_files.faults ⊎ IsTooLong words files new_files → Rose files.faults new_files.faults ⊎ (Rose old.faults new.faults ⊎ IsTooLong words files new_files)
  of_files (inl rose) = inl rose
  of_files (inr long) = inr (inr long)

  pub fault_told : result ≡ 4 → Rose files.faults new_files.faults ⊎ (Rose old.faults new.faults ⊎ IsTooLong words files new_files)
  fault_told four = elim ends [
    | inl e ↦ of_files (tells.fault (sym e.0 ∙ four))
    | inr other ↦ elim other [ inl e ↦ inr (inl e.2) | inr e ↦ of_files (tells.fault (wanting_four status result tells.is e.0 four)) ]
  ]

  pub same_told : result ≢ 4 → (new_files.faults ≡ files.faults) × (new.faults ≡ old.faults)
  same_told not_four = elim ends [
    | inl e ↦ (tells.faults (λ four. not_four (e.0 ∙ four)), e.2)
    | inr other ↦ elim other [
      | inl e ↦ absurd (not_four e.0)
      | inr e ↦ (tells.faults (λ four. not_four (e.0 ∙ ap (λ (s : ℕ). cond (nat_eq s 4) 4 6) four)), e.2)
    ]
  ]

  pub takes_told : result ≢ 4 → result ≢ 6 → TakesFor words files new_files
  takes_told not_four not_six = elim (said_or status text result old new ends) [
    | inl e ↦ tells.takes (λ four. not_four (e.0 ∙ four)) (λ six. not_six (e.0 ∙ six))
    | inr e ↦ elim e [ inl four ↦ absurd (not_four four) | inr six ↦ absurd (not_six six) ]
  ]

  pub names_told : KeepsNames words files new_files
  names_told = tells.names

  pub contents_told : (result ≡ 1) ⊎ ((result ≡ 2) ⊎ (result ≡ 3)) → new_files.contents ≡ files.contents
  contents_told some = elim (said_or status text result old new ends) [
    | inl e ↦ tells.contents (subst (λ (s : ℕ). (s ≡ 1) ⊎ ((s ≡ 2) ⊎ (s ≡ 3))) e.0 some)
    | inr e ↦ absurd (low_failed result some e)
  ]

  -- where the words are no command
  pub usage-where : AreUnknown words → IsUnlessFailed 1 result
  usage-where none = usage_by words files new_files result status text none say (unless_wanting status text result old new ends)

-- ---- `blocks`, done

module _ (file : List ℕ) (options : BlocksOptions) (save trace : Option (List ℕ)) (files new_files : FilesState) (old new : SinkState) where
  done_of : (status : ℕ) (text : List ℕ) → SaysOfBlocks file options save trace files new_files status text → status ≡ 0 → new.contents ≡ appended old.contents text → IsDone file options save trace files new_files old new
  done_of _ _ (printed bytes lines p x mid kept load is at run saves traces) zero out = (bytes, lines, p, x, mid, kept, load.holds, load.contents, is, at, run, saves, traces, out)
  done_of _ _ (refused bytes line cause load refuses) zero out = absurd (omega (arith, zero))
  done_of status text (blocks_says.not_loaded not) zero out = absurd (not-loaded-zero file files new_files status text not zero)
  done_of status text (blocks_says.not_saved bytes lines name mid asks load is not) zero out = absurd (not-saved-zero name mid new_files status text not zero)
  done_of status text (blocks_says.trace_not_saved bytes lines name q x mid kept asks load is at run saves not) zero out = absurd (not-saved-zero name kept new_files status text not zero)
  done_of _ _ (blocks_says.wants_memory others load) zero out = absurd (omega (arith, zero))

  done_words : (words : Words) (status : ℕ) (text : List ℕ) → asked_of words ≡ Some (blocks file options save trace) → IsToSay words files new_files status text → status ≡ 0 → new.contents ≡ appended old.contents text → IsDone file options save trace files new_files old new
  done_words words _ _ asks (no_command none same) zero out = absurd (omega (arith, zero))
  done_words words status text asks (of_command a is says) zero out =
      let same : ◌≡◌ {A = Option Asked} (Some a) (Some (blocks file options save trace)) = sym is ∙ asks in
      let one : a ≡ blocks file options save trace = cc in
      done_of status text (subst (λ (b : Asked). Says b files new_files status text) one says) zero out
  done_words words _ _ asks (no_memory same) zero out = absurd (omega (arith, zero))

  pub done_told : (words : Words) (status : ℕ) (text : List ℕ) (result : ℕ) → asked_of words ≡ Some (blocks file options save trace) → IsToSay words files new_files status text → EndsWith status text result old new → result ≡ 0 → IsDone file options save trace files new_files old new
  done_told words status text result asks say ends zero = elim (said_or status text result old new ends) [
    | inl e ↦ done_words words status text asks say (sym e.0 ∙ zero) e.1
    | inr e ↦ elim e [ inl four ↦ absurd (omega (arith, four, zero)) | inr six ↦ absurd (omega (arith, six, zero)) ]
  ]

-- ---- what is decided

pub decided_told : (words : Words) (files : FilesState) (a b : Asked) (result : ℕ) → asked_of words ≡ Some b → ((status : ℕ) → Decides b files.contents status → IsUnlessFailed status result) → asked_of words ≡ Some a → (status : ℕ) → Decides a files.contents status → IsUnlessFailed status result
decided_told words files a b result is each asks status decides =
    let same : ◌≡◌ {A = Option Asked} (Some a) (Some b) = sym asks ∙ is in
    let one : a ≡ b = cc in
    each status (subst (λ (x : Asked). Decides x files.contents status) one decides)

pub runs_told : (words : Words) (files : FilesState) (a b : Asked) (result : ℕ) → asked_of words ≡ Some b → (RunsThere b files.contents → (result ≡ 5) ⊎ IsUnlessFailed 0 result) → asked_of words ≡ Some a → RunsThere a files.contents → (result ≡ 5) ⊎ IsUnlessFailed 0 result
runs_told words files a b result is each asks runs =
    let same : ◌≡◌ {A = Option Asked} (Some a) (Some b) = sym asks ∙ is in
    let one : a ≡ b = cc in
    each (subst (λ (x : Asked). RunsThere x files.contents) one runs)

pub not_asked : (words : Words) (a : Asked) → asked_of words ≡ None → asked_of words ≡ Some a → ⊥
not_asked words a none some = let e : ◌≡◌ {A = Option Asked} None (Some a) = sym none ∙ some in cc

-- words that are refused as unknown ask nothing
pub unknown_asks : (e : WordsRefusal) (words : Words) → e ≡ refusal.Unknown → (e ≡ refusal.OutOfMemory) ⊎ ((e ≡ refusal.Unknown) × (asked_of words ≡ None)) → asked_of words ≡ None
unknown_asks e words is (inl memory) = absurd (apart (sym is ∙ memory))
  where
    apart : refusal.Unknown ≡ refusal.OutOfMemory → ⊥
    apart same = cc
unknown_asks e words is (inr other) = other.1
