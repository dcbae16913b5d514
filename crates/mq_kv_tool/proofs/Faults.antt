-- What the program tells at the statuses 4 and 6.
use Rattle.std.proofs.Common.{◌≡◌, ◌⊎◌, inl, inr, ℕ, Bool, cond, true, false, List, length, Option, Some, refl, sym, ◌∙◌, ap, subst, arith}
use Rattle.std.proofs.Math.Seq.{take-length}
use Rattle.std.specs.List.{Contains}
use Rattle.std.specs.Prelude.{nat_eq}
use Rattle.mq_cli.specs.Asked.{Words}
use Rattle.mq_command_io.specs.Ending.{EndsWith, IsNotLoaded, IsNotSaved, fault_line, load_failed, load_memory, load_too_long, memory_line, save_failed, save_line, save_memory, too_long_line}
use Rattle.mq_command_io.proofs.Ending.{not-loaded-same}
use Rattle.mq_kv_cli.specs.Asked.{Asked, asked_of}
use Rattle.mq_kv_text.specs.Reports.{usage_text}
use Rattle.mq_kv_tool.specs.Outcome.{IsCutOff, IsFault, IsOutOfMemory, KeepsOrGives, gives, keeps, of_line, of_load, of_memory, of_output, of_save}
use Rattle.mq_kv_tool.specs.Program.{IsToSay, loaded_names, no_command, no_memory, of_command, saved_names}
use Rattle.mq_kv_tool.specs.Says.{Says}
use Rattle.mq_kv_tool.proofs.Course.{Course, IsCause, IsQuiet, at_cause, at_load, at_save, course, saved_none, was_saved}
use Rattle.mq_outside.specs.Outside.{AppendsPrefix, FilesState, Held, SinkState, appended, put_name}

module _ (words : Words) (files new_files : FilesState) (old new : SinkState) where
  -- the output of a text failed whose status isn't 4
  cut-off : (status : ℕ) (text : List ℕ) → nat_eq status 4 ≡ false → EndsWith status text 4 old new → IsCutOff text old new
  cut-off status text other (inl e) = let same : true ≡ false = subst (λ (n : ℕ). nat_eq n 4 ≡ false) (sym e.0) other in cc
  cut-off status text other (inr (inl e)) = (e.1, e.2)
  cut-off status text other (inr (inr e)) = let six : ◌≡◌ {A = ℕ} 4 6 = subst (λ (b : Bool). ◌≡◌ {A = ℕ} 4 (cond b 4 6)) other e.0 in absurd (omega (arith, six))

  of-memory : (status : ℕ) (text : List ℕ) → status ≡ 6 → text ≡ memory_line → IsToSay words files new_files status text → KeepsOrGives words files new_files → EndsWith status text 4 old new → IsFault words files new_files old new
  of-memory status text six line say kept ends =
      let say_six = subst (λ (n : ℕ). IsToSay words files new_files n text) six say in
      let ends_six = subst (λ (n : ℕ). EndsWith n text 4 old new) six ends in
      of_memory (subst (λ (l : List ℕ). IsToSay words files new_files 6 l) line say_six) kept (cut-off 6 memory_line refl (subst (λ (l : List ℕ). EndsWith 6 l 4 old new) line ends_six))

  module _ (a : Asked) (is : asked_of words ≡ Some a) where
    -- ---- status 4

    fault-load : (name : List ℕ) (mid : FilesState) → Contains (loaded_names a) name → IsQuiet files mid → (status : ℕ) (text : List ℕ) → Says a files new_files status text → IsNotLoaded name mid new_files status text → EndsWith status text 4 old new → IsFault words files new_files old new
    fault-load name mid one quiet _ _ says (load_failed same rose tried) ends = of_load a name (fault_line name) mid is one quiet.0 (load_failed same rose tried) (same ∙ quiet.0) ends
    fault-load name mid one quiet _ _ says (load_too_long same over faults takes tried) ends = of_load a name (too_long_line name) mid is one quiet.0 (load_too_long same over faults takes tried) (same ∙ quiet.0) ends
    fault-load name mid one quiet _ _ says (load_memory same faults tried) ends = of_memory (of_command a is says) (keeps (same ∙ quiet.0)) (cut-off 6 memory_line refl ends)

    fault-cause : (status : ℕ) (text : List ℕ) → Says a files new_files status text → IsCause status text → IsQuiet files new_files → EndsWith status text 4 old new → IsFault words files new_files old new
    fault-cause status text says (inl two) quiet ends = of_line status text (inr (inl two)) (of_command a is says) quiet.0 (cut-off status text (ap (λ (n : ℕ). nat_eq n 4) two) ends)
    fault-cause status text says (inr (inl three)) quiet ends = of_line status text (inr (inr three)) (of_command a is says) quiet.0 (cut-off status text (ap (λ (n : ℕ). nat_eq n 4) three) ends)
    fault-cause status text says (inr (inr six)) quiet ends = of-memory status text six.0 six.1 (of_command a is says) (keeps quiet.0) ends

    fault-save : (name : List ℕ) (mid : FilesState) → Contains (saved_names a) name → IsQuiet files mid → (status : ℕ) (text : List ℕ) → Says a files new_files status text → IsNotSaved name mid new_files status text → EndsWith status text 4 old new → IsFault words files new_files old new
    fault-save name mid one quiet _ _ says (save_failed others rose taken tried) ends = of_save a name (save_line name) mid is one quiet.0 (save_failed others rose taken tried) ends
    fault-save name mid one quiet _ _ says (save_memory same faults taken tried) ends = of_memory (of_command a is says) (keeps (same ∙ quiet.0)) (cut-off 6 memory_line refl ends)

    fault-course : (status : ℕ) (text : List ℕ) → Course a files new_files status text → Says a files new_files status text → EndsWith status text 4 old new → IsFault words files new_files old new
    fault-course status text (at_load name mid one quiet long not) says ends = fault-load name mid one quiet status text says not ends
    fault-course status text (at_cause cause quiet takes) says ends = fault-cause status text says cause quiet ends
    fault-course status text (at_save name mid one quiet not) says ends = fault-save name mid one quiet status text says not ends
    fault-course _ text (was_saved name bytes mid one quiet takes given save) says ends = of_output a text is says (cut-off 0 text refl ends)
    fault-course _ text (saved_none same) says ends = of_output a text is says (cut-off 0 text refl ends)

    -- ---- status 6

    four-six : ◌≡◌ {A = ℕ} 6 4 → ⊥
    four-six e = omega (arith, e)

    keeps-save : (name : List ℕ) (mid : FilesState) → IsQuiet files mid → (status : ℕ) (text : List ℕ) → IsNotSaved name mid new_files status text → EndsWith status text 6 old new → KeepsOrGives words files new_files
    keeps-save name mid quiet _ _ (save_failed others rose taken tried) (inl e) = absurd (four-six e.0)
    keeps-save name mid quiet _ _ (save_failed others rose taken tried) (inr (inl e)) = absurd (four-six e.0)
    keeps-save name mid quiet _ _ (save_failed others rose taken tried) (inr (inr e)) = absurd (four-six e.0)
    keeps-save name mid quiet _ _ (save_memory same faults taken tried) ends = keeps (same ∙ quiet.0)

    keeps-course : (status : ℕ) (text : List ℕ) → Course a files new_files status text → EndsWith status text 6 old new → KeepsOrGives words files new_files
    keeps-course status text (at_load name mid one quiet long not) ends = keeps (not-loaded-same name mid new_files status text not ∙ quiet.0)
    keeps-course status text (at_cause cause quiet takes) ends = keeps quiet.0
    keeps-course status text (at_save name mid one quiet not) ends = keeps-save name mid quiet status text not ends
    keeps-course _ text (was_saved name bytes mid one quiet takes given save) ends =
        gives a name bytes is one given (save.contents ∙ ap (λ (o : Option Held). put_name o name bytes) quiet.0)
    keeps-course _ text (saved_none same) ends = keeps (ap (λ (f : FilesState). f.contents) same)

  pub fault-told : (status : ℕ) (text : List ℕ) → IsToSay words files new_files status text → EndsWith status text 4 old new → IsFault words files new_files old new
  fault-told _ _ (no_command none same) ends = of_line 1 usage_text (inl refl) (no_command none same) (ap (λ (f : FilesState). f.contents) same) (cut-off 1 usage_text refl ends)
  fault-told status text (of_command a is says) ends = fault-course a is status text (course a files new_files status text says) says ends
  fault-told _ _ (no_memory same) ends = of_memory (no_memory same) (keeps (ap (λ (f : FilesState). f.contents) same)) (cut-off 6 memory_line refl ends)

  prefix : (status : ℕ) (text : List ℕ) → EndsWith status text 6 old new → AppendsPrefix old.contents new.contents text
  prefix status text (inl e) = (length text, omega arith, e.1 ∙ ap (appended old.contents) (sym (take-length text)))
  prefix status text (inr (inl e)) = let four = e.0 in absurd (omega (arith, four))
  prefix status text (inr (inr e)) = e.1

  keeps-told : (status : ℕ) (text : List ℕ) → IsToSay words files new_files status text → EndsWith status text 6 old new → KeepsOrGives words files new_files
  keeps-told _ _ (no_command none same) ends = keeps (ap (λ (f : FilesState). f.contents) same)
  keeps-told status text (of_command a is says) ends = keeps-course a is status text (course a files new_files status text says) ends
  keeps-told _ _ (no_memory same) ends = keeps (ap (λ (f : FilesState). f.contents) same)

  pub memory-told : (status : ℕ) (text : List ℕ) → IsToSay words files new_files status text → EndsWith status text 6 old new → IsOutOfMemory words files new_files old new
  memory-told status text say ends = (status, text, say, prefix status text ends, keeps-told status text say ends)
