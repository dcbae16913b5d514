-- The course of each command, by what there is to say of it, and what it tells at the statuses 4 and 6.
use Rattle.std.proofs.Common.{◌≡◌, ◌⊎◌, inl, inr, ℕ, Bool, cond, true, false, List, [], ◌∷◌, ◌++◌, length, Option, Some, None, refl, sym, ◌∙◌, ap, subst, arith}
use Rattle.std.proofs.lemmas.List.{append-nil}
use Rattle.std.proofs.Math.Seq.{take-length}
use Rattle.std.specs.Prelude.{nat_eq, option_to_list}
use Rattle.std.specs.Option.{unwrap_or}
use Rattle.mq_block_text.specs.declared.item.BlockItem.{BlockItem}
use Rattle.mq_block_trace.specs.Prefixes.{IsPrefixAt}
use Rattle.mq_cli.specs.Asked.{Asked, Words, asked_of, audit, blocks, cat, check, dump, format, gen, help, loose, ls, recover, replicate, run, version}
use Rattle.mq_cli.specs.declared.command.BlocksOptions.{BlocksOptions}
use Rattle.mq_cli.specs.declared.command.RunFlags.{RunFlags}
use Rattle.mq_command_images.specs.Audits.{Audits}
use Rattle.mq_command_images.specs.Audits as audits
use Rattle.mq_command_blocks.specs.Blocks.{IsBlockText}
use Rattle.mq_command_blocks.specs.Left.{SavesLeft, SavesTrace}
use Rattle.mq_command_blocks.specs.Picked.{IsRunBy, pick_of}
use Rattle.mq_command_blocks.specs.SaysOfBlocks.{SaysOfBlocks, printed}
use Rattle.mq_command_blocks.specs.SaysOfBlocks as blocks_says
use Rattle.mq_command_images.specs.Checks.{Checks}
use Rattle.mq_command_run.specs.Generates.{Generates, IsPlayOf, SavesUnder, generated}
use Rattle.mq_command_run.specs.Generates as generates
use Rattle.mq_command_run.specs.declared.generated.Generated.{Generated}
use Rattle.mq_command_images.specs.Commands.{Dumps, Formats, Lists, SaysNothing, SaysOfImage, ShowsFile, formatted, no_geometry}
use Rattle.mq_command_images.specs.Commands as commands
use Rattle.mq_command_images.specs.Recovers.{Recovers, RefusesRecovery, recovered}
use Rattle.mq_command_images.specs.Recovers as recovers
use Rattle.mq_command_io.specs.Ending.{EndsWith, IsLoaded, IsNotLoaded, IsNotSaved, SaysOf, fault_line, load_failed, load_memory, load_too_long, memory_line, save_failed, save_line, save_memory, too_long_line, SaysOnly, said}
use Rattle.mq_command_io.specs.Ending as ending
use Rattle.mq_command_io.proofs.Ending.{not-loaded-same}
use Rattle.mq_command_loose.specs.SaysOfLoose.{SaysOfLoose}
use Rattle.mq_command_loose.specs.SaysOfLoose as loose_says
use Rattle.mq_command_replicate.specs.Replicas.{IsReplicaOf}
use Rattle.mq_command_replicate.specs.Replicates.{Replicates}
use Rattle.mq_command_replicate.specs.Replicates as replicates
use Rattle.mq_command_run.specs.RunsScripts.{AreLoaded, RefusesRunning, RefusesScript, RefusesScripts, Runs, are_wanting, ran}
use Rattle.mq_command_run.specs.RunsScripts as runs
use Rattle.mq_image.specs.File.{DriveImage, image_bytes}
use Rattle.mq_loose_run.specs.Runs.{IsLeftLoose}
use Rattle.mq_loose_text.specs.Meaning.{IsSetIn}
use Rattle.mq_loose_text.specs.Text.{IsLooseText}
use Rattle.mq_loose_text.specs.declared.line.LooseLine.{LooseLine}
use Rattle.mq_outside.specs.Outside.{AppendsPrefix, FilesState, Holds, SinkState, appended}
use Rattle.mq_script.specs.Scripts.{Script}
use Rattle.mqfs.specs.Course.{AreGiven, AreRead, Course, IsCause, IsCutOff, IsFault, IsOutOfMemory, IsWhole, KeepsOrGives, ends_at_cause, ends_at_load, ends_at_save, ends_whole, of_line, of_load, of_memory, of_output, of_save}
use Rattle.mqfs.specs.Program.{IsToSay, loaded_names, no_command, no_memory, of_command, saved_names, usage_line}
use Rattle.mqfs.specs.Says.{Says, asked_workload, numbers, run_options}
use Rattle.mqfs.proofs.ProgramTold.{checks, dumps, lists, shows, statuses}

-- ---- loads and saves

-- a load changes no name
read-same : (names : List (List ℕ)) (old new : FilesState) → AreRead names old new → new.contents ≡ old.contents
read-same [] old new same = ap (λ (f : FilesState). f.contents) same
read-same (name ∷ names) old new read = read-same names read.1 new read.3 ∙ read.2.contents

-- names that were given, and then more
given-both : (a : Asked) (files : FilesState) (names more : List (List ℕ)) (old mid new : FilesState) → AreGiven a files names old mid → AreGiven a files more mid new → AreGiven a files (names ++ more) old new
given-both a files [] more old mid new first second = subst (λ (m : FilesState). AreGiven a files more m new) first second
given-both a files (name ∷ names) more old mid new first second = (first.0, first.1, first.2, first.3, given-both a files names more first.1 mid new first.4 second)

-- ---- commands that load one name, or begin with it

zero-or-cause : (status : ℕ) (text : List ℕ) → (status ≡ 0) ⊎ (status ≡ 3) → (status ≡ 0) ⊎ IsCause status text
zero-or-cause status text (inl zero) = inl zero
zero-or-cause status text (inr three) = inr (inr (inl three))

module _ (a : Asked) (name : List ℕ) (rest : List (List ℕ)) (reads : loaded_names a ≡ name ∷ rest) (old new : FilesState) (status : ℕ) (text : List ℕ) where
  by-load : IsNotLoaded name old new status text → Course a old new status text
  by-load not = ends_at_load [] rest name old reads refl not

  by-cause : (bytes : List ℕ) → IsLoaded name bytes old new → IsCause status text → Course a old new status text
  by-cause bytes load cause = ends_at_cause (name ∷ []) rest reads (bytes, new, load, refl) cause

  by-either : (bytes : List ℕ) → IsLoaded name bytes old new → (status ≡ 0 → Course a old new status text) → (status ≡ 0) ⊎ IsCause status text → Course a old new status text
  by-either bytes load finish (inl zero) = finish zero
  by-either bytes load finish (inr cause) = by-cause bytes load cause

  of-name : (Of : List ℕ → ℕ → List ℕ → Type 0) → ((bytes : List ℕ) → Of bytes status text → (status ≡ 0) ⊎ IsCause status text) → ((bytes : List ℕ) → IsLoaded name bytes old new → status ≡ 0 → Course a old new status text) → SaysOf Of name old new status text → Course a old new status text
  of-name Of each finish (ending.loaded bytes load of) = by-either bytes load (finish bytes load) (each bytes of)
  of-name Of each finish (ending.not_loaded not) = by-load not
  of-name Of each finish (ending.wanting bytes load six line) = by-cause bytes load (inr (inr (six, line)))

-- of the image that a name holds
of-image : (a : Asked) (name : List ℕ) → loaded_names a ≡ name ∷ [] → saved_names a ≡ [] → (Of : DriveImage → ℕ → List ℕ → Type 0) → ((x : DriveImage) (status : ℕ) (text : List ℕ) → Of x status text → (status ≡ 0) ⊎ (status ≡ 3))
    → (old new : FilesState) (status : ℕ) (text : List ℕ) → SaysOf (SaysOfImage Of) name old new status text → Course a old new status text
of-image a name reads saves Of each old new status text says =
    of-name a name [] reads old new status text (SaysOfImage Of) (λ bytes of. zero-or-cause status text (statuses Of each bytes status text of))
    (λ bytes load zero.
    ends_whole new (subst (λ (l : List (List ℕ)). AreRead l old new) (sym reads) (bytes, new, load, refl)) (subst (λ (l : List (List ℕ)). AreGiven a old l new new) (sym saves) refl) (inl zero)) says

unloaded-zero : (name : List ℕ) (old new : FilesState) (status : ℕ) (text : List ℕ) → IsNotLoaded name old new status text → status ≡ 0 → ⊥
unloaded-zero name old new _ _ (load_failed same rose tried) zero = omega (arith, zero)
unloaded-zero name old new _ _ (load_too_long same over faults takes tried) zero = omega (arith, zero)
unloaded-zero name old new _ _ (load_memory same faults tried) zero = omega (arith, zero)

-- of an image that is refused
of-refused : (a : Asked) (name : List ℕ) (rest : List (List ℕ)) → loaded_names a ≡ name ∷ rest → (Of : DriveImage → ℕ → List ℕ → Type 0) → ((x : DriveImage) (status : ℕ) (text : List ℕ) → Of x status text → status ≡ 3)
    → (old new : FilesState) (status : ℕ) (text : List ℕ) → SaysOf (SaysOfImage Of) name old new status text → Course a old new status text
of-refused a name rest reads Of each old new status text says =
    of-name a name rest reads old new status text (SaysOfImage Of) (λ bytes of. inr (inr (inl (three bytes status text of)))) (λ bytes load zero. absurd (never zero says)) says
  where
    three : (bytes : List ℕ) (s : ℕ) (t : List ℕ) → SaysOfImage Of bytes s t → s ≡ 3
    three bytes s t (commands.is_image x read of) = each x s t of
    three bytes _ _ (commands.no_image e has) = refl

    never : status ≡ 0 → SaysOf (SaysOfImage Of) name old new status text → ⊥
    never zero (ending.loaded bytes load of) = let is = three bytes status text of in omega (arith, is, zero)
    never zero (ending.not_loaded not) = unloaded-zero name old new status text not zero
    never zero (ending.wanting bytes load six line) = omega (arith, six, zero)

-- ---- `audit`

audited : (bytes : List ℕ) (status : ℕ) (text : List ℕ) → Audits bytes status text → (status ≡ 0) ⊎ IsCause status text
audited bytes _ _ (audits.accepts t drawn finished waiting least greatest is allowed sums) = inl refl
audited bytes _ _ (audits.refuses t index is at) = inl refl
audited bytes _ _ (audits.misreads line is) = inr (inl refl)

of-audit : (trace : List ℕ) (old new : FilesState) (status : ℕ) (text : List ℕ) → SaysOf Audits trace old new status text → Course (audit trace) old new status text
of-audit trace old new status text says =
    of-name (audit trace) trace [] refl old new status text Audits (λ bytes of. audited bytes status text of) (λ bytes load zero. ends_whole new (bytes, new, load, refl) refl (inl zero)) says

-- ---- `blocks`

module _ (file : List ℕ) (options : BlocksOptions) (text : List ℕ) (lines : List (List BlockItem)) (p : ℕ) (x : DriveImage) (old : FilesState) (holds : Holds old.contents file text) (is : IsBlockText text lines) (at : IsPrefixAt lines options.cut p) (by : IsRunBy lines options.cut options.again (pick_of options) p x) where
  image-given : (save trace : Option (List ℕ)) (mid kept : FilesState) → SavesLeft save x mid kept → AreGiven (blocks file options save trace) old (option_to_list save) mid kept
  image-given None trace mid kept saves = saves
  image-given (Some name) trace mid kept saves = (image_bytes x, kept, (text, lines, p, x, holds, is, at, by, inl (refl, refl)), saves, refl)

  trace-given : (save trace : Option (List ℕ)) (kept new : FilesState) → SavesTrace trace lines options.cut kept new → AreGiven (blocks file options save trace) old (option_to_list trace) kept new
  trace-given save None kept new saves = saves
  trace-given save (Some name) kept new saves = (saves.0, new, (text, lines, p, x, holds, is, at, by, inr (refl, saves.1)), saves.2, refl)

of-blocks : (file : List ℕ) (options : BlocksOptions) (save trace : Option (List ℕ)) (old new : FilesState) (status : ℕ) (text : List ℕ) → SaysOfBlocks file options save trace old new status text → Course (blocks file options save trace) old new status text
of-blocks file options save trace old new _ _ (printed bytes lines p x mid kept load is at by saves traces) =
    ends_whole mid (bytes, mid, load, refl)
    (given-both (blocks file options save trace) old (option_to_list save) (option_to_list trace) mid kept new (image-given file options bytes lines p x old load.holds is at by save trace mid kept saves) (trace-given file options bytes lines p x old load.holds is at by save trace kept new traces))
    (inl refl)
of-blocks file options save trace old new _ _ (blocks_says.refused bytes line cause load refuses) = by-cause (blocks file options save trace) file [] refl old new 2 _ bytes load (inl refl)
of-blocks file options save trace old new status text (blocks_says.not_loaded not) = by-load (blocks file options save trace) file [] refl old new status text not
of-blocks file options save trace old new status text (blocks_says.not_saved bytes lines name mid asks load is not) =
    ends_at_save [] (option_to_list trace) name mid mid (ap (λ (o : Option (List ℕ)). option_to_list o ++ option_to_list trace) asks) (bytes, mid, load, refl) refl not
of-blocks file options save trace old new status text (blocks_says.trace_not_saved bytes lines name p x mid kept asks load is at by saves not) =
    ends_at_save (option_to_list save) [] name mid kept (ap (λ (o : Option (List ℕ)). option_to_list save ++ option_to_list o) asks) (bytes, mid, load, refl) (image-given file options bytes lines p x old load.holds is at by save trace mid kept saves) not
of-blocks file options save trace old new _ _ (blocks_says.wants_memory bytes load) = by-cause (blocks file options save trace) file [] refl old new 6 memory_line bytes load (inr (inr (refl, refl)))

-- ---- `replicate`

replica-given : (file : List ℕ) (seed : Option ℕ) (text : List ℕ) (lines : List (List BlockItem)) (x : DriveImage) (old : FilesState) → Holds old.contents file text → IsBlockText text lines → IsReplicaOf lines x
    → (save : Option (List ℕ)) (mid new : FilesState) → SavesLeft save x mid new → AreGiven (replicate file seed save) old (option_to_list save) mid new
replica-given file seed text lines x old holds is of None mid new saves = saves
replica-given file seed text lines x old holds is of (Some name) mid new saves = (image_bytes x, new, (text, lines, x, holds, is, of, refl, refl), saves, refl)

of-replicate : (file : List ℕ) (seed : Option ℕ) (save : Option (List ℕ)) (old new : FilesState) (status : ℕ) (text : List ℕ) → Replicates file save old new status text → Course (replicate file seed save) old new status text
of-replicate file seed save old new _ _ (replicates.printed bytes lines x mid load is of saves) =
    ends_whole mid (bytes, mid, load, refl) (replica-given file seed bytes lines x old load.holds is of save mid new saves) (inl refl)
of-replicate file seed save old new _ _ (replicates.refused bytes line cause load refuses) = by-cause (replicate file seed save) file [] refl old new 2 _ bytes load (inl refl)
of-replicate file seed save old new status text (replicates.not_loaded not) = by-load (replicate file seed save) file [] refl old new status text not
of-replicate file seed save old new status text (replicates.not_saved bytes lines name mid asks load is not) =
    ends_at_save [] [] name mid mid (ap (λ (o : Option (List ℕ)). option_to_list o) asks) (bytes, mid, load, refl) refl not
of-replicate file seed save old new _ _ (replicates.wants_memory bytes load) = by-cause (replicate file seed save) file [] refl old new 6 memory_line bytes load (inr (inr (refl, refl)))

-- ---- `loose`

module _ (file : List ℕ) (cut pick : Option ℕ) (old : FilesState) where
  loose-given : (text : List ℕ) (lines : List LooseLine) (set : ℕ → Bool) (x : DriveImage) → Holds old.contents file text → IsLooseText text lines → IsSetIn cut lines set → IsLeftLoose cut lines set x
      → (save : Option (List ℕ)) (mid new : FilesState) → SavesLeft save x mid new → AreGiven (loose file cut pick save) old (option_to_list save) mid new
  loose-given text lines set x holds is set_in left None mid new saves = saves
  loose-given text lines set x holds is set_in left (Some name) mid new saves = (image_bytes x, new, (text, lines, set, x, holds, is, set_in, left, refl, refl), saves, refl)

  of-loose : (save : Option (List ℕ)) (new : FilesState) (status : ℕ) (text : List ℕ) → SaysOfLoose file cut save old new status text → Course (loose file cut pick save) old new status text
  of-loose save new _ _ (loose_says.printed bytes lines set x mid load is set_in left saves) =
      ends_whole mid (bytes, mid, load, refl) (loose-given bytes lines set x load.holds is set_in left save mid new saves) (inl refl)
  of-loose save new _ _ (loose_says.refused bytes line load refuses) = by-cause (loose file cut pick save) file [] refl old new 2 _ bytes load (inl refl)
  of-loose save new status text (loose_says.not_loaded not) = by-load (loose file cut pick save) file [] refl old new status text not
  of-loose save new status text (loose_says.not_saved bytes lines name mid asks load is not) =
      ends_at_save [] [] name mid mid (ap (λ (o : Option (List ℕ)). option_to_list o) asks) (bytes, mid, load, refl) refl not
  of-loose save new _ _ (loose_says.wants_memory bytes load) = by-cause (loose file cut pick save) file [] refl old new 6 memory_line bytes load (inr (inr (refl, refl)))

-- ---- `format`, `recover`, `gen`

of-format : (image : List ℕ) (queues area meta zone : ℕ) (old new : FilesState) (status : ℕ) (text : List ℕ) → Formats (numbers queues area meta zone) image old new status text → Course (format image queues area meta zone) old new status text
of-format image queues area meta zone old new _ _ (formatted g x are empty save) = ends_whole old refl (image_bytes x, new, (refl, (g, x, are, empty, refl)), save, refl) (inl refl)
of-format image queues area meta zone old new _ _ (no_geometry e refuses same) = ends_at_cause [] [] refl same (inr (inl refl))
of-format image queues area meta zone old new status text (commands.not_saved not) = ends_at_save [] [] image old old refl refl refl not
of-format image queues area meta zone old new _ _ (commands.wants_memory same) = ends_at_cause [] [] refl same (inr (inr (refl, refl)))

three-unrecovered : (x : DriveImage) (status : ℕ) (text : List ℕ) → RefusesRecovery x status text → status ≡ 3
three-unrecovered x _ _ (recovers.not_recovered e unread) = refl

of-recover : (image : List ℕ) (cut pick : Option ℕ) (old new : FilesState) (status : ℕ) (text : List ℕ) → Recovers cut (unwrap_or pick 0) image old new status text → Course (recover image cut pick) old new status text
of-recover image cut pick old new _ _ (recovered bytes x r mid load read by save) = ends_whole mid (bytes, mid, load, refl) (image_bytes r.image, new, (refl, bytes, x, r, load.holds, read, by, refl), save, refl) (inl refl)
of-recover image cut pick old new status text (recovers.refused says) = of-refused (recover image cut pick) image [] refl RefusesRecovery three-unrecovered old new status text says
of-recover image cut pick old new status text (recovers.unsaved bytes mid load not) = ends_at_save [] [] image mid mid refl (bytes, mid, load, refl) refl not

play-given : (seed threads groups : ℕ) (save : Option (List ℕ)) (made : Generated) (old new : FilesState) → IsPlayOf (asked_workload seed threads groups) save made → SavesUnder save made.file.items old new → AreGiven (gen seed threads groups save) old (option_to_list save) old new
play-given seed threads groups None made old new is saves = saves
play-given seed threads groups (Some name) made old new is saves = (made.file.items, new, (made, refl, is, refl), saves, refl)

of-gen : (seed threads groups : ℕ) (save : Option (List ℕ)) (old new : FilesState) (status : ℕ) (text : List ℕ) → Generates (asked_workload seed threads groups) save old new status text → Course (gen seed threads groups save) old new status text
of-gen seed threads groups save old new _ _ (generated made is saves) = ends_whole old refl (play-given seed threads groups save made old new is saves) (inl refl)
of-gen seed threads groups save old new status text (generates.not_saved name made asks is not) = ends_at_save [] [] name old old (ap (λ (o : Option (List ℕ)). option_to_list o) asks) refl refl not
of-gen seed threads groups save old new _ _ (generates.wants_memory same) = ends_at_cause [] [] refl same (inr (inr (refl, refl)))

-- ---- `run`

scripts-read : (names : List (List ℕ)) (scripts : List Script) (old new : FilesState) → AreLoaded names scripts old new → AreRead names old new
scripts-read [] [] old new were = were
scripts-read [] (s ∷ scripts) old new were = absurd were
scripts-read (name ∷ names) [] old new were = absurd were
scripts-read (name ∷ names) (s ∷ scripts) old new were = (were.0, were.1, were.2, scripts-read names scripts were.1 new were.4)

-- the loads of these names end at one of them, or at a cause after some
abbrev LoadsEnd : (names : List (List ℕ)) → (old new : FilesState) → (status : ℕ) → (text : List ℕ) → Type 0
LoadsEnd names old new status text =
    ((read rest : List (List ℕ)) × (name : List ℕ) × (mid : FilesState) × (names ≡ read ++ name ∷ rest) × AreRead read old mid × IsNotLoaded name mid new status text)
    ⊎ ((read rest : List (List ℕ)) × (names ≡ read ++ rest) × AreRead read old new × IsCause status text)

loads-course : (a : Asked) (old new : FilesState) (status : ℕ) (text : List ℕ) → LoadsEnd (loaded_names a) old new status text → Course a old new status text
loads-course a old new status text (inl e) = ends_at_load e.0 e.1 e.2 e.3 e.4 e.5 e.6
loads-course a old new status text (inr e) = ends_at_cause e.0 e.1 e.2 e.3 e.4

-- the same after one more name was loaded
after-one : (name : List ℕ) (names : List (List ℕ)) (bytes : List ℕ) (old mid new : FilesState) (status : ℕ) (text : List ℕ) → IsLoaded name bytes old mid → LoadsEnd names mid new status text → LoadsEnd (name ∷ names) old new status text
after-one name names bytes old mid new status text load (inl e) = inl (name ∷ e.0, e.1, e.2, e.3, ap (λ (l : List (List ℕ)). name ∷ l) e.4, (bytes, mid, load, e.5), e.6)
after-one name names bytes old mid new status text load (inr e) = inr (name ∷ e.0, e.1, ap (λ (l : List (List ℕ)). name ∷ l) e.2, (bytes, mid, load, e.3), e.4)

script-ends : (names : List (List ℕ)) (name : List ℕ) (old new : FilesState) (status : ℕ) (text : List ℕ) → RefusesScript name old new status text → LoadsEnd (name ∷ names) old new status text
script-ends names name old new status text (runs.not_loaded not) = inl ([], names, name, old, refl, refl, not)
script-ends names name old new _ _ (runs.refused bytes at load bad) = inr (name ∷ [], names, refl, (bytes, new, load, refl), inl refl)
script-ends names name old new _ _ (runs.RefusesScript.wanting bytes load) = inr (name ∷ [], names, refl, (bytes, new, load, refl), inr (inr (refl, refl)))

scripts-end : (names : List (List ℕ)) (old new : FilesState) (status : ℕ) (text : List ℕ) → RefusesScripts names old new status text → LoadsEnd names old new status text
scripts-end [] old new status text refuses = absurd refuses
scripts-end (name ∷ names) old new status text (inl refuses) = script-ends names name old new status text refuses
scripts-end (name ∷ names) old new status text (inr later) = after-one name names later.0 old later.2 new status text later.3 (scripts-end names later.2 new status text later.5)

running-cause : (x : DriveImage) (scripts : List Script) (status : ℕ) (text : List ℕ) → RefusesRunning x scripts status text → IsCause status text
running-cause x scripts _ _ (runs.too_many more) = inl refl
running-cause x scripts _ _ (runs.not_run e few refuses other) = inr (inl refl)
running-cause x scripts _ _ runs.RefusesRunning.wanting = inr (inr (refl, refl))

whole-run : (memory fails : Bool) → IsWhole (cond memory 6 (cond fails 5 0))
whole-run true fails = inr (inr refl)
whole-run false true = inr (inl refl)
whole-run false false = inl refl

no-nothing : (x : DriveImage) (status : ℕ) (text : List ℕ) → SaysNothing x status text → status ≡ 3
no-nothing x status text nothing = absurd nothing

of-run : (image : List ℕ) (names : List (List ℕ)) (options : RunFlags) (old new : FilesState) (status : ℕ) (text : List ℕ) → Runs (run_options options) image names old new status text → Course (run image names options) old new status text
of-run image names options old new _ _ (ran bytes x scripts r mid read load is were few of keeps reported save) =
    ends_whole read (bytes, mid, load, scripts-read names scripts mid read were)
    (image_bytes r.image, new, (refl, bytes, x, scripts, r, mid, read, load, is, were, of, keeps, refl), save, refl) (whole-run (are_wanting r.answers.items) r.failed)
of-run image names options old new status text (runs.no_image says) = of-refused (run image names options) image names refl SaysNothing no-nothing old new status text says
of-run image names options old new status text (runs.no_scripts bytes x mid load is refuses) =
    loads-course (run image names options) old new status text (after-one image names bytes old mid new status text load (scripts-end names mid new status text refuses))
of-run image names options old new status text (runs.no_run bytes x scripts mid load is were refuses) =
    ends_at_cause (image ∷ names) [] (sym (append-nil (image ∷ names))) (bytes, mid, load, scripts-read names scripts mid new were) (running-cause x scripts status text refuses)
of-run image names options old new status text (runs.unsaved bytes x scripts r mid read load is were few of keeps not) =
    ends_at_save [] [] image read read refl (bytes, mid, load, scripts-read names scripts mid read were) refl not

-- ---- all commands

of-line-only : (a : Asked) → loaded_names a ≡ [] → saved_names a ≡ [] → (line : List ℕ) (old new : FilesState) (status : ℕ) (text : List ℕ) → SaysOnly line old new status text → Course a old new status text
of-line-only a reads saves line old new _ _ (said same) =
    ends_whole old (subst (λ (l : List (List ℕ)). AreRead l old old) (sym reads) refl) (subst (λ (l : List (List ℕ)). AreGiven a old l old new) (sym saves) same) (inl refl)

pub course : (a : Asked) (old new : FilesState) (status : ℕ) (text : List ℕ) → Says a old new status text → Course a old new status text
course (blocks file options save trace) old new status text says = of-blocks file options save trace old new status text says
course (format image queues area meta zone) old new status text says = of-format image queues area meta zone old new status text says
course (run image scripts options) old new status text says = of-run image scripts options old new status text says
course (recover image cut pick) old new status text says = of-recover image cut pick old new status text says
course (ls image) old new status text says = of-image (ls image) image refl refl Lists lists old new status text says
course (cat image path) old new status text says = of-image (cat image path) image refl refl (ShowsFile path) (shows path) old new status text says
course (gen seed threads groups save) old new status text says = of-gen seed threads groups save old new status text says
course (dump image) old new status text says = of-image (dump image) image refl refl Dumps dumps old new status text says
course (check image) old new status text says = of-image (check image) image refl refl Checks checks old new status text says
course (audit trace) old new status text says = of-audit trace old new status text says
course (replicate file seed save) old new status text says = of-replicate file seed save old new status text says
course (loose file cut pick save) old new status text says = of-loose file cut pick old save new status text says
course (help topic) old new status text says = of-line-only (help topic) refl refl _ old new status text says
course version old new status text says = of-line-only version refl refl _ old new status text says

-- ---- status 4

module _ (words : Words) (files new_files : FilesState) (old new : SinkState) where
  -- the output of a text failed whose status isn't 4
  cut-off : (status : ℕ) (text : List ℕ) → nat_eq status 4 ≡ false → EndsWith status text 4 old new → IsCutOff text old new
  cut-off status text other (inl e) = let same : true ≡ false = subst (λ (n : ℕ). nat_eq n 4 ≡ false) (sym e.0) other in cc
  cut-off status text other (inr (inl e)) = (e.1, e.2)
  cut-off status text other (inr (inr e)) = let six : ◌≡◌ {A = ℕ} 4 6 = subst (λ (b : Bool). ◌≡◌ {A = ℕ} 4 (cond b 4 6)) other e.0 in absurd (omega (arith, six))

  of-memory : (status : ℕ) (text : List ℕ) → status ≡ 6 → text ≡ memory_line → IsToSay words files new_files status text → KeepsOrGives words files new_files → EndsWith status text 4 old new → IsFault words files new_files old new
  of-memory status text six line say keeps ends =
      let say_six = subst (λ (n : ℕ). IsToSay words files new_files n text) six say in
      let ends_six = subst (λ (n : ℕ). EndsWith n text 4 old new) six ends in
      of_memory (subst (λ (l : List ℕ). IsToSay words files new_files 6 l) line say_six) keeps (cut-off 6 memory_line refl (subst (λ (l : List ℕ). EndsWith 6 l 4 old new) line ends_six))

  module _ (a : Asked) (is : asked_of words ≡ Some a) where
    fault-load : (read rest : List (List ℕ)) (name : List ℕ) (mid : FilesState) (status : ℕ) (text : List ℕ) → loaded_names a ≡ read ++ name ∷ rest → AreRead read files mid → Says a files new_files status text → IsNotLoaded name mid new_files status text → EndsWith status text 4 old new → IsFault words files new_files old new
    fault-load read rest name mid _ _ names reads says (load_failed same rose tried) ends =
        of_load a read rest name (fault_line name) mid is names reads (load_failed same rose tried) (same ∙ read-same read files mid reads) ends
    fault-load read rest name mid _ _ names reads says (load_too_long same over faults takes tried) ends =
        of_load a read rest name (too_long_line name) mid is names reads (load_too_long same over faults takes tried) (same ∙ read-same read files mid reads) ends
    fault-load read rest name mid _ _ names reads says (load_memory same faults tried) ends =
        of_memory (of_command a is says) (inl (same ∙ read-same read files mid reads)) (cut-off 6 memory_line refl ends)

    fault-cause : (read : List (List ℕ)) (status : ℕ) (text : List ℕ) → AreRead read files new_files → Says a files new_files status text → IsCause status text → EndsWith status text 4 old new → IsFault words files new_files old new
    fault-cause read status text reads says (inl two) ends =
        of_line status text (inr (inl two)) (of_command a is says) (read-same read files new_files reads) (cut-off status text (ap (λ (n : ℕ). nat_eq n 4) two) ends)
    fault-cause read status text reads says (inr (inl three)) ends =
        of_line status text (inr (inr three)) (of_command a is says) (read-same read files new_files reads) (cut-off status text (ap (λ (n : ℕ). nat_eq n 4) three) ends)
    fault-cause read status text reads says (inr (inr six)) ends =
        of-memory status text six.0 six.1 (of_command a is says) (inl (read-same read files new_files reads)) ends

    fault-save : (saved rest : List (List ℕ)) (name : List ℕ) (mid kept : FilesState) (status : ℕ) (text : List ℕ) → saved_names a ≡ saved ++ name ∷ rest → AreRead (loaded_names a) files mid → AreGiven a files saved mid kept → Says a files new_files status text → IsNotSaved name kept new_files status text → EndsWith status text 4 old new → IsFault words files new_files old new
    fault-save saved rest name mid kept _ _ names reads given says (save_failed others rose taken tried) ends =
        of_save a saved rest name (save_line name) mid kept is names reads given (save_failed others rose taken tried) ends
    fault-save saved rest name mid kept _ _ names reads given says (save_memory same faults taken tried) ends =
        of_memory (of_command a is says) (inr (a, saved, name ∷ rest, mid, kept, is, names, reads, given, same)) (cut-off 6 memory_line refl ends)

    not-four : (status : ℕ) → IsWhole status → nat_eq status 4 ≡ false
    not-four status (inl zero) = ap (λ (n : ℕ). nat_eq n 4) zero
    not-four status (inr (inl five)) = ap (λ (n : ℕ). nat_eq n 4) five
    not-four status (inr (inr six)) = ap (λ (n : ℕ). nat_eq n 4) six

    fault-course : (status : ℕ) (text : List ℕ) → Course a files new_files status text → Says a files new_files status text → EndsWith status text 4 old new → IsFault words files new_files old new
    fault-course status text (ends_at_load read rest name mid names reads not) says ends = fault-load read rest name mid status text names reads says not ends
    fault-course status text (ends_at_cause read rest names reads cause) says ends = fault-cause read status text reads says cause ends
    fault-course status text (ends_at_save saved rest name mid kept names reads given not) says ends = fault-save saved rest name mid kept status text names reads given says not ends
    fault-course status text (ends_whole mid reads given whole) says ends = of_output a status text mid is reads given says whole (cut-off status text (not-four status whole) ends)

  pub fault-told : (status : ℕ) (text : List ℕ) → IsToSay words files new_files status text → EndsWith status text 4 old new → IsFault words files new_files old new
  fault-told _ _ (no_command none same) ends = of_line 1 usage_line (inl refl) (no_command none same) (ap (λ (f : FilesState). f.contents) same) (cut-off 1 usage_line refl ends)
  fault-told status text (of_command a is says) ends = fault-course a is status text (course a files new_files status text says) says ends
  fault-told _ _ (no_memory same) ends = of_memory (no_memory same) (inl (ap (λ (f : FilesState). f.contents) same)) (cut-off 6 memory_line refl ends)

  -- ---- status 6

  prefix : (status : ℕ) (text : List ℕ) → EndsWith status text 6 old new → AppendsPrefix old.contents new.contents text
  prefix status text (inl e) = (length text, omega arith, e.1 ∙ ap (appended old.contents) (sym (take-length text)))
  prefix status text (inr (inl e)) = let four = e.0 in absurd (omega (arith, four))
  prefix status text (inr (inr e)) = e.1

  keeps-save : (a : Asked) → asked_of words ≡ Some a → (saved rest : List (List ℕ)) (name : List ℕ) (mid kept : FilesState) (status : ℕ) (text : List ℕ) → saved_names a ≡ saved ++ name ∷ rest → AreRead (loaded_names a) files mid → AreGiven a files saved mid kept → IsNotSaved name kept new_files status text → EndsWith status text 6 old new → KeepsOrGives words files new_files
  keeps-save a is saved rest name mid kept _ _ names reads given (save_failed others rose taken tried) (inl e) = let four = e.0 in absurd (omega (arith, four))
  keeps-save a is saved rest name mid kept _ _ names reads given (save_failed others rose taken tried) (inr (inl e)) = let four = e.0 in absurd (omega (arith, four))
  keeps-save a is saved rest name mid kept _ _ names reads given (save_failed others rose taken tried) (inr (inr e)) = let four : ◌≡◌ {A = ℕ} 6 4 = e.0 in absurd (omega (arith, four))
  keeps-save a is saved rest name mid kept _ _ names reads given (save_memory same faults taken tried) ends = inr (a, saved, name ∷ rest, mid, kept, is, names, reads, given, same)

  keeps-course : (a : Asked) → asked_of words ≡ Some a → (status : ℕ) (text : List ℕ) → Course a files new_files status text → EndsWith status text 6 old new → KeepsOrGives words files new_files
  keeps-course a is status text (ends_at_load read rest name mid names reads not) ends = inl (not-loaded-same name mid new_files status text not ∙ read-same read files mid reads)
  keeps-course a is status text (ends_at_cause read rest names reads cause) ends = inl (read-same read files new_files reads)
  keeps-course a is status text (ends_at_save saved rest name mid kept names reads given not) ends = keeps-save a is saved rest name mid kept status text names reads given not ends
  keeps-course a is status text (ends_whole mid reads given whole) ends = inr (a, saved_names a, [], mid, new_files, is, sym (append-nil (saved_names a)), reads, given, refl)

  keeps-told : (status : ℕ) (text : List ℕ) → IsToSay words files new_files status text → EndsWith status text 6 old new → KeepsOrGives words files new_files
  keeps-told _ _ (no_command none same) ends = inl (ap (λ (f : FilesState). f.contents) same)
  keeps-told status text (of_command a is says) ends = keeps-course a is status text (course a files new_files status text says) ends
  keeps-told _ _ (no_memory same) ends = inl (ap (λ (f : FilesState). f.contents) same)

  pub memory-told : (status : ℕ) (text : List ℕ) → IsToSay words files new_files status text → EndsWith status text 6 old new → IsOutOfMemory words files new_files old new
  memory-told status text say ends = (status, text, say, prefix status text ends, keeps-told status text say ends)

  -- ---- each status

  pub course-told : (a : Asked) → asked_of words ≡ Some a → (status : ℕ) (text : List ℕ) → IsToSay words files new_files status text → Course a files new_files status text
  course-told a is _ _ (no_command none same) = let e : ◌≡◌ {A = Option Asked} None (Some a) = sym none ∙ is in cc
  course-told a is status text (of_command b asks says) =
      let e : ◌≡◌ {A = Option Asked} (Some b) (Some a) = sym asks ∙ is in
      let one : b ≡ a = cc in
      subst (λ (c : Asked). Course c files new_files status text) one (course b files new_files status text says)
  course-told a is _ _ (no_memory same) = ends_at_cause [] (loaded_names a) refl same (inr (inr (refl, refl)))
