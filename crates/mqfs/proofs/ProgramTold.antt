-- What a text that there was to say tells of the files.
use Rattle.std.proofs.Common.{◌≡◌, ◌≢◌, ◌≤◌, ◌<◌, ◌⊎◌, inl, inr, ℕ, suc, Bool, cond, true, false, List, [], ◌∷◌, ◌++◌, get_or, length, Option, Some, None, refl, sym, ◌∙◌, ap, subst, arith}
use Rattle.std.specs.Prelude.{bytes_eq, option_to_list, unwrap_or}
use Rattle.mq_audit.specs.Traces.{IsMisread}
use Rattle.mq_command_images.specs.Audits.{Audits, misread_line}
use Rattle.mq_command_images.specs.Audits as audits
use Rattle.mq_command_images.specs.Checks.{Checks, checked, not_checked}
use Rattle.mq_command_images.specs.Commands.{Dumps, Formats, Lists, SaysNothing, SaysOfImage, ShowsFile, dumped, formatted, is_image, listed, no_file, no_geometry, no_image, not_dumped, not_listed, not_saved, not_shown, shown, wants_memory}
use Rattle.mq_command_run.specs.Generates.{Generates, SavesUnder, generated}
use Rattle.mq_command_run.specs.Generates as generates
use Rattle.mq_command_images.specs.Recovers.{Recovers, RefusesRecovery, not_recovered, recovered, unsaved}
use Rattle.mq_command_images.specs.Recovers as recovers
use Rattle.mq_command_loose.specs.SaysOfLoose.{SaysOfLoose}
use Rattle.mq_command_loose.specs.SaysOfLoose as loose_says
use Rattle.mq_command_replicate.specs.Replicates.{Replicates}
use Rattle.mq_command_replicate.specs.Replicates as replicates
use Rattle.mq_command_run.specs.RunsScripts.{AreLoaded, RefusesRunning, RefusesScript, RefusesScripts, Runs, are_wanting, ran}
use Rattle.mq_command_run.specs.RunsScripts as runs
use Rattle.mq_command_images.specs.declared.formatting.Numbers.{Numbers}
use Rattle.mq_command_run.specs.declared.workload.Workload.{Workload}
use Rattle.mq_command_io.specs.Ending.{IsLoaded, IsNotLoaded, IsNotSaved, IsSaved, SaysOf, TakesWithin, load_failed, load_memory, load_too_long, loaded, not_loaded, save_failed, save_memory, wanting, HoldsTooMuch, TakesUpTo, KeepsOthers, SaysOnly, said}
use Rattle.mq_command_io.proofs.Ending.{same-others, keeps, keeps-but, saved-others}
use Rattle.std.specs.List.{Contains}
use Rattle.mq_image.specs.File.{DriveImage, image_bytes}
use Rattle.mq_run_laws.specs.declared.options.RunOptions.{RunOptions}
use Rattle.mq_loose_text.specs.Text as loose_text
use Rattle.mq_outside.specs.Outside.{FilesState, Held, Holds, OthersSame, Rose, put_name}
use Rattle.mq_script.specs.Scripts.{Script}
use Rattle.mq_block_text.specs.Refusals.{RefusesText}
use Rattle.mq_block_text.specs.declared.item.BlockItem.{BlockItem}
use Rattle.mq_block_text.specs.declared.refusal.BlockTextCause.{BlockTextCause}
use Rattle.mq_command_blocks.specs.Blocks.{refused_line}
use Rattle.mq_command_blocks.specs.Left.{SavesLeft, SavesTrace}
use Rattle.mq_command_blocks.specs.SaysOfBlocks.{SaysOfBlocks, printed, refused}
use Rattle.mq_command_blocks.specs.SaysOfBlocks as blocks_says
use Rattle.mq_tree.specs.Volume.{Path}
use Rattle.mq_cli.specs.Asked.{Asked, Words, asked_of, audit, blocks, cat, check, dump, format, gen, help, loose, ls, recover, replicate, run, version}
use Rattle.mq_cli.specs.declared.command.BlocksOptions.{BlocksOptions}
use Rattle.mq_cli.specs.declared.command.RunFlags.{RunFlags}
use Rattle.mqfs.specs.Program.{AreUnknown, AskText, IsStatus, IsToSay, loaded_by, loaded_names, no_command, no_memory, of_command, saved_by, saved_names, usage_line}
use Rattle.mqfs.specs.Says.{Says, asked_workload, numbers, run_options}

-- ---- names

keeps-along : (names : List (List ℕ)) (old mid new : Option Held) → KeepsOthers names old mid → KeepsOthers names mid new → KeepsOthers names old new
keeps-along names None None new before after = after
keeps-along names None (Some mid) new before after = absurd before
keeps-along names (Some old) None new before after = absurd before
keeps-along names (Some old) (Some mid) None before after = after
keeps-along names (Some old) (Some mid) (Some new) before after = λ other apart. after other apart ∙ before other apart

the-first : (name : List ℕ) (names : List (List ℕ)) → Contains (name ∷ names) name
the-first name names = (0, omega arith, refl)

the-last : (before : Option (List ℕ)) (name : List ℕ) → Contains (option_to_list before ++ name ∷ []) name
the-last None name = (0, omega arith, refl)
the-last (Some other) name = (1, omega arith, refl)

-- ---- what is told, with the names that are saved and loaded

pub record Told (saves loads : List (List ℕ)) (Usage Bad Ended : Type 0) (old new : FilesState) (status : ℕ) : Type 0 where
  pub is : IsStatus status
  pub names : KeepsOthers saves old.contents new.contents
  pub contents : (status ≡ 1) ⊎ ((status ≡ 2) ⊎ (status ≡ 3)) → new.contents ≡ old.contents
  pub faults : status ≢ 4 → new.faults ≡ old.faults
  pub fault : status ≡ 4 → Rose old.faults new.faults ⊎ HoldsTooMuch loads old new
  pub takes : status ≢ 4 → status ≢ 6 → TakesUpTo (length loads) old.taken new.taken
  pub usage : status ≡ 1 → Usage
  pub bad : status ≡ 2 → Bad
  pub ended : status ≡ 5 → Ended

-- no bytes were refused
abbrev Nothing : Type 0
Nothing = ⊥

not_low : (s : ℕ) → (s ≡ 0) ⊎ (4 ≤ s) → (s ≡ 1) ⊎ ((s ≡ 2) ⊎ (s ≡ 3)) → ⊥
not_low s (inl zero) (inl e) = omega (arith, zero, e)
not_low s (inl zero) (inr (inl e)) = omega (arith, zero, e)
not_low s (inl zero) (inr (inr e)) = omega (arith, zero, e)
not_low s (inr high) (inl e) = omega (arith, high, e)
not_low s (inr high) (inr (inl e)) = omega (arith, high, e)
not_low s (inr high) (inr (inr e)) = omega (arith, high, e)

within : (loads old new : ℕ) → new ≡ old → TakesUpTo loads old new
within loads old new same = (omega (arith, same), omega (arith, same))

-- one load, and so many others that took nothing
one-load : (rest : List (List ℕ)) (name : List ℕ) (old new : ℕ) → TakesWithin old new → TakesUpTo (length (name ∷ rest)) old new
one-load rest name old new takes = let low = takes.0 in let high = takes.1 in (low, omega (arith, low, high))

module _ (saves loads : List (List ℕ)) (old new : FilesState) where
  abbrev Tells : ℕ → Type 0
  Tells status = Told saves loads Nothing Nothing Nothing old new status

  -- nothing failed
  made : KeepsOthers saves old.contents new.contents → new.faults ≡ old.faults → TakesUpTo (length loads) old.taken new.taken → Tells 0
  made names faults takes = record { is = inl refl; names = names; contents = λ e. absurd (not_low 0 (inl refl) e); faults = λ _. faults; fault = λ e. absurd (omega (arith, e)); takes = λ _ _. takes; usage = λ e. absurd (omega (arith, e)); bad = λ e. absurd (omega (arith, e)); ended = λ e. absurd (omega (arith, e)) }

  -- nothing failed, and no name changed
  done : new.contents ≡ old.contents → new.faults ≡ old.faults → TakesUpTo (length loads) old.taken new.taken → Tells 0
  done same faults takes = made (keeps saves old new same) faults takes

  image : new.contents ≡ old.contents → new.faults ≡ old.faults → TakesUpTo (length loads) old.taken new.taken → Tells 3
  image same faults takes = record { is = inr (inr (inr (inl refl))); names = keeps saves old new same; contents = λ _. same; faults = λ _. faults; fault = λ e. absurd (omega (arith, e)); takes = λ _ _. takes; usage = λ e. absurd (omega (arith, e)); bad = λ e. absurd (omega (arith, e)); ended = λ e. absurd (omega (arith, e)) }

  memory : KeepsOthers saves old.contents new.contents → new.faults ≡ old.faults → Tells 6
  memory names faults = record { is = inr (inr (inr (inr (inr (inr refl))))); names = names; contents = λ e. absurd (not_low 6 (inr (omega arith)) e); faults = λ _. faults; fault = λ e. absurd (omega (arith, e)); takes = λ _ n. absurd (n refl); usage = λ e. absurd (omega (arith, e)); bad = λ e. absurd (omega (arith, e)); ended = λ e. absurd (omega (arith, e)) }

  failed : KeepsOthers saves old.contents new.contents → Rose old.faults new.faults ⊎ HoldsTooMuch loads old new → Tells 4
  failed names fault = record { is = inr (inr (inr (inr (inl refl)))); names = names; contents = λ e. absurd (not_low 4 (inr (omega arith)) e); faults = λ n. absurd (n refl); fault = λ _. fault; takes = λ n _. absurd (n refl); usage = λ e. absurd (omega (arith, e)); bad = λ e. absurd (omega (arith, e)); ended = λ e. absurd (omega (arith, e)) }

told_not_loaded : (saves rest : List (List ℕ)) (name : List ℕ) (old new : FilesState) (status : ℕ) (text : List ℕ) → IsNotLoaded name old new status text → Told saves (name ∷ rest) Nothing Nothing Nothing old new status
told_not_loaded saves rest name old new _ _ (load_failed same rose tried) = failed saves (name ∷ rest) old new (keeps saves old new same) (inl rose)
told_not_loaded saves rest name old new _ _ (load_too_long same over faults takes tried) = failed saves (name ∷ rest) old new (keeps saves old new same) (inr (inl (over, takes)))
told_not_loaded saves rest name old new _ _ (load_memory same faults tried) = memory saves (name ∷ rest) old new (keeps saves old new same) faults

-- ---- the commands on images

told_image : (Of : List ℕ → ℕ → List ℕ → Type 0) → ((bytes : List ℕ) (status : ℕ) (text : List ℕ) → Of bytes status text → (status ≡ 0) ⊎ (status ≡ 3))
    → (saves rest : List (List ℕ)) (name : List ℕ) (old new : FilesState) (status : ℕ) (text : List ℕ) → SaysOf Of name old new status text → Told saves (name ∷ rest) Nothing Nothing Nothing old new status
told_image Of each saves rest name old new status text (loaded bytes load of) = elim (each bytes status text of) [
  | inl zero ↦ subst (Told saves (name ∷ rest) Nothing Nothing Nothing old new) (sym zero) (done saves (name ∷ rest) old new load.contents load.faults (one-load rest name old.taken new.taken load.takes))
  | inr three ↦ subst (Told saves (name ∷ rest) Nothing Nothing Nothing old new) (sym three) (image saves (name ∷ rest) old new load.contents load.faults (one-load rest name old.taken new.taken load.takes))
]
told_image Of each saves rest name old new status text (not_loaded not) = told_not_loaded saves rest name old new status text not
told_image Of each saves rest name old new status text (wanting bytes load six line) = subst (Told saves (name ∷ rest) Nothing Nothing Nothing old new) (sym six) (memory saves (name ∷ rest) old new (keeps saves old new load.contents) load.faults)

pub statuses : (Of : DriveImage → ℕ → List ℕ → Type 0) → ((x : DriveImage) (status : ℕ) (text : List ℕ) → Of x status text → (status ≡ 0) ⊎ (status ≡ 3))
    → (bytes : List ℕ) (status : ℕ) (text : List ℕ) → SaysOfImage Of bytes status text → (status ≡ 0) ⊎ (status ≡ 3)
statuses Of each bytes status text (is_image x read of) = each x status text of
statuses Of each bytes _ _ (no_image e has) = inr refl

pub lists : (x : DriveImage) (status : ℕ) (text : List ℕ) → Lists x status text → (status ≡ 0) ⊎ (status ≡ 3)
lists x _ _ (listed v for) = inl refl
lists x _ _ (not_listed e refuses other) = inr refl

pub shows : (path : Path) (x : DriveImage) (status : ℕ) (text : List ℕ) → ShowsFile path x status text → (status ≡ 0) ⊎ (status ≡ 3)
shows path x _ _ (shown v bytes for reads) = inl refl
shows path x _ _ (no_file v fault for reads) = inr refl
shows path x _ _ (not_shown e refuses other) = inr refl

pub dumps : (x : DriveImage) (status : ℕ) (text : List ℕ) → Dumps x status text → (status ≡ 0) ⊎ (status ≡ 3)
dumps x _ _ (dumped text is) = inl refl
dumps x _ _ (not_dumped e refuses) = inr refl

pub checks : (x : DriveImage) (status : ℕ) (text : List ℕ) → Checks x status text → (status ≡ 0) ⊎ (status ≡ 3)
checks x _ _ (checked stored verdict stands judges) = inl refl
checks x _ _ (not_checked e refuses) = inr refl

-- ---- `format`

told_not_saved : (saves loads : List (List ℕ)) (name : List ℕ) → Contains saves name → (old mid new : FilesState) (status : ℕ) (text : List ℕ) → KeepsOthers saves old.contents mid.contents → mid.faults ≡ old.faults → IsNotSaved name mid new status text → Told saves loads Nothing Nothing Nothing old new status
told_not_saved saves loads name one old mid new _ _ kept before (save_failed other rose taken tried) =
    failed saves loads old new (keeps-along saves old.contents mid.contents new.contents kept (keeps-but saves name one mid.contents new.contents other)) (inl (subst (λ (n : ℕ). Rose n new.faults) before rose))
told_not_saved saves loads name one old mid new _ _ kept before (save_memory same faults taken tried) =
    memory saves loads old new (keeps-along saves old.contents mid.contents new.contents kept (keeps saves mid new same)) (faults ∙ before)

told_saved : (saves loads : List (List ℕ)) (name bytes : List ℕ) → Contains saves name → (old mid new : FilesState) → KeepsOthers saves old.contents mid.contents → mid.faults ≡ old.faults → TakesUpTo (length loads) old.taken mid.taken → IsSaved name bytes mid new → Told saves loads Nothing Nothing Nothing old new 0
told_saved saves loads name bytes one old mid new kept before takes save =
    made saves loads old new (keeps-along saves old.contents mid.contents new.contents kept (keeps-but saves name one mid.contents new.contents (saved-others name bytes mid new save))) (save.faults ∙ before)
    (subst (λ (n : ℕ). TakesUpTo (length loads) old.taken n) (sym save.taken) takes)

taken-same : (loads : ℕ) (old new : FilesState) → new ≡ old → TakesUpTo loads old.taken new.taken
taken-same loads old new same = within loads old.taken new.taken (ap (λ (f : FilesState). f.taken) same)

told_format : (n : Numbers) (name : List ℕ) (old new : FilesState) (status : ℕ) (text : List ℕ) → Formats n name old new status text → Told (name ∷ []) [] Nothing Nothing Nothing old new status
told_format n name old new _ _ (formatted g x are empty save) =
    told_saved (name ∷ []) [] name _ (the-first name []) old old new (same-others (name ∷ []) old.contents) refl (within 0 old.taken old.taken refl) save
told_format n name old new _ _ (no_geometry e refuses same) = image (name ∷ []) [] old new (ap (λ (f : FilesState). f.contents) same) (ap (λ (f : FilesState). f.faults) same) (taken-same 0 old new same)
told_format n name old new status text (not_saved not) = told_not_saved (name ∷ []) [] name (the-first name []) old old new status text (same-others (name ∷ []) old.contents) refl not
told_format n name old new _ _ (wants_memory same) = memory (name ∷ []) [] old new (keeps (name ∷ []) old new (ap (λ (f : FilesState). f.contents) same)) (ap (λ (f : FilesState). f.faults) same)

-- ---- `gen`

told_under : (save : Option (List ℕ)) (file : List ℕ) (old new : FilesState) → SavesUnder save file old new → Told (option_to_list save) [] Nothing Nothing Nothing old new 0
told_under None file old new same = done [] [] old new (ap (λ (f : FilesState). f.contents) same) (ap (λ (f : FilesState). f.faults) same) (taken-same 0 old new same)
told_under (Some name) file old new save =
    told_saved (name ∷ []) [] name file (the-first name []) old old new (same-others (name ∷ []) old.contents) refl (within 0 old.taken old.taken refl) save

told_gen : (w : Workload) (save : Option (List ℕ)) (old new : FilesState) (status : ℕ) (text : List ℕ) → Generates w save old new status text → Told (option_to_list save) [] Nothing Nothing Nothing old new status
told_gen w save old new _ _ (generated made is saves) = told_under save made.file.items old new saves
told_gen w save old new status text (generates.not_saved name made asks is not) =
    subst (λ (o : Option (List ℕ)). Told (option_to_list o) [] Nothing Nothing Nothing old new status) (sym asks)
    (told_not_saved (name ∷ []) [] name (the-first name []) old old new status text (same-others (name ∷ []) old.contents) refl not)
told_gen w save old new _ _ (generates.wants_memory same) =
    memory (option_to_list save) [] old new (keeps (option_to_list save) old new (ap (λ (f : FilesState). f.contents) same)) (ap (λ (f : FilesState). f.faults) same)

-- ---- `recover`

unrecovered : (x : DriveImage) (status : ℕ) (text : List ℕ) → RefusesRecovery x status text → (status ≡ 0) ⊎ (status ≡ 3)
unrecovered x _ _ (not_recovered e unread) = inr refl

told_recover : (cut : Option ℕ) (pick : ℕ) (name : List ℕ) (old new : FilesState) (status : ℕ) (text : List ℕ) → Recovers cut pick name old new status text → Told (name ∷ []) (name ∷ []) Nothing Nothing Nothing old new status
told_recover cut pick name old new _ _ (recovered bytes x r mid load read by save) =
    told_saved (name ∷ []) (name ∷ []) name _ (the-first name []) old mid new (keeps (name ∷ []) old mid load.contents) load.faults (one-load [] name old.taken mid.taken load.takes) save
told_recover cut pick name old new status text (recovers.refused says) = told_image (SaysOfImage RefusesRecovery) (statuses RefusesRecovery unrecovered) (name ∷ []) [] name old new status text says
told_recover cut pick name old new status text (unsaved bytes mid load not) =
    told_not_saved (name ∷ []) (name ∷ []) name (the-first name []) old mid new status text (keeps (name ∷ []) old mid load.contents) load.faults not

-- ---- `blocks`

-- the file holds bytes that are refused, and this is their line
abbrev pub BadText : (file : List ℕ) → (old : FilesState) → (text : List ℕ) → Type 0
BadText file old text = (bytes : List ℕ) × (line : ℕ) × (cause : BlockTextCause) × Holds old.contents file bytes × RefusesText bytes line cause × (text ≡ refused_line line cause)

-- none is refused at these statuses
weaker : (saves loads : List (List ℕ)) (Bad Ended : Type 0) (old new : FilesState) (status : ℕ) → Told saves loads Nothing Nothing Nothing old new status → Told saves loads Nothing Bad Ended old new status
weaker saves loads Bad Ended old new status t = record { is = t.is; names = t.names; contents = t.contents; faults = t.faults; fault = t.fault; takes = t.takes; usage = t.usage; bad = λ e. absurd (t.bad e); ended = λ e. absurd (t.ended e) }

-- a file was loaded, and its bytes were refused
told_bad : (saves : List (List ℕ)) (file bytes : List ℕ) (Bad : Type 0) (old new : FilesState) → IsLoaded file bytes old new → Bad → Told saves (file ∷ []) Nothing Bad Nothing old new 2
told_bad saves file bytes Bad old new load bad = record {
  is = inr (inr (inl refl));
  names = keeps saves old new load.contents;
  contents = λ _. load.contents;
  faults = λ _. load.faults;
  fault = λ e. absurd (omega (arith, e));
  takes = λ _ _. one-load [] file old.taken new.taken load.takes;
  usage = λ e. absurd (omega (arith, e));
  bad = λ _. bad;
  ended = λ e. absurd (omega (arith, e));
}

-- the names under which an image and a trace are saved
abbrev both : (save trace : Option (List ℕ)) → List (List ℕ)
both save trace = option_to_list save ++ option_to_list trace

-- what is told once the file was loaded, and the image saved
pub record ToldLeft (saves : List (List ℕ)) (old new : FilesState) : Type 0 where
  pub names : KeepsOthers saves old.contents new.contents
  pub faults : new.faults ≡ old.faults
  pub takes : TakesUpTo 1 old.taken new.taken

told_left : (save trace : Option (List ℕ)) (file bytes : List ℕ) (x : DriveImage) (old mid new : FilesState) → IsLoaded file bytes old mid → SavesLeft save x mid new → ToldLeft (both save trace) old new
told_left None trace file bytes x old mid new load same = record {
  names = keeps (option_to_list trace) old new (ap (λ (f : FilesState). f.contents) same ∙ load.contents);
  faults = ap (λ (f : FilesState). f.faults) same ∙ load.faults;
  takes = subst (λ (f : FilesState). TakesUpTo 1 old.taken f.taken) (sym same) (one-load [] file old.taken mid.taken load.takes);
}
told_left (Some name) trace file bytes x old mid new load save = (
    let names = name ∷ option_to_list trace in
    record {
      names = keeps-along names old.contents mid.contents new.contents (keeps names old mid load.contents) (keeps-but names name (the-first name (option_to_list trace)) mid.contents new.contents (saved-others name (image_bytes x) mid new save));
      faults = save.faults ∙ load.faults;
      takes = subst (λ (n : ℕ). TakesUpTo 1 old.taken n) (sym save.taken) (one-load [] file old.taken mid.taken load.takes);
    }
    )

told_traced : (save trace : Option (List ℕ)) (file : List ℕ) (lines : List (List BlockItem)) (cut : Option ℕ) (old mid new : FilesState) → ToldLeft (both save trace) old mid → SavesTrace trace lines cut mid new → Told (both save trace) (file ∷ []) Nothing Nothing Nothing old new 0
told_traced save None file lines cut old mid new left same =
    subst (λ (f : FilesState). Told (both save None) (file ∷ []) Nothing Nothing Nothing old f 0) (sym same) (made (both save None) (file ∷ []) old mid left.names left.faults left.takes)
told_traced save (Some name) file lines cut old mid new left save_trace =
    told_saved (both save (Some name)) (file ∷ []) name save_trace.0 (the-last save name) old mid new left.names left.faults left.takes save_trace.2

told_blocks : (file : List ℕ) (options : BlocksOptions) (save trace : Option (List ℕ)) (old new : FilesState) (status : ℕ) (text : List ℕ) → SaysOfBlocks file options save trace old new status text → Told (both save trace) (file ∷ []) Nothing (BadText file old text) Nothing old new status
told_blocks file options save trace old new _ _ (printed bytes lines p x mid kept load is at by saves traces) =
    weaker (both save trace) (file ∷ []) _ _ old new 0 (told_traced save trace file lines options.cut old kept new (told_left save trace file bytes x old mid kept load saves) traces)
told_blocks file options save trace old new _ _ (refused bytes line cause load refuses) = told_bad (both save trace) file bytes _ old new load (bytes, line, cause, load.holds, refuses, refl)
told_blocks file options save trace old new status text (blocks_says.not_loaded not) = weaker (both save trace) (file ∷ []) _ _ old new status (told_not_loaded (both save trace) [] file old new status text not)
told_blocks file options save trace old new status text (blocks_says.not_saved bytes lines name mid asks load is not) =
    weaker (both save trace) (file ∷ []) _ _ old new status
    (subst (λ (o : Option (List ℕ)). Told (both o trace) (file ∷ []) Nothing Nothing Nothing old new status) (sym asks)
    (told_not_saved (both (Some name) trace) (file ∷ []) name (the-first name (option_to_list trace)) old mid new status text (keeps (both (Some name) trace) old mid load.contents) load.faults not))
told_blocks file options save trace old new status text (blocks_says.trace_not_saved bytes lines name p x mid kept asks load is at by saves not) =
    let left = told_left save (Some name) file bytes x old mid kept load saves in
    weaker (both save trace) (file ∷ []) _ _ old new status
    (subst (λ (o : Option (List ℕ)). Told (both save o) (file ∷ []) Nothing Nothing Nothing old new status) (sym asks)
    (told_not_saved (both save (Some name)) (file ∷ []) name (the-last save name) old kept new status text left.names left.faults not))
told_blocks file options save trace old new _ _ (blocks_says.wants_memory bytes load) = weaker (both save trace) (file ∷ []) _ _ old new 6 (memory (both save trace) (file ∷ []) old new (keeps (both save trace) old new load.contents) load.faults)

-- ---- `replicate`

told_image_left : (save : Option (List ℕ)) (file bytes : List ℕ) (x : DriveImage) (old mid new : FilesState) → IsLoaded file bytes old mid → SavesLeft save x mid new → Told (option_to_list save) (file ∷ []) Nothing Nothing Nothing old new 0
told_image_left None file bytes x old mid new load same =
    subst (λ (f : FilesState). Told [] (file ∷ []) Nothing Nothing Nothing old f 0) (sym same) (done [] (file ∷ []) old mid load.contents load.faults (one-load [] file old.taken mid.taken load.takes))
told_image_left (Some name) file bytes x old mid new load save =
    told_saved (name ∷ []) (file ∷ []) name (image_bytes x) (the-first name []) old mid new (keeps (name ∷ []) old mid load.contents) load.faults (one-load [] file old.taken mid.taken load.takes) save

told_replicate : (file : List ℕ) (save : Option (List ℕ)) (old new : FilesState) (status : ℕ) (text : List ℕ) → Replicates file save old new status text → Told (option_to_list save) (file ∷ []) Nothing (BadText file old text) Nothing old new status
told_replicate file save old new _ _ (replicates.printed bytes lines x mid load is of saves) = weaker (option_to_list save) (file ∷ []) _ _ old new 0 (told_image_left save file bytes x old mid new load saves)
told_replicate file save old new _ _ (replicates.refused bytes line cause load refuses) = told_bad (option_to_list save) file bytes _ old new load (bytes, line, cause, load.holds, refuses, refl)
told_replicate file save old new status text (replicates.not_loaded not) = weaker (option_to_list save) (file ∷ []) _ _ old new status (told_not_loaded (option_to_list save) [] file old new status text not)
told_replicate file save old new status text (replicates.not_saved bytes lines name mid asks load is not) =
    weaker (option_to_list save) (file ∷ []) _ _ old new status
    (subst (λ (o : Option (List ℕ)). Told (option_to_list o) (file ∷ []) Nothing Nothing Nothing old new status) (sym asks)
    (told_not_saved (name ∷ []) (file ∷ []) name (the-first name []) old mid new status text (keeps (name ∷ []) old mid load.contents) load.faults not))
told_replicate file save old new _ _ (replicates.wants_memory bytes load) = weaker (option_to_list save) (file ∷ []) _ _ old new 6 (memory (option_to_list save) (file ∷ []) old new (keeps (option_to_list save) old new load.contents) load.faults)

-- ---- `loose`

-- the file holds bytes that are refused, and this is their line
abbrev pub BadLoose : (file : List ℕ) → (old : FilesState) → (text : List ℕ) → Type 0
BadLoose file old text = (bytes : List ℕ) × (line : ℕ) × Holds old.contents file bytes × loose_text.RefusesText bytes line × (text ≡ loose_text.refused_line line)

told_loose : (file : List ℕ) (cut : Option ℕ) (save : Option (List ℕ)) (old new : FilesState) (status : ℕ) (text : List ℕ) → SaysOfLoose file cut save old new status text → Told (option_to_list save) (file ∷ []) Nothing (BadLoose file old text) Nothing old new status
told_loose file cut save old new _ _ (loose_says.printed bytes lines set x mid load is set_in left saves) = weaker (option_to_list save) (file ∷ []) _ _ old new 0 (told_image_left save file bytes x old mid new load saves)
told_loose file cut save old new _ _ (loose_says.refused bytes line load refuses) = told_bad (option_to_list save) file bytes _ old new load (bytes, line, load.holds, refuses, refl)
told_loose file cut save old new status text (loose_says.not_loaded not) = weaker (option_to_list save) (file ∷ []) _ _ old new status (told_not_loaded (option_to_list save) [] file old new status text not)
told_loose file cut save old new status text (loose_says.not_saved bytes lines name mid asks load is not) =
    weaker (option_to_list save) (file ∷ []) _ _ old new status
    (subst (λ (o : Option (List ℕ)). Told (option_to_list o) (file ∷ []) Nothing Nothing Nothing old new status) (sym asks)
    (told_not_saved (name ∷ []) (file ∷ []) name (the-first name []) old mid new status text (keeps (name ∷ []) old mid load.contents) load.faults not))
told_loose file cut save old new _ _ (loose_says.wants_memory bytes load) = weaker (option_to_list save) (file ∷ []) _ _ old new 6 (memory (option_to_list save) (file ∷ []) old new (keeps (option_to_list save) old new load.contents) load.faults)

-- ---- `audit`

-- a line of what the file holds is not in its form, and this is its line
abbrev pub BadTrace : (trace : List ℕ) → (old : FilesState) → (text : List ℕ) → Type 0
BadTrace trace old text = (bytes : List ℕ) × (line : ℕ) × Holds old.contents trace bytes × IsMisread bytes line × (text ≡ misread_line line)

told_audited : (trace bytes : List ℕ) (old new : FilesState) (status : ℕ) (text : List ℕ) → IsLoaded trace bytes old new → Audits bytes status text → Told [] (trace ∷ []) Nothing (BadTrace trace old text) Nothing old new status
told_audited trace bytes old new _ _ load (audits.accepts t drawn finished waiting least greatest is allowed sums) =
    weaker [] (trace ∷ []) _ _ old new 0 (done [] (trace ∷ []) old new load.contents load.faults (one-load [] trace old.taken new.taken load.takes))
told_audited trace bytes old new _ _ load (audits.refuses t index is at) =
    weaker [] (trace ∷ []) _ _ old new 0 (done [] (trace ∷ []) old new load.contents load.faults (one-load [] trace old.taken new.taken load.takes))
told_audited trace bytes old new _ _ load (audits.misreads line is) = told_bad [] trace bytes _ old new load (bytes, line, load.holds, is, refl)

told_audit : (trace : List ℕ) (old new : FilesState) (status : ℕ) (text : List ℕ) → SaysOf Audits trace old new status text → Told [] (trace ∷ []) Nothing (BadTrace trace old text) Nothing old new status
told_audit trace old new status text (loaded bytes load of) = told_audited trace bytes old new status text load of
told_audit trace old new status text (not_loaded not) = weaker [] (trace ∷ []) _ _ old new status (told_not_loaded [] [] trace old new status text not)
told_audit trace old new status text (wanting bytes load six line) =
    weaker [] (trace ∷ []) _ _ old new status (subst (Told [] (trace ∷ []) Nothing Nothing Nothing old new) (sym six) (memory [] (trace ∷ []) old new (keeps [] old new load.contents) load.faults))

-- ---- `run`

-- scripts that were loaded changed no name
pub record ToldLoaded (loads : ℕ) (old new : FilesState) : Type 0 where
  pub contents : new.contents ≡ old.contents
  pub faults : new.faults ≡ old.faults
  pub takes : TakesUpTo loads old.taken new.taken

after-load : (loads : ℕ) (name bytes : List ℕ) (old mid new : FilesState) → IsLoaded name bytes old mid → ToldLoaded loads mid new → ToldLoaded (suc loads) old new
after-load loads name bytes old mid new load t =
    let a = load.takes.0 in
    let b = load.takes.1 in
    let c = t.takes.0 in
    let d = t.takes.1 in
    record { contents = t.contents ∙ load.contents; faults = t.faults ∙ load.faults; takes = (omega (arith, a, c), omega (arith, b, d)) }

told_loaded : (names : List (List ℕ)) (scripts : List Script) (old new : FilesState) → AreLoaded names scripts old new → ToldLoaded (length names) old new
told_loaded [] [] old new were = record { contents = ap (λ (f : FilesState). f.contents) were; faults = ap (λ (f : FilesState). f.faults) were; takes = taken-same 0 old new were }
told_loaded [] (s ∷ scripts) old new were = absurd were
told_loaded (name ∷ names) [] old new were = absurd were
told_loaded (name ∷ names) (s ∷ scripts) old new were = after-load (length names) name were.0 old were.1 new were.2 (told_loaded names scripts were.1 new were.4)

-- what is told where no name changed: by a status of scripts or of their run
pub record ToldRefused (loads : List (List ℕ)) (old new : FilesState) (status : ℕ) : Type 0 where
  pub is : (status ≡ 2) ⊎ ((status ≡ 3) ⊎ ((status ≡ 4) ⊎ (status ≡ 6)))
  pub contents : new.contents ≡ old.contents
  pub faults : status ≢ 4 → new.faults ≡ old.faults
  pub fault : status ≡ 4 → Rose old.faults new.faults ⊎ HoldsTooMuch loads old new
  pub takes : status ≢ 4 → status ≢ 6 → TakesUpTo (length loads) old.taken new.taken

script_unloaded : (rest : List (List ℕ)) (name : List ℕ) (old new : FilesState) (status : ℕ) (text : List ℕ) → IsNotLoaded name old new status text → ToldRefused (name ∷ rest) old new status
script_unloaded rest name old new _ _ (load_failed same rose tried) = record { is = inr (inr (inl refl)); contents = same; faults = λ n. absurd (n refl); fault = λ _. inl rose; takes = λ n _. absurd (n refl) }
script_unloaded rest name old new _ _ (load_too_long same over faults takes tried) = record { is = inr (inr (inl refl)); contents = same; faults = λ n. absurd (n refl); fault = λ _. inr (inl (over, takes)); takes = λ n _. absurd (n refl) }
script_unloaded rest name old new _ _ (load_memory same faults tried) = record { is = inr (inr (inr refl)); contents = same; faults = λ _. faults; fault = λ e. absurd (omega (arith, e)); takes = λ _ n. absurd (n refl) }

script_refused : (rest : List (List ℕ)) (name : List ℕ) (old new : FilesState) (status : ℕ) (text : List ℕ) → RefusesScript name old new status text → ToldRefused (name ∷ rest) old new status
script_refused rest name old new status text (runs.not_loaded not) = script_unloaded rest name old new status text not
script_refused rest name old new _ _ (runs.refused bytes at load bad) = record { is = inl refl; contents = load.contents; faults = λ _. load.faults; fault = λ e. absurd (omega (arith, e)); takes = λ _ _. one-load rest name old.taken new.taken load.takes }
script_refused rest name old new _ _ (runs.RefusesScript.wanting bytes load) = record { is = inr (inr (inr refl)); contents = load.contents; faults = λ _. load.faults; fault = λ e. absurd (omega (arith, e)); takes = λ _ n. absurd (n refl) }

-- the same after one more name was loaded
later-refused : (loads : List (List ℕ)) (name bytes : List ℕ) (old mid new : FilesState) (status : ℕ) → IsLoaded name bytes old mid → ToldRefused loads mid new status → ToldRefused (name ∷ loads) old new status
later-refused loads name bytes old mid new status load t = record {
  is = t.is;
  contents = t.contents ∙ load.contents;
  faults = λ n. t.faults n ∙ load.faults;
  fault = λ four. rose-along (t.fault four);
  takes = λ four six. (
      let a = load.takes.0 in
      let b = load.takes.1 in
      let c = (t.takes four six).0 in
      let d = (t.takes four six).1 in
      (omega (arith, a, c), omega (arith, b, d))
      );
}
  where
    rose-along : Rose mid.faults new.faults ⊎ HoldsTooMuch loads mid new → Rose old.faults new.faults ⊎ HoldsTooMuch (name ∷ loads) old new
    rose-along (inl rose) = inl (subst (λ (n : ℕ). Rose n new.faults) load.faults rose)
    rose-along (inr much) = inr (inr (bytes, mid, load, much))

scripts_refused : (names : List (List ℕ)) (old new : FilesState) (status : ℕ) (text : List ℕ) → RefusesScripts names old new status text → ToldRefused names old new status
scripts_refused [] old new status text refuses = absurd refuses
scripts_refused (name ∷ names) old new status text (inl refuses) = script_refused names name old new status text refuses
scripts_refused (name ∷ names) old new status text (inr later) = later-refused names name later.0 old later.2 new status later.3 (scripts_refused names later.2 new status text later.5)

-- the scripts are loaded, and not run
running_refused : (x : DriveImage) (scripts : List Script) (names : List (List ℕ)) (old new : FilesState) (status : ℕ) (text : List ℕ) → ToldLoaded (length names) old new → RefusesRunning x scripts status text → ToldRefused names old new status
running_refused x scripts names old new _ _ t (runs.too_many more) = record { is = inl refl; contents = t.contents; faults = λ _. t.faults; fault = λ e. absurd (omega (arith, e)); takes = λ _ _. t.takes }
running_refused x scripts names old new _ _ t (runs.not_run e few refuses other) = record { is = inr (inl refl); contents = t.contents; faults = λ _. t.faults; fault = λ e. absurd (omega (arith, e)); takes = λ _ _. t.takes }
running_refused x scripts names old new _ _ t runs.RefusesRunning.wanting = record { is = inr (inr (inr refl)); contents = t.contents; faults = λ _. t.faults; fault = λ e. absurd (omega (arith, e)); takes = λ _ n. absurd (n refl) }

module _ (o : RunOptions) (name : List ℕ) (names : List (List ℕ)) (old new : FilesState) (status : ℕ) (text : List ℕ) (says : Runs o name names old new status text) where
  abbrev TellsRun : Type 0
  TellsRun = Told (name ∷ []) (name ∷ names) Nothing (Runs o name names old new 2 text) (Runs o name names old new 5 text) old new status

  as-bad : status ≡ 2 → Runs o name names old new 2 text
  as-bad two = subst (λ (s : ℕ). Runs o name names old new s text) two says

  as-ended : status ≡ 5 → Runs o name names old new 5 text
  as-ended five = subst (λ (s : ℕ). Runs o name names old new s text) five says

  is-status : (status ≡ 2) ⊎ ((status ≡ 3) ⊎ ((status ≡ 4) ⊎ (status ≡ 6))) → IsStatus status
  is-status (inl two) = inr (inr (inl two))
  is-status (inr (inl three)) = inr (inr (inr (inl three)))
  is-status (inr (inr (inl four))) = inr (inr (inr (inr (inl four))))
  is-status (inr (inr (inr six))) = inr (inr (inr (inr (inr (inr six)))))

  not-one : (status ≡ 2) ⊎ ((status ≡ 3) ⊎ ((status ≡ 4) ⊎ (status ≡ 6))) → status ≡ 1 → ⊥
  not-one (inl two) one = omega (arith, two, one)
  not-one (inr (inl three)) one = omega (arith, three, one)
  not-one (inr (inr (inl four))) one = omega (arith, four, one)
  not-one (inr (inr (inr six))) one = omega (arith, six, one)

  not-run : ToldRefused (name ∷ names) old new status → TellsRun
  not-run t = record {
    is = is-status t.is;
    names = keeps (name ∷ []) old new t.contents;
    contents = λ _. t.contents;
    faults = t.faults;
    fault = t.fault;
    takes = t.takes;
    usage = λ one. absurd (not-one t.is one);
    bad = as-bad;
    ended = as-ended;
  }

  was-run : (bytes : List ℕ) (mid : FilesState) → (status ≡ 0) ⊎ ((status ≡ 5) ⊎ (status ≡ 6)) → ToldLoaded (length (name ∷ names)) old mid → IsSaved name bytes mid new → TellsRun
  was-run bytes mid is t save = record {
    is = run-status is;
    names = keeps-along (name ∷ []) old.contents mid.contents new.contents (keeps (name ∷ []) old mid t.contents) (keeps-but (name ∷ []) name (the-first name []) mid.contents new.contents (saved-others name bytes mid new save));
    contents = λ low. absurd (not-refused is low);
    faults = λ _. save.faults ∙ t.faults;
    fault = λ four. absurd (not-four is four);
    takes = λ _ _. subst (λ (n : ℕ). TakesUpTo (length (name ∷ names)) old.taken n) (sym save.taken) t.takes;
    usage = λ one. absurd (not-refused is (inl one));
    bad = as-bad;
    ended = as-ended;
  }
    where
      run-status : (status ≡ 0) ⊎ ((status ≡ 5) ⊎ (status ≡ 6)) → IsStatus status
      run-status (inl zero) = inl zero
      run-status (inr (inl five)) = inr (inr (inr (inr (inr (inl five)))))
      run-status (inr (inr six)) = inr (inr (inr (inr (inr (inr six)))))

      not-refused : (status ≡ 0) ⊎ ((status ≡ 5) ⊎ (status ≡ 6)) → (status ≡ 1) ⊎ ((status ≡ 2) ⊎ (status ≡ 3)) → ⊥
      not-refused (inl zero) low = not_low status (inl zero) low
      not-refused (inr (inl five)) low = not_low status (inr (omega (arith, five))) low
      not-refused (inr (inr six)) low = not_low status (inr (omega (arith, six))) low

      not-four : (status ≡ 0) ⊎ ((status ≡ 5) ⊎ (status ≡ 6)) → status ≡ 4 → ⊥
      not-four (inl zero) four = omega (arith, zero, four)
      not-four (inr (inl five)) four = omega (arith, five, four)
      not-four (inr (inr six)) four = omega (arith, six, four)

-- the status of a run, by whether memory ran out and by whether a command failed
abbrev code-of : (memory fails : Bool) → ℕ
code-of memory fails = cond memory 6 (cond fails 5 0)

statuses-of-run : (memory fails : Bool) → (code-of memory fails ≡ 0) ⊎ ((code-of memory fails ≡ 5) ⊎ (code-of memory fails ≡ 6))
statuses-of-run true fails = inr (inr refl)
statuses-of-run false true = inr (inl refl)
statuses-of-run false false = inl refl

no-image-status : (x : DriveImage) (status : ℕ) (text : List ℕ) → SaysNothing x status text → (status ≡ 0) ⊎ (status ≡ 3)
no-image-status x status text nothing = absurd nothing

told_run : (o : RunOptions) (name : List ℕ) (names : List (List ℕ)) (old new : FilesState) (status : ℕ) (text : List ℕ) → Runs o name names old new status text → Told (name ∷ []) (name ∷ names) Nothing (Runs o name names old new 2 text) (Runs o name names old new 5 text) old new status
told_run o name names old new _ _ (ran bytes x scripts r mid read load is were few of keeps reported save) =
    was-run o name names old new _ _ (ran bytes x scripts r mid read load is were few of keeps reported save) (image_bytes r.image) read (statuses-of-run (are_wanting r.answers.items) r.failed)
    (after-load (length names) name bytes old mid read load (told_loaded names scripts mid read were)) save
told_run o name names old new status text (runs.no_image says) =
    weaker (name ∷ []) (name ∷ names) _ _ old new status (told_image (SaysOfImage SaysNothing) (statuses SaysNothing no-image-status) (name ∷ []) names name old new status text says)
told_run o name names old new status text (runs.no_scripts bytes x mid load is refuses) =
    not-run o name names old new status text (runs.no_scripts bytes x mid load is refuses) (later-refused names name bytes old mid new status load (scripts_refused names mid new status text refuses))
told_run o name names old new status text (runs.no_run bytes x scripts mid load is were refuses) =
    not-run o name names old new status text (runs.no_run bytes x scripts mid load is were refuses)
    (later-refused names name bytes old mid new status load (running_refused x scripts names mid new status text (told_loaded names scripts mid new were) refuses))
told_run o name names old new status text (runs.unsaved bytes x scripts r mid read load is were few of promise not) =
    let t = after-load (length names) name bytes old mid read load (told_loaded names scripts mid read were) in
    weaker (name ∷ []) (name ∷ names) _ _ old new status (told_not_saved (name ∷ []) (name ∷ names) name (the-first name []) old read new status text (keeps (name ∷ []) old read t.contents) t.faults not)

-- ---- all commands

told_only : (line : List ℕ) (old new : FilesState) (status : ℕ) (text : List ℕ) → SaysOnly line old new status text → Told [] [] Nothing Nothing Nothing old new status
told_only line old new _ _ (said same) = done [] [] old new (ap (λ (f : FilesState). f.contents) same) (ap (λ (f : FilesState). f.faults) same) (taken-same 0 old new same)

abbrev BadOf : Asked → (old new : FilesState) → (text : List ℕ) → Type 0
BadOf (blocks file options save trace) old new text = BadText file old text
BadOf (format image queues area meta zone) old new text = Nothing
BadOf (run image scripts options) old new text = Runs (run_options options) image scripts old new 2 text
BadOf (recover image cut pick) old new text = Nothing
BadOf (ls image) old new text = Nothing
BadOf (cat image path) old new text = Nothing
BadOf (gen seed threads groups save) old new text = Nothing
BadOf (dump image) old new text = Nothing
BadOf (check image) old new text = Nothing
BadOf (audit trace) old new text = BadTrace trace old text
BadOf (replicate file seed save) old new text = BadText file old text
BadOf (loose file cut pick save) old new text = BadLoose file old text
BadOf (help topic) old new text = Nothing
BadOf version old new text = Nothing

-- what is told of a run that ended with status 5
abbrev EndedOf : Asked → (old new : FilesState) → (text : List ℕ) → Type 0
EndedOf (run image scripts options) old new text = Runs (run_options options) image scripts old new 5 text
EndedOf _ old new text = Nothing

told : (a : Asked) (old new : FilesState) (status : ℕ) (text : List ℕ) → Says a old new status text → Told (saved_names a) (loaded_names a) Nothing (BadOf a old new text) (EndedOf a old new text) old new status
told (blocks file options save trace) old new status text says = told_blocks file options save trace old new status text says
told (format image queues area meta zone) old new status text says = told_format (numbers queues area meta zone) image old new status text says
told (run image scripts options) old new status text says = told_run (run_options options) image scripts old new status text says
told (recover image cut pick) old new status text says = told_recover cut (unwrap_or pick 0) image old new status text says
told (ls image) old new status text says = told_image (SaysOfImage Lists) (statuses Lists lists) [] [] image old new status text says
told (cat image path) old new status text says = told_image (SaysOfImage (ShowsFile path)) (statuses (ShowsFile path) (shows path)) [] [] image old new status text says
told (gen seed threads groups save) old new status text says = told_gen (asked_workload seed threads groups) save old new status text says
told (dump image) old new status text says = told_image (SaysOfImage Dumps) (statuses Dumps dumps) [] [] image old new status text says
told (check image) old new status text says = told_image (SaysOfImage Checks) (statuses Checks checks) [] [] image old new status text says
told (audit trace) old new status text says = told_audit trace old new status text says
told (replicate file seed save) old new status text says = told_replicate file save old new status text says
told (loose file cut pick save) old new status text says = told_loose file cut save old new status text says
told (help topic) old new status text says = told_only _ old new status text says
told version old new status text says = told_only _ old new status text says

-- ---- words

-- the words ask for something of a block text, and the file holds bytes that are refused
abbrev pub BadWords : Words → (old : FilesState) → (text : List ℕ) → Type 0
BadWords words old text =
    (file bytes : List ℕ) × (line : ℕ) × (cause : BlockTextCause)
    × AskText words file × Holds old.contents file bytes × RefusesText bytes line cause × (text ≡ refused_line line cause)

-- the words are those of `run`, which ended with this status
abbrev pub RunWords : (status : ℕ) → Words → (old new : FilesState) → (text : List ℕ) → Type 0
RunWords status words old new text =
    (image : List ℕ) × (scripts : List (List ℕ)) × (options : RunFlags) × (asked_of words ≡ Some (run image scripts options)) × Runs (run_options options) image scripts old new status text

-- the words are those of `audit`, and a line of what the file holds is not in its form
abbrev pub TraceWords : Words → (old : FilesState) → (text : List ℕ) → Type 0
TraceWords words old text =
    (trace bytes : List ℕ) × (line : ℕ)
    × (asked_of words ≡ Some (audit trace)) × Holds old.contents trace bytes × IsMisread bytes line × (text ≡ misread_line line)

-- the words are those of `loose`, and the file holds bytes that are refused
abbrev pub LooseWords : Words → (old : FilesState) → (text : List ℕ) → Type 0
LooseWords words old text =
    (file bytes : List ℕ) × (line : ℕ) × (cut pick : Option ℕ) × (save : Option (List ℕ))
    × (asked_of words ≡ Some (loose file cut pick save)) × Holds old.contents file bytes
    × loose_text.RefusesText bytes line × (text ≡ loose_text.refused_line line)

-- what a file holds was refused
abbrev pub RefusedWords : Words → (old new : FilesState) → (text : List ℕ) → Type 0
RefusedWords words old new text = BadWords words old text ⊎ (LooseWords words old text ⊎ (TraceWords words old text ⊎ RunWords 2 words old new text))

abbrev pub NoWords : Words → (old new : FilesState) → (text : List ℕ) → Type 0
NoWords words old new text = AreUnknown words × (text ≡ usage_line) × (new ≡ old)

abbrev pub SaysWords : Words → (old new : FilesState) → (status : ℕ) → (text : List ℕ) → Type 0
SaysWords words old new status text = Told (saved_by (asked_of words)) (loaded_by (asked_of words)) (NoWords words old new text) (RefusedWords words old new text) (RunWords 5 words old new text) old new status

bad_words : (words : Words) (a : Asked) (old new : FilesState) (text : List ℕ) → asked_of words ≡ Some a → BadOf a old new text → RefusedWords words old new text
bad_words words (blocks file options save trace) old new text is bad = inl (file, bad.0, bad.1, bad.2, inl (options, save, trace, is), bad.3, bad.4, bad.5)
bad_words words (format image queues area meta zone) old new text is bad = absurd bad
bad_words words (run image scripts options) old new text is bad = inr (inr (inr (image, scripts, options, is, bad)))
bad_words words (recover image cut pick) old new text is bad = absurd bad
bad_words words (ls image) old new text is bad = absurd bad
bad_words words (cat image path) old new text is bad = absurd bad
bad_words words (gen seed threads groups save) old new text is bad = absurd bad
bad_words words (dump image) old new text is bad = absurd bad
bad_words words (check image) old new text is bad = absurd bad
bad_words words (audit trace) old new text is bad = inr (inr (inl (trace, bad.0, bad.1, is, bad.2, bad.3, bad.4)))
bad_words words (replicate file seed save) old new text is bad = inl (file, bad.0, bad.1, bad.2, inr (seed, save, is), bad.3, bad.4, bad.5)
bad_words words (loose file cut pick save) old new text is bad = inr (inl (file, bad.0, bad.1, cut, pick, save, is, bad.2, bad.3, bad.4))
bad_words words (help topic) old new text is bad = absurd bad
bad_words words version old new text is bad = absurd bad

ended_words : (words : Words) (a : Asked) (old new : FilesState) (text : List ℕ) → asked_of words ≡ Some a → EndedOf a old new text → RunWords 5 words old new text
ended_words words (blocks file options save trace) old new text is ended = absurd ended
ended_words words (format image queues area meta zone) old new text is ended = absurd ended
ended_words words (run image scripts options) old new text is ended = (image, scripts, options, is, ended)
ended_words words (recover image cut pick) old new text is ended = absurd ended
ended_words words (ls image) old new text is ended = absurd ended
ended_words words (cat image path) old new text is ended = absurd ended
ended_words words (gen seed threads groups save) old new text is ended = absurd ended
ended_words words (dump image) old new text is ended = absurd ended
ended_words words (check image) old new text is ended = absurd ended
ended_words words (audit trace) old new text is ended = absurd ended
ended_words words (replicate file seed save) old new text is ended = absurd ended
ended_words words (loose file cut pick save) old new text is ended = absurd ended
ended_words words (help topic) old new text is ended = absurd ended
ended_words words version old new text is ended = absurd ended

told_asked : (words : Words) (a : Asked) (old new : FilesState) (status : ℕ) (text : List ℕ) → asked_of words ≡ Some a → Told (saved_names a) (loaded_names a) Nothing (BadOf a old new text) (EndedOf a old new text) old new status → SaysWords words old new status text
told_asked words a old new status text is t = record {
  is = t.is;
  names = subst (λ (o : Option Asked). KeepsOthers (saved_by o) old.contents new.contents) (sym is) t.names;
  contents = t.contents;
  faults = t.faults;
  fault = λ four. subst (λ (o : Option Asked). Rose old.faults new.faults ⊎ HoldsTooMuch (loaded_by o) old new) (sym is) (t.fault four);
  takes = λ four six. subst (λ (o : Option Asked). TakesUpTo (length (loaded_by o)) old.taken new.taken) (sym is) (t.takes four six);
  usage = λ one. absurd (t.usage one);
  bad = λ two. bad_words words a old new text is (t.bad two);
  ended = λ five. ended_words words a old new text is (t.ended five);
}

pub told_words : (words : Words) (old new : FilesState) (status : ℕ) (text : List ℕ) → IsToSay words old new status text → SaysWords words old new status text
told_words words old new _ _ (no_command none same) = record {
  is = inr (inl refl);
  names = keeps (saved_by (asked_of words)) old new (ap (λ (f : FilesState). f.contents) same);
  contents = λ _. ap (λ (f : FilesState). f.contents) same;
  faults = λ _. ap (λ (f : FilesState). f.faults) same;
  fault = λ e. absurd (omega (arith, e));
  takes = λ _ _. taken-same (length (loaded_by (asked_of words))) old new same;
  usage = λ _. (none, refl, same);
  bad = λ e. absurd (omega (arith, e));
  ended = λ e. absurd (omega (arith, e));
}
told_words words old new status text (of_command a is says) = told_asked words a old new status text is (told a old new status text says)
told_words words old new _ _ (no_memory same) = record {
  is = inr (inr (inr (inr (inr (inr refl)))));
  names = keeps (saved_by (asked_of words)) old new (ap (λ (f : FilesState). f.contents) same);
  contents = λ _. ap (λ (f : FilesState). f.contents) same;
  faults = λ _. ap (λ (f : FilesState). f.faults) same;
  fault = λ e. absurd (omega (arith, e));
  takes = λ _ n. absurd (n refl);
  usage = λ e. absurd (omega (arith, e));
  bad = λ e. absurd (omega (arith, e));
  ended = λ e. absurd (omega (arith, e));
}
