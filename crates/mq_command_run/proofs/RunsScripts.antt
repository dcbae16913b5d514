-- What `run` says, and that each status comes exactly where its cause holds.
use Rattle.std.proofs.Common.{◌≡◌, ◌≢◌, ◌⊎◌, inl, inr, ◌<◌, ◌≤◌, ℕ, zero, suc, ◌+◌, Bool, cond, true, false, List, [], ◌∷◌, ◌++◌, Bor, length, map, drop, get_or, Option, None, Some, Ok, Err, refl, sym, ◌∙◌, ap, subst, arith, append_assoc}
use Rattle.std.proofs.lemmas.List.{append-nil, drop_all, drop_more, length-map}
use Rattle.std.specs.Prelude.{IfOk, MatchResult, Result}
use Rattle.mq_blocks.specs.Descriptor.{Descriptor}
use Rattle.mq_blocks.specs.Geometry.{queues_of}
use Rattle.mq_command_run.specs.Lines.{script_line, scripts_line}
use Rattle.mq_command_images.specs.Commands.{RefusesName, SaysNothing, SaysOfImage}
use Rattle.mq_command_run.specs.RunsScripts.{AreLoaded, HoldBadScript, HoldScripts, IsReportOf, IsRunAs, IsRunFile, IsScriptIn, RefusesRunning, RefusesScript, RefusesScripts, Runs, are_wanting, no_image, no_run, no_scripts, not_loaded, not_run, ran, refused, run_status, run_text, too_many, unsaved, wanting}
use Rattle.mq_command_run.specs.RunsScripts as runs
use Rattle.mq_command_io.specs.Ending.{EndsWith, IsLoaded, IsNotSaved, IsSaved, IsUnlessFailed, memory_line}
use Rattle.mq_command_io.proofs.Ending.{not-loaded-status, not-saved-status, still-memory, unless_wanting}
use Rattle.mq_image.specs.Drives.{IsRead}
use Rattle.mq_image.specs.Faults.{HasFault}
use Rattle.mq_image.specs.File.{DriveImage}
use Rattle.mq_image.specs.declared.fault.FileFault.{FileFault}
use Rattle.mq_image.proofs.FileForms.{read-faulty, read-once}
use Rattle.mq_image_run.specs.Limits.{AreWithin, IsFirstAbove}
use Rattle.mq_run_laws.specs.Refusals.{RefusesRun, above_limit, not_mounted, not_readable}
use Rattle.mq_run_laws.specs.Refusals as refusals
use Rattle.mq_run_laws.specs.Runs.{IsRunOf}
use Rattle.mq_run_laws.specs.declared.options.RunOptions.{RunOptions}
use Rattle.mq_run_laws.specs.declared.ran.ImageRun.{ImageRun}
use Rattle.mq_run_laws.specs.Cuts.{Starts}
use Rattle.mq_run_laws.specs.HistoryLaws.{AreSpelled}
use Rattle.mq_run_laws.proofs.LawsSpelled.{spelled-bytes}
use Rattle.mq_run_laws.proofs.ReportImages.{may-be-reported}
use Rattle.mq_run_laws.specs.Images.{KeepsPromise}
use Rattle.mq_run_laws.proofs.Images.{keeps-promise}
use Rattle.mq_image_ops.specs.Standing as standings
use Rattle.mq_image_ops.specs.Standing.{HasNoVolume, Reads, StandsFor}
use Rattle.mq_image_ops.specs.Views.{view_of}
use Rattle.mq_image_ops.specs.declared.refusal.StandingRefusal.{StandingRefusal}
use Rattle.mq_image_ops.specs.declared.refusal.StandingRefusal.TheVariants as standing
use Rattle.mq_image_ops.proofs.Standing.{read-refused}
use Rattle.mq_image_ops.proofs.StandingVolumes.{stands-none, stands-refused}
use Rattle.mq_outside.specs.Outside.{FilesState, Held, Holds, SinkState, Tells}
use Rattle.mq_recover.proofs.DrivesImages.{read-same}
use Rattle.mq_script.specs.Answers.{AgreesAt, Refused}
use Rattle.mq_script.specs.Reading.{script_in}
use Rattle.mq_script.specs.Scripts.{Script}
use Rattle.mq_script.specs.declared.refusal.ScriptCause.{ScriptCause}
use Rattle.mq_script.specs.declared.refusal.ScriptRefusal.{ScriptRefusal}
use Rattle.mq_script.specs.declared.refusal.ScriptRefusal.TheVariants.{At}
use Rattle.mq_tree.specs.Volume.{Volume}
use Rattle.mq_command_images.proofs.CommandsExact.{of-image, one-held, refused-status, says-where}
use Rattle.mq_command_images.proofs.CommandsSaying.{said-as}

-- the end of `run`
abbrev pub RunEnds : RunOptions → (name : List ℕ) → (names : List (List ℕ)) → (old new : FilesState) → (before after : SinkState) → ℕ → Type 0
RunEnds o name names old new before after result = (status : ℕ) × (text : List ℕ) × Runs o name names old new status text × EndsWith status text result before after

-- ---- one script

-- what is said of a text that is refused
pub script-says : {A E : Type 0} (stat : A → ℕ) (words : A → List ℕ) (name bytes : List ℕ) (refusal : ScriptRefusal) (old new : FilesState) (before mid after : SinkState) (answer : Result A E) (result : ℕ) → IsLoaded name bytes old new → mid ≡ before
    → AgreesAt {A = Script} (script_in bytes) (Err refusal)
    → IfOk answer (λ a. (line : ℕ) × (cause : ScriptCause) × (refusal ≡ At line cause) × (stat a ≡ 2) × (words a ≡ script_line name line cause))
    → MatchResult answer (λ a. EndsWith (stat a) (words a) result mid after) (λ _. EndsWith 6 memory_line result mid after)
    → (status : ℕ) × (text : List ℕ) × RefusesScript name old new status text × EndsWith status text result before after
script-says stat words name bytes refusal old new before mid after (Ok a) result load same agrees is ends = (
  stat a,
  words a,
  said-as (RefusesScript name old new) 2 (stat a) (script_line name is.0 is.1) (words a) is.3 is.4
      (refused bytes (record { line = is.0; cause = is.1 }) load (subst (λ (r : ScriptRefusal). AgreesAt {A = Script} (script_in bytes) (Err r)) is.2 agrees)),
  subst (λ (s : SinkState). EndsWith (stat a) (words a) result s after) same ends,
)
script-says stat words name bytes refusal old new before mid after (Err e) result load same agrees is ends =
    (6, memory_line, wanting bytes load, subst (λ (s : SinkState). EndsWith 6 memory_line result s after) same ends)

-- ---- scripts, one after another

-- what is left of the names leads from here to where all of them lead from the start
pub record Goes (names left : List (List ℕ)) (read : List Script) (start now : FilesState) : Type 0 where
  pub loaded : (rest : List Script) (end : FilesState) → AreLoaded left rest now end → AreLoaded names (read ++ rest) start end
  pub refused : (end : FilesState) (status : ℕ) (text : List ℕ) → RefusesScripts left now end status text → RefusesScripts names start end status text

pub goes-first : (names : List (List ℕ)) (read : List Script) (start : FilesState) → read ≡ [] → Goes names names read start start
goes-first names read start none = record {
  loaded = λ rest end loaded. subst (λ (l : List Script). AreLoaded names (l ++ rest) start end) (sym none) loaded;
  refused = λ end status text refuses. refuses;
}

pub goes-on : (names left : List (List ℕ)) (name : List ℕ) (read more : List Script) (start now new : FilesState) → Goes names (name ∷ left) read start now
    → (text : List ℕ) × (script : Script) × IsLoaded name text now new × IsScriptIn text script × (more ≡ read ++ script ∷ []) → Goes names left more start new
goes-on names left name read more start now new goes next = record {
  loaded = λ rest end loaded.
      subst (λ (l : List Script). AreLoaded names l start end) (sym (ap (λ (l : List Script). l ++ rest) next.4 ∙ append_assoc read (next.1 ∷ []) rest)) (goes.loaded (next.1 ∷ rest) end (next.0, new, next.2, next.3, loaded));
  refused = λ end status text refuses. goes.refused end status text (inr (next.0, next.1, new, next.2, next.3, refuses));
}

pub goes-all : (names : List (List ℕ)) (read : List Script) (start now : FilesState) → Goes names [] read start now → AreLoaded names read start now
goes-all names read start now goes = subst (λ (l : List Script). AreLoaded names l start now) (append-nil read) (goes.loaded [] now refl)

-- the next of these names
pub next-name : (names : List (Bor (List ℕ))) (i : ℕ) (d : Bor (List ℕ)) → i < length names → map (λ s. s.now) (drop i names) ≡ (get_or names i d).now ∷ map (λ s. s.now) (drop (i + 1) names)
next-name names i d inside = ap (map (λ (s : Bor (List ℕ)). s.now)) (drop_more names i d inside)

-- and that none is left
pub no-names : (names : List (Bor (List ℕ))) (i : ℕ) → length names ≤ i → map (λ s. s.now) (drop i names) ≡ []
no-names names i over = ap (map (λ (s : Bor (List ℕ)). s.now)) (drop_all i names over)

-- each name gives one script
pub loaded-many : (names : List (List ℕ)) (scripts : List Script) (old new : FilesState) → AreLoaded names scripts old new → length scripts ≡ length names
loaded-many [] [] old new loaded = refl
loaded-many [] (s ∷ scripts) old new loaded = absurd loaded
loaded-many (name ∷ names) [] old new loaded = absurd loaded
loaded-many (name ∷ names) (s ∷ scripts) old new loaded = let rest = loaded-many names scripts loaded.1 new loaded.4 in omega (arith, rest)

pub some-loaded : (names : List (Bor (List ℕ))) (scripts : List Script) (old new : FilesState) → 1 ≤ length names → AreLoaded (map (λ s. s.now) names) scripts old new → 1 ≤ length scripts
some-loaded names scripts old new some loaded =
    let same = loaded-many (map (λ s. s.now) names) scripts old new loaded in
    let many = length-map names (λ (s : Bor (List ℕ)). s.now) in
    omega (arith, same, many, some)

-- ---- what is said

-- the answer to more scripts than queues
pub many-refused : {A E : Type 0} (stat : A → ℕ) (words : A → List ℕ) (x : DriveImage) (scripts : List Script) (queues : ℕ) (answer : Result A E) → IfOk answer (λ a. (stat a ≡ 2) × (words a ≡ scripts_line (length scripts) queues)) → queues ≡ queues_of x.geometry → queues < length scripts
    → IfOk answer (λ a. RefusesRunning x scripts (stat a) (words a))
many-refused stat words x scripts queues (Ok a) is same more =
    said-as (RefusesRunning x scripts) 2 (stat a) (scripts_line (length scripts) (queues_of x.geometry)) (words a) is.0 (is.1 ∙ ap (scripts_line (length scripts)) same) (too_many (omega (arith, same, more)))
many-refused stat words x scripts queues (Err e) is same more = tt

-- the texts of the names spell their scripts, which so write bytes
loaded-spelled : (names : List (List ℕ)) (scripts : List Script) (old new : FilesState) → AreLoaded names scripts old new → AreSpelled scripts
loaded-spelled [] [] old new loaded s low = absurd (omega arith)
loaded-spelled [] (script ∷ scripts) old new loaded s low = absurd loaded
loaded-spelled (name ∷ names) [] old new loaded s low = absurd loaded
loaded-spelled (name ∷ names) (script ∷ scripts) old new loaded zero low = (loaded.0, loaded.3.spells)
loaded-spelled (name ∷ names) (script ∷ scripts) old new loaded (suc s) low = loaded-spelled names scripts loaded.1 new loaded.4 s (omega arith)

kept-promise : (o : RunOptions) (names : List (List ℕ)) (x : DriveImage) (scripts : List Script) (r : ImageRun) (old new : FilesState) → AreLoaded names scripts old new → IsRunOf x scripts o r → KeepsPromise x scripts o r
kept-promise o names x scripts r old new loaded run = keeps-promise x scripts o r run (spelled-bytes scripts (loaded-spelled names scripts old new loaded))

-- and what is said of their run is its report
report-of : (o : RunOptions) (names : List (List ℕ)) (x : DriveImage) (scripts : List Script) (r : ImageRun) (file : List ℕ) (status : ℕ) (text : List ℕ) (old new : FilesState) → AreLoaded names scripts old new → IsRunOf x scripts o r → IsRunFile r file status text → IsReportOf r (run_text r)
report-of o names x scripts r file status text old new loaded run is = subst (IsReportOf r) is.text_is (is.report (may-be-reported x scripts o r run (spelled-bytes scripts (loaded-spelled names scripts old new loaded))))

pub run-saved : (o : RunOptions) (name : List ℕ) (names : List (List ℕ)) (bytes : List ℕ) (x : DriveImage) (scripts : List Script) (file : List ℕ) (status : ℕ) (text : List ℕ) (old mid read new : FilesState) (before between after : SinkState) (result : ℕ)
    → IsLoaded name bytes old mid → IsRead x bytes → AreLoaded names scripts mid read → between ≡ before → IsRunAs x scripts o file status text
    → (IsSaved name file read new × EndsWith status text result between after) ⊎ ((s : ℕ) × (t : List ℕ) × IsNotSaved name read new s t × EndsWith s t result between after)
    → RunEnds o name names old new before after result
run-saved o name names bytes x scripts file status text old mid read new before between after result load is loaded same run (inl save) = (
  status,
  text,
  said-as (Runs o name names old new) (run_status run.0) status (run_text run.0) text run.3.status_is run.3.text_is
      (ran bytes x scripts run.0 mid read load is loaded run.1 run.2 (kept-promise o names x scripts run.0 mid read loaded run.2) (report-of o names x scripts run.0 file status text mid read loaded run.2 run.3) (subst (λ (l : List ℕ). IsSaved name l read new) run.3.file_is save.0)),
  subst (λ (s : SinkState). EndsWith status text result s after) same save.1,
)
run-saved o name names bytes x scripts file status text old mid read new before between after result load is loaded same run (inr not) =
    (not.0, not.1, unsaved bytes x scripts run.0 mid read load is loaded run.1 run.2 (kept-promise o names x scripts run.0 mid read loaded run.2) not.2, subst (λ (s : SinkState). EndsWith not.0 not.1 result s after) same not.3)

pub run-refused : {A E : Type 0} (stat : A → ℕ) (words : A → List ℕ) (o : RunOptions) (name : List ℕ) (names : List (List ℕ)) (bytes : List ℕ) (x : DriveImage) (scripts : List Script) (old mid new : FilesState) (before between after : SinkState) (answer : Result A E) (result : ℕ)
    → IsLoaded name bytes old mid → IsRead x bytes → AreLoaded names scripts mid new → between ≡ before
    → IfOk answer (λ a. RefusesRunning x scripts (stat a) (words a))
    → MatchResult answer (λ a. EndsWith (stat a) (words a) result between after) (λ _. EndsWith 6 memory_line result between after)
    → RunEnds o name names old new before after result
run-refused stat words o name names bytes x scripts old mid new before between after (Ok a) result load is loaded same refuses ends =
    (stat a, words a, no_run bytes x scripts mid load is loaded refuses, subst (λ (s : SinkState). EndsWith (stat a) (words a) result s after) same ends)
run-refused stat words o name names bytes x scripts old mid new before between after (Err e) result load is loaded same refuses ends =
    (6, memory_line, no_run bytes x scripts mid load is loaded runs.RefusesRunning.wanting, subst (λ (s : SinkState). EndsWith 6 memory_line result s after) same ends)

-- ---- scripts that the files show

-- the text that a name gave is the one that the files show
one-text : (held : Option Held) (name bytes other : List ℕ) (old new : FilesState) → old.contents ≡ held → Tells held name (Some bytes) → IsLoaded name other old new → other ≡ bytes
one-text held name bytes other old new same tells load = one-held held name bytes other tells (subst (λ (h : Option Held). Holds h name other) same load.holds)

pub same-scripts : (held : Option Held) (names : List (List ℕ)) (scripts texts : List Script) (old new : FilesState) → old.contents ≡ held → HoldScripts held names texts → AreLoaded names scripts old new → scripts ≡ texts
same-scripts held [] [] [] old new same hold loaded = refl
same-scripts held [] [] (t ∷ texts) old new same hold loaded = absurd hold
same-scripts held [] (s ∷ scripts) texts old new same hold loaded = absurd loaded
same-scripts held (name ∷ names) [] texts old new same hold loaded = absurd loaded
same-scripts held (name ∷ names) (s ∷ scripts) [] old new same hold loaded = absurd hold
same-scripts held (name ∷ names) (s ∷ scripts) (t ∷ texts) old new same hold loaded =
    let text : loaded.0 ≡ hold.0 = one-text held name hold.0 loaded.0 old loaded.1 same hold.1 loaded.2 in
    let is : ◌≡◌ {A = Result Script Refused} (Ok s) (Ok t) = sym loaded.3.read ∙ ap script_in text ∙ hold.2 in
    let one : s ≡ t = cc in
    ap (λ (u : Script). u ∷ scripts) one ∙ ap (λ (l : List Script). t ∷ l) (same-scripts held names scripts texts loaded.1 new (loaded.2.contents ∙ same) hold.3 loaded.4)

-- a script that the files reveal is refused only for a fault or as out of memory
script-held : (held : Option Held) (name bytes : List ℕ) (script : Script) (old new : FilesState) (status : ℕ) (text : List ℕ) (wanted result : ℕ) → old.contents ≡ held → Tells held name (Some bytes) → script_in bytes ≡ Ok script
    → RefusesScript name old new status text → IsUnlessFailed status result → IsUnlessFailed wanted result
script-held held name bytes script old new status text wanted result same tells is (not_loaded not) ends = not-loaded-status name old new status text wanted result not ends
script-held held name bytes script old new _ _ wanted result same tells is (refused other at load bad) ends =
    let text : other ≡ bytes = one-text held name bytes other old new same tells load in
    let both : ◌≡◌ {A = Result Script Refused} (Ok script) (Err at) = sym is ∙ ap script_in (sym text) ∙ bad in
    absurd (let none : ⊥ = cc in none)
script-held held name bytes script old new _ _ wanted result same tells is (wanting other load) ends = still-memory wanted result ends

scripts-held : (held : Option Held) (names : List (List ℕ)) (texts : List Script) (old new : FilesState) (status : ℕ) (text : List ℕ) (wanted result : ℕ) → old.contents ≡ held → HoldScripts held names texts
    → RefusesScripts names old new status text → IsUnlessFailed status result → IsUnlessFailed wanted result
scripts-held held [] texts old new status text wanted result same hold refuses ends = absurd refuses
scripts-held held (name ∷ names) [] old new status text wanted result same hold refuses ends = absurd hold
scripts-held held (name ∷ names) (t ∷ texts) old new status text wanted result same hold (inl refuses) ends = script-held held name hold.0 t old new status text wanted result same hold.1 hold.2 refuses ends
scripts-held held (name ∷ names) (t ∷ texts) old new status text wanted result same hold (inr later) ends = scripts-held held names texts later.2 new status text wanted result (later.3.contents ∙ same) hold.3 later.5 ends

-- scripts are refused with status 2, a fault and out of memory aside
script-two : (name : List ℕ) (old new : FilesState) (status : ℕ) (text : List ℕ) (result : ℕ) → RefusesScript name old new status text → IsUnlessFailed status result → IsUnlessFailed 2 result
script-two name old new status text result (not_loaded not) ends = not-loaded-status name old new status text 2 result not ends
script-two name old new _ _ result (refused bytes at load bad) ends = ends
script-two name old new _ _ result (wanting bytes load) ends = still-memory 2 result ends

scripts-two : (names : List (List ℕ)) (old new : FilesState) (status : ℕ) (text : List ℕ) (result : ℕ) → RefusesScripts names old new status text → IsUnlessFailed status result → IsUnlessFailed 2 result
scripts-two [] old new status text result refuses ends = absurd refuses
scripts-two (name ∷ names) old new status text result (inl refuses) ends = script-two name old new status text result refuses ends
scripts-two (name ∷ names) old new status text result (inr later) ends = scripts-two names later.2 new status text result later.5 ends

-- a text that is refused is not loaded as a script
bad-unloaded : (held : Option Held) (names : List (List ℕ)) (scripts : List Script) (old new : FilesState) → old.contents ≡ held → HoldBadScript held names → AreLoaded names scripts old new → ⊥
bad-unloaded held [] scripts old new same bad loaded = bad
bad-unloaded held (name ∷ names) [] old new same bad loaded = loaded
bad-unloaded held (name ∷ names) (s ∷ scripts) old new same bad loaded =
    let text : loaded.0 ≡ bad.0 = one-text held name bad.0 loaded.0 old loaded.1 same bad.1 loaded.2 in
    elim bad.2 [
      | inl refuses ↦ (let both : ◌≡◌ {A = Result Script Refused} (Ok s) (Err refuses.0) = sym loaded.3.read ∙ ap script_in text ∙ refuses.1 in cc)
      | inr later ↦ bad-unloaded held names scripts loaded.1 new (loaded.2.contents ∙ same) later.2 loaded.4
    ]

-- ---- images within the limits

within-none : (x : DriveImage) (base top n : ℕ) → base ≡ top → AreWithin x base → IsFirstAbove x top n → ⊥
within-none x base top n same within above =
    let low = within.base_low in
    let high = above.0 in
    elim above.1 [
      | inl is ↦ omega (arith, same, low, high, is)
      | inr other ↦ (let door = within.doorbells other.0 other.1 in let is = other.3 in omega (arith, door, high, is))
    ]

one-top : (x : DriveImage) (ds es : List Descriptor) (top other : ℕ) → Reads x ds top → Reads x es other → top ≡ other
one-top x ds es top other a b = (read-same x.geometry (view_of x) ds es top other a b).1

-- where a volume stands on an image within the limits, it is not refused
not-refused : (x : DriveImage) (v : Volume) (e : StandingRefusal) (for : StandsFor x v) → AreWithin x for.top → RefusesRun x e → e ≢ standing.OutOfMemory → ⊥
not-refused x v _ for within (not_readable e refuses) other = read-refused x for.ds for.top e for.read refuses
not-refused x v _ for within (above_limit ds top reads above) other = within-none x for.top top _ (one-top x for.ds ds for.top top for.read reads) within above
not-refused x v _ for within (not_mounted ds top stored reads low stands none corrupt) other = stands-refused x v _ for (standings.RefusesVolume.not_mounted ds top stored reads stands none corrupt) other
not-refused x v _ for within refusals.RefusesRun.wanting other = other refl

-- a run begins on the volume that stands
stands-at : (x : DriveImage) (v : Volume) (base : ℕ) → Starts x.geometry (view_of x) base v → StandsFor x v
stands-at x v base starts =
    let these = starts.standing in
    record { ds = starts.ds; top = base; stored = starts.stored; read = starts.read; standing = record { count = these.whole; each = these.each }; laid = starts.laid }

-- ---- which status comes

-- the status is 5, and a command is to fail
abbrev pub IsFailure : RunOptions → ℕ → Type 0
IsFailure o result = (o.fail ≢ None) × (result ≡ 5)

ran-status : (o : RunOptions) (memory failed : Bool) (result : ℕ) → (o.fail ≡ None → failed ≡ false) → IsUnlessFailed (cond memory 6 (cond failed 5 0)) result → IsFailure o result ⊎ IsUnlessFailed 0 result
ran-status o true failed result whole (inl six) = inr (inr (inr six))
ran-status o true failed result whole (inr other) = inr (inr other)
ran-status o false true result whole (inl five) = inl (λ none. (let both = whole none in cc), five)
ran-status o false true result whole (inr other) = inr (inr other)
ran-status o false false result whole ends = inr ends

module _ (o : RunOptions) (name : List ℕ) (names : List (List ℕ)) (old new : FilesState) (result : ℕ) (bytes : List ℕ) (x : DriveImage) (tells : Tells old.contents name (Some bytes)) (read : IsRead x bytes) where
  one-image : (other : List ℕ) (y : DriveImage) (mid : FilesState) → IsLoaded name other old mid → IsRead y other → y ≡ x
  one-image other y mid load is = read-once y x bytes (subst (IsRead y) (one-held old.contents name bytes other tells load.holds) is) read

  named : (wanted : ℕ) (status : ℕ) (text : List ℕ) → RefusesName name old new status text → IsUnlessFailed status result → IsUnlessFailed wanted result
  named wanted status text says ends = says-where (SaysOfImage SaysNothing) name bytes wanted old new result status text tells (of-image SaysNothing bytes x wanted read (λ s t nothing. absurd nothing)) says ends

  bad-status : HoldBadScript old.contents names → (status : ℕ) (text : List ℕ) → Runs o name names old new status text → IsUnlessFailed status result → IsUnlessFailed 2 result
  bad-status bad _ _ (ran other y scripts r mid all load is loaded few of keeps reported save) ends = absurd (bad-unloaded old.contents names scripts mid all load.contents bad loaded)
  bad-status bad status text (no_image says) ends = named 2 status text says ends
  bad-status bad status text (no_scripts other y mid load is refuses) ends = scripts-two names mid new status text result refuses ends
  bad-status bad status text (no_run other y scripts mid load is loaded refuses) ends = absurd (bad-unloaded old.contents names scripts mid new load.contents bad loaded)
  bad-status bad status text (unsaved other y scripts r mid all load is loaded few of keeps not) ends = absurd (bad-unloaded old.contents names scripts mid all load.contents bad loaded)

  module _ (texts : List Script) (hold : HoldScripts old.contents names texts) where
    -- either the scripts are run, or why not is printed, a fault and out of memory aside
    settled : (Goal : Type 0) (wanted : ℕ) → (IsUnlessFailed wanted result → Goal)
        → ((status : ℕ) (text : List ℕ) → RefusesRunning x texts status text → IsUnlessFailed status result → Goal)
        → ((r : ImageRun) → length texts ≤ queues_of x.geometry → IsRunOf x texts o r → KeepsPromise x texts o r → IsUnlessFailed (run_status r) result → Goal)
        → (status : ℕ) (text : List ℕ) → Runs o name names old new status text → IsUnlessFailed status result → Goal
    settled Goal wanted from none run _ _ (ran other y scripts r mid all load is loaded few of keeps reported save) ends =
        let image : y ≡ x = one-image other y mid load is in
        let same : scripts ≡ texts = same-scripts old.contents names scripts texts mid all load.contents hold loaded in
        run r
        (subst (λ (z : DriveImage). length texts ≤ queues_of z.geometry) image (subst (λ (l : List Script). length l ≤ queues_of y.geometry) same few))
        (subst (λ (z : DriveImage). IsRunOf z texts o r) image (subst (λ (l : List Script). IsRunOf y l o r) same of))
        (subst (λ (z : DriveImage). KeepsPromise z texts o r) image (subst (λ (l : List Script). KeepsPromise y l o r) same keeps))
        ends
    settled Goal wanted from none run status text (no_image says) ends = from (named wanted status text says ends)
    settled Goal wanted from none run status text (no_scripts other y mid load is refuses) ends =
        from (scripts-held old.contents names texts mid new status text wanted result load.contents hold refuses ends)
    settled Goal wanted from none run status text (no_run other y scripts mid load is loaded refuses) ends =
        let image : y ≡ x = one-image other y mid load is in
        let same : scripts ≡ texts = same-scripts old.contents names scripts texts mid new load.contents hold loaded in
        none status text
        (subst (λ (z : DriveImage). RefusesRunning z texts status text) image (subst (λ (l : List Script). RefusesRunning y l status text) same refuses))
        ends
    settled Goal wanted from none run status text (unsaved other y scripts r mid all load is loaded few of keeps not) ends =
        from (not-saved-status name all new status text wanted result not ends)

    refused-three : length texts ≤ queues_of x.geometry → (status : ℕ) (text : List ℕ) → RefusesRunning x texts status text → IsUnlessFailed status result → IsUnlessFailed 3 result
    refused-three few _ _ (too_many more) ends = absurd (omega (arith, few, more))
    refused-three few _ _ (not_run e others refuses other) ends = ends
    refused-three few _ _ runs.RefusesRunning.wanting ends = still-memory 3 result ends

    refused-two : queues_of x.geometry < length texts → (status : ℕ) (text : List ℕ) → RefusesRunning x texts status text → IsUnlessFailed status result → IsUnlessFailed 2 result
    refused-two more _ _ (too_many many) ends = ends
    refused-two more _ _ (not_run e few refuses other) ends = absurd (omega (arith, few, more))
    refused-two more _ _ runs.RefusesRunning.wanting ends = still-memory 2 result ends

    refused-none : (v : Volume) (for : StandsFor x v) → AreWithin x for.top → length texts ≤ queues_of x.geometry → (status : ℕ) (text : List ℕ) → RefusesRunning x texts status text → IsUnlessFailed status result → IsFailure o result ⊎ IsUnlessFailed 0 result
    refused-none v for within few _ _ (too_many more) ends = absurd (omega (arith, few, more))
    refused-none v for within few _ _ (not_run e others refuses other) ends = absurd (not-refused x v e for within refuses other)
    refused-none v for within few _ _ runs.RefusesRunning.wanting ends = inr (still-memory 0 result ends)

    module _ (before after : SinkState) (ends : RunEnds o name names old new before after result) where
      unless : IsUnlessFailed ends.0 result
      unless = unless_wanting ends.0 ends.1 result before after ends.3

      pub done-where : length texts ≤ queues_of x.geometry → (v : Volume) (for : StandsFor x v) → AreWithin x for.top → IsFailure o result ⊎ IsUnlessFailed 0 result
      done-where few v for within =
          settled (IsFailure o result ⊎ IsUnlessFailed 0 result) 0 (λ u. inr u) (refused-none v for within few)
          (λ r less of keeps u. ran-status o (are_wanting r.answers.items) r.failed result keeps.spared u) ends.0 ends.1 ends.2 unless

      pub too-many-where : queues_of x.geometry < length texts → IsUnlessFailed 2 result
      too-many-where more = settled (IsUnlessFailed 2 result) 2 (λ u. u) (refused-two more) (λ r few of keeps u. absurd (omega (arith, few, more))) ends.0 ends.1 ends.2 unless

      pub no-volume-where : length texts ≤ queues_of x.geometry → HasNoVolume x → IsUnlessFailed 3 result
      no-volume-where few none =
          settled (IsUnlessFailed 3 result) 3 (λ u. u) (refused-three few)
          (λ r less of keeps u. absurd (stands-none x keeps.volume (stands-at x keeps.volume r.base keeps.starts) none)) ends.0 ends.1 ends.2 unless

      pub limit-where : length texts ≤ queues_of x.geometry → (ds : List Descriptor) (top n : ℕ) → Reads x ds top → IsFirstAbove x top n → IsUnlessFailed 3 result
      limit-where few ds top n reads above =
          settled (IsUnlessFailed 3 result) 3 (λ u. u) (refused-three few)
          (λ r less of keeps u.
          absurd (within-none x of.on.recovered.found.base top n (of.on.recovery.base ∙ one-top x of.on.recovery.ds ds of.on.recovery.top top of.on.recovery.plan.read reads) of.on.within above)) ends.0 ends.1 ends.2 unless

  pub bad-script-where : (before after : SinkState) → RunEnds o name names old new before after result → HoldBadScript old.contents names → IsUnlessFailed 2 result
  bad-script-where before after ends bad = bad-status bad ends.0 ends.1 ends.2 (unless_wanting ends.0 ends.1 result before after ends.3)

-- bytes that are no image
fault-status : (o : RunOptions) (name : List ℕ) (names : List (List ℕ)) (old new : FilesState) (result : ℕ) (bytes : List ℕ) (e : FileFault) → Tells old.contents name (Some bytes) → HasFault bytes (Some e)
    → (status : ℕ) (text : List ℕ) → Runs o name names old new status text → IsUnlessFailed status result → IsUnlessFailed 3 result
fault-status o name names old new result bytes e tells has _ _ (ran other y scripts r mid all load is loaded few of keeps reported save) ends =
    absurd (read-faulty y bytes e (subst (IsRead y) (one-held old.contents name bytes other tells load.holds) is) has)
fault-status o name names old new result bytes e tells has status text (no_image says) ends =
    says-where (SaysOfImage SaysNothing) name bytes 3 old new result status text tells (refused-status SaysNothing bytes e has) says ends
fault-status o name names old new result bytes e tells has status text (no_scripts other y mid load is refuses) ends =
    absurd (read-faulty y bytes e (subst (IsRead y) (one-held old.contents name bytes other tells load.holds) is) has)
fault-status o name names old new result bytes e tells has status text (no_run other y scripts mid load is loaded refuses) ends =
    absurd (read-faulty y bytes e (subst (IsRead y) (one-held old.contents name bytes other tells load.holds) is) has)
fault-status o name names old new result bytes e tells has status text (unsaved other y scripts r mid all load is loaded few of keeps not) ends =
    absurd (read-faulty y bytes e (subst (IsRead y) (one-held old.contents name bytes other tells load.holds) is) has)

pub fault-where : (o : RunOptions) (name : List ℕ) (names : List (List ℕ)) (old new : FilesState) (before after : SinkState) (result : ℕ) (bytes : List ℕ) (e : FileFault) → RunEnds o name names old new before after result → Tells old.contents name (Some bytes) → HasFault bytes (Some e) → IsUnlessFailed 3 result
fault-where o name names old new before after result bytes e ends tells has = fault-status o name names old new result bytes e tells has ends.0 ends.1 ends.2 (unless_wanting ends.0 ends.1 result before after ends.3)
