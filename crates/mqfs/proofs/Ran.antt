-- `run` ends with 0 or 5 only where the scripts were run, the image was saved and the report was said.
use Rattle.std.proofs.Common.{◌≡◌, ◌⊎◌, inl, inr, ℕ, List, [], ◌∷◌, Option, Some, refl, sym, ◌∙◌, subst, arith}
use Rattle.mq_command_images.specs.Commands.{SaysNothing, SaysOfImage, is_image}
use Rattle.mq_command_images.specs.Commands as commands
use Rattle.mq_command_run.specs.RunsScripts.{RefusesRunning, RefusesScript, RefusesScripts, Runs, no_image, no_run, no_scripts, not_loaded, not_run, ran, refused, too_many, unsaved, wanting}
use Rattle.mq_command_run.specs.RunsScripts as runs
use Rattle.mq_command_io.specs.Ending.{EndsWith, IsNotLoaded, IsNotSaved, SaysOf, load_failed, load_memory, load_too_long, save_failed, save_memory}
use Rattle.mq_command_io.specs.Ending as ending
use Rattle.mq_command_io.proofs.Ending.{said_or}
use Rattle.mq_image.specs.File.{DriveImage}
use Rattle.mq_outside.specs.Outside.{FilesState, SinkState, appended}
use Rattle.mq_script.specs.Scripts.{Script}
use Rattle.mq_cli.specs.Asked.{Asked, Words, asked_of, run}
use Rattle.mq_cli.specs.declared.command.RunFlags.{RunFlags}
use Rattle.mqfs.specs.Program.{IsToSay, no_command, no_memory, of_command}
use Rattle.mqfs.specs.Ran.{IsRan}
use Rattle.mqfs.specs.Says.{Says, run_options}

-- the status of a run that was saved
abbrev IsRunStatus : ℕ → Type 0
IsRunStatus s = (s ≡ 0) ⊎ (s ≡ 5)

none-loaded : (name : List ℕ) (old new : FilesState) (status : ℕ) (text : List ℕ) → IsNotLoaded name old new status text → IsRunStatus status → ⊥
none-loaded name old new _ _ (load_failed same rose tried) good = elim good [ inl e ↦ omega (arith, e) | inr e ↦ omega (arith, e) ]
none-loaded name old new _ _ (load_too_long same over faults takes tried) good = elim good [ inl e ↦ omega (arith, e) | inr e ↦ omega (arith, e) ]
none-loaded name old new _ _ (load_memory same faults tried) good = elim good [ inl e ↦ omega (arith, e) | inr e ↦ omega (arith, e) ]

none-saved : (name : List ℕ) (old new : FilesState) (status : ℕ) (text : List ℕ) → IsNotSaved name old new status text → IsRunStatus status → ⊥
none-saved name old new _ _ (save_failed other rose taken tried) good = elim good [ inl e ↦ omega (arith, e) | inr e ↦ omega (arith, e) ]
none-saved name old new _ _ (save_memory same faults taken tried) good = elim good [ inl e ↦ omega (arith, e) | inr e ↦ omega (arith, e) ]

none-of-image : (bytes : List ℕ) (status : ℕ) (text : List ℕ) → SaysOfImage SaysNothing bytes status text → IsRunStatus status → ⊥
none-of-image bytes status text (is_image x read nothing) good = absurd nothing
none-of-image bytes _ _ (commands.SaysOfImage.no_image e has) good = elim good [ inl e ↦ omega (arith, e) | inr e ↦ omega (arith, e) ]

none-named : (name : List ℕ) (old new : FilesState) (status : ℕ) (text : List ℕ) → SaysOf (SaysOfImage SaysNothing) name old new status text → IsRunStatus status → ⊥
none-named name old new status text (ending.SaysOf.loaded bytes load of) good = none-of-image bytes status text of good
none-named name old new status text (ending.SaysOf.not_loaded not) good = none-loaded name old new status text not good
none-named name old new status text (ending.SaysOf.wanting bytes load six line) good = elim good [ inl e ↦ omega (arith, six, e) | inr e ↦ omega (arith, six, e) ]

none-script : (name : List ℕ) (old new : FilesState) (status : ℕ) (text : List ℕ) → RefusesScript name old new status text → IsRunStatus status → ⊥
none-script name old new status text (not_loaded not) good = none-loaded name old new status text not good
none-script name old new _ _ (refused bytes at load bad) good = elim good [ inl e ↦ omega (arith, e) | inr e ↦ omega (arith, e) ]
none-script name old new _ _ (wanting bytes load) good = elim good [ inl e ↦ omega (arith, e) | inr e ↦ omega (arith, e) ]

none-scripts : (names : List (List ℕ)) (old new : FilesState) (status : ℕ) (text : List ℕ) → RefusesScripts names old new status text → IsRunStatus status → ⊥
none-scripts [] old new status text refuses good = refuses
none-scripts (name ∷ names) old new status text (inl refuses) good = none-script name old new status text refuses good
none-scripts (name ∷ names) old new status text (inr later) good = none-scripts names later.2 new status text later.5 good

none-run : (x : DriveImage) (scripts : List Script) (status : ℕ) (text : List ℕ) → RefusesRunning x scripts status text → IsRunStatus status → ⊥
none-run x scripts _ _ (too_many more) good = elim good [ inl e ↦ omega (arith, e) | inr e ↦ omega (arith, e) ]
none-run x scripts _ _ (not_run e few refuses other) good = elim good [ inl e ↦ omega (arith, e) | inr e ↦ omega (arith, e) ]
none-run x scripts _ _ runs.RefusesRunning.wanting good = elim good [ inl e ↦ omega (arith, e) | inr e ↦ omega (arith, e) ]

module _ (image : List ℕ) (names : List (List ℕ)) (options : RunFlags) (files new_files : FilesState) (old new : SinkState) where
  ran_of : (status : ℕ) (text : List ℕ) → Runs (run_options options) image names files new_files status text → IsRunStatus status → new.contents ≡ appended old.contents text → IsRan image names options status files new_files old new
  ran_of _ _ (ran bytes x scripts r mid all load is loaded few of keeps reported save) good out = record {
    bytes = bytes;
    x = x;
    scripts = scripts;
    r = r;
    mid = mid;
    all = all;
    loaded = load;
    read = is;
    scripts_are = loaded;
    run = of;
    promise = keeps;
    report = reported;
    saved = save;
    said = out;
    status = refl;
  }
  ran_of status text (no_image says) good out = absurd (none-named image files new_files status text says good)
  ran_of status text (no_scripts bytes x mid load is refuses) good out = absurd (none-scripts names mid new_files status text refuses good)
  ran_of status text (no_run bytes x scripts mid load is loaded refuses) good out = absurd (none-run x scripts status text refuses good)
  ran_of status text (unsaved bytes x scripts r mid all load is loaded few of keeps not) good out = absurd (none-saved image all new_files status text not good)

  ran_words : (words : Words) (status : ℕ) (text : List ℕ) → asked_of words ≡ Some (run image names options) → IsToSay words files new_files status text → IsRunStatus status → new.contents ≡ appended old.contents text → IsRan image names options status files new_files old new
  ran_words words _ _ asks (no_command none same) good out = absurd (elim good [ inl e ↦ omega (arith, e) | inr e ↦ omega (arith, e) ])
  ran_words words status text asks (of_command a is says) good out =
      let same : ◌≡◌ {A = Option Asked} (Some a) (Some (run image names options)) = sym is ∙ asks in
      let one : a ≡ run image names options = cc in
      ran_of status text (subst (λ (b : Asked). Says b files new_files status text) one says) good out
  ran_words words _ _ asks (no_memory same) good out = absurd (elim good [ inl e ↦ omega (arith, e) | inr e ↦ omega (arith, e) ])

  pub ran_told : (words : Words) (status : ℕ) (text : List ℕ) (result : ℕ) → asked_of words ≡ Some (run image names options) → IsToSay words files new_files status text → EndsWith status text result old new → IsRunStatus result → IsRan image names options result files new_files old new
  ran_told words status text result asks say ends good = elim (said_or status text result old new ends) [
    | inl e ↦ subst (λ (s : ℕ). IsRan image names options s files new_files old new) (sym e.0) (ran_words words status text asks say (subst IsRunStatus e.0 good) e.1)
    | inr e ↦ absurd (elim e [
      | inl four ↦ elim good [ inl z ↦ omega (arith, four, z) | inr z ↦ omega (arith, four, z) ]
      | inr six ↦ elim good [ inl z ↦ omega (arith, six, z) | inr z ↦ omega (arith, six, z) ]
    ])
  ]
