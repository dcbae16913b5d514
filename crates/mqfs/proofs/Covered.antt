-- Whatever files tell is decided: what there was to say, and with which status, shows what they hold.
use Rattle.std.proofs.Common.{◌≡◌, ◌≢◌, ◌≤◌, ◌⊎◌, inl, inr, ℕ, Bool, true, false, List, [], ◌∷◌, length, Option, Some, None, refl, sym, ◌∙◌, ap, subst}
use Rattle.std.specs.Prelude.{if◌then◌else◌}
use Rattle.std.specs.Option.{unwrap_or}
use Rattle.mq_blocks.specs.Geometry.{queues_of}
use Rattle.mq_cli.specs.declared.command.BlocksOptions.{BlocksOptions}
use Rattle.mq_command_images.specs.Audits.{Audits, accepts, misreads}
use Rattle.mq_command_images.specs.Audits as audits
use Rattle.mq_command_blocks.specs.SaysOfBlocks.{SaysOfBlocks, bad_text, good_text}
use Rattle.mq_command_blocks.specs.SaysOfBlocks as blocks_says
use Rattle.mq_command_images.specs.Checks.{Checks, checked, not_checked}
use Rattle.mq_command_run.specs.Generates.{Generates}
use Rattle.mq_command_run.specs.Generates as generates
use Rattle.mq_command_run.specs.declared.workload.Workload.{Workload}
use Rattle.mq_command_images.specs.Commands.{Dumps, Formats, Lists, SaysNothing, SaysOfImage, ShowsFile, dumped, formatted, is_image, listed, no_file, no_geometry, not_dumped, not_listed, not_saved, not_shown, shown, wants_memory}
use Rattle.mq_command_images.specs.Commands as commands
use Rattle.mq_command_images.specs.Recovers.{Recovers, RefusesRecovery, not_recovered, recovered}
use Rattle.mq_command_images.specs.Recovers as recovers
use Rattle.mq_command_images.specs.declared.formatting.Numbers.{Numbers}
use Rattle.mq_command_io.specs.Ending.{EndsWith, IsLoaded, IsNotLoaded, IsNotSaved, SaysOf, load_failed, load_memory, load_too_long, save_failed, save_memory, SaysOnly, said}
use Rattle.mq_command_io.specs.Ending as ending
use Rattle.mq_command_io.proofs.Ending.{said_or}
use Rattle.mq_command_loose.specs.SaysOfLoose.{LooseDecides, SaysOfLoose}
use Rattle.mq_command_loose.specs.SaysOfLoose as loose_says
use Rattle.mq_command_replicate.specs.Replicates.{Replicates}
use Rattle.mq_command_replicate.specs.Replicates as replicates
use Rattle.mq_command_run.specs.RunsScripts.{AreLoaded, HoldBadScript, HoldScripts, RefusesRunning, RefusesScript, RefusesScripts, Runs, are_wanting, no_run, no_scripts, not_run, ran, run_status}
use Rattle.mq_command_run.specs.RunsScripts as runs
use Rattle.mq_image.specs.Drives.{IsRead}
use Rattle.mq_image.specs.File.{DriveImage}
use Rattle.mq_image_ops.specs.Standing.{HasNoVolume, RefusesVolume, StandsFor}
use Rattle.mq_image_ops.specs.Standing as stand
use Rattle.mq_image_ops.specs.declared.refusal.StandingRefusal.{StandingRefusal}
use Rattle.mq_image_ops.specs.declared.refusal.StandingRefusal.TheVariants as standing
use Rattle.mq_image_run.specs.Limits.{AreWithin}
use Rattle.mq_run_laws.specs.Refusals.{RefusesRun}
use Rattle.mq_run_laws.specs.Refusals as refusals
use Rattle.mq_run_laws.specs.Runs.{IsRunOf}
use Rattle.mq_run_laws.specs.declared.options.RunOptions.{RunOptions}
use Rattle.mq_run_laws.specs.declared.ran.ImageRun.{ImageRun}
use Rattle.mq_outside.specs.Outside.{FilesState, Held, Holds, SinkState, Tells}
use Rattle.mq_run_laws.specs.Images.{KeepsPromise}
use Rattle.mq_script.specs.Scripts.{Script}
use Rattle.mq_tree.specs.Volume.{Path}
use Rattle.mq_cli.specs.Asked.{Asked, Words, asked_of, audit, blocks, cat, check, dump, format, gen, help, loose, ls, recover, replicate, run, version}
use Rattle.mq_cli.specs.Help.{help_text, version_line}
use Rattle.mq_cli.specs.declared.command.RunFlags.{RunFlags}
use Rattle.mqfs.specs.Decided.{ChainsDecide, FileDecides, ImageDecides, IsCovered, IsRunnable, NumbersDecide, RunDecides, StandingDecides, TraceDecides, TreeDecides, VolumeDecides, above_limit, bad_numbers, bad_script, bad_trace, good_numbers, good_trace, has_chains, has_file, has_no_file, has_standing, has_tree, is_no_image, no_chains, no_drive, no_image, no_standing, no_tree, no_volume, no_volume_there, none_stands, too_many, unreadable}
use Rattle.mqfs.specs.Program.{IsToSay, no_command, no_memory, of_command}
use Rattle.mqfs.specs.Says.{Says, asked_workload, numbers, run_options}

-- the status is that of a fault, or memory ran out
abbrev IsFailing : ℕ → Type 0
IsFailing s = (s ≡ 4) ⊎ (s ≡ 6)

unloaded : (name : List ℕ) (old new : FilesState) (status : ℕ) (text : List ℕ) → IsNotLoaded name old new status text → IsFailing status
unloaded name old new _ _ (load_failed same rose tried) = inl refl
unloaded name old new _ _ (load_too_long same over faults takes tried) = inl refl
unloaded name old new _ _ (load_memory same faults tried) = inr refl

unsaved : (name : List ℕ) (old new : FilesState) (status : ℕ) (text : List ℕ) → IsNotSaved name old new status text → IsFailing status
unsaved name old new _ _ (save_failed other rose taken tried) = inl refl
unsaved name old new _ _ (save_memory same faults taken tried) = inr refl

-- ---- what files that tell what they hold showed at the start

module _ (held : Held) (files : FilesState) (told : files.contents ≡ Some held) where
  -- a name that was loaded while nothing had changed
  tells-at : (name bytes : List ℕ) (old new : FilesState) → old.contents ≡ files.contents → IsLoaded name bytes old new → Tells (Some held) name (Some bytes)
  tells-at name bytes old new same load = subst (λ (h : Option Held). Holds h name bytes) (same ∙ told) load.holds

  tells : (name bytes : List ℕ) (new : FilesState) → IsLoaded name bytes files new → Tells (Some held) name (Some bytes)
  tells name bytes new load = tells-at name bytes files new refl load

  -- ---- the commands on an image

  module _ (name : List ℕ) (new : FilesState) where
    -- The bytes of the name decide, in one of these ways.
    by-image : (Of : DriveImage → ℕ → List ℕ → Type 0) (Decide : ℕ → Type 0)
        → ((bytes : List ℕ) (x : DriveImage) (status : ℕ) (text : List ℕ) → Tells (Some held) name (Some bytes) → IsRead x bytes → Of x status text → Decide status)
        → ((status : ℕ) → ImageDecides name (Some held) status → Decide status)
        → (status : ℕ) (text : List ℕ) → SaysOf (SaysOfImage Of) name files new status text → Decide status ⊎ IsFailing status
    by-image Of Decide done bad status text (ending.SaysOf.loaded bytes load (is_image x read of)) = inl (done bytes x status text (tells name bytes new load) read of)
    by-image Of Decide done bad _ _ (ending.SaysOf.loaded bytes load (commands.SaysOfImage.no_image e has)) = inl (bad 3 (no_image bytes e (tells name bytes new load) has))
    by-image Of Decide done bad status text (ending.SaysOf.not_loaded not) = inr (unloaded name files new status text not)
    by-image Of Decide done bad status text (ending.SaysOf.wanting bytes load six line) = inr (inr six)

  -- what refuses an image refuses its volume
  as-volume : (name : List ℕ) (status : ℕ) → ImageDecides name (Some held) status → VolumeDecides name (Some held) status
  as-volume name _ (no_image bytes e tells has) = is_no_image bytes e tells has
  as-volume name _ (unreadable bytes x e tells read refuses) = none_stands bytes x tells read (stand.HasNoVolume.unreadable e refuses)

  none-there : (x : DriveImage) (e : StandingRefusal) → RefusesVolume x e → e ≢ standing.OutOfMemory → HasNoVolume x
  none-there x _ (stand.RefusesVolume.not_readable e refuses) other = stand.HasNoVolume.unreadable e refuses
  none-there x _ (stand.RefusesVolume.not_mounted ds top stored read are none corrupt) other = stand.HasNoVolume.unmounted ds top stored read are none
  none-there x _ stand.RefusesVolume.wanting other = absurd (other refl)

  lists-covered : (name : List ℕ) (new : FilesState) (status : ℕ) (text : List ℕ) → SaysOf (SaysOfImage Lists) name files new status text → TreeDecides name (Some held) status ⊎ IsFailing status
  lists-covered name new = by-image name new Lists (TreeDecides name (Some held)) done (λ status bad. no_tree (as-volume name status bad))
    where
      done : (bytes : List ℕ) (x : DriveImage) (status : ℕ) (text : List ℕ) → Tells (Some held) name (Some bytes) → IsRead x bytes → Lists x status text → TreeDecides name (Some held) status
      done bytes x _ _ tells read (listed v for) = has_tree bytes x v tells read for
      done bytes x _ _ tells read (not_listed e refuses other) = no_tree (none_stands bytes x tells read (none-there x e refuses other))

  shows-covered : (name : List ℕ) (path : Path) (new : FilesState) (status : ℕ) (text : List ℕ) → SaysOf (SaysOfImage (ShowsFile path)) name files new status text → FileDecides name path (Some held) status ⊎ IsFailing status
  shows-covered name path new = by-image name new (ShowsFile path) (FileDecides name path (Some held)) done (λ status bad. no_volume (as-volume name status bad))
    where
      done : (bytes : List ℕ) (x : DriveImage) (status : ℕ) (text : List ℕ) → Tells (Some held) name (Some bytes) → IsRead x bytes → ShowsFile path x status text → FileDecides name path (Some held) status
      done bytes x _ _ tells read (shown v content for reads) = has_file bytes x v content tells read for reads
      done bytes x _ _ tells read (no_file v fault for reads) = has_no_file bytes x v fault tells read for reads
      done bytes x _ _ tells read (not_shown e refuses other) = no_volume (none_stands bytes x tells read (none-there x e refuses other))

  dumps-covered : (name : List ℕ) (new : FilesState) (status : ℕ) (text : List ℕ) → SaysOf (SaysOfImage Dumps) name files new status text → ChainsDecide name (Some held) status ⊎ IsFailing status
  dumps-covered name new = by-image name new Dumps (ChainsDecide name (Some held)) done (λ status bad. no_chains bad)
    where
      done : (bytes : List ℕ) (x : DriveImage) (status : ℕ) (text : List ℕ) → Tells (Some held) name (Some bytes) → IsRead x bytes → Dumps x status text → ChainsDecide name (Some held) status
      done bytes x _ _ tells read (dumped text is) = has_chains bytes x is.chains tells read is.whole
      done bytes x _ _ tells read (not_dumped e refuses) = no_chains (unreadable bytes x e tells read refuses)

  checks-covered : (name : List ℕ) (new : FilesState) (status : ℕ) (text : List ℕ) → SaysOf (SaysOfImage Checks) name files new status text → StandingDecides name (Some held) status ⊎ IsFailing status
  checks-covered name new = by-image name new Checks (StandingDecides name (Some held)) done (λ status bad. no_standing bad)
    where
      done : (bytes : List ℕ) (x : DriveImage) (status : ℕ) (text : List ℕ) → Tells (Some held) name (Some bytes) → IsRead x bytes → Checks x status text → StandingDecides name (Some held) status
      done bytes x _ _ tells read (checked stored verdict is judges) = has_standing bytes x is.ds is.top tells read is.read
      done bytes x _ _ tells read (not_checked e refuses) = no_standing (unreadable bytes x e tells read refuses)

  recovers-covered : (name : List ℕ) (limit : Option ℕ) (pick : ℕ) (new : FilesState) (status : ℕ) (text : List ℕ) → Recovers limit pick name files new status text → StandingDecides name (Some held) status ⊎ IsFailing status
  recovers-covered name limit pick new _ _ (recovered bytes x r mid load read by save) = inl (has_standing bytes x by.recovery.ds by.recovery.top (tells name bytes mid load) read by.recovery.plan.read)
  recovers-covered name limit pick new status text (recovers.Recovers.refused says) = by-image name new RefusesRecovery (StandingDecides name (Some held)) done (λ status bad. no_standing bad) status text says
    where
      done : (bytes : List ℕ) (x : DriveImage) (status : ℕ) (text : List ℕ) → Tells (Some held) name (Some bytes) → IsRead x bytes → RefusesRecovery x status text → StandingDecides name (Some held) status
      done bytes x _ _ tells read (not_recovered e refuses) = no_standing (unreadable bytes x e tells read refuses)
  recovers-covered name limit pick new status text (recovers.Recovers.unsaved bytes mid load not) = inr (unsaved name mid new status text not)

  -- ---- `format`, `gen`, `blocks`, `replicate`, `loose`, `audit`

  formats-covered : (n : Numbers) (name : List ℕ) (new : FilesState) (status : ℕ) (text : List ℕ) → Formats n name files new status text → NumbersDecide n status ⊎ IsFailing status
  formats-covered n name new _ _ (formatted g x are empty save) = inl (good_numbers g are)
  formats-covered n name new _ _ (no_geometry e refuses same) = inl (bad_numbers e refuses)
  formats-covered n name new status text (not_saved not) = inr (unsaved name files new status text not)
  formats-covered n name new _ _ (wants_memory same) = inr (inr refl)

  generates-covered : (w : Workload) (save : Option (List ℕ)) (new : FilesState) (status : ℕ) (text : List ℕ) → Generates w save files new status text → (status ≡ 0) ⊎ IsFailing status
  generates-covered w save new _ _ (generates.Generates.generated made is kept) = inl refl
  generates-covered w save new status text (generates.Generates.not_saved name made is of not) = inr (unsaved name files new status text not)
  generates-covered w save new _ _ (generates.Generates.wants_memory same) = inr (inr refl)

  blocks-covered : (file : List ℕ) (options : BlocksOptions) (save trace : Option (List ℕ)) (new : FilesState) (status : ℕ) (text : List ℕ) → SaysOfBlocks file options save trace files new status text → blocks_says.TextDecides file (Some held) status ⊎ IsFailing status
  blocks-covered file options save trace new _ _ (blocks_says.SaysOfBlocks.printed bytes lines p x loaded kept load is at by left traced) = inl (good_text bytes lines (tells file bytes loaded load) is)
  blocks-covered file options save trace new _ _ (blocks_says.SaysOfBlocks.refused bytes line cause load refuses) = inl (bad_text bytes line cause (tells file bytes new load) refuses)
  blocks-covered file options save trace new status text (blocks_says.SaysOfBlocks.not_loaded not) = inr (unloaded file files new status text not)
  blocks-covered file options save trace new status text (blocks_says.SaysOfBlocks.not_saved bytes lines name loaded some load is not) = inr (unsaved name loaded new status text not)
  blocks-covered file options save trace new status text (blocks_says.SaysOfBlocks.trace_not_saved bytes lines name p x loaded kept some load is at by left not) = inr (unsaved name kept new status text not)
  blocks-covered file options save trace new _ _ (blocks_says.SaysOfBlocks.wants_memory bytes load) = inr (inr refl)

  replicates-covered : (file : List ℕ) (save : Option (List ℕ)) (new : FilesState) (status : ℕ) (text : List ℕ) → Replicates file save files new status text → blocks_says.TextDecides file (Some held) status ⊎ IsFailing status
  replicates-covered file save new _ _ (replicates.Replicates.printed bytes lines x loaded load is of saves) = inl (good_text bytes lines (tells file bytes loaded load) is)
  replicates-covered file save new _ _ (replicates.Replicates.refused bytes line cause load refuses) = inl (bad_text bytes line cause (tells file bytes new load) refuses)
  replicates-covered file save new status text (replicates.Replicates.not_loaded not) = inr (unloaded file files new status text not)
  replicates-covered file save new status text (replicates.Replicates.not_saved bytes lines name loaded some load is not) = inr (unsaved name loaded new status text not)
  replicates-covered file save new _ _ (replicates.Replicates.wants_memory bytes load) = inr (inr refl)

  looses-covered : (file : List ℕ) (cut : Option ℕ) (save : Option (List ℕ)) (new : FilesState) (status : ℕ) (text : List ℕ) → SaysOfLoose file cut save files new status text → LooseDecides file (Some held) status ⊎ IsFailing status
  looses-covered file cut save new _ _ (loose_says.SaysOfLoose.printed bytes lines set x loaded load is set_in left saves) = inl (loose_says.LooseDecides.good_text bytes lines (tells file bytes loaded load) is)
  looses-covered file cut save new _ _ (loose_says.SaysOfLoose.refused bytes line load refuses) = inl (loose_says.LooseDecides.bad_text bytes line (tells file bytes new load) refuses)
  looses-covered file cut save new status text (loose_says.SaysOfLoose.not_loaded not) = inr (unloaded file files new status text not)
  looses-covered file cut save new status text (loose_says.SaysOfLoose.not_saved bytes lines name loaded some load is not) = inr (unsaved name loaded new status text not)
  looses-covered file cut save new _ _ (loose_says.SaysOfLoose.wants_memory bytes load) = inr (inr refl)

  audits-covered : (trace : List ℕ) (new : FilesState) (status : ℕ) (text : List ℕ) → SaysOf Audits trace files new status text → TraceDecides trace (Some held) status ⊎ IsFailing status
  audits-covered trace new _ _ (ending.SaysOf.loaded bytes load (accepts t drawn done waiting least greatest is allowed summary)) = inl (good_trace bytes t (tells trace bytes new load) is)
  audits-covered trace new _ _ (ending.SaysOf.loaded bytes load (audits.Audits.refuses t index is at)) = inl (good_trace bytes t (tells trace bytes new load) is)
  audits-covered trace new _ _ (ending.SaysOf.loaded bytes load (misreads line is)) = inl (bad_trace bytes line (tells trace bytes new load) is)
  audits-covered trace new status text (ending.SaysOf.not_loaded not) = inr (unloaded trace files new status text not)
  audits-covered trace new status text (ending.SaysOf.wanting bytes load six line) = inr (inr six)

  -- ---- `run`

  -- scripts that were loaded while nothing had changed
  scripts-held : (names : List (List ℕ)) (scripts : List Script) (old new : FilesState) → old.contents ≡ files.contents → AreLoaded names scripts old new → HoldScripts (Some held) names scripts
  scripts-held [] [] old new same loaded = tt
  scripts-held [] (script ∷ scripts) old new same loaded = absurd loaded
  scripts-held (name ∷ names) [] old new same loaded = absurd loaded
  scripts-held (name ∷ names) (script ∷ scripts) old new same loaded = (loaded.0, tells-at name loaded.0 old loaded.1 same loaded.2, loaded.3.read, scripts-held names scripts loaded.1 new (loaded.2.contents ∙ same) loaded.4)

  script-covered : (name : List ℕ) (names : List (List ℕ)) (old new : FilesState) (status : ℕ) (text : List ℕ) → old.contents ≡ files.contents → RefusesScript name old new status text → (HoldBadScript (Some held) (name ∷ names) × (status ≡ 2)) ⊎ IsFailing status
  script-covered name names old new status text same (runs.RefusesScript.not_loaded not) = inr (unloaded name old new status text not)
  script-covered name names old new _ _ same (runs.RefusesScript.refused bytes at load bad) = inl ((bytes, tells-at name bytes old new same load, inl (at, bad)), refl)
  script-covered name names old new _ _ same (runs.RefusesScript.wanting bytes load) = inr (inr refl)

  scripts-covered : (names : List (List ℕ)) (old new : FilesState) (status : ℕ) (text : List ℕ) → old.contents ≡ files.contents → RefusesScripts names old new status text → (HoldBadScript (Some held) names × (status ≡ 2)) ⊎ IsFailing status
  scripts-covered [] old new status text same refuses = absurd refuses
  scripts-covered (name ∷ names) old new status text same (inl refuses) = script-covered name names old new status text same refuses
  scripts-covered (name ∷ names) old new status text same (inr later) = elim (scripts-covered names later.2 new status text (later.3.contents ∙ same) later.5) [
    | inl bad ↦ inl ((later.0, tells-at name later.0 old later.2 same later.3, inr (later.1, later.4.read, bad.0)), bad.1)
    | inr failing ↦ inr failing
  ]

  module _ (image : List ℕ) (names : List (List ℕ)) (options : RunFlags) (new : FilesState) where
    abbrev IsRunCovered : ℕ → Type 0
    IsRunCovered = IsCovered (run image names options) (Some held)

    name-covered : (status : ℕ) (text : List ℕ) → SaysOf (SaysOfImage SaysNothing) image files new status text → IsRunCovered status ⊎ IsFailing status
    name-covered status text (ending.SaysOf.loaded bytes load (is_image x read nothing)) = absurd nothing
    name-covered _ _ (ending.SaysOf.loaded bytes load (commands.SaysOfImage.no_image e has)) = inl (inl (no_drive bytes e (tells image bytes new load) has))
    name-covered status text (ending.SaysOf.not_loaded not) = inr (unloaded image files new status text not)
    name-covered status text (ending.SaysOf.wanting bytes load six line) = inr (inr six)

    module _ (bytes : List ℕ) (x : DriveImage) (scripts : List Script) (mid : FilesState) (load : IsLoaded image bytes files mid) (read : IsRead x bytes) (hold : HoldScripts (Some held) names scripts) where
      refused-covered : (few : length scripts ≤ queues_of x.geometry) (e : StandingRefusal) → RefusesRun x e → e ≢ standing.OutOfMemory → RunDecides image names options (Some held) 3
      refused-covered few _ (refusals.RefusesRun.not_readable e refuses) other = no_volume_there x (record { bytes = bytes; tells = tells image bytes mid load; read = read; scripts = scripts; hold = hold; few = few }) (stand.HasNoVolume.unreadable e refuses)
      refused-covered few _ (refusals.RefusesRun.above_limit {n} ds top reads above) other = above_limit x ds top n (record { bytes = bytes; tells = tells image bytes mid load; read = read; scripts = scripts; hold = hold; few = few }) reads above
      refused-covered few _ (refusals.RefusesRun.not_mounted ds top stored reads within are none corrupt) other = no_volume_there x (record { bytes = bytes; tells = tells image bytes mid load; read = read; scripts = scripts; hold = hold; few = few }) (stand.HasNoVolume.unmounted ds top stored reads are none)
      refused-covered few _ refusals.RefusesRun.wanting other = absurd (other refl)

      running-covered : (status : ℕ) (text : List ℕ) → RefusesRunning x scripts status text → IsRunCovered status ⊎ IsFailing status
      running-covered _ _ (runs.RefusesRunning.too_many more) = inl (inl (too_many bytes x scripts (tells image bytes mid load) read hold more))
      running-covered _ _ (not_run e few refuses other) = inl (inl (refused-covered few e refuses other))
      running-covered _ _ runs.RefusesRunning.wanting = inr (inr refl)

      -- where a run was made, one is there
      runnable : (r : ImageRun) (o : RunOptions) → length scripts ≤ queues_of x.geometry → IsRunOf x scripts o r → KeepsPromise x scripts o r → IsRunnable image names (Some held)
      runnable r o few of keeps =
          let start = keeps.starts in
          record {
            x = x;
            volume = keeps.volume;
            scripts = record { bytes = bytes; tells = tells image bytes mid load; read = read; scripts = scripts; hold = hold; few = few };
            for = record { ds = start.ds; top = r.base; stored = start.stored; read = start.read; standing = record { count = start.standing.whole; each = start.standing.each }; laid = start.laid };
            within = subst (λ (n : ℕ). AreWithin x n) (sym of.on.base_is) of.on.within;
          }

    run-status : (r : ImageRun) → ((run_status r ≡ 0) ⊎ (run_status r ≡ 5)) ⊎ IsFailing (run_status r)
    run-status r = by (are_wanting r.answers.items) r.failed refl refl
      where
        by : (wanting failed : Bool) → are_wanting r.answers.items ≡ wanting → r.failed ≡ failed → ((run_status r ≡ 0) ⊎ (run_status r ≡ 5)) ⊎ IsFailing (run_status r)
        by true failed w f = inr (inr (ap (λ (b : Bool). if b then 6 else (if r.failed then 5 else 0)) w))
        by false true w f = inl (inr (ap (λ (b : Bool). if b then 6 else (if r.failed then 5 else 0)) w ∙ ap (λ (b : Bool). if b then 5 else 0) f))
        by false false w f = inl (inl (ap (λ (b : Bool). if b then 6 else (if r.failed then 5 else 0)) w ∙ ap (λ (b : Bool). if b then 5 else 0) f))

    runs-covered : (status : ℕ) (text : List ℕ) → Runs (run_options options) image names files new status text → IsRunCovered status ⊎ IsFailing status
    runs-covered _ _ (ran bytes x scripts r mid all load read loaded few of keeps report save) =
        let there = runnable bytes x scripts mid load read (scripts-held names scripts mid all load.contents loaded) r (run_options options) few of keeps in
        elim (run-status r) [ inl good ↦ inl (inr (there, good)) | inr failing ↦ inr failing ]
    runs-covered status text (runs.Runs.no_image says) = name-covered status text says
    runs-covered status text (no_scripts bytes x mid load read refuses) = elim (scripts-covered names mid new status text load.contents refuses) [
      | inl bad ↦ inl (inl (subst (RunDecides image names options (Some held)) (sym bad.1) (bad_script bytes x (tells image bytes mid load) read bad.0)))
      | inr failing ↦ inr failing
    ]
    runs-covered status text (no_run bytes x scripts mid load read loaded refuses) = running-covered bytes x scripts mid load read (scripts-held names scripts mid new load.contents loaded) status text refuses
    runs-covered status text (runs.Runs.unsaved bytes x scripts r mid all load read loaded few of keeps not) = inr (unsaved image all new status text not)

  -- ---- each command

  only-said : (line : List ℕ) (new : FilesState) (status : ℕ) (text : List ℕ) → SaysOnly line files new status text → status ≡ 0
  only-said line new _ _ (said same) = refl

  decided : {D E : Type 0} {F : Type 0} → D ⊎ F → (D ⊎ E) ⊎ F
  decided (inl d) = inl (inl d)
  decided (inr f) = inr f

  covered : (a : Asked) (new : FilesState) (status : ℕ) (text : List ℕ) → Says a files new status text → IsCovered a (Some held) status ⊎ IsFailing status
  covered (blocks file options save trace) new status text says = decided (blocks-covered file options save trace new status text says)
  covered (format image queues area meta zone) new status text says = decided (formats-covered (numbers queues area meta zone) image new status text says)
  covered (run image scripts options) new status text says = runs-covered image scripts options new status text says
  covered (recover image cut pick) new status text says = decided (recovers-covered image cut (unwrap_or pick 0) new status text says)
  covered (ls image) new status text says = decided (lists-covered image new status text says)
  covered (cat image path) new status text says = decided (shows-covered image path new status text says)
  covered (gen seed threads groups save) new status text says = decided (generates-covered (asked_workload seed threads groups) save new status text says)
  covered (dump image) new status text says = decided (dumps-covered image new status text says)
  covered (check image) new status text says = decided (checks-covered image new status text says)
  covered (audit trace) new status text says = decided (audits-covered trace new status text says)
  covered (replicate file seed save) new status text says = decided (replicates-covered file save new status text says)
  covered (loose file cut pick save) new status text says = decided (looses-covered file cut save new status text says)
  covered (help topic) new status text says = inl (inl (only-said (help_text topic) new status text says))
  covered version new status text says = inl (inl (only-said version_line new status text says))

  asked-covered : (words : Words) (a : Asked) (new : FilesState) (status : ℕ) (text : List ℕ) → asked_of words ≡ Some a → IsToSay words files new status text → IsCovered a (Some held) status ⊎ IsFailing status
  asked-covered words a new _ _ asks (no_command none same) =
      let none : ◌≡◌ {A = Option Asked} (Some a) None = sym asks ∙ none in
      absurd (cc)
  asked-covered words a new status text asks (of_command b is says) =
      let same : ◌≡◌ {A = Option Asked} (Some b) (Some a) = sym is ∙ asks in
      let one : b ≡ a = cc in
      covered a new status text (subst (λ (z : Asked). Says z files new status text) one says)
  asked-covered words a new _ _ asks (no_memory same) = inr (inr refl)

  pub covered_told : (words : Words) (a : Asked) (new : FilesState) (status : ℕ) (text : List ℕ) (result : ℕ) (out out_new : SinkState) → asked_of words ≡ Some a → IsToSay words files new status text → EndsWith status text result out out_new → IsCovered a (Some held) result ⊎ ((result ≡ 4) ⊎ (result ≡ 6))
  covered_told words a new status text result out out_new asks say ends = elim (said_or status text result out out_new ends) [
    | inl e ↦ subst (λ (s : ℕ). IsCovered a (Some held) s ⊎ IsFailing s) (sym e.0) (asked-covered words a new status text asks say)
    | inr other ↦ inr other
  ]
