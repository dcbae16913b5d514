-- What `loose` says of a file that was loaded, and what the file decides.
use Rattle.std.proofs.Common.{◌≡◌, ◌⊎◌, inl, inr, ℕ, Bool, List, Option, Some, sym, ◌∙◌, subst}
use Rattle.std.specs.Prelude.{is_some}
use Rattle.std.specs.declared.vec.Vec.{Vec}
use Rattle.mq_block_trace.specs.Lines.{live_from, named}
use Rattle.mq_command_blocks.specs.Left.{KeepsLeft}
use Rattle.mq_command_blocks.specs.Parts.{EndsUnsaved, SavesFile}
use Rattle.mq_command_blocks.proofs.Parts.{ends_from, left_saved}
use Rattle.mq_command_blocks.proofs.SaysOfBlocksDecided.{one_held, still_unloaded, still_unsaved}
use Rattle.mq_command_io.specs.Ending.{EndsWith, IsLoaded, IsUnlessFailed, memory_line}
use Rattle.mq_command_io.proofs.Ending.{still-memory}
use Rattle.mq_command_loose.specs.SaysOfLoose.{EndsRefused, LooseDecides, SaysOfLoose, bad_text, good_text, not_loaded, not_saved, printed, refused, wants_memory}
use Rattle.mq_image.specs.File.{DriveImage}
use Rattle.mq_loose_run.specs.Runs.{IsLeftLoose}
use Rattle.mq_loose_text.specs.Meaning.{IsSetIn, map_in, numbers_in, output_of, settled_in}
use Rattle.mq_loose_text.specs.Text.{IsLooseText, IsRefused, RefusesText, refused_line}
use Rattle.mq_loose_text.specs.Text.{printed as printed_text}
use Rattle.mq_loose_text.specs.declared.line.LooseLine.{LooseLine}
use Rattle.mq_loose_text.specs.declared.refusal.LooseTextRefusal.{LooseTextRefusal}
use Rattle.mq_loose_text.specs.declared.refusal.LooseTextRefusal.TheVariants.{Line, OutOfMemory}
use Rattle.mq_loose_text.proofs.LooseTexts.{good_or_refused}
use Rattle.mq_outside.specs.Outside.{FilesState, SinkState, Tells}

-- ---- the output

pub output_is :
    (cut : Option ℕ) (lines : List LooseLine) (set : ℕ → Bool) (acknowledged numbers : List ℕ) (live : List (ℕ × ℕ)) (text : List ℕ) → text ≡ printed_text acknowledged numbers live → acknowledged ≡ numbers_in (settled_in cut lines) lines
    → numbers ≡ numbers_in set lines → live ≡ live_from (map_in set lines) 0 named → text ≡ output_of cut lines set
output_is cut lines set acknowledged numbers live text is a n l = is ∙ (λ i. printed_text (a i) (n i) (l i))

-- ---- the end

abbrev pub LooseEnds : (file : List ℕ) → (cut : Option ℕ) → (save : Option (List ℕ)) → (old new : FilesState) → (result : ℕ) → (before after : SinkState) → Type 0
LooseEnds file cut save old new result before after = (status : ℕ) × (text : List ℕ) × SaysOfLoose file cut save old new status text × EndsWith status text result before after

-- what was run of a text
abbrev pub Ran : {Z : Type 0} → Option ℕ → List ℕ → Bool → List ℕ → Option (Vec ℕ Z) → Type 0
Ran cut bytes wanted output left =
    (lines : List LooseLine) × (set : ℕ → Bool) × (x : DriveImage) × IsLooseText bytes lines × IsSetIn cut lines set
    × IsLeftLoose cut lines set x × (output ≡ output_of cut lines set) × KeepsLeft wanted x left

module _ (file : List ℕ) (cut : Option ℕ) (save : Option (List ℕ)) (bytes : List ℕ) (old mid new : FilesState) (result : ℕ) (before between after : SinkState) (load : IsLoaded file bytes old mid) (silent : between ≡ before) where
  pub ran : {Z : Type 0} (left : Option (Vec ℕ Z)) (output : List ℕ) (wanted : Bool) → Ran cut bytes wanted output left → wanted ≡ is_some save
      → (SavesFile left save mid new × EndsWith 0 output result between after) ⊎ EndsUnsaved save mid new result between after → LooseEnds file cut save old new result before after
  ran left output wanted run asks (inl done) =
      let lines = run.0 in
      let set = run.1 in
      let x = run.2 in (
        0,
        output_of cut lines set,
        printed bytes lines set x mid load run.3 run.4 run.5 (left_saved x mid new save left wanted asks run.7 done.0),
        ends_from 0 (output_of cut lines set) result before between after silent (subst (λ (t : List ℕ). EndsWith 0 t result between after) run.6 done.1),
      )
  ran left output wanted run asks (inr not) = (not.0, not.1, not_saved bytes run.0 not.2 mid not.3 load run.3 not.4, ends_from not.0 not.1 result before between after silent not.5)

pub not_run : (file : List ℕ) (cut : Option ℕ) (save : Option (List ℕ)) (bytes : List ℕ) (old new : FilesState) (result : ℕ) (before between after : SinkState) → IsLoaded file bytes old new → between ≡ before
    → (refusal : LooseTextRefusal) → IsRefused (RefusesText bytes) refusal → EndsRefused refusal result between after → LooseEnds file cut save old new result before after
not_run file cut save bytes old new result before between after load silent (Line line) bad (inl ends) =
    (2, refused_line line, refused bytes line load bad, ends_from 2 (refused_line line) result before between after silent ends)
not_run file cut save bytes old new result before between after load silent (Line line) bad (inr ends) = (6, memory_line, wants_memory bytes load, ends_from 6 memory_line result before between after silent ends)
not_run file cut save bytes old new result before between after load silent OutOfMemory bad ends = (6, memory_line, wants_memory bytes load, ends_from 6 memory_line result before between after silent ends)

-- ---- what is decided

module _ (file : List ℕ) (cut : Option ℕ) (save : Option (List ℕ)) (old new : FilesState) (result : ℕ) where
  good_decided : (bytes : List ℕ) (lines : List LooseLine) → Tells old.contents file (Some bytes) → IsLooseText bytes lines → (status : ℕ) (text : List ℕ) → SaysOfLoose file cut save old new status text → IsUnlessFailed status result → IsUnlessFailed 0 result
  good_decided bytes lines tells is _ _ (printed others rows set x mid load good in' of saves) ends = ends
  good_decided bytes lines tells is _ _ (refused others line load refuses) ends =
      let same : bytes ≡ others = one_held old.contents file bytes others tells load.holds in
      absurd (good_or_refused bytes lines line is (subst (λ (l : List ℕ). RefusesText l line) (sym same) refuses))
  good_decided bytes lines tells is status text (not_loaded not) ends = still_unloaded 0 result file old new status text not ends
  good_decided bytes lines tells is status text (not_saved others rows name mid asks load good not) ends = still_unsaved 0 result name mid new status text not ends
  good_decided bytes lines tells is _ _ (wants_memory others load) ends = still-memory 0 result ends

  bad_decided : (bytes : List ℕ) (line : ℕ) → Tells old.contents file (Some bytes) → RefusesText bytes line → (status : ℕ) (text : List ℕ) → SaysOfLoose file cut save old new status text → IsUnlessFailed status result → IsUnlessFailed 2 result
  bad_decided bytes line tells bad _ _ (printed others rows set x mid load good in' of saves) ends =
      let same : bytes ≡ others = one_held old.contents file bytes others tells load.holds in
      absurd (good_or_refused others rows line good (subst (λ (l : List ℕ). RefusesText l line) same bad))
  bad_decided bytes line tells bad _ _ (refused others l load refuses) ends = ends
  bad_decided bytes line tells bad status text (not_loaded not) ends = still_unloaded 2 result file old new status text not ends
  bad_decided bytes line tells bad status text (not_saved others rows name mid asks load good not) ends =
      let same : bytes ≡ others = one_held old.contents file bytes others tells load.holds in
      absurd (good_or_refused others rows line good (subst (λ (l : List ℕ). RefusesText l line) same bad))
  bad_decided bytes line tells bad _ _ (wants_memory others load) ends = still-memory 2 result ends

  pub loose_decided : (status : ℕ) (text : List ℕ) → SaysOfLoose file cut save old new status text → IsUnlessFailed status result → (wanted : ℕ) → LooseDecides file old.contents wanted → IsUnlessFailed wanted result
  loose_decided status text says ends _ (good_text bytes lines tells is) = good_decided bytes lines tells is status text says ends
  loose_decided status text says ends _ (bad_text bytes line tells bad) = bad_decided bytes line tells bad status text says ends
