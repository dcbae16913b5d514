-- What `replicate` says of a file that was loaded, and what the file decides.
use Rattle.std.proofs.Common.{◌≡◌, ◌⊎◌, inl, inr, ℕ, Bool, List, Option, Some, sym, subst}
use Rattle.std.specs.Prelude.{is_some}
use Rattle.std.specs.declared.vec.Vec.{Vec}
use Rattle.mq_block_text.specs.Refusals.{IsRefused, RefusesText}
use Rattle.mq_block_text.specs.declared.item.BlockItem.{BlockItem}
use Rattle.mq_block_text.specs.declared.refusal.BlockTextCause.{BlockTextCause}
use Rattle.mq_block_text.specs.declared.refusal.BlockTextRefusal.{BlockTextRefusal}
use Rattle.mq_block_text.specs.declared.refusal.BlockTextRefusal.TheVariants.{At, OutOfMemory}
use Rattle.mq_block_text.proofs.TextWhole.{good_or_refused}
use Rattle.mq_command_blocks.specs.Blocks.{IsBlockText, refused_line}
use Rattle.mq_command_blocks.specs.Left.{KeepsLeft}
use Rattle.mq_command_blocks.specs.Parts.{EndsRefused, EndsUnsaved, SavesFile}
use Rattle.mq_command_blocks.specs.SaysOfBlocks.{TextDecides, bad_text, good_text}
use Rattle.mq_command_blocks.proofs.Parts.{ends_from, left_saved}
use Rattle.mq_command_blocks.proofs.SaysOfBlocksDecided.{one_held, still_unloaded, still_unsaved}
use Rattle.mq_command_io.specs.Ending.{EndsWith, IsLoaded, IsUnlessFailed, memory_line}
use Rattle.mq_command_io.proofs.Ending.{still-memory}
use Rattle.mq_image.specs.File.{DriveImage}
use Rattle.mq_outside.specs.Outside.{FilesState, SinkState, Tells}
use Rattle.mq_command_replicate.specs.Replicas.{IsReplicaOf, output_of}
use Rattle.mq_command_replicate.specs.Replicates.{Replicates, not_loaded, not_saved, printed, refused, wants_memory}

-- ---- the end

abbrev pub ReplicateEnds : (file : List ℕ) → (save : Option (List ℕ)) → (old new : FilesState) → (result : ℕ) → (before after : SinkState) → Type 0
ReplicateEnds file save old new result before after = (status : ℕ) × (text : List ℕ) × Replicates file save old new status text × EndsWith status text result before after

module _ (file : List ℕ) (save : Option (List ℕ)) (bytes : List ℕ) (old mid new : FilesState) (result : ℕ) (before between after : SinkState) (load : IsLoaded file bytes old mid) (silent : between ≡ before) where
  pub ran : {Z : Type 0} (lines : List (List BlockItem)) (x : DriveImage) (left : Option (Vec ℕ Z)) (output : List ℕ) (wanted : Bool) → IsBlockText bytes lines → IsReplicaOf lines x → output ≡ output_of lines → KeepsLeft wanted x left → wanted ≡ is_some save
      → (SavesFile left save mid new × EndsWith 0 output result between after) ⊎ EndsUnsaved save mid new result between after → ReplicateEnds file save old new result before after
  ran lines x left output wanted is of prints keeps asks (inl done) = (
    0,
    output_of lines,
    printed bytes lines x mid load is of (left_saved x mid new save left wanted asks keeps done.0),
    ends_from 0 (output_of lines) result before between after silent (subst (λ (t : List ℕ). EndsWith 0 t result between after) prints done.1),
  )
  ran lines x left output wanted is of prints keeps asks (inr not) = (not.0, not.1, not_saved bytes lines not.2 mid not.3 load is not.4, ends_from not.0 not.1 result before between after silent not.5)

pub not_run : (file : List ℕ) (save : Option (List ℕ)) (bytes : List ℕ) (old new : FilesState) (result : ℕ) (before between after : SinkState) → IsLoaded file bytes old new → between ≡ before
    → (refusal : BlockTextRefusal) → IsRefused (RefusesText bytes) refusal → EndsRefused refusal result between after → ReplicateEnds file save old new result before after
not_run file save bytes old new result before between after load silent (At line cause) bad (inl ends) =
    (2, refused_line line cause, refused bytes line cause load bad, ends_from 2 (refused_line line cause) result before between after silent ends)
not_run file save bytes old new result before between after load silent (At line cause) bad (inr ends) = (6, memory_line, wants_memory bytes load, ends_from 6 memory_line result before between after silent ends)
not_run file save bytes old new result before between after load silent OutOfMemory bad ends = (6, memory_line, wants_memory bytes load, ends_from 6 memory_line result before between after silent ends)

-- ---- what is decided

module _ (file : List ℕ) (save : Option (List ℕ)) (old new : FilesState) (result : ℕ) where
  good_decided : (bytes : List ℕ) (lines : List (List BlockItem)) → Tells old.contents file (Some bytes) → IsBlockText bytes lines → (status : ℕ) (text : List ℕ) → Replicates file save old new status text → IsUnlessFailed status result → IsUnlessFailed 0 result
  good_decided bytes lines tells is _ _ (printed others rows x mid load good of saves) ends = ends
  good_decided bytes lines tells is _ _ (refused others line cause load refuses) ends =
      let same : bytes ≡ others = one_held old.contents file bytes others tells load.holds in
      absurd (good_or_refused bytes lines line cause is.spelled is.good (subst (λ (l : List ℕ). RefusesText l line cause) (sym same) refuses))
  good_decided bytes lines tells is status text (not_loaded not) ends = still_unloaded 0 result file old new status text not ends
  good_decided bytes lines tells is status text (not_saved others rows name mid asks load good not) ends = still_unsaved 0 result name mid new status text not ends
  good_decided bytes lines tells is _ _ (wants_memory others load) ends = still-memory 0 result ends

  bad_decided : (bytes : List ℕ) (line : ℕ) (cause : BlockTextCause) → Tells old.contents file (Some bytes) → RefusesText bytes line cause → (status : ℕ) (text : List ℕ) → Replicates file save old new status text → IsUnlessFailed status result → IsUnlessFailed 2 result
  bad_decided bytes line cause tells bad _ _ (printed others rows x mid load good of saves) ends =
      let same : bytes ≡ others = one_held old.contents file bytes others tells load.holds in
      absurd (good_or_refused others rows line cause good.spelled good.good (subst (λ (l : List ℕ). RefusesText l line cause) same bad))
  bad_decided bytes line cause tells bad _ _ (refused others l c load refuses) ends = ends
  bad_decided bytes line cause tells bad status text (not_loaded not) ends = still_unloaded 2 result file old new status text not ends
  bad_decided bytes line cause tells bad status text (not_saved others rows name mid asks load good not) ends =
      let same : bytes ≡ others = one_held old.contents file bytes others tells load.holds in
      absurd (good_or_refused others rows line cause good.spelled good.good (subst (λ (l : List ℕ). RefusesText l line cause) same bad))
  bad_decided bytes line cause tells bad _ _ (wants_memory others load) ends = still-memory 2 result ends

  pub text_decided : (status : ℕ) (text : List ℕ) → Replicates file save old new status text → IsUnlessFailed status result → (wanted : ℕ) → TextDecides file old.contents wanted → IsUnlessFailed wanted result
  text_decided status text says ends _ (good_text bytes lines tells is) = good_decided bytes lines tells is status text says ends
  text_decided status text says ends _ (bad_text bytes line cause tells bad) = bad_decided bytes line cause tells bad status text says ends
