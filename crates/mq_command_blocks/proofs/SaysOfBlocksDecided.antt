-- What the file holds decides the status of `blocks`.
use Rattle.std.proofs.Common.{◌≡◌, ℕ, List, Option, Some, None, sym, ◌∙◌, subst}
use Rattle.mq_command_io.specs.Ending.{IsNotLoaded, IsNotSaved, IsUnlessFailed, load_failed, load_memory, load_too_long, save_failed, save_memory}
use Rattle.mq_command_io.proofs.Ending.{still-fault, still-memory}
use Rattle.mq_outside.specs.Outside.{FilesState, Held, Holds, Tells}
use Rattle.mq_block_text.specs.Refusals.{RefusesText}
use Rattle.mq_block_text.specs.declared.item.BlockItem.{BlockItem}
use Rattle.mq_block_text.specs.declared.refusal.BlockTextCause.{BlockTextCause}
use Rattle.mq_block_text.proofs.TextWhole.{good_or_refused}
use Rattle.mq_command_blocks.specs.Blocks.{IsBlockText}
use Rattle.mq_command_blocks.specs.SaysOfBlocks.{SaysOfBlocks, TextDecides, bad_text, good_text, printed, refused}
use Rattle.mq_command_blocks.specs.SaysOfBlocks as blocks_says
use Rattle.mq_cli.specs.declared.command.BlocksOptions.{BlocksOptions}

pub still_unloaded : (wanted result : ℕ) (file : List ℕ) (old new : FilesState) (status : ℕ) (text : List ℕ) → IsNotLoaded file old new status text → IsUnlessFailed status result → IsUnlessFailed wanted result
still_unloaded wanted result file old new _ _ (load_failed same rose tried) ends = still-fault wanted result ends
still_unloaded wanted result file old new _ _ (load_too_long same over faults takes tried) ends = still-fault wanted result ends
still_unloaded wanted result file old new _ _ (load_memory same faults tried) ends = still-memory wanted result ends

pub still_unsaved : (wanted result : ℕ) (name : List ℕ) (old new : FilesState) (status : ℕ) (text : List ℕ) → IsNotSaved name old new status text → IsUnlessFailed status result → IsUnlessFailed wanted result
still_unsaved wanted result name old new _ _ (save_failed other rose taken tried) ends = still-fault wanted result ends
still_unsaved wanted result name old new _ _ (save_memory same faults taken tried) ends = still-memory wanted result ends

-- a name holds one text
pub one_held : (held : Option Held) (name bytes other : List ℕ) → Tells held name (Some bytes) → Holds held name other → bytes ≡ other
one_held None name bytes other tells holds = absurd tells
one_held (Some held) name bytes other tells holds = let same : ◌≡◌ {A = Option (List ℕ)} (Some bytes) (Some other) = sym tells ∙ holds in cc

module _ (file : List ℕ) (options : BlocksOptions) (save trace : Option (List ℕ)) (old new : FilesState) (result : ℕ) where
  good_decided : (bytes : List ℕ) (lines : List (List BlockItem)) → Tells old.contents file (Some bytes) → IsBlockText bytes lines → (status : ℕ) (text : List ℕ) → SaysOfBlocks file options save trace old new status text → IsUnlessFailed status result → IsUnlessFailed 0 result
  good_decided bytes lines tells is _ _ (printed others rows p x mid kept load good at run saves traces) ends = ends
  good_decided bytes lines tells is _ _ (refused others line cause load refuses) ends =
      let same : bytes ≡ others = one_held old.contents file bytes others tells load.holds in
      absurd (good_or_refused bytes lines line cause is.spelled is.good (subst (λ (l : List ℕ). RefusesText l line cause) (sym same) refuses))
  good_decided bytes lines tells is status text (blocks_says.not_loaded not) ends = still_unloaded 0 result file old new status text not ends
  good_decided bytes lines tells is status text (blocks_says.not_saved others rows name mid asks load good not) ends = still_unsaved 0 result name mid new status text not ends
  good_decided bytes lines tells is status text (blocks_says.trace_not_saved others rows name p x mid kept asks load good at run saves not) ends = still_unsaved 0 result name kept new status text not ends
  good_decided bytes lines tells is _ _ (blocks_says.wants_memory others load) ends = still-memory 0 result ends

  bad_decided : (bytes : List ℕ) (line : ℕ) (cause : BlockTextCause) → Tells old.contents file (Some bytes) → RefusesText bytes line cause → (status : ℕ) (text : List ℕ) → SaysOfBlocks file options save trace old new status text → IsUnlessFailed status result → IsUnlessFailed 2 result
  bad_decided bytes line cause tells bad _ _ (printed others rows p x mid kept load good at run saves traces) ends =
      let same : bytes ≡ others = one_held old.contents file bytes others tells load.holds in
      absurd (good_or_refused others rows line cause good.spelled good.good (subst (λ (l : List ℕ). RefusesText l line cause) same bad))
  bad_decided bytes line cause tells bad _ _ (refused others l c load refuses) ends = ends
  bad_decided bytes line cause tells bad status text (blocks_says.not_loaded not) ends = still_unloaded 2 result file old new status text not ends
  bad_decided bytes line cause tells bad status text (blocks_says.not_saved others rows name mid asks load good not) ends =
      let same : bytes ≡ others = one_held old.contents file bytes others tells load.holds in
      absurd (good_or_refused others rows line cause good.spelled good.good (subst (λ (l : List ℕ). RefusesText l line cause) same bad))
  bad_decided bytes line cause tells bad status text (blocks_says.trace_not_saved others rows name p x mid kept asks load good at run saves not) ends =
      let same : bytes ≡ others = one_held old.contents file bytes others tells load.holds in
      absurd (good_or_refused others rows line cause good.spelled good.good (subst (λ (l : List ℕ). RefusesText l line cause) same bad))
  bad_decided bytes line cause tells bad _ _ (blocks_says.wants_memory others load) ends = still-memory 2 result ends

  pub text_decided : (status : ℕ) (text : List ℕ) → SaysOfBlocks file options save trace old new status text → IsUnlessFailed status result → (wanted : ℕ) → TextDecides file old.contents wanted → IsUnlessFailed wanted result
  text_decided status text says ends _ (good_text bytes lines tells is) = good_decided bytes lines tells is status text says ends
  text_decided status text says ends _ (bad_text bytes line cause tells bad) = bad_decided bytes line cause tells bad status text says ends
