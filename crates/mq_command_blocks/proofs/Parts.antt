-- What `blocks` says of a file that was loaded.
use Rattle.std.proofs.Common.{◌≡◌, inl, inr, ℕ, Bool, List, Option, Some, None, refl, subst}
use Rattle.std.specs.Prelude.{is_some, option_map}
use Rattle.std.specs.declared.vec.Vec.{Vec}
use Rattle.mq_command_io.specs.Ending.{EndsWith, IsLoaded, IsSaved, memory_line}
use Rattle.mq_image.specs.File.{DriveImage}
use Rattle.mq_outside.specs.Outside.{FilesState, SinkState}
use Rattle.mq_block_text.specs.Refusals.{IsRefused, RefusesText}
use Rattle.mq_block_text.specs.declared.item.BlockItem.{BlockItem}
use Rattle.mq_block_text.specs.declared.refusal.BlockTextRefusal.{BlockTextRefusal}
use Rattle.mq_block_text.specs.declared.refusal.BlockTextRefusal.TheVariants.{At, OutOfMemory}
use Rattle.mq_cli.specs.declared.command.BlocksOptions.{BlocksOptions}
use Rattle.mq_command_blocks.specs.Blocks.{IsBlockText, output_of, refused_line}
use Rattle.mq_block_trace.specs.Prefixes.{IsPrefixAt}
use Rattle.mq_command_blocks.specs.Left.{KeepsLeft, KeepsTrace, SavesLeft, SavesTrace}
use Rattle.mq_command_blocks.specs.Parts.{EndsRefused, EndsRun, SavesFile}
use Rattle.mq_command_blocks.specs.Picked.{IsRunBy, pick_of}
use Rattle.mq_command_blocks.specs.SaysOfBlocks.{SaysOfBlocks}
use Rattle.mq_command_blocks.specs.SaysOfBlocks as says

-- an option is there where what is made of it is
pub some_map : {A B : Type 0} (f : A → B) (o : Option A) → is_some (option_map f o) ≡ is_some o
some_map f None = refl
some_map f (Some x) = refl

abbrev pub BlocksEnd : (file : List ℕ) → BlocksOptions → (save trace : Option (List ℕ)) → (old new : FilesState) → (result : ℕ) → (before after : SinkState) → Type 0
BlocksEnd file options save trace old new result before after = (status : ℕ) × (text : List ℕ) × SaysOfBlocks file options save trace old new status text × EndsWith status text result before after

pub ends_from : (status : ℕ) (text : List ℕ) (result : ℕ) (before between after : SinkState) → between ≡ before → EndsWith status text result between after → EndsWith status text result before after
ends_from status text result before between after silent ends = subst (λ (s : SinkState). EndsWith status text result s after) silent ends

module _ {Z : Type 0} (x : DriveImage) (old new : FilesState) where
  -- what is kept is saved where a name is given
  pub left_saved : (save : Option (List ℕ)) (left : Option (Vec ℕ Z)) (wanted : Bool) → wanted ≡ is_some save → KeepsLeft wanted x left → SavesFile left save old new → SavesLeft save x old new
  left_saved None None wanted is keeps saves = saves
  left_saved None (Some file) wanted is keeps saves = saves
  left_saved (Some name) None wanted is keeps saves = absurd (subst (λ (b : Bool). KeepsLeft {Z = Z} b x None) is keeps)
  left_saved (Some name) (Some file) wanted is keeps saves = subst (λ (l : List ℕ). IsSaved name l old new) (subst (λ (b : Bool). KeepsLeft b x (Some file)) is keeps) saves

-- so is the trace
trace_saved : {Z : Type 0} (lines : List (List BlockItem)) (cut : Option ℕ) (old new : FilesState) (trace : Option (List ℕ)) (traced : Option (Vec ℕ Z)) (wanted : Bool) → wanted ≡ is_some trace → KeepsTrace wanted lines cut traced → SavesFile traced trace old new → SavesTrace trace lines cut old new
trace_saved lines cut old new None None wanted is keeps saves = saves
trace_saved lines cut old new None (Some file) wanted is keeps saves = saves
trace_saved {Z} lines cut old new (Some name) None wanted is keeps saves = absurd (subst (λ (b : Bool). KeepsTrace {Z = Z} b lines cut None) is keeps)
trace_saved lines cut old new (Some name) (Some file) wanted is keeps saves = (file.items, subst (λ (b : Bool). KeepsTrace b lines cut (Some file)) is keeps, saves)

module _ {Z : Type 0} (file : List ℕ) (options : BlocksOptions) (save trace : Option (List ℕ)) (bytes : List ℕ) (old mid new : FilesState) (result : ℕ) (before between after : SinkState) (load : IsLoaded file bytes old mid) (silent : between ≡ before) where
  pub ran : (lines : List (List BlockItem)) (p : ℕ) (x : DriveImage) (left traced : Option (Vec ℕ Z)) (output : List ℕ) (wanted wanted_trace : Bool) → IsBlockText bytes lines → IsPrefixAt lines options.cut p → output ≡ output_of lines p → IsRunBy lines options.cut options.again (pick_of options) p x
      → KeepsLeft wanted x left → KeepsTrace wanted_trace lines options.cut traced → wanted ≡ is_some save → wanted_trace ≡ is_some trace → EndsRun left traced output save trace mid new result between after → BlocksEnd file options save trace old new result before after
  ran lines p x left traced output wanted wanted_trace is at prints run keeps keeps_trace asks asks_trace (inl done) =
      let kept = done.0.0 in (
        0,
        output_of lines p,
        says.printed bytes lines p x mid kept load is at run (left_saved x mid kept save left wanted asks keeps done.0.1) (trace_saved lines options.cut kept new trace traced wanted_trace asks_trace keeps_trace done.0.2),
        ends_from 0 (output_of lines p) result before between after silent (subst (λ (t : List ℕ). EndsWith 0 t result between after) prints done.1),
      )
  ran lines p x left traced output wanted wanted_trace is at prints run keeps keeps_trace asks asks_trace (inr (inl not)) =
      (not.0, not.1, says.not_saved bytes lines not.2 mid not.3 load is not.4, ends_from not.0 not.1 result before between after silent not.5)
  ran lines p x left traced output wanted wanted_trace is at prints run keeps keeps_trace asks asks_trace (inr (inr half)) =
      let kept = half.0 in
      let not = half.2 in
      (not.0, not.1, says.trace_not_saved bytes lines not.2 p x mid kept not.3 load is at run (left_saved x mid kept save left wanted asks keeps half.1) not.4, ends_from not.0 not.1 result before between after silent not.5)

pub not_run : (file : List ℕ) (options : BlocksOptions) (save trace : Option (List ℕ)) (bytes : List ℕ) (old new : FilesState) (result : ℕ) (before between after : SinkState) → IsLoaded file bytes old new → between ≡ before
    → (refusal : BlockTextRefusal) → IsRefused (RefusesText bytes) refusal → EndsRefused refusal result between after → BlocksEnd file options save trace old new result before after
not_run file options save trace bytes old new result before between after load silent (At line cause) bad (inl ends) =
    (2, refused_line line cause, says.refused bytes line cause load bad, subst (λ (s : SinkState). EndsWith 2 (refused_line line cause) result s after) silent ends)
not_run file options save trace bytes old new result before between after load silent (At line cause) bad (inr ends) =
    (6, memory_line, says.wants_memory bytes load, subst (λ (s : SinkState). EndsWith 6 memory_line result s after) silent ends)
not_run file options save trace bytes old new result before between after load silent OutOfMemory bad ends =
    (6, memory_line, says.wants_memory bytes load, subst (λ (s : SinkState). EndsWith 6 memory_line result s after) silent ends)
