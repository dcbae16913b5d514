-- Each status of `apply` comes exactly where its cause holds.
use Rattle.std.proofs.Common.{◌≡◌, ◌≢◌, ℕ, List, Option, Some, None, refl, sym, ◌∙◌, ap, subst}
use Rattle.std.specs.Prelude.{Ok}
use Rattle.mq_blocks.specs.Blocks.{content}
use Rattle.mq_blocks.specs.Descriptor.{Descriptor}
use Rattle.mq_blocks.specs.Geometry.{meta_of}
use Rattle.mq_command_images.specs.Commands.{RefusesName, SaysNothing, SaysOfImage}
use Rattle.mq_command_images.proofs.CommandsExact.{of-image, one-held, refused-status, says-where}
use Rattle.mq_command_io.specs.Ending.{EndsWith, IsLoaded, IsUnlessFailed}
use Rattle.mq_command_io.proofs.Ending.{not-loaded-status, not-saved-status, still-memory, unless_wanting}
use Rattle.mq_image.specs.Drives.{IsRead}
use Rattle.mq_image.specs.Faults.{HasFault}
use Rattle.mq_image.specs.File.{DriveImage}
use Rattle.mq_image.specs.declared.fault.FileFault.{FileFault}
use Rattle.mq_image.proofs.FileForms.{read-faulty, read-once}
use Rattle.mq_image_ops.specs.Standing.{Reads, RefusesDrive}
use Rattle.mq_image_ops.specs.Views.{view_of}
use Rattle.mq_image_ops.proofs.Standing.{read-refused}
use Rattle.mq_kv_buckets.specs.Buckets.{IsFormed, records_of}
use Rattle.mq_kv_buckets.specs.declared.operation.KvOp.{KvOp}
use Rattle.mq_kv_buckets.proofs.BucketsWrong.{never-bad}
use Rattle.mq_image_run.specs.Limits.{AreWithin, IsFirstAbove}
use Rattle.mq_kv_run.specs.Limits.{HoldsStore, IsBadBucket, standing_map}
use Rattle.mq_kv_run.specs.Runs.{IsRunOf}
use Rattle.mq_kv_run.specs.declared.options.KvOptions.{KvOptions}
use Rattle.mq_kv_run.specs.declared.ran.KvRun.{KvRun}
use Rattle.mq_image_run.proofs.Refusals.{not-above}
use Rattle.mq_kv_run.proofs.Left.{only-wanting, run-holds}
use Rattle.mq_kv_text.specs.Files.{IsFile, IsMisread}
use Rattle.mq_kv_text.proofs.FilesOnce.{exact_of, only_of}
use Rattle.mq_kv_tool.specs.Applies.{Applies, IsApplied, RefusesFile, RefusesRunning, applied, misread, no_file, no_image, no_run, not_loaded, not_run, unsaved}
use Rattle.mq_kv_tool.specs.Applies as applies
use Rattle.mq_kv_tool.specs.Decided.{ApplyDecides, HaveFiles, above_limit, bad_bucket, bad_file, no_drive, runs, unreadable}
use Rattle.mq_kv_tool.proofs.Applied.{ApplyEnds}
use Rattle.mq_outside.specs.Outside.{FilesState, Held, Holds, SinkState, Tells}
use Rattle.mq_recover.specs.declared.refusal.ImageFault.{ImageFault}
use Rattle.mq_recover.proofs.DrivesImages.{read-same}

-- ---- files

-- the text that a name gave is the one that the files show
one-text : (held : Option Held) (name bytes other : List ℕ) (old new : FilesState) → old.contents ≡ held → Tells held name (Some bytes) → IsLoaded name other old new → other ≡ bytes
one-text held name bytes other old new same tells load = one-held held name bytes other tells (subst (λ (h : Option Held). Holds h name other) same load.holds)

one-file : (bytes : List ℕ) (gs hs : List (List KvOp)) → IsFile bytes gs → IsFile bytes hs → gs ≡ hs
one-file bytes gs hs is also = only_of (λ (l : List (List KvOp)). l) bytes (Ok gs) is tt hs also

file-or-misread : (bytes : List ℕ) (gs : List (List KvOp)) (line : ℕ) → IsFile bytes gs → IsMisread bytes line → ⊥
file-or-misread bytes gs line is bad = exact_of (λ (l : List (List KvOp)). l) bytes (Ok gs) is tt line bad

-- a file is refused with status 2, a fault and out of memory aside
file-two : (name : List ℕ) (old new : FilesState) (status : ℕ) (text : List ℕ) (result : ℕ) → RefusesFile name old new status text → IsUnlessFailed status result → IsUnlessFailed 2 result
file-two name old new status text result (not_loaded not) ends = not-loaded-status name old new status text 2 result not ends
file-two name old new _ _ result (misread bytes line load bad) ends = ends
file-two name old new _ _ result (applies.RefusesFile.wanting bytes load) ends = still-memory 2 result ends

-- a file of groups that the files reveal is refused only for a fault or as out of memory
file-held : (held : Option Held) (name bytes : List ℕ) (groups : List (List KvOp)) (old new : FilesState) (status : ℕ) (text : List ℕ) (wanted result : ℕ) → old.contents ≡ held → Tells held name (Some bytes) → IsFile bytes groups
    → RefusesFile name old new status text → IsUnlessFailed status result → IsUnlessFailed wanted result
file-held held name bytes groups old new status text wanted result same tells is (not_loaded not) ends = not-loaded-status name old new status text wanted result not ends
file-held held name bytes groups old new _ _ wanted result same tells is (misread other line load bad) ends =
    absurd (file-or-misread bytes groups line is (subst (λ (l : List ℕ). IsMisread l line) (one-text held name bytes other old new same tells load) bad))
file-held held name bytes groups old new _ _ wanted result same tells is (applies.RefusesFile.wanting other load) ends = still-memory wanted result ends

-- ---- images

one-prefix : (x : DriveImage) (ds es : List Descriptor) (top other : ℕ) → Reads x ds top → Reads x es other → (ds ≡ es) × (top ≡ other)
one-prefix x ds es top other a b = read-same x.geometry (view_of x) ds es top other a b

-- a bucket that is not in its form stands on no image with a store
formed-bad : (x : DriveImage) (ds es : List Descriptor) (top other b offset : ℕ) → HoldsStore x ds top → Reads x es other → IsBadBucket (meta_of x.geometry) (standing_map x es) b offset → ⊥
formed-bad x ds es top other b offset holds reads bad =
    let formed : IsFormed (content (standing_map x es b)) = subst (λ (l : List Descriptor). IsFormed (content (standing_map x l b))) (one-prefix x ds es top other holds.read reads).0 (holds.formed b bad.is) in
    never-bad (content (standing_map x es b)) (records_of (content (standing_map x es b))) offset formed bad.bad

-- ---- which status comes

module _ (o : KvOptions) (image file : List ℕ) (old new : FilesState) (result : ℕ) (bytes : List ℕ) (x : DriveImage) (tells : Tells old.contents image (Some bytes)) (read : IsRead x bytes) where
  one-image : (other : List ℕ) (y : DriveImage) (mid : FilesState) → IsLoaded image other old mid → IsRead y other → y ≡ x
  one-image other y mid load is = read-once y x bytes (subst (IsRead y) (one-held old.contents image bytes other tells load.holds) is) read

  named : (wanted : ℕ) (status : ℕ) (text : List ℕ) → RefusesName image old new status text → IsUnlessFailed status result → IsUnlessFailed wanted result
  named wanted status text says ends = says-where (SaysOfImage SaysNothing) image bytes wanted old new result status text tells (of-image SaysNothing bytes x wanted read (λ s t nothing. absurd nothing)) says ends

  module _ (words : List ℕ) (tells_file : Tells old.contents file (Some words)) where
    bad-status : (line : ℕ) → IsMisread words line → (status : ℕ) (text : List ℕ) → Applies o image file old new status text → IsUnlessFailed status result → IsUnlessFailed 2 result
    bad-status line bad _ _ (applied mid all r is save) ends =
        absurd (file-or-misread words is.groups line (subst (λ (l : List ℕ). IsFile l is.groups) (one-text old.contents file words is.words mid all is.image_loaded.contents tells_file is.file_loaded) is.file_read) bad)
    bad-status line bad status text (no_image says) ends = named 2 status text says ends
    bad-status line bad status text (no_file other y mid load is refuses) ends = file-two file mid new status text result refuses ends
    bad-status line bad status text (no_run other y own groups mid load is loaded spelled refuses) ends =
        absurd (file-or-misread words groups line (subst (λ (l : List ℕ). IsFile l groups) (one-text old.contents file words own mid new load.contents tells_file loaded) spelled) bad)
    bad-status line bad status text (unsaved mid all r is not) ends =
        absurd (file-or-misread words is.groups line (subst (λ (l : List ℕ). IsFile l is.groups) (one-text old.contents file words is.words mid all is.image_loaded.contents tells_file is.file_loaded) is.file_read) bad)

    module _ (groups : List (List KvOp)) (is_file : IsFile words groups) where
      same-run : (mid all : FilesState) (r : KvRun) → IsApplied o image file old mid all r → IsRunOf x groups o r
      same-run mid all r is =
          let drive : is.x ≡ x = one-image is.bytes is.x mid is.image_loaded is.image_read in
          let text : is.words ≡ words = one-text old.contents file words is.words mid all is.image_loaded.contents tells_file is.file_loaded in
          let same : is.groups ≡ groups = one-file words is.groups groups (subst (λ (l : List ℕ). IsFile l is.groups) text is.file_read) is_file in
          subst (λ (z : DriveImage). IsRunOf z groups o r) drive (subst (λ (l : List (List KvOp)). IsRunOf is.x l o r) same is.run)

      -- either the groups are run, or why not is printed, a fault and out of memory aside
      settled : (Goal : Type 0) (wanted : ℕ) → (IsUnlessFailed wanted result → Goal)
          → ((status : ℕ) (text : List ℕ) → RefusesRunning x status text → IsUnlessFailed status result → Goal)
          → ((r : KvRun) → IsRunOf x groups o r → IsUnlessFailed 0 result → Goal)
          → (status : ℕ) (text : List ℕ) → Applies o image file old new status text → IsUnlessFailed status result → Goal
      settled Goal wanted from none run _ _ (applied mid all r is save) ends = run r (same-run mid all r is) ends
      settled Goal wanted from none run status text (no_image says) ends = from (named wanted status text says ends)
      settled Goal wanted from none run status text (no_file other y mid load is refuses) ends =
          from (file-held old.contents file words groups mid new status text wanted result load.contents tells_file is_file refuses ends)
      settled Goal wanted from none run status text (no_run other y own gs mid load is loaded spelled refuses) ends =
          none status text (subst (λ (z : DriveImage). RefusesRunning z status text) (one-image other y mid load is) refuses) ends
      settled Goal wanted from none run status text (unsaved mid all r is not) ends = from (not-saved-status image all new status text wanted result not ends)

      refused-three : (status : ℕ) (text : List ℕ) → RefusesRunning x status text → IsUnlessFailed status result → IsUnlessFailed 3 result
      refused-three _ _ (not_run e refuses other) ends = ends
      refused-three _ _ applies.RefusesRunning.wanting ends = still-memory 3 result ends

      refused-none : (ds : List Descriptor) (top : ℕ) → HoldsStore x ds top → (status : ℕ) (text : List ℕ) → RefusesRunning x status text → IsUnlessFailed status result → IsUnlessFailed 0 result
      refused-none ds top holds _ _ (not_run e refuses other) ends = absurd (other (only-wanting never-bad x ds top e holds refuses))
      refused-none ds top holds _ _ applies.RefusesRunning.wanting ends = still-memory 0 result ends

      three : ((r : KvRun) → IsRunOf x groups o r → ⊥) → (status : ℕ) (text : List ℕ) → Applies o image file old new status text → IsUnlessFailed status result → IsUnlessFailed 3 result
      three never = settled (IsUnlessFailed 3 result) 3 (λ u. u) refused-three (λ r run u. absurd (never r run))

      unreadable-status : (e : ImageFault) → RefusesDrive x e → (status : ℕ) (text : List ℕ) → Applies o image file old new status text → IsUnlessFailed status result → IsUnlessFailed 3 result
      unreadable-status e refuses = three (λ r run. read-refused x run.on.recovery.ds run.on.recovery.top e run.on.recovery.plan.read refuses)

      limit-status : (ds : List Descriptor) (top n : ℕ) → Reads x ds top → IsFirstAbove x top n → (status : ℕ) (text : List ℕ) → Applies o image file old new status text → IsUnlessFailed status result → IsUnlessFailed 3 result
      limit-status ds top n reads above = three (λ r run. not-above x n top (subst (AreWithin x) (one-prefix x run.on.recovery.ds ds run.on.recovery.top top run.on.recovery.plan.read reads).1 (run-holds x groups o r run).within) above)

      bucket-status : (ds : List Descriptor) (top b offset : ℕ) → Reads x ds top → IsBadBucket (meta_of x.geometry) (standing_map x ds) b offset → (status : ℕ) (text : List ℕ) → Applies o image file old new status text → IsUnlessFailed status result → IsUnlessFailed 3 result
      bucket-status ds top b offset reads bad = three (λ r run. formed-bad x run.on.recovery.ds ds run.on.recovery.top top b offset (run-holds x groups o r run) reads bad)

      run-status : (ds : List Descriptor) (top : ℕ) → HoldsStore x ds top → (status : ℕ) (text : List ℕ) → Applies o image file old new status text → IsUnlessFailed status result → IsUnlessFailed 0 result
      run-status ds top holds = settled (IsUnlessFailed 0 result) 0 (λ u. u) (refused-none ds top holds) (λ r run u. u)

-- bytes that are no image
fault-status : (o : KvOptions) (image file : List ℕ) (old new : FilesState) (result : ℕ) (bytes : List ℕ) (e : FileFault) → Tells old.contents image (Some bytes) → HasFault bytes (Some e)
    → (status : ℕ) (text : List ℕ) → Applies o image file old new status text → IsUnlessFailed status result → IsUnlessFailed 3 result
fault-status o image file old new result bytes e tells has _ _ (applied mid all r is save) ends =
    absurd (read-faulty is.x bytes e (subst (IsRead is.x) (one-held old.contents image bytes is.bytes tells is.image_loaded.holds) is.image_read) has)
fault-status o image file old new result bytes e tells has status text (no_image says) ends =
    says-where (SaysOfImage SaysNothing) image bytes 3 old new result status text tells (refused-status SaysNothing bytes e has) says ends
fault-status o image file old new result bytes e tells has status text (no_file other y mid load is refuses) ends =
    absurd (read-faulty y bytes e (subst (IsRead y) (one-held old.contents image bytes other tells load.holds) is) has)
fault-status o image file old new result bytes e tells has status text (no_run other y own gs mid load is loaded spelled refuses) ends =
    absurd (read-faulty y bytes e (subst (IsRead y) (one-held old.contents image bytes other tells load.holds) is) has)
fault-status o image file old new result bytes e tells has status text (unsaved mid all r is not) ends =
    absurd (read-faulty is.x bytes e (subst (IsRead is.x) (one-held old.contents image bytes is.bytes tells is.image_loaded.holds) is.image_read) has)

module _ (o : KvOptions) (image file : List ℕ) (old new : FilesState) (before after : SinkState) (result : ℕ) (ends : ApplyEnds o image file old new before after result) where
  unless : IsUnlessFailed ends.0 result
  unless = unless_wanting ends.0 ends.1 result before after ends.3

  pub decided : (status : ℕ) → ApplyDecides image file old.contents status → IsUnlessFailed status result
  decided _ (no_drive bytes e tells has) = fault-status o image file old new result bytes e tells has ends.0 ends.1 ends.2 unless
  decided _ (bad_file bytes words x line tells read told bad) = bad-status o image file old new result bytes x tells read words told line bad ends.0 ends.1 ends.2 unless
  decided _ (unreadable x e have refuses) = unreadable-status o image file old new result have.bytes x have.tells_image have.read have.words have.tells_file have.groups have.is_file e refuses ends.0 ends.1 ends.2 unless
  decided _ (above_limit x ds top n have reads above) = limit-status o image file old new result have.bytes x have.tells_image have.read have.words have.tells_file have.groups have.is_file ds top n reads above ends.0 ends.1 ends.2 unless
  decided _ (bad_bucket x ds top b offset have reads within bad) = bucket-status o image file old new result have.bytes x have.tells_image have.read have.words have.tells_file have.groups have.is_file ds top b offset reads bad ends.0 ends.1 ends.2 unless
  decided _ (runs x ds top have holds) = run-status o image file old new result have.bytes x have.tells_image have.read have.words have.tells_file have.groups have.is_file ds top holds ends.0 ends.1 ends.2 unless
