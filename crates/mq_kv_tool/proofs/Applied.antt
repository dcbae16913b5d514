-- What `apply` says, step by step.
use Rattle.std.proofs.Common.{◌≡◌, ◌≢◌, ◌⊎◌, inl, inr, ℕ, List, refl, sym, ◌∙◌, ap, subst}
use Rattle.std.specs.Prelude.{IfOk, MatchResult, Result, Ok, Err}
use Rattle.mq_command_images.proofs.CommandsSaying.{said-as}
use Rattle.mq_command_io.specs.Ending.{EndsWith, IsLoaded, IsNotSaved, IsSaved, memory_line}
use Rattle.mq_image.specs.Drives.{IsRead}
use Rattle.mq_image.specs.File.{DriveImage, image_bytes}
use Rattle.mq_kv_buckets.specs.declared.operation.KvOp.{KvOp}
use Rattle.mq_kv_run.specs.Promise.{RunsKeepTheirPromise}
use Rattle.mq_kv_run.specs.Refusals.{RefusesStore}
use Rattle.mq_kv_run.specs.Runs.{IsRunOf}
use Rattle.mq_kv_run.specs.declared.options.KvOptions.{KvOptions}
use Rattle.mq_kv_run.specs.declared.ran.KvRun.{KvRun}
use Rattle.mq_kv_run.specs.declared.refusal.KvRunRefusal.{KvRunRefusal}
use Rattle.mq_kv_run.specs.declared.refusal.KvRunRefusal.TheVariants as refusal
use Rattle.mq_kv_text.specs.Files.{IsFile, IsMisread, IsRefused}
use Rattle.mq_kv_text.specs.Reports.{misread_text, report_text}
use Rattle.mq_kv_text.specs.declared.refusal.KvTextRefusal.{KvTextRefusal}
use Rattle.mq_kv_text.specs.declared.refusal.KvTextRefusal.TheVariants.{Line as At}
use Rattle.mq_kv_tool.specs.Applies.{Applies, IsApplied, RefusesFile, RefusesRunning, applied, misread, no_file, no_run, not_run, refusal_line, unsaved}
use Rattle.mq_kv_tool.specs.Applies as applies
use Rattle.mq_outside.specs.Outside.{FilesState, SinkState}

-- ---- the file

-- what is said of a file that is refused
pub file-says : {A E : Type 0} (stat : A → ℕ) (words : A → List ℕ) (name bytes : List ℕ) (why : KvTextRefusal) (old new : FilesState) (before mid after : SinkState) (answer : Result A E) (result : ℕ) → IsLoaded name bytes old new → mid ≡ before
    → IsRefused (IsMisread bytes) why
    → IfOk answer (λ a. (line : ℕ) × (why ≡ At line) × (stat a ≡ 2) × (words a ≡ misread_text line))
    → MatchResult answer (λ a. EndsWith (stat a) (words a) result mid after) (λ _. EndsWith 6 memory_line result mid after)
    → (status : ℕ) × (text : List ℕ) × RefusesFile name old new status text × EndsWith status text result before after
file-says stat words name bytes why old new before mid after (Ok a) result load same refused is ends = (
  stat a,
  words a,
  said-as (RefusesFile name old new) 2 (stat a) (misread_text is.0) (words a) is.2 is.3
      (misread bytes is.0 load (subst (IsRefused (IsMisread bytes)) is.1 refused)),
  subst (λ (s : SinkState). EndsWith (stat a) (words a) result s after) same ends,
)
file-says stat words name bytes why old new before mid after (Err e) result load same refused is ends =
    (6, memory_line, applies.RefusesFile.wanting bytes load, subst (λ (s : SinkState). EndsWith 6 memory_line result s after) same ends)

-- ---- the run

-- the answer to a run that is refused
pub running-refused : {A E : Type 0} (stat : A → ℕ) (words : A → List ℕ) (x : DriveImage) (e : KvRunRefusal) (answer : Result A E) → RefusesStore x e → IfOk answer (λ a. (stat a ≡ 3) × (words a ≡ refusal_line e) × (e ≢ refusal.OutOfMemory))
    → IfOk answer (λ a. RefusesRunning x (stat a) (words a))
running-refused stat words x e (Ok a) refuses is = said-as (RefusesRunning x) 3 (stat a) (refusal_line e) (words a) is.0 is.1 (not_run e refuses is.2)
running-refused stat words x e (Err f) refuses is = tt

-- ---- the whole

-- the end of `apply`
abbrev pub ApplyEnds : KvOptions → (image file : List ℕ) → (old new : FilesState) → (before after : SinkState) → ℕ → Type 0
ApplyEnds o image file old new before after result = (status : ℕ) × (text : List ℕ) × Applies o image file old new status text × EndsWith status text result before after

-- a run of these groups on this image, with its file and its report
abbrev pub IsRunAs : DriveImage → List (List KvOp) → KvOptions → (file report : List ℕ) → Type 0
IsRunAs x groups o file report = (r : KvRun) × IsRunOf x groups o r × (file ≡ image_bytes r.image) × (report ≡ report_text r.report)

pub run-saved : (o : KvOptions) (image file : List ℕ) (x : DriveImage) (groups : List (List KvOp)) (left report : List ℕ) (old mid read new : FilesState) (before between after : SinkState) (result : ℕ) → RunsKeepTheirPromise
    → (bytes : List ℕ) × IsLoaded image bytes old mid × IsRead x bytes → (words : List ℕ) × IsLoaded file words mid read × IsFile words groups → between ≡ before → IsRunAs x groups o left report
    → (IsSaved image left read new × EndsWith 0 report result between after) ⊎ ((s : ℕ) × (t : List ℕ) × IsNotSaved image read new s t × EndsWith s t result between after)
    → ApplyEnds o image file old new before after result
run-saved o image file x groups left report old mid read new before between after result keeps load text same run ended =
    let whole : IsApplied o image file old mid read run.0 = record { bytes = load.0; x = x; words = text.0; groups = groups; image_loaded = load.1; image_read = load.2; file_loaded = text.1; file_read = text.2; run = run.1; promise = keeps x groups o run.0 run.1 } in
    by whole ended
  where
    by : IsApplied o image file old mid read run.0 → (IsSaved image left read new × EndsWith 0 report result between after) ⊎ ((s : ℕ) × (t : List ℕ) × IsNotSaved image read new s t × EndsWith s t result between after)
        → ApplyEnds o image file old new before after result
    by whole (inl save) = (
      0,
      report,
      subst (Applies o image file old new 0) (sym run.3) (applied mid read run.0 whole (subst (λ (l : List ℕ). IsSaved image l read new) run.2 save.0)),
      subst (λ (s : SinkState). EndsWith 0 report result s after) same save.1,
    )
    by whole (inr not) = (not.0, not.1, unsaved mid read run.0 whole not.2, subst (λ (s : SinkState). EndsWith not.0 not.1 result s after) same not.3)

pub run-refused : {A E : Type 0} (stat : A → ℕ) (words : A → List ℕ) (o : KvOptions) (image file : List ℕ) (x : DriveImage) (groups : List (List KvOp)) (old mid new : FilesState) (before between after : SinkState) (answer : Result A E) (result : ℕ)
    → (bytes : List ℕ) × IsLoaded image bytes old mid × IsRead x bytes → (text : List ℕ) × IsLoaded file text mid new × IsFile text groups → between ≡ before
    → IfOk answer (λ a. RefusesRunning x (stat a) (words a))
    → MatchResult answer (λ a. EndsWith (stat a) (words a) result between after) (λ _. EndsWith 6 memory_line result between after)
    → ApplyEnds o image file old new before after result
run-refused stat words o image file x groups old mid new before between after (Ok a) result load text same refuses ends =
    (stat a, words a, no_run load.0 x text.0 groups mid load.1 load.2 text.1 text.2 refuses, subst (λ (s : SinkState). EndsWith (stat a) (words a) result s after) same ends)
run-refused stat words o image file x groups old mid new before between after (Err e) result load text same refuses ends =
    (6, memory_line, no_run load.0 x text.0 groups mid load.1 load.2 text.1 text.2 applies.RefusesRunning.wanting, subst (λ (s : SinkState). EndsWith 6 memory_line result s after) same ends)
