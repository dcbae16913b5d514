-- How each command goes on, by what there is to say of it: where its loads and its save end.
use Rattle.std.proofs.Common.{◌≡◌, ◌≢◌, ◌≤◌, ◌<◌, ◌⊎◌, inl, inr, ℕ, Bool, cond, true, false, List, [], ◌∷◌, get_or, length, Option, Some, None, refl, sym, ◌∙◌, ap, subst, arith}
use Rattle.std.specs.List.{Contains}
use Rattle.std.specs.Prelude.{bytes_eq}
use Rattle.mq_command_images.specs.Commands.{RefusesName, SaysNothing, SaysOfImage, is_image}
use Rattle.mq_command_images.specs.Commands as commands
use Rattle.mq_command_io.specs.Ending.{IsLoaded, IsNotLoaded, IsNotSaved, IsSaved, SaysOf, TakesOver, TakesWithin, load_failed, load_memory, load_too_long, loaded, memory_line, save_failed, save_memory, HoldsTooMuch, TakesUpTo, KeepsOthers, SaysOnly, said}
use Rattle.mq_command_io.specs.Ending as ending
use Rattle.mq_command_io.proofs.Ending.{keeps, keeps-but, saved-others}
use Rattle.mq_image.specs.File.{DriveImage, image_bytes}
use Rattle.mq_kv_cli.specs.Asked.{Asked, apply, help, make, version}
use Rattle.mq_kv_cli.specs.declared.command.ApplyOptions.{ApplyOptions}
use Rattle.mq_kv_text.specs.Files.{IsMisread}
use Rattle.mq_kv_text.specs.Reports.{misread_text}
use Rattle.mq_kv_tool.specs.Applies.{Applies, RefusesFile, RefusesRunning, applied, misread, no_file, no_image, no_run, not_loaded, not_run, unsaved}
use Rattle.mq_kv_tool.specs.Applies as applies
use Rattle.mq_kv_tool.specs.Makes.{Makes, made, not_made}
use Rattle.mq_kv_tool.specs.Makes as makes
use Rattle.mq_kv_tool.specs.Outcome.{Gives}
use Rattle.mq_kv_tool.specs.Program.{IsStatus, loaded_names, saved_names}
use Rattle.mq_kv_tool.specs.Says.{Says, kv_options}
use Rattle.mq_outside.specs.Outside.{FilesState, Held, Holds, HoldsOver, OthersSame, Rose, put_name}

-- nothing failed, and no name changed
abbrev pub IsQuiet : FilesState → FilesState → Type 0
IsQuiet old new = (new.contents ≡ old.contents) × (new.faults ≡ old.faults)

-- a cause that the loaded bytes have, or no memory
abbrev pub IsCause : (status : ℕ) → (text : List ℕ) → Type 0
IsCause status text = (status ≡ 2) ⊎ ((status ≡ 3) ⊎ ((status ≡ 6) × (text ≡ memory_line)))

pub data Course (a : Asked) (old new : FilesState) : (status : ℕ) → (text : List ℕ) → Type 0 where
  at_load : {status : ℕ} {text : List ℕ} (name : List ℕ) (mid : FilesState)
      → Contains (loaded_names a) name → IsQuiet old mid
      → (HoldsOver mid.contents name × TakesOver mid.taken new.taken → HoldsTooMuch (loaded_names a) old new)
      → IsNotLoaded name mid new status text → Course a old new status text
  at_cause : {status : ℕ} {text : List ℕ} → IsCause status text → IsQuiet old new
      → TakesUpTo (length (loaded_names a)) old.taken new.taken → Course a old new status text
  at_save : {status : ℕ} {text : List ℕ} (name : List ℕ) (mid : FilesState)
      → Contains (saved_names a) name → IsQuiet old mid → IsNotSaved name mid new status text
      → Course a old new status text
  was_saved : {text : List ℕ} (name bytes : List ℕ) (mid : FilesState) → Contains (saved_names a) name
      → IsQuiet old mid → TakesUpTo (length (loaded_names a)) old.taken mid.taken → Gives a old bytes
      → IsSaved name bytes mid new → Course a old new 0 text
  saved_none : {text : List ℕ} → new ≡ old → Course a old new 0 text

-- ---- loads

same-files : (old new : FilesState) → new ≡ old → IsQuiet old new
same-files old new same = (ap (λ (f : FilesState). f.contents) same, ap (λ (f : FilesState). f.faults) same)

quiet-load : (name bytes : List ℕ) (old new : FilesState) → IsLoaded name bytes old new → IsQuiet old new
quiet-load name bytes old new load = (load.contents, load.faults)

quiet-loads : (first bytes second words : List ℕ) (old mid new : FilesState) → IsLoaded first bytes old mid → IsLoaded second words mid new → IsQuiet old new
quiet-loads first bytes second words old mid new load next = (next.contents ∙ load.contents, next.faults ∙ load.faults)

taken-none : (loads : ℕ) (old new : FilesState) → new ≡ old → TakesUpTo loads old.taken new.taken
taken-none loads old new same = let e = ap (λ (f : FilesState). f.taken) same in (omega (arith, e), omega (arith, e))

taken-one : (old new : ℕ) → TakesWithin old new → TakesUpTo 2 old new
taken-one old new takes = let low = takes.0 in let high = takes.1 in (low, omega (arith, low, high))

taken-two : (old mid new : ℕ) → TakesWithin old mid → TakesWithin mid new → TakesUpTo 2 old new
taken-two old mid new first second =
    let a = first.0 in
    let b = first.1 in
    let c = second.0 in
    let d = second.1 in
    (omega (arith, a, c), omega (arith, b, d))

-- ---- `new`

of-make : (image : List ℕ) (old new : FilesState) (status : ℕ) (text : List ℕ) → Makes image old new status text → Course (make image) old new status text
of-make image old new _ _ (made bytes is save) = was_saved image bytes old (0, omega arith, refl) (refl, refl) (taken-none 0 old old refl) is save
of-make image old new status text (not_made not) = at_save image old (0, omega arith, refl) (refl, refl) not
of-make image old new _ _ (makes.wanting same) = at_cause (inr (inr (refl, refl))) (same-files old new same) (taken-none 0 old new same)

-- ---- `apply`

module _ (image file : List ℕ) (options : ApplyOptions) (old new : FilesState) where
  abbrev Goes : ℕ → List ℕ → Type 0
  Goes status text = Course (apply image file options) old new status text

  of-name : (status : ℕ) (text : List ℕ) → RefusesName image old new status text → Goes status text
  of-name status text (loaded bytes load (is_image x read nothing)) = absurd nothing
  of-name _ _ (loaded bytes load (commands.no_image e has)) = at_cause (inr (inl refl)) (quiet-load image bytes old new load) (taken-one old.taken new.taken load.takes)
  of-name status text (ending.not_loaded not) = at_load image old (0, omega arith, refl) (refl, refl) (λ long. inl long) not
  of-name status text (ending.SaysOf.wanting bytes load six line) = at_cause (inr (inr (six, line))) (quiet-load image bytes old new load) (taken-one old.taken new.taken load.takes)

  of-file : (bytes : List ℕ) (mid : FilesState) → IsLoaded image bytes old mid → (status : ℕ) (text : List ℕ) → RefusesFile file mid new status text → Goes status text
  of-file bytes mid load status text (not_loaded not) = at_load file mid (1, omega arith, refl) (quiet-load image bytes old mid load) (λ long. inr (bytes, mid, load, inl long)) not
  of-file bytes mid load _ _ (misread words line next bad) = at_cause (inl refl) (quiet-loads image bytes file words old mid new load next) (taken-two old.taken mid.taken new.taken load.takes next.takes)
  of-file bytes mid load _ _ (applies.RefusesFile.wanting words next) = at_cause (inr (inr (refl, refl))) (quiet-loads image bytes file words old mid new load next) (taken-two old.taken mid.taken new.taken load.takes next.takes)

  of-running : (x : DriveImage) → IsQuiet old new → TakesUpTo 2 old.taken new.taken → (status : ℕ) (text : List ℕ) → RefusesRunning x status text → Goes status text
  of-running x quiet takes _ _ (not_run e refuses other) = at_cause (inr (inl refl)) quiet takes
  of-running x quiet takes _ _ applies.RefusesRunning.wanting = at_cause (inr (inr (refl, refl))) quiet takes

  of-apply : (status : ℕ) (text : List ℕ) → Applies (kv_options options) image file old new status text → Goes status text
  of-apply _ _ (applied mid read r is save) =
      was_saved image (image_bytes r.image) read (0, omega arith, refl) (quiet-loads image is.bytes file is.words old mid read is.image_loaded is.file_loaded) (taken-two old.taken mid.taken read.taken is.image_loaded.takes is.file_loaded.takes) (mid, read, r, is, refl) save
  of-apply status text (no_image says) = of-name status text says
  of-apply status text (no_file bytes x mid load is refuses) = of-file bytes mid load status text refuses
  of-apply status text (no_run bytes x words groups mid load is next spelled refuses) =
      of-running x (quiet-loads image bytes file words old mid new load next) (taken-two old.taken mid.taken new.taken load.takes next.takes) status text refuses
  of-apply status text (unsaved mid read r is not) = at_save image read (0, omega arith, refl) (quiet-loads image is.bytes file is.words old mid read is.image_loaded is.file_loaded) not

of-only : (a : Asked) (line : List ℕ) (old new : FilesState) (status : ℕ) (text : List ℕ) → SaysOnly line old new status text → Course a old new status text
of-only a line old new _ _ (said same) = saved_none same

pub course : (a : Asked) (old new : FilesState) (status : ℕ) (text : List ℕ) → Says a old new status text → Course a old new status text
course (make image) old new status text says = of-make image old new status text says
course (apply image file options) old new status text says = of-apply image file options old new status text says
course (help topic) old new status text says = of-only (help topic) _ old new status text says
course version old new status text says = of-only version _ old new status text says

-- ---- names

others-from : (old mid new : FilesState) (name : List ℕ) → mid.contents ≡ old.contents → OthersSame mid.contents new.contents name → OthersSame old.contents new.contents name
others-from old mid new name same others = subst (λ (o : Option Held). OthersSame o new.contents name) same others

-- ---- what a course tells

pub record Told (a : Asked) (old new : FilesState) (status : ℕ) : Type 0 where
  pub is : IsStatus status
  pub names : KeepsOthers (saved_names a) old.contents new.contents
  pub low : (status ≡ 2) ⊎ (status ≡ 3) → new.contents ≡ old.contents
  pub not_one : status ≢ 1
  pub faults : status ≢ 4 → new.faults ≡ old.faults
  pub fault : status ≡ 4 → Rose old.faults new.faults ⊎ HoldsTooMuch (loaded_names a) old new
  pub takes : status ≢ 4 → status ≢ 6 → TakesUpTo (length (loaded_names a)) old.taken new.taken

module _ (a : Asked) (old new : FilesState) where
  quiet-names : IsQuiet old new → KeepsOthers (saved_names a) old.contents new.contents
  quiet-names quiet = keeps (saved_names a) old new quiet.0

  told-load : (name : List ℕ) (mid : FilesState) → IsQuiet old mid → (HoldsOver mid.contents name × TakesOver mid.taken new.taken → HoldsTooMuch (loaded_names a) old new) → (status : ℕ) (text : List ℕ) → IsNotLoaded name mid new status text → Told a old new status
  told-load name mid quiet long _ _ (load_failed same rose tried) = record {
    is = inr (inr (inr (inr (inl refl))));
    names = keeps (saved_names a) old new (same ∙ quiet.0);
    low = λ _. same ∙ quiet.0;
    not_one = λ e. omega (arith, e);
    faults = λ n. absurd (n refl);
    fault = λ _. inl (subst (λ (n : ℕ). Rose n new.faults) quiet.1 rose);
    takes = λ n _. absurd (n refl);
  }
  told-load name mid quiet long _ _ (load_too_long same over faults takes tried) = record {
    is = inr (inr (inr (inr (inl refl))));
    names = keeps (saved_names a) old new (same ∙ quiet.0);
    low = λ _. same ∙ quiet.0;
    not_one = λ e. omega (arith, e);
    faults = λ n. absurd (n refl);
    fault = λ _. inr (long (over, takes));
    takes = λ n _. absurd (n refl);
  }
  told-load name mid quiet long _ _ (load_memory same faults tried) = record {
    is = inr (inr (inr (inr (inr refl))));
    names = keeps (saved_names a) old new (same ∙ quiet.0);
    low = λ _. same ∙ quiet.0;
    not_one = λ e. omega (arith, e);
    faults = λ _. faults ∙ quiet.1;
    fault = λ e. absurd (omega (arith, e));
    takes = λ _ n. absurd (n refl);
  }

  told-cause : (status : ℕ) (text : List ℕ) → IsCause status text → IsQuiet old new → TakesUpTo (length (loaded_names a)) old.taken new.taken → Told a old new status
  told-cause status text cause quiet takes = record {
    is = is-status cause;
    names = quiet-names quiet;
    low = λ _. quiet.0;
    not_one = λ e. not-so cause (inl e);
    faults = λ _. quiet.1;
    fault = λ e. absurd (not-so cause (inr e));
    takes = λ _ _. takes;
  }
    where
      is-status : IsCause status text → IsStatus status
      is-status (inl two) = inr (inr (inl two))
      is-status (inr (inl three)) = inr (inr (inr (inl three)))
      is-status (inr (inr six)) = inr (inr (inr (inr (inr six.0))))

      not-so : IsCause status text → (status ≡ 1) ⊎ (status ≡ 4) → ⊥
      not-so (inl two) (inl e) = omega (arith, two, e)
      not-so (inl two) (inr e) = omega (arith, two, e)
      not-so (inr (inl three)) (inl e) = omega (arith, three, e)
      not-so (inr (inl three)) (inr e) = omega (arith, three, e)
      not-so (inr (inr six)) (inl e) = let s = six.0 in omega (arith, s, e)
      not-so (inr (inr six)) (inr e) = let s = six.0 in omega (arith, s, e)

  told-save : (name : List ℕ) (mid : FilesState) → Contains (saved_names a) name → IsQuiet old mid → (status : ℕ) (text : List ℕ) → IsNotSaved name mid new status text → Told a old new status
  told-save name mid one quiet _ _ (save_failed others rose taken tried) = record {
    is = inr (inr (inr (inr (inl refl))));
    names = keeps-but (saved_names a) name one old.contents new.contents (others-from old mid new name quiet.0 others);
    low = λ e. absurd (elim e [ inl two ↦ omega (arith, two) | inr three ↦ omega (arith, three) ]);
    not_one = λ e. omega (arith, e);
    faults = λ n. absurd (n refl);
    fault = λ _. inl (subst (λ (n : ℕ). Rose n new.faults) quiet.1 rose);
    takes = λ n _. absurd (n refl);
  }
  told-save name mid one quiet _ _ (save_memory same faults taken tried) = record {
    is = inr (inr (inr (inr (inr refl))));
    names = keeps (saved_names a) old new (same ∙ quiet.0);
    low = λ _. same ∙ quiet.0;
    not_one = λ e. omega (arith, e);
    faults = λ _. faults ∙ quiet.1;
    fault = λ e. absurd (omega (arith, e));
    takes = λ _ n. absurd (n refl);
  }

  done : KeepsOthers (saved_names a) old.contents new.contents → new.faults ≡ old.faults → TakesUpTo (length (loaded_names a)) old.taken new.taken → Told a old new 0
  done names faults takes = record {
    is = inl refl;
    names = names;
    low = λ e. absurd (elim e [ inl two ↦ omega (arith, two) | inr three ↦ omega (arith, three) ]);
    not_one = λ e. omega (arith, e);
    faults = λ _. faults;
    fault = λ e. absurd (omega (arith, e));
    takes = λ _ _. takes;
  }

  pub told : (status : ℕ) (text : List ℕ) → Course a old new status text → Told a old new status
  told status text (at_load name mid one quiet long not) = told-load name mid quiet long status text not
  told status text (at_cause cause quiet takes) = told-cause status text cause quiet takes
  told status text (at_save name mid one quiet not) = told-save name mid one quiet status text not
  told _ text (was_saved name bytes mid one quiet takes gives save) =
      done (keeps-but (saved_names a) name one old.contents new.contents (others-from old mid new name quiet.0 (saved-others name bytes mid new save))) (save.faults ∙ quiet.1) (subst (λ (n : ℕ). TakesUpTo (length (loaded_names a)) old.taken n) (sym save.taken) takes)
  told _ text (saved_none same) = done (quiet-names (same-files old new same)) (ap (λ (f : FilesState). f.faults) same) (taken-none (length (loaded_names a)) old new same)

-- ---- a file that is refused

-- what a file holds whose line is not in the form
abbrev pub MisreadOf : Asked → (old : FilesState) → (text : List ℕ) → Type 0
MisreadOf (apply image file options) old text = (bytes : List ℕ) × (line : ℕ) × Holds old.contents file bytes × IsMisread bytes line × (text ≡ misread_text line)
MisreadOf _ old text = ⊥

not-loaded-two : (name : List ℕ) (old new : FilesState) (status : ℕ) (text : List ℕ) → IsNotLoaded name old new status text → status ≡ 2 → ⊥
not-loaded-two name old new _ _ (load_failed same rose tried) two = omega (arith, two)
not-loaded-two name old new _ _ (load_too_long same over faults takes tried) two = omega (arith, two)
not-loaded-two name old new _ _ (load_memory same faults tried) two = omega (arith, two)

not-saved-two : (name : List ℕ) (old new : FilesState) (status : ℕ) (text : List ℕ) → IsNotSaved name old new status text → status ≡ 2 → ⊥
not-saved-two name old new _ _ (save_failed others rose taken tried) two = omega (arith, two)
not-saved-two name old new _ _ (save_memory same faults taken tried) two = omega (arith, two)

name-two : (image : List ℕ) (old new : FilesState) (status : ℕ) (text : List ℕ) → RefusesName image old new status text → status ≡ 2 → ⊥
name-two image old new status text (loaded bytes load (is_image x read nothing)) two = absurd nothing
name-two image old new _ _ (loaded bytes load (commands.no_image e has)) two = omega (arith, two)
name-two image old new status text (ending.not_loaded not) two = not-loaded-two image old new status text not two
name-two image old new status text (ending.SaysOf.wanting bytes load six line) two = omega (arith, six, two)

file-misread : (image file : List ℕ) (options : ApplyOptions) (old mid new : FilesState) (status : ℕ) (text : List ℕ) → mid.contents ≡ old.contents → RefusesFile file mid new status text → status ≡ 2 → MisreadOf (apply image file options) old text
file-misread image file options old mid new status text same (not_loaded not) two = absurd (not-loaded-two file mid new status text not two)
file-misread image file options old mid new _ _ same (misread bytes line load bad) two = (bytes, line, subst (λ (h : Option Held). Holds h file bytes) same load.holds, bad, refl)
file-misread image file options old mid new _ _ same (applies.RefusesFile.wanting bytes load) two = absurd (omega (arith, two))

running-two : (x : DriveImage) (status : ℕ) (text : List ℕ) → RefusesRunning x status text → status ≡ 2 → ⊥
running-two x _ _ (not_run e refuses other) two = omega (arith, two)
running-two x _ _ applies.RefusesRunning.wanting two = omega (arith, two)

pub misread-of : (a : Asked) (old new : FilesState) (status : ℕ) (text : List ℕ) → Says a old new status text → status ≡ 2 → MisreadOf a old text
misread-of (make image) old new _ _ (made bytes is save) two = absurd (omega (arith, two))
misread-of (make image) old new status text (not_made not) two = absurd (not-saved-two image old new status text not two)
misread-of (make image) old new _ _ (makes.wanting same) two = absurd (omega (arith, two))
misread-of (apply image file options) old new _ _ (applied mid read r is save) two = absurd (omega (arith, two))
misread-of (apply image file options) old new status text (no_image says) two = absurd (name-two image old new status text says two)
misread-of (apply image file options) old new status text (no_file bytes x mid load is refuses) two = file-misread image file options old mid new status text load.contents refuses two
misread-of (apply image file options) old new status text (no_run bytes x words groups mid load is next spelled refuses) two = absurd (running-two x status text refuses two)
misread-of (apply image file options) old new status text (unsaved mid read r is not) two = absurd (not-saved-two image read new status text not two)
misread-of (help topic) old new _ _ (said same) two = absurd (omega (arith, two))
misread-of version old new _ _ (said same) two = absurd (omega (arith, two))
