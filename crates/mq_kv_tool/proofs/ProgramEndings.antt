-- What the status of the program reports, by what there was to say and how that ended.
use Rattle.std.proofs.Common.{◌≡◌, ◌≢◌, ◌⊎◌, inl, inr, ℕ, Bool, cond, true, false, List, [], length, Option, Some, None, refl, sym, ◌∙◌, ap, subst, arith}
use Rattle.std.proofs.Math.Seq.{take-length}
use Rattle.std.specs.List.{Contains}
use Rattle.std.specs.Prelude.{nat_eq}
use Rattle.mq_cli.specs.Asked.{Words}
use Rattle.mq_cli.specs.declared.refusal.WordsRefusal.{WordsRefusal}
use Rattle.mq_cli.specs.declared.refusal.WordsRefusal.TheVariants as refusal
use Rattle.mq_command_io.specs.Ending.{EndsWith, IsNotLoaded, IsNotSaved, IsUnlessFailed, load_failed, load_memory, load_too_long, memory_line, save_failed, save_memory, HoldsTooMuch, TakesUpTo, KeepsOthers, said}
use Rattle.mq_command_io.proofs.Ending.{four-or-six, not-loaded-same, unless_wanting, said_or, not-saved-zero, not-loaded-zero, low_failed, keeps}
use Rattle.mq_kv_cli.specs.Asked.{Asked, apply, asked_of, help, make, version}
use Rattle.mq_kv_cli.specs.declared.command.ApplyOptions.{ApplyOptions}
use Rattle.mq_kv_text.specs.Reports.{usage_text}
use Rattle.mq_command_images.specs.Commands.{RefusesName, is_image}
use Rattle.mq_command_images.specs.Commands as commands
use Rattle.mq_command_io.specs.Ending.{IsLoaded, loaded}
use Rattle.mq_command_io.specs.Ending as ending
use Rattle.mq_image.specs.Drives.{IsRead}
use Rattle.mq_image.specs.File.{DriveImage}
use Rattle.mq_kv_run.proofs.Left.{run-holds}
use Rattle.mq_kv_run.specs.Refusals.{RefusesStore, not_formed, not_readable}
use Rattle.mq_kv_run.specs.Refusals as stores
use Rattle.mq_kv_run.specs.declared.options.KvOptions.{KvOptions}
use Rattle.mq_kv_run.specs.declared.ran.KvRun.{KvRun}
use Rattle.mq_kv_run.specs.declared.refusal.KvRunRefusal.{KvRunRefusal}
use Rattle.mq_kv_run.specs.declared.refusal.KvRunRefusal.TheVariants as store
use Rattle.mq_kv_tool.specs.Applies.{Applies, IsApplied, RefusesFile, RefusesRunning, applied, misread, no_file, no_image, no_run, not_loaded, not_run, unsaved}
use Rattle.mq_kv_tool.specs.Applies as applies
use Rattle.mq_kv_tool.specs.Decided.{Decides, HaveFiles, above_limit, bad_bucket, bad_file, no_drive, runs, unreadable}
use Rattle.mq_kv_tool.specs.Makes.{Makes, made, not_made}
use Rattle.mq_kv_tool.specs.Makes as makes
use Rattle.mq_kv_tool.specs.Outcome.{HasApplied, HasMade, IsMisreadFile}
use Rattle.mq_kv_tool.specs.Program.{AreUnknown, IsSaid, IsStatus, IsToSay, IsTooLong, KeepsNames, TakesFor, loaded_by, loaded_names, no_command, no_memory, of_command, saved_by, saved_names}
use Rattle.mq_kv_tool.specs.Says.{Says, kv_options}
use Rattle.mq_kv_tool.proofs.Course.{MisreadOf, course, misread-of, told}
use Rattle.mq_outside.specs.Outside.{FilesState, Held, Holds, Rose, SinkState, Tells, appended}

-- ---- what there was to say

-- what was to say to words tells the same as a course
pub record SaysWords (words : Words) (old new : FilesState) (status : ℕ) (text : List ℕ) : Type 0 where
  pub is : IsStatus status
  pub names : KeepsNames words old new
  pub low : (status ≡ 1) ⊎ ((status ≡ 2) ⊎ (status ≡ 3)) → new.contents ≡ old.contents
  pub faults : status ≢ 4 → new.faults ≡ old.faults
  pub fault : status ≡ 4 → Rose old.faults new.faults ⊎ IsTooLong words old new
  pub takes : status ≢ 4 → status ≢ 6 → TakesFor words old new
  pub usage : status ≡ 1 → AreUnknown words × (text ≡ usage_text) × (new ≡ old)
  pub misread : status ≡ 2 → (a : Asked) × (asked_of words ≡ Some a) × MisreadOf a old text

words-nothing : (words : Words) (old new : FilesState) (status : ℕ) (text : List ℕ) → (status ≡ 1) ⊎ (status ≡ 6) → IsStatus status → (status ≡ 1 → AreUnknown words × (text ≡ usage_text)) → new ≡ old → SaysWords words old new status text
words-nothing words old new status text which is usage same = record {
  is = is;
  names = keeps (saved_by (asked_of words)) old new (ap (λ (f : FilesState). f.contents) same);
  low = λ _. ap (λ (f : FilesState). f.contents) same;
  faults = λ _. ap (λ (f : FilesState). f.faults) same;
  fault = λ four. absurd (elim which [ inl one ↦ omega (arith, one, four) | inr six ↦ omega (arith, six, four) ]);
  takes = λ _ _. (let e = ap (λ (f : FilesState). f.taken) same in (omega (arith, e), omega (arith, e)));
  usage = λ one. (let u = usage one in (u.0, u.1, same));
  misread = λ two. absurd (elim which [ inl one ↦ omega (arith, one, two) | inr six ↦ omega (arith, six, two) ]);
}

words-asked : (words : Words) (a : Asked) (old new : FilesState) (status : ℕ) (text : List ℕ) → asked_of words ≡ Some a → Says a old new status text → SaysWords words old new status text
words-asked words a old new status text is says =
    let t = told a old new status text (course a old new status text says) in
    record {
      is = t.is;
      names = subst (λ (o : Option Asked). KeepsOthers (saved_by o) old.contents new.contents) (sym is) t.names;
      low = λ e. elim e [ inl one ↦ absurd (t.not_one one) | inr other ↦ t.low other ];
      faults = t.faults;
      fault = λ four. subst (λ (o : Option Asked). Rose old.faults new.faults ⊎ HoldsTooMuch (loaded_by o) old new) (sym is) (t.fault four);
      takes = λ four six. subst (λ (o : Option Asked). TakesUpTo (length (loaded_by o)) old.taken new.taken) (sym is) (t.takes four six);
      usage = λ one. absurd (t.not_one one);
      misread = λ two. (a, is, misread-of a old new status text says two);
    }

pub told_words : (words : Words) (old new : FilesState) (status : ℕ) (text : List ℕ) → IsToSay words old new status text → SaysWords words old new status text
told_words words old new _ _ (no_command none same) = words-nothing words old new 1 usage_text (inl refl) (inr (inl refl)) (λ _. (none, refl)) same
told_words words old new status text (of_command a is says) = words-asked words a old new status text is says
told_words words old new _ _ (no_memory same) = words-nothing words old new 6 memory_line (inr refl) (inr (inr (inr (inr (inr refl))))) (λ one. absurd (omega (arith, one))) same

-- ---- how it ended

-- where the output wants memory, the status is 4 only where it was
wanting_four : (status result : ℕ) → IsStatus status → result ≡ cond (nat_eq status 4) 4 6 → result ≡ 4 → status ≡ 4
wanting_four status result (inl e) want four = let is : result ≡ 6 = subst (λ (s : ℕ). result ≡ cond (nat_eq s 4) 4 6) e want in absurd (omega (arith, is, four))
wanting_four status result (inr (inl e)) want four = let is : result ≡ 6 = subst (λ (s : ℕ). result ≡ cond (nat_eq s 4) 4 6) e want in absurd (omega (arith, is, four))
wanting_four status result (inr (inr (inl e))) want four = let is : result ≡ 6 = subst (λ (s : ℕ). result ≡ cond (nat_eq s 4) 4 6) e want in absurd (omega (arith, is, four))
wanting_four status result (inr (inr (inr (inl e)))) want four = let is : result ≡ 6 = subst (λ (s : ℕ). result ≡ cond (nat_eq s 4) 4 6) e want in absurd (omega (arith, is, four))
wanting_four status result (inr (inr (inr (inr (inl e))))) want four = e
wanting_four status result (inr (inr (inr (inr (inr e))))) want four = let is : result ≡ 6 = subst (λ (s : ℕ). result ≡ cond (nat_eq s 4) 4 6) e want in absurd (omega (arith, is, four))

as_status : (result : ℕ) → (result ≡ 4) ⊎ (result ≡ 6) → IsStatus result
as_status result (inl e) = inr (inr (inr (inr (inl e))))
as_status result (inr e) = inr (inr (inr (inr (inr e))))

some-none : (a : Asked) → ◌≡◌ {A = Option Asked} (Some a) None → ⊥
some-none a e = cc

-- where the words are no command
usage_by : (words : Words) (files new_files : FilesState) (result status : ℕ) (text : List ℕ) → AreUnknown words → IsToSay words files new_files status text → IsUnlessFailed status result → IsUnlessFailed 1 result
usage_by words files new_files result _ _ none (no_command un same) ends = ends
usage_by words files new_files result status text none (of_command a is says) ends = absurd (some-none a (sym is ∙ none))
usage_by words files new_files result _ _ none (no_memory same) (inl six) = inr (inr six)
usage_by words files new_files result _ _ none (no_memory same) (inr other) = inr other

module _ (words : Words) (files new_files : FilesState) (status : ℕ) (text : List ℕ) (result : ℕ) (old new : SinkState) (say : IsToSay words files new_files status text) (ends : EndsWith status text result old new) where
  tells : SaysWords words files new_files status text
  tells = told_words words files new_files status text say

  pub status_told : IsStatus result
  status_told = elim (said_or status text result old new ends) [ inl e ↦ subst IsStatus (sym e.0) tells.is | inr e ↦ as_status result e ]

  pub said_told : result ≢ 4 → result ≢ 6 → IsSaid words files new_files old new result
  said_told not_four not_six = elim (said_or status text result old new ends) [
    | inl e ↦ (text, subst (λ (s : ℕ). IsToSay words files new_files s text) (sym e.0) say, e.1)
    | inr e ↦ elim e [ inl four ↦ absurd (not_four four) | inr six ↦ absurd (not_six six) ]
  ]

  pub usage_told : result ≡ 1 → AreUnknown words × (new.contents ≡ appended old.contents usage_text) × (new_files ≡ files)
  usage_told one = elim (said_or status text result old new ends) [
    | inl e ↦ (let t = tells.usage (sym e.0 ∙ one) in (t.0, e.1 ∙ ap (appended old.contents) t.1, t.2))
    | inr e ↦ elim e [ inl four ↦ absurd (omega (arith, four, one)) | inr six ↦ absurd (omega (arith, six, one)) ]
  ]

  misread-by : (a : Asked) → asked_of words ≡ Some a → new.contents ≡ appended old.contents text → MisreadOf a files text → IsMisreadFile words files old new
  misread-by (make image) is out bad = absurd bad
  misread-by (apply image file options) is out bad = record {
    image = image;
    file = file;
    options = options;
    asks = is;
    bytes = bad.0;
    line = bad.1;
    holds = bad.2;
    misread = bad.3;
    said = out ∙ ap (appended old.contents) bad.4;
  }
  misread-by (help topic) is out bad = absurd bad
  misread-by version is out bad = absurd bad

  pub misread_told : result ≡ 2 → IsMisreadFile words files old new
  misread_told two = elim (said_or status text result old new ends) [
    | inl e ↦ (let t = tells.misread (sym e.0 ∙ two) in misread-by t.0 t.1 e.1 t.2)
    | inr e ↦ elim e [ inl four ↦ absurd (omega (arith, four, two)) | inr six ↦ absurd (omega (arith, six, two)) ]
  ]

  of_files : Rose files.faults new_files.faults ⊎ IsTooLong words files new_files → Rose files.faults new_files.faults ⊎ (Rose old.faults new.faults ⊎ IsTooLong words files new_files)
  of_files (inl rose) = inl rose
  of_files (inr long) = inr (inr long)

  pub fault_told : result ≡ 4 → Rose files.faults new_files.faults ⊎ (Rose old.faults new.faults ⊎ IsTooLong words files new_files)
  fault_told four = elim ends [
    | inl e ↦ of_files (tells.fault (sym e.0 ∙ four))
    | inr other ↦ elim other [ inl e ↦ inr (inl e.2) | inr e ↦ of_files (tells.fault (wanting_four status result tells.is e.0 four)) ]
  ]

  pub same_told : result ≢ 4 → (new_files.faults ≡ files.faults) × (new.faults ≡ old.faults)
  same_told not_four = elim ends [
    | inl e ↦ (tells.faults (λ four. not_four (e.0 ∙ four)), e.2)
    | inr other ↦ elim other [
      | inl e ↦ absurd (not_four e.0)
      | inr e ↦ (tells.faults (λ four. not_four (e.0 ∙ ap (λ (s : ℕ). cond (nat_eq s 4) 4 6) four)), e.2)
    ]
  ]

  pub takes_told : result ≢ 4 → result ≢ 6 → TakesFor words files new_files
  takes_told not_four not_six = elim (said_or status text result old new ends) [
    | inl e ↦ tells.takes (λ four. not_four (e.0 ∙ four)) (λ six. not_six (e.0 ∙ six))
    | inr e ↦ elim e [ inl four ↦ absurd (not_four four) | inr six ↦ absurd (not_six six) ]
  ]

  pub names_told : KeepsNames words files new_files
  names_told = tells.names

  pub contents_told : (result ≡ 1) ⊎ ((result ≡ 2) ⊎ (result ≡ 3)) → new_files.contents ≡ files.contents
  contents_told some = elim (said_or status text result old new ends) [
    | inl e ↦ tells.low (subst (λ (s : ℕ). (s ≡ 1) ⊎ ((s ≡ 2) ⊎ (s ≡ 3))) e.0 some)
    | inr e ↦ absurd (low_failed result some e)
  ]

  -- where the words are no command
  pub usage-where : AreUnknown words → IsUnlessFailed 1 result
  usage-where none = usage_by words files new_files result status text none say (unless_wanting status text result old new ends)

-- ---- status 0

made-by : (image : List ℕ) (files new_files : FilesState) (old new : SinkState) (status : ℕ) (text : List ℕ) → Makes image files new_files status text → status ≡ 0 → new.contents ≡ appended old.contents text → HasMade image files new_files old new
made-by image files new_files old new _ _ (made bytes is save) zero out = record { bytes = bytes; file = is; saved = save; said = out }
made-by image files new_files old new status text (not_made not) zero out = absurd (not-saved-zero image files new_files status text not zero)
made-by image files new_files old new _ _ (makes.wanting same) zero out = absurd (omega (arith, zero))

-- where an image was to be made, and where groups were to be applied
abbrev DoneOf : Asked → (files new_files : FilesState) → (old new : SinkState) → Type 0
DoneOf (make image) files new_files old new = HasMade image files new_files old new
DoneOf (apply image file options) files new_files old new = HasApplied image file options files new_files old new
DoneOf _ files new_files old new = Unit {0}

-- what a name gives, a file and a run that are refused don't end with 0
name-zero : (image : List ℕ) (old new : FilesState) (status : ℕ) (text : List ℕ) → RefusesName image old new status text → status ≡ 0 → ⊥
name-zero image old new status text (loaded bytes load (is_image x read nothing)) zero = absurd nothing
name-zero image old new _ _ (loaded bytes load (commands.no_image e has)) zero = omega (arith, zero)
name-zero image old new status text (ending.not_loaded not) zero = not-loaded-zero image old new status text not zero
name-zero image old new status text (ending.SaysOf.wanting bytes load six line) zero = omega (arith, six, zero)

file-zero : (file : List ℕ) (old new : FilesState) (status : ℕ) (text : List ℕ) → RefusesFile file old new status text → status ≡ 0 → ⊥
file-zero file old new status text (not_loaded not) zero = not-loaded-zero file old new status text not zero
file-zero file old new _ _ (misread bytes line load bad) zero = omega (arith, zero)
file-zero file old new _ _ (applies.RefusesFile.wanting bytes load) zero = omega (arith, zero)

running-zero : (x : DriveImage) (status : ℕ) (text : List ℕ) → RefusesRunning x status text → status ≡ 0 → ⊥
running-zero x _ _ (not_run e refuses other) zero = omega (arith, zero)
running-zero x _ _ applies.RefusesRunning.wanting zero = omega (arith, zero)

applied-by : (image file : List ℕ) (options : ApplyOptions) (files new_files : FilesState) (old new : SinkState) (status : ℕ) (text : List ℕ) → Applies (kv_options options) image file files new_files status text → status ≡ 0 → new.contents ≡ appended old.contents text → HasApplied image file options files new_files old new
applied-by image file options files new_files old new _ _ (applied mid read r is save) zero out = record { mid = mid; read = read; r = r; applied = is; saved = save; said = out }
applied-by image file options files new_files old new status text (no_image says) zero out = absurd (name-zero image files new_files status text says zero)
applied-by image file options files new_files old new status text (no_file bytes x mid load is refuses) zero out = absurd (file-zero file mid new_files status text refuses zero)
applied-by image file options files new_files old new status text (no_run bytes x words groups mid load is next spelled refuses) zero out = absurd (running-zero x status text refuses zero)
applied-by image file options files new_files old new status text (unsaved mid read r is not) zero out = absurd (not-saved-zero image read new_files status text not zero)

done-of : (a : Asked) (files new_files : FilesState) (old new : SinkState) (status : ℕ) (text : List ℕ) → Says a files new_files status text → status ≡ 0 → new.contents ≡ appended old.contents text → DoneOf a files new_files old new
done-of (make image) files new_files old new status text says zero out = made-by image files new_files old new status text says zero out
done-of (apply image file options) files new_files old new status text says zero out = applied-by image file options files new_files old new status text says zero out
done-of (help topic) files new_files old new status text says zero out = tt
done-of version files new_files old new status text says zero out = tt

done-words : (words : Words) (files new_files : FilesState) (a : Asked) (old new : SinkState) (status : ℕ) (text : List ℕ) → asked_of words ≡ Some a → IsToSay words files new_files status text → status ≡ 0 → new.contents ≡ appended old.contents text → DoneOf a files new_files old new
done-words words files new_files a old new _ _ asks (no_command none same) zero out = absurd (omega (arith, zero))
done-words words files new_files a old new status text asks (of_command b is says) zero out =
    let same : ◌≡◌ {A = Option Asked} (Some b) (Some a) = sym is ∙ asks in
    let one : b ≡ a = cc in
    subst (λ (c : Asked). DoneOf c files new_files old new) one (done-of b files new_files old new status text says zero out)
done-words words files new_files a old new _ _ asks (no_memory same) zero out = absurd (omega (arith, zero))

pub done_told : (words : Words) (files new_files : FilesState) (a : Asked) (old new : SinkState) (status : ℕ) (text : List ℕ) (result : ℕ) → asked_of words ≡ Some a → IsToSay words files new_files status text → EndsWith status text result old new → result ≡ 0 → DoneOf a files new_files old new
done_told words files new_files a old new status text result asks say ends zero = elim (said_or status text result old new ends) [
  | inl e ↦ done-words words files new_files a old new status text asks say (sym e.0 ∙ zero) e.1
  | inr e ↦ elim e [ inl four ↦ absurd (omega (arith, four, zero)) | inr six ↦ absurd (omega (arith, six, zero)) ]
]

-- ---- what is decided

pub decided_told : (words : Words) (files : FilesState) (a b : Asked) (result : ℕ) → asked_of words ≡ Some b → ((status : ℕ) → Decides b files.contents status → IsUnlessFailed status result) → asked_of words ≡ Some a → (status : ℕ) → Decides a files.contents status → IsUnlessFailed status result
decided_told words files a b result is each asks status decides =
    let same : ◌≡◌ {A = Option Asked} (Some a) (Some b) = sym asks ∙ is in
    let one : a ≡ b = cc in
    each status (subst (λ (x : Asked). Decides x files.contents status) one decides)

not_asked : (words : Words) (a : Asked) → asked_of words ≡ None → asked_of words ≡ Some a → ⊥
not_asked words a none some = let e : ◌≡◌ {A = Option Asked} None (Some a) = sym none ∙ some in cc

-- words that are refused as unknown ask nothing
pub unknown_asks : (e : WordsRefusal) (words : Words) → e ≡ refusal.Unknown → (e ≡ refusal.OutOfMemory) ⊎ ((e ≡ refusal.Unknown) × (asked_of words ≡ None)) → asked_of words ≡ None
unknown_asks e words is (inl memory) = absurd (apart (sym is ∙ memory))
  where
    apart : refusal.Unknown ≡ refusal.OutOfMemory → ⊥
    apart same = cc
unknown_asks e words is (inr other) = other.1

-- ---- whatever the files tell

tells-held : (held : Held) (contents : Option Held) (name bytes : List ℕ) → contents ≡ Some held → Holds contents name bytes → Tells (Some held) name (Some bytes)
tells-held held contents name bytes is holds = subst (λ (h : Option Held). Holds h name bytes) is holds

module _ (held : Held) (files : FilesState) (is : files.contents ≡ Some held) where
  have-files : (o : KvOptions) (image file : List ℕ) (mid read : FilesState) (r : KvRun) (done : IsApplied o image file files mid read r) → HaveFiles image file (Some held) done.x
  have-files o image file mid read r done = record {
    bytes = done.bytes;
    words = done.words;
    groups = done.groups;
    tells_image = tells-held held files.contents image done.bytes is done.image_loaded.holds;
    read = done.image_read;
    tells_file = tells-held held mid.contents file done.words (done.image_loaded.contents ∙ is) done.file_loaded.holds;
    is_file = done.file_read;
  }

  -- the files decide the status, or it is 4 or 6
  abbrev Covers : Asked → ℕ → Type 0
  Covers a status = Decides a (Some held) status ⊎ ((status ≡ 4) ⊎ (status ≡ 6))

  failed-load : (a : Asked) (name : List ℕ) (old new : FilesState) (status : ℕ) (text : List ℕ) → IsNotLoaded name old new status text → Covers a status
  failed-load a name old new _ _ (load_failed same rose tried) = inr (inl refl)
  failed-load a name old new _ _ (load_too_long same over faults takes tried) = inr (inl refl)
  failed-load a name old new _ _ (load_memory same faults tried) = inr (inr refl)

  failed-save : (a : Asked) (name : List ℕ) (old new : FilesState) (status : ℕ) (text : List ℕ) → IsNotSaved name old new status text → Covers a status
  failed-save a name old new _ _ (save_failed others rose taken tried) = inr (inl refl)
  failed-save a name old new _ _ (save_memory same faults taken tried) = inr (inr refl)

  covers-make : (image : List ℕ) (new : FilesState) (status : ℕ) (text : List ℕ) → Makes image files new status text → Covers (make image) status
  covers-make image new _ _ (made bytes made_is save) = inl refl
  covers-make image new status text (not_made not) = failed-save (make image) image files new status text not
  covers-make image new _ _ (makes.wanting same) = inr (inr refl)

  module _ (image file : List ℕ) (options : ApplyOptions) where
    abbrev CoversApply : ℕ → Type 0
    CoversApply status = Covers (apply image file options) status

    covers-name : (new : FilesState) (status : ℕ) (text : List ℕ) → RefusesName image files new status text → CoversApply status
    covers-name new status text (loaded bytes load (is_image x read nothing)) = absurd nothing
    covers-name new _ _ (loaded bytes load (commands.no_image e has)) = inl (no_drive bytes e (tells-held held files.contents image bytes is load.holds) has)
    covers-name new status text (ending.not_loaded not) = failed-load (apply image file options) image files new status text not
    covers-name new status text (ending.SaysOf.wanting bytes load six line) = inr (inr six)

    covers-file : (bytes : List ℕ) (x : DriveImage) (mid new : FilesState) → IsLoaded image bytes files mid → IsRead x bytes → (status : ℕ) (text : List ℕ) → RefusesFile file mid new status text → CoversApply status
    covers-file bytes x mid new load read status text (not_loaded not) = failed-load (apply image file options) file mid new status text not
    covers-file bytes x mid new load read _ _ (misread words line next bad) =
        inl (bad_file bytes words x line (tells-held held files.contents image bytes is load.holds) read (tells-held held mid.contents file words (load.contents ∙ is) next.holds) bad)
    covers-file bytes x mid new load read _ _ (applies.RefusesFile.wanting words next) = inr (inr refl)

    covers-refused : (x : DriveImage) → HaveFiles image file (Some held) x → (e : KvRunRefusal) → RefusesStore x e → e ≢ store.OutOfMemory → CoversApply 3
    covers-refused x have _ (not_readable e refuses) other = inl (unreadable x e have refuses)
    covers-refused x have _ (stores.RefusesStore.above_limit {n} ds top reads above) other = inl (above_limit x ds top n have reads above)
    covers-refused x have _ (not_formed {b} {offset} ds top reads within bad) other = inl (bad_bucket x ds top b offset have reads within bad)
    covers-refused x have _ stores.RefusesStore.wanting other = absurd (other refl)

    covers-running : (x : DriveImage) → HaveFiles image file (Some held) x → (status : ℕ) (text : List ℕ) → RefusesRunning x status text → CoversApply status
    covers-running x have _ _ (not_run e refuses other) = covers-refused x have e refuses other
    covers-running x have _ _ applies.RefusesRunning.wanting = inr (inr refl)

    covers-apply : (new : FilesState) (status : ℕ) (text : List ℕ) → Applies (kv_options options) image file files new status text → CoversApply status
    covers-apply new _ _ (applied mid read r done save) = inl (runs done.x done.run.on.recovery.ds done.run.on.recovery.top (have-files (kv_options options) image file mid read r done) (run-holds done.x done.groups (kv_options options) r done.run))
    covers-apply new status text (no_image says) = covers-name new status text says
    covers-apply new status text (no_file bytes x mid load reads refuses) = covers-file bytes x mid new load reads status text refuses
    covers-apply new status text (no_run bytes x words groups mid load reads next spelled refuses) =
        covers-running x
        (record {
          bytes = bytes;
          words = words;
          groups = groups;
          tells_image = tells-held held files.contents image bytes is load.holds;
          read = reads;
          tells_file = tells-held held mid.contents file words (load.contents ∙ is) next.holds;
          is_file = spelled;
        }) status text refuses
    covers-apply new status text (unsaved mid read r done not) = failed-save (apply image file options) image read new status text not

  covers-says : (a : Asked) (new : FilesState) (status : ℕ) (text : List ℕ) → Says a files new status text → Covers a status
  covers-says (make image) new status text says = covers-make image new status text says
  covers-says (apply image file options) new status text says = covers-apply image file options new status text says
  covers-says (help topic) new _ _ (said same) = inl refl
  covers-says version new _ _ (said same) = inl refl

  covers-words : (words : Words) (a : Asked) (new : FilesState) (status : ℕ) (text : List ℕ) → asked_of words ≡ Some a → IsToSay words files new status text → Covers a status
  covers-words words a new _ _ asks (no_command none same) = absurd (not_asked words a none asks)
  covers-words words a new status text asks (of_command b asked says) =
      let same : ◌≡◌ {A = Option Asked} (Some b) (Some a) = sym asked ∙ asks in
      let one : b ≡ a = cc in
      subst (λ (c : Asked). Covers c status) one (covers-says b new status text says)
  covers-words words a new _ _ asks (no_memory same) = inr (inr refl)

  pub covered_told : (words : Words) (a : Asked) (new_files : FilesState) (status : ℕ) (text : List ℕ) (result : ℕ) (old new : SinkState) → asked_of words ≡ Some a → IsToSay words files new_files status text → EndsWith status text result old new → Covers a result
  covered_told words a new_files status text result old new asks say ends = elim (said_or status text result old new ends) [
    | inl e ↦ subst (Covers a) (sym e.0) (covers-words words a new_files status text asks say)
    | inr e ↦ inr e
  ]
