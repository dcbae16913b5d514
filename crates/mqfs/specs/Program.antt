-- What the program says to words, and what its status reports.
use Rattle.std.specs.Prelude.{◌≡◌, ◌⊎◌, ◌≤◌, ℕ, ◌+◌, ◌*◌, false, List, [], ◌∷◌, ◌++◌, length, All, Option, Some, None, option_to_list, codes, bytes_eq}
use Rattle.mq_audit.specs.Traces.{IsMisread}
use Rattle.mq_command_images.specs.Audits.{misread_line}
use Rattle.mq_command_run.specs.RunsScripts.{Runs}
use Rattle.mq_command_io.specs.Ending.{IsLoaded, TakesOver, memory_line, HoldsTooMuch, TakesUpTo, KeepsOthers}
use Rattle.mq_image.specs.File.{DriveImage}
use Rattle.mq_loose_text.specs.Text as loose_text
use Rattle.mq_outside.specs.Outside.{FilesState, Held, Holds, HoldsOver, SinkState, appended, load_limit}
use Rattle.mq_block_text.specs.Refusals.{RefusesText}
use Rattle.mq_block_text.specs.declared.item.BlockItem.{BlockItem}
use Rattle.mq_block_text.specs.declared.refusal.BlockTextCause.{BlockTextCause}
use Rattle.mq_command_blocks.specs.Blocks.{IsBlockText, output_of, refused_line}
use Rattle.mq_block_trace.specs.Prefixes.{IsPrefixAt}
use Rattle.mq_command_blocks.specs.Left.{SavesLeft, SavesTrace}
use Rattle.mq_command_blocks.specs.Picked.{IsRunBy, pick_of}
use Rattle.mq_cli.specs.Asked.{Asked, Words, asked_of, audit, blocks, cat, check, dump, format, gen, help, loose, ls, recover, replicate, run, version}
use Rattle.mq_cli.specs.declared.command.BlocksOptions.{BlocksOptions}
use Rattle.mq_cli.specs.declared.command.RunFlags.{RunFlags}
use Rattle.mqfs.specs.Says.{Says, run_options}

-- the words are no command
abbrev pub AreUnknown : Words → Type 0
AreUnknown words = asked_of words ≡ None

abbrev pub usage_line : List ℕ
usage_line = codes "usage: mqfs blocks|format|run|recover|ls|cat|gen|dump|check|audit|replicate|loose\n"

-- What there is to say to the words, and with which status: the usage line, what there is to say of what
-- they ask, or that memory ran out to read them.
pub data IsToSay (words : Words) (old new : FilesState) : (status : ℕ) → (text : List ℕ) → Type 0 where
  no_command : AreUnknown words → new ≡ old → IsToSay words old new 1 usage_line
  of_command : {status : ℕ} {text : List ℕ} (a : Asked) → asked_of words ≡ Some a
      → Says a old new status text → IsToSay words old new status text
  no_memory : new ≡ old → IsToSay words old new 6 memory_line

-- ---- what each status reports

-- the status is one of these
abbrev pub IsStatus : ℕ → Type 0
IsStatus s = (s ≡ 0) ⊎ ((s ≡ 1) ⊎ ((s ≡ 2) ⊎ ((s ≡ 3) ⊎ ((s ≡ 4) ⊎ ((s ≡ 5) ⊎ (s ≡ 6))))))

-- what there was to say with this status was said whole
abbrev pub IsSaid : Words → (files new_files : FilesState) → (old new : SinkState) → (status : ℕ) → Type 0
IsSaid words files new_files old new status =
    (text : List ℕ) × IsToSay words files new_files status text
    × (new.contents ≡ appended old.contents text)

-- The file held a block text. What was said is the output of the lines that stand after the cut, on the image
-- that the pick chose. The image is saved where a name for it is given, and so is the trace of what happened before the
-- cut.
abbrev pub IsDone : (file : List ℕ) → BlocksOptions → (save trace : Option (List ℕ))
    → (files new_files : FilesState) → (old new : SinkState) → Type 0
IsDone file options save trace files new_files old new =
    (bytes : List ℕ) × (lines : List (List BlockItem)) × (p : ℕ) × (x : DriveImage)
    × (loaded kept : FilesState)
    × Holds files.contents file bytes × (loaded.contents ≡ files.contents) × IsBlockText bytes lines
    × IsPrefixAt lines options.cut p
    × IsRunBy lines options.cut options.again (pick_of options) p x × SavesLeft save x loaded kept
    × SavesTrace trace lines options.cut kept new_files
    × (new.contents ≡ appended old.contents (output_of lines p))

-- the words ask for something of a block text, which this file holds
abbrev pub AskText : Words → (file : List ℕ) → Type 0
AskText words file =
    ((options : BlocksOptions) × (save trace : Option (List ℕ))
    × (asked_of words ≡ Some (blocks file options save trace)))
    ⊎ ((seed : Option ℕ) × (save : Option (List ℕ)) × (asked_of words ≡ Some (replicate file seed save)))

-- The words are those of `blocks` or `replicate`, and the file holds bytes that are refused. The line of that
-- was said.
abbrev pub IsRefusedText : Words → (files : FilesState) → (old new : SinkState) → Type 0
IsRefusedText words files old new =
    (file bytes : List ℕ) × (line : ℕ) × (cause : BlockTextCause)
    × AskText words file × Holds files.contents file bytes
    × RefusesText bytes line cause × (new.contents ≡ appended old.contents (refused_line line cause))

-- The words are those of `loose`, and the file holds bytes that are refused. The line of that was said.
abbrev pub IsRefusedLoose : Words → (files : FilesState) → (old new : SinkState) → Type 0
IsRefusedLoose words files old new =
    (file bytes : List ℕ) × (line : ℕ) × (cut pick : Option ℕ) × (save : Option (List ℕ))
    × (asked_of words ≡ Some (loose file cut pick save)) × Holds files.contents file bytes
    × loose_text.RefusesText bytes line × (new.contents ≡ appended old.contents (loose_text.refused_line line))

-- The words are those of `audit`, and the file holds bytes of which a line is not in its form. The line of
-- the first such was said.
abbrev pub IsMisreadTrace : Words → (files : FilesState) → (old new : SinkState) → Type 0
IsMisreadTrace words files old new =
    (trace bytes : List ℕ) × (line : ℕ)
    × (asked_of words ≡ Some (audit trace)) × Holds files.contents trace bytes × IsMisread bytes line
    × (new.contents ≡ appended old.contents (misread_line line))

-- The words are those of `run`, which ended with this status, and its text was said.
abbrev pub IsEndedRun : (status : ℕ) → Words → (files new_files : FilesState) → (old new : SinkState)
    → Type 0
IsEndedRun status words files new_files old new =
    (image : List ℕ) × (scripts : List (List ℕ)) × (options : RunFlags) × (text : List ℕ)
    × (asked_of words ≡ Some (run image scripts options))
    × Runs (run_options options) image scripts files new_files status text
    × (new.contents ≡ appended old.contents text)

-- the names that are loaded
abbrev pub loaded_names : Asked → List (List ℕ)
loaded_names (blocks file options save trace) = file ∷ []
loaded_names (format image queues area meta zone) = []
loaded_names (run image scripts options) = image ∷ scripts
loaded_names (recover image cut pick) = image ∷ []
loaded_names (ls image) = image ∷ []
loaded_names (cat image path) = image ∷ []
loaded_names (gen seed threads groups save) = []
loaded_names (dump image) = image ∷ []
loaded_names (check image) = image ∷ []
loaded_names (audit trace) = trace ∷ []
loaded_names (replicate file seed save) = file ∷ []
loaded_names (loose file cut pick save) = file ∷ []
loaded_names (help topic) = []
loaded_names version = []

abbrev pub loaded_by : Option Asked → List (List ℕ)
loaded_by None = []
loaded_by (Some a) = loaded_names a

-- the names that are saved
abbrev pub saved_names : Asked → List (List ℕ)
saved_names (blocks file options save trace) = option_to_list save ++ option_to_list trace
saved_names (format image queues area meta zone) = image ∷ []
saved_names (run image scripts options) = image ∷ []
saved_names (recover image cut pick) = image ∷ []
saved_names (ls image) = []
saved_names (cat image path) = []
saved_names (gen seed threads groups save) = option_to_list save
saved_names (dump image) = []
saved_names (check image) = []
saved_names (audit trace) = []
saved_names (replicate file seed save) = option_to_list save
saved_names (loose file cut pick save) = option_to_list save
saved_names (help topic) = []
saved_names version = []

abbrev pub saved_by : Option Asked → List (List ℕ)
saved_by None = []
saved_by (Some a) = saved_names a

abbrev pub IsTooLong : Words → (old new : FilesState) → Type 0
IsTooLong words old new = HoldsTooMuch (loaded_by (asked_of words)) old new

-- one load for each name that is loaded
abbrev pub TakesFor : Words → (old new : FilesState) → Type 0
TakesFor words old new = TakesUpTo (length (loaded_by (asked_of words))) old.taken new.taken

-- no name changes but those that are saved
abbrev pub KeepsNames : Words → (old new : FilesState) → Type 0
KeepsNames words old new = KeepsOthers (saved_by (asked_of words)) old.contents new.contents
