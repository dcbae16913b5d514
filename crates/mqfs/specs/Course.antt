-- What a command loads and saves, one name after another, and where that ends.
use Rattle.std.specs.Prelude.{◌≡◌, ◌⊎◌, ℕ, Bool, List, [], ◌∷◌, ◌++◌, Some}
use Rattle.std.specs.Option.{unwrap_or}
use Rattle.mq_blocks.specs.declared.geometry.Geometry.{Geometry}
use Rattle.mq_block_text.specs.declared.item.BlockItem.{BlockItem}
use Rattle.mq_block_trace.specs.Prefixes.{IsPrefixAt}
use Rattle.mq_block_trace.specs.Written.{IsTraced}
use Rattle.mq_cli.specs.Asked.{Asked, Words, asked_of, blocks, format, gen, loose, recover, replicate, run}
use Rattle.mq_command_blocks.specs.Blocks.{IsBlockText}
use Rattle.mq_command_blocks.specs.Picked.{IsRunBy, pick_of}
use Rattle.mq_command_run.specs.Generates.{IsPlayOf}
use Rattle.mq_command_run.specs.declared.generated.Generated.{Generated}
use Rattle.mq_command_images.specs.Commands.{numbers_of}
use Rattle.mq_command_images.specs.Recovers.{IsRecoveredBy}
use Rattle.mq_command_replicate.specs.Replicas.{IsReplicaOf}
use Rattle.mq_command_io.specs.Ending.{EndsWith, IsLoaded, IsNotLoaded, IsNotSaved, IsSaved, memory_line}
use Rattle.mq_command_run.specs.RunsScripts.{AreLoaded}
use Rattle.mq_image.specs.Drives.{IsRead}
use Rattle.mq_image.specs.File.{DriveImage, image_bytes}
use Rattle.mq_image_ops.specs.Empty.{IsEmptyDrive}
use Rattle.mq_image_ops.specs.declared.recovery.RecoveredImage.{RecoveredImage}
use Rattle.mq_run_laws.specs.Runs.{IsRunOf}
use Rattle.mq_run_laws.specs.declared.ran.ImageRun.{ImageRun}
use Rattle.mq_loose_run.specs.Runs.{IsLeftLoose}
use Rattle.mq_loose_text.specs.Meaning.{IsSetIn}
use Rattle.mq_loose_text.specs.Text.{IsLooseText}
use Rattle.mq_loose_text.specs.declared.line.LooseLine.{LooseLine}
use Rattle.mq_outside.specs.Outside.{AppendsPrefix, FilesState, Holds, Rose, SinkState}
use Rattle.mq_run_laws.specs.Images.{KeepsPromise}
use Rattle.mq_script.specs.Scripts.{Script}
use Rattle.mqfs.specs.Program.{IsToSay, loaded_names, saved_names}
use Rattle.mqfs.specs.Says.{Says, asked_workload, numbers, run_options}

-- ---- loads

-- each of these names gave bytes, one after another
abbrev pub AreRead : (names : List (List ℕ)) → (old new : FilesState) → Type 0
AreRead [] old new = new ≡ old
AreRead (name ∷ names) old new =
    (bytes : List ℕ) × (mid : FilesState) × IsLoaded name bytes old mid × AreRead names mid new

-- ---- saves

-- `format` gives the name the file of an empty file system
abbrev pub GivesEmpty : (queues area meta zone : ℕ) → (bytes : List ℕ) → Type 0
GivesEmpty queues area meta zone bytes =
    (g : Geometry) × (x : DriveImage) × (numbers_of g ≡ numbers queues area meta zone) × IsEmptyDrive g x
    × (bytes ≡ image_bytes x)

-- What a command gives a name that it saves, by what the files showed at its start.
abbrev pub Gives : Asked → (files : FilesState) → (name bytes : List ℕ) → Type 0
Gives (blocks file options save trace) files name bytes =
    (text : List ℕ) × (lines : List (List BlockItem)) × (p : ℕ) × (x : DriveImage)
    × Holds files.contents file text × IsBlockText text lines × IsPrefixAt lines options.cut p
    × IsRunBy lines options.cut options.again (pick_of options) p x
    × (((save ≡ Some name) × (bytes ≡ image_bytes x))
    ⊎ ((trace ≡ Some name) × IsTraced lines options.cut bytes))
Gives (format image queues area meta zone) files name bytes =
    (name ≡ image) × GivesEmpty queues area meta zone bytes
Gives (run image scripts options) files name bytes =
    (name ≡ image) × (held : List ℕ) × (x : DriveImage) × (texts : List Script) × (r : ImageRun)
    × (mid read : FilesState)
    × IsLoaded image held files mid × IsRead x held × AreLoaded scripts texts mid read
    × IsRunOf x texts (run_options options) r × KeepsPromise x texts (run_options options) r
    × (bytes ≡ image_bytes r.image)
Gives (recover image cut pick) files name bytes =
    (name ≡ image) × (held : List ℕ) × (x : DriveImage) × (r : RecoveredImage)
    × Holds files.contents image held × IsRead x held × IsRecoveredBy x cut (unwrap_or pick 0) r
    × (bytes ≡ image_bytes r.image)
Gives (gen seed threads groups save) files name bytes =
    (made : Generated) × (save ≡ Some name) × IsPlayOf (asked_workload seed threads groups) save made
    × (bytes ≡ made.file.items)
Gives (replicate file seed save) files name bytes =
    (text : List ℕ) × (lines : List (List BlockItem)) × (x : DriveImage)
    × Holds files.contents file text × IsBlockText text lines × IsReplicaOf lines x
    × (save ≡ Some name) × (bytes ≡ image_bytes x)
Gives (loose file cut pick save) files name bytes =
    (text : List ℕ) × (lines : List LooseLine) × (set : ℕ → Bool) × (x : DriveImage)
    × Holds files.contents file text × IsLooseText text lines × IsSetIn cut lines set × IsLeftLoose cut lines set x
    × (save ≡ Some name) × (bytes ≡ image_bytes x)
Gives _ files name bytes = ⊥

-- each of these names was saved with what the command gives it, one after another
abbrev pub AreGiven : Asked → (files : FilesState) → (names : List (List ℕ)) → (old new : FilesState)
    → Type 0
AreGiven a files [] old new = new ≡ old
AreGiven a files (name ∷ names) old new =
    (bytes : List ℕ) × (mid : FilesState) × Gives a files name bytes × IsSaved name bytes old mid
    × AreGiven a files names mid new

-- ---- the course of a command

-- a cause that the loaded bytes or the words have, or no memory
abbrev pub IsCause : (status : ℕ) → (text : List ℕ) → Type 0
IsCause status text = (status ≡ 2) ⊎ ((status ≡ 3) ⊎ ((status ≡ 6) × (text ≡ memory_line)))

-- all was done; at 5 the command that was to fail was executed, and at 6 memory ran out for a group
abbrev pub IsWhole : (status : ℕ) → Type 0
IsWhole status = (status ≡ 0) ⊎ ((status ≡ 5) ⊎ (status ≡ 6))

-- The names that the command loads are loaded in their order, and then the names that it saves are saved in
-- their order. That ends at a load, at a cause of a refusal before any save, at a save, or with the last save. What
-- there is to say then has this status.
pub data Course (a : Asked) (files new_files : FilesState) : (status : ℕ) → (text : List ℕ) → Type 0 where
  ends_at_load : {status : ℕ} {text : List ℕ} (read rest : List (List ℕ)) (name : List ℕ) (mid : FilesState)
      → loaded_names a ≡ read ++ name ∷ rest → AreRead read files mid
      → IsNotLoaded name mid new_files status text → Course a files new_files status text
  ends_at_cause : {status : ℕ} {text : List ℕ} (read rest : List (List ℕ))
      → loaded_names a ≡ read ++ rest → AreRead read files new_files → IsCause status text
      → Course a files new_files status text
  ends_at_save : {status : ℕ} {text : List ℕ} (saved rest : List (List ℕ)) (name : List ℕ)
      (mid kept : FilesState)
      → saved_names a ≡ saved ++ name ∷ rest → AreRead (loaded_names a) files mid
      → AreGiven a files saved mid kept → IsNotSaved name kept new_files status text
      → Course a files new_files status text
  ends_whole : {status : ℕ} {text : List ℕ} (mid : FilesState) → AreRead (loaded_names a) files mid
      → AreGiven a files (saved_names a) mid new_files → IsWhole status
      → Course a files new_files status text

-- ---- status 4

-- a prefix of the text is the output, and the output failed
abbrev pub IsCutOff : (text : List ℕ) → (old new : SinkState) → Type 0
IsCutOff text old new = AppendsPrefix old.contents new.contents text × Rose old.faults new.faults

-- Where memory ran out, no name has changed; or all was loaded, and then the first of the names that the
-- command saves were saved, and nothing else changed.
abbrev pub KeepsOrGives : Words → (files new_files : FilesState) → Type 0
KeepsOrGives words files new_files =
    (new_files.contents ≡ files.contents)
    ⊎ ((a : Asked) × (saved rest : List (List ℕ)) × (mid kept : FilesState)
    × (asked_of words ≡ Some a) × (saved_names a ≡ saved ++ rest) × AreRead (loaded_names a) files mid
    × AreGiven a files saved mid kept × (new_files.contents ≡ kept.contents))

-- What failed, what the names then hold, and what the output is.
--   of_load: the load of this name failed, or it was too long, after the names before it were loaded. No name
--     has changed, and the line tells this name.
--   of_save: all was loaded, and the names before this one were saved. Its save failed, and nothing is told of
--     what it holds. The line tells this name.
--   of_output: all was loaded and saved, and the output of the command failed.
--   of_line: the output of the line of a status 1, 2 or 3 failed. No name has changed.
--   of_memory: the output of the line failed that memory ran out.
pub data IsFault (words : Words) (files new_files : FilesState) (old new : SinkState) : Type 0 where
  of_load : (a : Asked) (read rest : List (List ℕ)) (name line : List ℕ) (mid : FilesState)
      → asked_of words ≡ Some a → loaded_names a ≡ read ++ name ∷ rest → AreRead read files mid
      → IsNotLoaded name mid new_files 4 line → new_files.contents ≡ files.contents
      → EndsWith 4 line 4 old new → IsFault words files new_files old new
  of_save : (a : Asked) (saved rest : List (List ℕ)) (name line : List ℕ) (mid kept : FilesState)
      → asked_of words ≡ Some a → saved_names a ≡ saved ++ name ∷ rest
      → AreRead (loaded_names a) files mid → AreGiven a files saved mid kept
      → IsNotSaved name kept new_files 4 line → EndsWith 4 line 4 old new
      → IsFault words files new_files old new
  of_output : (a : Asked) (status : ℕ) (text : List ℕ) (mid : FilesState) → asked_of words ≡ Some a
      → AreRead (loaded_names a) files mid → AreGiven a files (saved_names a) mid new_files
      → Says a files new_files status text → IsWhole status → IsCutOff text old new
      → IsFault words files new_files old new
  of_line : (status : ℕ) (line : List ℕ) → (status ≡ 1) ⊎ ((status ≡ 2) ⊎ (status ≡ 3))
      → IsToSay words files new_files status line → new_files.contents ≡ files.contents
      → IsCutOff line old new → IsFault words files new_files old new
  of_memory : IsToSay words files new_files 6 memory_line → KeepsOrGives words files new_files
      → IsCutOff memory_line old new → IsFault words files new_files old new

-- ---- status 6

-- A prefix of what there was to say is the output. Each name holds what it held, or what the command gives it.
abbrev pub IsOutOfMemory : Words → (files new_files : FilesState) → (old new : SinkState) → Type 0
IsOutOfMemory words files new_files old new =
    (status : ℕ) × (text : List ℕ) × IsToSay words files new_files status text
    × AppendsPrefix old.contents new.contents text × KeepsOrGives words files new_files
