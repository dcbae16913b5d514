-- What the program leaves of the names and of the output at each status.
use Rattle.std.specs.Prelude.{◌≡◌, ◌⊎◌, ℕ, List, Some}
use Rattle.mq_cli.specs.Asked.{Words}
use Rattle.mq_command_io.specs.Ending.{EndsWith, IsNotLoaded, IsNotSaved, IsSaved, memory_line}
use Rattle.mq_image.specs.File.{image_bytes}
use Rattle.mq_kv_cli.specs.Asked.{Asked, apply, asked_of, help, make, version}
use Rattle.mq_kv_cli.specs.declared.command.ApplyOptions.{ApplyOptions}
use Rattle.mq_kv_run.specs.declared.ran.KvRun.{KvRun}
use Rattle.mq_kv_text.specs.Files.{IsMisread}
use Rattle.mq_kv_text.specs.Reports.{misread_text, new_text, report_text}
use Rattle.mq_kv_tool.specs.Applies.{IsApplied}
use Rattle.mq_kv_tool.specs.Makes.{IsNewFile}
use Rattle.mq_kv_tool.specs.Program.{IsToSay, loaded_names, saved_names}
use Rattle.mq_kv_tool.specs.Says.{Says, kv_options}
use Rattle.mq_outside.specs.Outside.{AppendsPrefix, FilesState, Holds, Rose, SinkState, appended, put_name}
use Rattle.std.specs.List.{Contains}

-- ---- status 0

-- The name holds the file of a drive of zeros now, and no other name changed.
pub record HasMade (image : List ℕ) (files new_files : FilesState) (old new : SinkState) : Type 0 where
  pub bytes : List ℕ
  pub file : IsNewFile bytes
  pub saved : IsSaved image bytes files new_files
  pub said : new.contents ≡ appended old.contents new_text

-- The name of the image held an image, and the other a file of groups. These were run on it. The name of the image
-- holds the file of what that left now, and its report was said.
pub record HasApplied (image file : List ℕ) (options : ApplyOptions) (files new_files : FilesState)
    (old new : SinkState) : Type 0 where
  pub mid : FilesState
  pub read : FilesState
  pub r : KvRun
  pub applied : IsApplied (kv_options options) image file files mid read r
  pub saved : IsSaved image (image_bytes r.image) read new_files
  pub said : new.contents ≡ appended old.contents (report_text r.report)

-- ---- status 2

-- The words are those of `apply`, and the file holds bytes of which a line is not in its form. The line of the
-- first such was said.
pub record IsMisreadFile (words : Words) (files : FilesState) (old new : SinkState) : Type 0 where
  pub image : List ℕ
  pub file : List ℕ
  pub options : ApplyOptions
  pub asks : asked_of words ≡ Some (apply image file options)
  pub bytes : List ℕ
  pub line : ℕ
  pub holds : Holds files.contents file bytes
  pub misread : IsMisread bytes line
  pub said : new.contents ≡ appended old.contents (misread_text line)

-- ---- what the names hold

-- what a command gives the image that it saves, by what the files showed at its start
abbrev pub Gives : Asked → (files : FilesState) → (bytes : List ℕ) → Type 0
Gives (make image) files bytes = IsNewFile bytes
Gives (apply image file options) files bytes =
    (mid read : FilesState) × (r : KvRun) × IsApplied (kv_options options) image file files mid read r
    × (bytes ≡ image_bytes r.image)
Gives (help topic) files bytes = ⊥
Gives version files bytes = ⊥

-- No name has changed; or the image that the words name was saved, with what their command gives it, and no other
-- name has changed.
pub data KeepsOrGives (words : Words) (files new_files : FilesState) : Type 0 where
  keeps : new_files.contents ≡ files.contents → KeepsOrGives words files new_files
  gives : (a : Asked) (name bytes : List ℕ) → asked_of words ≡ Some a → Contains (saved_names a) name
      → Gives a files bytes → new_files.contents ≡ put_name files.contents name bytes
      → KeepsOrGives words files new_files

-- ---- status 4

-- a prefix of the text is the output, and the output failed
abbrev pub IsCutOff : (text : List ℕ) → (old new : SinkState) → Type 0
IsCutOff text old new = AppendsPrefix old.contents new.contents text × Rose old.faults new.faults

-- What failed, what the names then hold, and what the output is.
--   of_load: the load of a name failed, or it was too long. No name has changed, and the line tells this name.
--   of_save: the save of the image failed, and nothing is told of what its name holds. No other name has changed,
--     and the line tells this name.
--   of_output: the image was saved, if there is one to save, and the output of the command failed.
--   of_line: the output of the line of a status 1, 2 or 3 failed. No name has changed.
--   of_memory: the output of the line failed that memory ran out.
pub data IsFault (words : Words) (files new_files : FilesState) (old new : SinkState) : Type 0 where
  of_load : (a : Asked) (name line : List ℕ) (mid : FilesState) → asked_of words ≡ Some a
      → Contains (loaded_names a) name → mid.contents ≡ files.contents
      → IsNotLoaded name mid new_files 4 line → new_files.contents ≡ files.contents
      → EndsWith 4 line 4 old new → IsFault words files new_files old new
  of_save : (a : Asked) (name line : List ℕ) (mid : FilesState) → asked_of words ≡ Some a
      → Contains (saved_names a) name → mid.contents ≡ files.contents
      → IsNotSaved name mid new_files 4 line → EndsWith 4 line 4 old new
      → IsFault words files new_files old new
  of_output : (a : Asked) (text : List ℕ) → asked_of words ≡ Some a → Says a files new_files 0 text
      → IsCutOff text old new → IsFault words files new_files old new
  of_line : (status : ℕ) (line : List ℕ) → (status ≡ 1) ⊎ ((status ≡ 2) ⊎ (status ≡ 3))
      → IsToSay words files new_files status line → new_files.contents ≡ files.contents
      → IsCutOff line old new → IsFault words files new_files old new
  of_memory : IsToSay words files new_files 6 memory_line → KeepsOrGives words files new_files
      → IsCutOff memory_line old new → IsFault words files new_files old new

-- ---- status 6

-- A prefix of what there was to say is the output. Each name holds what it held, or what the command gives it.
abbrev pub IsOutOfMemory : Words → (files new_files : FilesState) → (old new : SinkState) → Type 0
IsOutOfMemory words files new_files old new =
    (status : ℕ) × (text : List ℕ) × IsToSay words files new_files status text
    × AppendsPrefix old.contents new.contents text × KeepsOrGives words files new_files
