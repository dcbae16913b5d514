-- What the program does to words: what holds whatever they ask, and then one record for each command.
use Rattle.std.specs.Prelude.{◌≡◌, ◌≢◌, ◌⊎◌, ℕ, List, Option, None, Some}
use Rattle.mq_cli.specs.Asked.{Asked, Words, asked_of, audit, blocks, cat, check, dump, format, gen, help, loose, ls, recover, replicate, run, version}
use Rattle.mq_cli.specs.declared.command.BlocksOptions.{BlocksOptions}
use Rattle.mq_cli.specs.declared.command.RunFlags.{RunFlags}
use Rattle.mq_cli.specs.declared.verb.Verb.{Verb}
use Rattle.mq_command_io.specs.Ending.{EndsWith, IsUnlessFailed}
use Rattle.mq_outside.specs.Outside.{FilesState, Held, Rose, SinkState, appended}
use Rattle.mq_tree.specs.Volume.{Path}
use Rattle.mqfs.specs.Course.{Course, IsFault}
use Rattle.mqfs.specs.Decided.{Decides, IsCovered, IsRunnable}
use Rattle.mqfs.specs.Loosed.{IsLoosed}
use Rattle.mqfs.specs.Played.{IsPlayed}
use Rattle.mqfs.specs.Program.{AreUnknown, IsDone, IsEndedRun, IsMisreadTrace, IsRefusedLoose, IsRefusedText, IsToSay, IsTooLong, KeepsNames, TakesFor, usage_line}
use Rattle.mqfs.specs.Ran.{IsRan, IsRanWhole}
use Rattle.mqfs.specs.Replicated.{IsReplicated}
use Rattle.mqfs.specs.Says.{Says, asked_workload}

-- ---- whatever the words ask

-- The words are those of `blocks`, `replicate`, `loose` or `audit`, and the file holds bytes that are
-- refused; or they are those of `run`, and a script is refused, or there are more than queues.
abbrev pub IsRefused : Words → (files new_files : FilesState) → (old new : SinkState) → Type 0
IsRefused words files new_files old new =
    IsRefusedText words files old new
    ⊎ (IsRefusedLoose words files old new
    ⊎ (IsMisreadTrace words files old new ⊎ IsEndedRun 2 words files new_files old new))

module _ (words : Words) (files new_files : FilesState) (old new : SinkState) (result : ℕ) where
  -- one text was to be said, with a status, and at most that is
  abbrev pub EndsSaying : Type 0
  EndsSaying =
      (status : ℕ) × (text : List ℕ) × IsToSay words files new_files status text
      × EndsWith status text result old new

  -- The words are no command: the usage line is said, and no file is looked at.
  pub record TellsUsage : Type 0 where
    pub usage : result ≡ 1
        → AreUnknown words × (new.contents ≡ appended old.contents usage_line) × (new_files ≡ files)
    pub usage_where : AreUnknown words → IsUnlessFailed 1 result

  -- A file or the output failed, or a file was too long.
  --   fault_where: no other status hides a fault
  --   fault_at: what failed, what the names then hold, and what the output is
  pub record TellsFaults : Type 0 where
    pub fault : result ≡ 4
        → Rose files.faults new_files.faults
        ⊎ (Rose old.faults new.faults ⊎ IsTooLong words files new_files)
    pub fault_where : result ≢ 4 → (new_files.faults ≡ files.faults) × (new.faults ≡ old.faults)
    pub fault_at : result ≡ 4 → IsFault words files new_files old new

  -- One load for each name that is loaded. No name changes but those that the words save, and none at the
  -- statuses 1, 2 and 3.
  pub record KeepsFiles : Type 0 where
    pub takes : result ≢ 4 → result ≢ 6 → TakesFor words files new_files
    pub names : KeepsNames words files new_files
    pub contents : (result ≡ 1) ⊎ ((result ≡ 2) ⊎ (result ≡ 3)) → new_files.contents ≡ files.contents

-- ---- whatever command is asked

-- What holds of each command.
--   said: at every status but 4 and 6 what there is to say of it with this status was said whole
--   decided: what the files hold decides the status, 4 and 6 aside
--   covered: whatever files tell that they hold is decided: it decides this status, or a run of scripts is
--     there, 4 and 6 aside
--   course: at every status, which names were loaded and saved, one after another, and where that ended
pub record Does (a : Asked) (files new_files : FilesState) (old new : SinkState) (result : ℕ) : Type 0 where
  pub said : result ≢ 4 → result ≢ 6
      → (text : List ℕ) × Says a files new_files result text × (new.contents ≡ appended old.contents text)
  pub decided : (status : ℕ) → Decides a files.contents status → IsUnlessFailed status result
  pub covered : (held : Held) → files.contents ≡ Some held
      → IsCovered a (Some held) result ⊎ ((result ≡ 4) ⊎ (result ≡ 6))
  pub course : (status : ℕ) × (text : List ℕ) × Course a files new_files status text
      × EndsWith status text result old new

-- ---- each command

module _ (words : Words) (files new_files : FilesState) (old new : SinkState) (result : ℕ) where
  -- `blocks`: at the status 0 the output is that of the lines that stand, of the text that the file holds;
  -- an image and a trace are saved where names for them are given.
  pub record DoesBlocks : Type 0 where
    pub does : (file : List ℕ) (options : BlocksOptions) (save trace : Option (List ℕ))
        → asked_of words ≡ Some (blocks file options save trace)
        → Does (blocks file options save trace) files new_files old new result
    pub done : (file : List ℕ) (options : BlocksOptions) (save trace : Option (List ℕ))
        → asked_of words ≡ Some (blocks file options save trace)
        → result ≡ 0
        → IsDone file options save trace files new_files old new

  pub record DoesFormat : Type 0 where
    pub does : (image : List ℕ) (queues area meta zone : ℕ)
        → asked_of words ≡ Some (format image queues area meta zone)
        → Does (format image queues area meta zone) files new_files old new result

  -- `run`
  --   runs: where the scripts are read, not more than queues, on an image within the limits on which a
  --     volume stands, the status is 0 or 5, 4 and 6 aside
  --   ran: at the statuses 0 and 5 the scripts were run, the run keeps its promise, the image that it left
  --     is saved, and its report is the output
  --   complete: where neither a cut nor a failing command is asked for, of scripts that are read, not more
  --     than queues, on an image within the limits on which a volume stands, the status is 0, 4 and 6
  --     aside, and then the run is complete
  --   failed: at the status 5 the words are those of `run`, and the command that was to fail was executed
  pub record DoesRun : Type 0 where
    pub does : (image : List ℕ) (scripts : List (List ℕ)) (options : RunFlags)
        → asked_of words ≡ Some (run image scripts options)
        → Does (run image scripts options) files new_files old new result
    pub runs : (image : List ℕ) (scripts : List (List ℕ)) (options : RunFlags)
        → asked_of words ≡ Some (run image scripts options)
        → IsRunnable image scripts files.contents
        → (result ≡ 5) ⊎ IsUnlessFailed 0 result
    pub ran : (image : List ℕ) (scripts : List (List ℕ)) (options : RunFlags)
        → asked_of words ≡ Some (run image scripts options)
        → (result ≡ 0) ⊎ (result ≡ 5)
        → IsRan image scripts options result files new_files old new
    pub complete : (image : List ℕ) (scripts : List (List ℕ)) (options : RunFlags)
        → asked_of words ≡ Some (run image scripts options)
        → options.cut ≡ None
        → options.fail ≡ None
        → IsRunnable image scripts files.contents
        → ((result ≡ 0) × IsRanWhole image scripts options files new_files old new)
        ⊎ ((result ≡ 4) ⊎ (result ≡ 6))
    pub failed : result ≡ 5 → IsEndedRun 5 words files new_files old new

  pub record DoesRecover : Type 0 where
    pub does : (image : List ℕ) (cut pick : Option ℕ)
        → asked_of words ≡ Some (recover image cut pick)
        → Does (recover image cut pick) files new_files old new result

  pub record DoesLs : Type 0 where
    pub does : (image : List ℕ)
        → asked_of words ≡ Some (ls image)
        → Does (ls image) files new_files old new result

  pub record DoesCat : Type 0 where
    pub does : (image : List ℕ) (path : Path)
        → asked_of words ≡ Some (cat image path)
        → Does (cat image path) files new_files old new result

  -- `gen`: at the status 0 the workload was played on an empty file system, the image that a cut of the
  -- power left is saved where a name is given for it, and the output gives how much the tree then has.
  pub record DoesGen : Type 0 where
    pub does : (seed threads groups : ℕ) (save : Option (List ℕ))
        → asked_of words ≡ Some (gen seed threads groups save)
        → Does (gen seed threads groups save) files new_files old new result
    pub played : (seed threads groups : ℕ) (save : Option (List ℕ))
        → asked_of words ≡ Some (gen seed threads groups save)
        → result ≡ 0
        → IsPlayed (asked_workload seed threads groups) save files new_files old new

  pub record DoesDump : Type 0 where
    pub does : (image : List ℕ)
        → asked_of words ≡ Some (dump image)
        → Does (dump image) files new_files old new result

  pub record DoesCheck : Type 0 where
    pub does : (image : List ℕ)
        → asked_of words ≡ Some (check image)
        → Does (check image) files new_files old new result

  pub record DoesAudit : Type 0 where
    pub does : (trace : List ℕ)
        → asked_of words ≡ Some (audit trace)
        → Does (audit trace) files new_files old new result

  -- `replicate`: at the status 0 the lines of the text that the file holds were fed to a replica, its image
  -- is saved where a name is given for it, and the output is their number and what stands after all of
  -- them.
  pub record DoesReplicate : Type 0 where
    pub does : (file : List ℕ) (seed : Option ℕ) (save : Option (List ℕ))
        → asked_of words ≡ Some (replicate file seed save)
        → Does (replicate file seed save) files new_files old new result
    pub replicated : (file : List ℕ) (seed : Option ℕ) (save : Option (List ℕ))
        → asked_of words ≡ Some (replicate file seed save)
        → result ≡ 0
        → IsReplicated file save files new_files old new

  -- `loose`: at the status 0 the lines of the text that the file holds were run until the cut, the image
  -- that it left is saved where a name is given for it, and the output is the settled numbers, the image's
  -- set, and what that leaves.
  pub record DoesLoose : Type 0 where
    pub does : (file : List ℕ) (cut pick : Option ℕ) (save : Option (List ℕ))
        → asked_of words ≡ Some (loose file cut pick save)
        → Does (loose file cut pick save) files new_files old new result
    pub loosed : (file : List ℕ) (cut pick : Option ℕ) (save : Option (List ℕ))
        → asked_of words ≡ Some (loose file cut pick save)
        → result ≡ 0
        → IsLoosed file cut save files new_files old new

  pub record DoesHelp : Type 0 where
    pub does : (topic : Option Verb)
        → asked_of words ≡ Some (help topic)
        → Does (help topic) files new_files old new result

  pub record DoesVersion : Type 0 where
    pub does : asked_of words ≡ Some version → Does version files new_files old new result
