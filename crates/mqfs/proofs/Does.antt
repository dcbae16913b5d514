-- What the program does to words: each record of it, by what there was to say and how that ended.
use Rattle.std.proofs.Common.{◌≡◌, ◌≢◌, ◌⊎◌, ℕ, List, Option, Some, refl, sym, ◌∙◌, subst}
use Rattle.mq_cli.specs.Asked.{Asked, Words, asked_of, audit, blocks, cat, check, dump, format, gen, help, loose, ls, recover, replicate, run, version}
use Rattle.mq_command_io.specs.Ending.{EndsWith, IsUnlessFailed}
use Rattle.mq_outside.specs.Outside.{FilesState, SinkState}
use Rattle.mqfs.specs.Decided.{Decides, RunsThere, runs_whole}
use Rattle.mqfs.specs.Does.{Does, DoesAudit, DoesBlocks, DoesCat, DoesCheck, DoesDump, DoesFormat, DoesGen, DoesHelp, DoesLoose, DoesLs, DoesRecover, DoesReplicate, DoesRun, DoesVersion, EndsSaying, IsRefused, KeepsFiles, TellsFaults, TellsUsage}
use Rattle.mqfs.specs.Course.{IsOutOfMemory}
use Rattle.mqfs.specs.Program.{IsSaid, IsStatus, IsToSay, no_command, no_memory, of_command}
use Rattle.mqfs.specs.Says.{Says}
use Rattle.mqfs.proofs.Complete.{whole_told}
use Rattle.mqfs.proofs.Course.{course-told, fault-told, memory-told}
use Rattle.mqfs.proofs.Covered.{covered_told}
use Rattle.mqfs.proofs.Loosed.{loosed_told}
use Rattle.mqfs.proofs.Played.{played_told}
use Rattle.mqfs.proofs.ProgramEndings.{contents_told, done_told, failed_told, fault_told, names_told, not_asked, refused_told, said_told, same_told, status_told, takes_told, usage-where, usage_told}
use Rattle.mqfs.proofs.Ran.{ran_told}
use Rattle.mqfs.proofs.Replicated.{replicated_told}

-- what was said of what is asked
said-of : (a : Asked) (words : Words) (files new_files : FilesState) (status : ℕ) (text : List ℕ) → asked_of words ≡ Some a → status ≢ 6 → IsToSay words files new_files status text → Says a files new_files status text
said-of a words files new_files _ _ asks not (no_command none same) = absurd (not_asked words a none asks)
said-of a words files new_files status text asks not (of_command b is says) =
    let same : ◌≡◌ {A = Option Asked} (Some b) (Some a) = sym is ∙ asks in
    let one : b ≡ a = cc in
    subst (λ (c : Asked). Says c files new_files status text) one says
said-of a words files new_files _ _ asks not (no_memory same) = absurd (not refl)

module _ {words : Words} {files new_files : FilesState} (old : SinkState) {new : SinkState} {result : ℕ} (ends : EndsSaying words files new_files old new result) where
  -- ---- whatever the words ask

  pub is-status : IsStatus result
  is-status = status_told words files new_files ends.0 ends.1 result old new ends.2 ends.3

  pub is-said : result ≢ 4 → result ≢ 6 → IsSaid words files new_files old new result
  is-said = said_told words files new_files ends.0 ends.1 result old new ends.2 ends.3

  pub tells-usage : TellsUsage words files new_files old new result
  tells-usage = record {
    usage = usage_told words files new_files ends.0 ends.1 result old new ends.2 ends.3;
    usage_where = usage-where words files new_files ends.0 ends.1 result old new ends.2 ends.3;
  }

  pub is-refused : result ≡ 2 → IsRefused words files new_files old new
  is-refused = refused_told words files new_files ends.0 ends.1 result old new ends.2 ends.3

  pub tells-faults : TellsFaults words files new_files old new result
  tells-faults = record {
    fault = fault_told words files new_files ends.0 ends.1 result old new ends.2 ends.3;
    fault_where = same_told words files new_files ends.0 ends.1 result old new ends.2 ends.3;
    fault_at = λ four. fault-told words files new_files old new ends.0 ends.1 ends.2 (subst (λ (n : ℕ). EndsWith ends.0 ends.1 n old new) four ends.3);
  }

  pub is-out-of-memory : result ≡ 6 → IsOutOfMemory words files new_files old new
  is-out-of-memory six = memory-told words files new_files old new ends.0 ends.1 ends.2 (subst (λ (n : ℕ). EndsWith ends.0 ends.1 n old new) six ends.3)

  pub keeps-files : KeepsFiles words files new_files old new result
  keeps-files = record {
    takes = takes_told words files new_files ends.0 ends.1 result old new ends.2 ends.3;
    names = names_told words files new_files ends.0 ends.1 result old new ends.2 ends.3;
    contents = contents_told words files new_files ends.0 ends.1 result old new ends.2 ends.3;
  }

  -- ---- each command

  module _ (decided : (a : Asked) (status : ℕ) → asked_of words ≡ Some a → Decides a files.contents status → IsUnlessFailed status result) where
    does : (a : Asked) → asked_of words ≡ Some a → Does a files new_files old new result
    does a asks = record {
      said = λ not_four not_six. (let said = is-said not_four not_six in (said.0, said-of a words files new_files result said.0 asks not_six said.1, said.2));
      decided = λ status. decided a status asks;
      covered = λ held told. covered_told held files told words a new_files ends.0 ends.1 result old new asks ends.2 ends.3;
      course = (ends.0, ends.1, course-told words files new_files old new a asks ends.0 ends.1 ends.2, ends.3);
    }

    pub does-blocks : DoesBlocks words files new_files old new result
    does-blocks = record {
      does = λ file options save trace. does (blocks file options save trace);
      done = λ file options save trace asks. done_told file options save trace files new_files old new words ends.0 ends.1 result asks ends.2 ends.3;
    }

    pub does-format : DoesFormat words files new_files old new result
    does-format = record { does = λ image queues area meta zone. does (format image queues area meta zone) }

    pub does-run : ((a : Asked) → asked_of words ≡ Some a → RunsThere a files.contents → (result ≡ 5) ⊎ IsUnlessFailed 0 result) → DoesRun words files new_files old new result
    does-run runs = record {
      does = λ image scripts options. does (run image scripts options);
      runs = λ image scripts options. runs (run image scripts options);
      ran = λ image scripts options asks. ran_told image scripts options files new_files old new words ends.0 ends.1 result asks ends.2 ends.3;
      complete = λ image scripts options asks no_cut none there.
          whole_told image scripts options files new_files old new words ends.0 ends.1 result asks ends.2 ends.3 no_cut none (decided (run image scripts options) 0 asks (runs_whole there none));
      failed = failed_told words files new_files ends.0 ends.1 result old new ends.2 ends.3;
    }

    pub does-recover : DoesRecover words files new_files old new result
    does-recover = record { does = λ image cut pick. does (recover image cut pick) }

    pub does-ls : DoesLs words files new_files old new result
    does-ls = record { does = λ image. does (ls image) }

    pub does-cat : DoesCat words files new_files old new result
    does-cat = record { does = λ image path. does (cat image path) }

    pub does-gen : DoesGen words files new_files old new result
    does-gen = record {
      does = λ seed threads groups save. does (gen seed threads groups save);
      played = λ seed threads groups save asks. played_told seed threads groups save files new_files old new words ends.0 ends.1 result asks ends.2 ends.3;
    }

    pub does-dump : DoesDump words files new_files old new result
    does-dump = record { does = λ image. does (dump image) }

    pub does-check : DoesCheck words files new_files old new result
    does-check = record { does = λ image. does (check image) }

    pub does-audit : DoesAudit words files new_files old new result
    does-audit = record { does = λ trace. does (audit trace) }

    pub does-replicate : DoesReplicate words files new_files old new result
    does-replicate = record {
      does = λ file seed save. does (replicate file seed save);
      replicated = λ file seed save asks. replicated_told file seed save files new_files old new words ends.0 ends.1 result asks ends.2 ends.3;
    }

    pub does-loose : DoesLoose words files new_files old new result
    does-loose = record {
      does = λ file cut pick save. does (loose file cut pick save);
      loosed = λ file cut pick save asks. loosed_told file cut pick save files new_files old new words ends.0 ends.1 result asks ends.2 ends.3;
    }

    pub does-help : DoesHelp words files new_files old new result
    does-help = record { does = λ topic. does (help topic) }

    pub does-version : DoesVersion words files new_files old new result
    does-version = record { does = does version }
