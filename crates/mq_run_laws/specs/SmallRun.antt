-- A run of one group that makes a directory and a file, on an empty file system of two queues, and
-- wrong reports of it.
use lib.Dec.{lit≤}
use Rattle.std.specs.Prelude.{ℕ, true, false, List, [], ◌∷◌, None, Some, Ok, Err, codes}
use Rattle.mq_blocks.specs.Geometry.{write_limit, shaped}
use Rattle.mq_blocks.specs.declared.geometry.Geometry.{Geometry}
use Rattle.mq_calls.specs.Asking.{refusal_at}
use Rattle.mq_queue_side.specs.declared.answers.CallCause.TheVariants.{Drive, TooLarge}
use Rattle.mq_report.specs.Lines.{Line}
use Rattle.mq_report.specs.declared.line.Told.{Told}
use Rattle.mq_script.specs.Scripts.{Script}
use Rattle.mq_script.specs.declared.group.End.TheVariants.{Ask, Fsync}
use Rattle.mq_queue_side.specs.declared.answers.Cause.TheVariants.{Failed, Stopped}
use Rattle.mq_queue_side.specs.declared.answers.Why.{Why}
use Rattle.mq_tree.specs.declared.request.Reply.TheVariants.{Ok as Done, Names, Dir as Count}
use Rattle.mq_tree.specs.declared.request.Request.{Request}
use Rattle.mq_tree.specs.declared.request.Request.TheVariants.{Mkdir, Create, Write, List as ListOf, Stat}

-- two queues, areas of 1,024 blocks, 64 blocks of metadata, zones of 256
unfoldable pub two : Geometry
two = shaped 2 1024 64 256 (lit≤ tt, lit≤ tt) (lit≤ tt, lit≤ tt) (lit≤ tt, lit≤ tt, lit≤ tt)

abbrev pub directory : List ℕ
directory = codes "a"

abbrev pub file : List ℕ
file = codes "f"

-- ---- the run

-- mkdir /a, create /a/f, write /a/f 0 "hi"
abbrev pub requests : List Request
requests =
    Mkdir (directory ∷ []) ∷ Create (directory ∷ file ∷ [])
    ∷ Write (directory ∷ file ∷ []) 0 (codes "hi") ∷ []

abbrev pub small_scripts : List Script
small_scripts = record { groups = record { requests = requests; end = Fsync } ∷ [] } ∷ []

abbrev pub small_line : Line
small_line =
    record {
      number = 1;
      commit = true;
      session = 0;
      group = 0;
      end = Fsync;
      replies = Done ∷ Done ∷ Done ∷ [];
    }

abbrev pub small_lines : List Line
small_lines = small_line ∷ []

abbrev pub small_told : Told
small_told = record { session = 0; group = 0; end = Fsync; answer = Ok 1 }

abbrev pub small_answers : List Told
small_answers = small_told ∷ []

-- ---- wrong reports

-- the commit as a read
abbrev pub as_read : Line
as_read =
    record {
      number = 0;
      commit = false;
      session = 0;
      group = 0;
      end = Fsync;
      replies = Done ∷ Done ∷ Done ∷ [];
    }

-- that the group writes `count` blocks, which are too many
abbrev pub as_large : ℕ → Told
as_large count =
    record {
      session = 0;
      group = 0;
      end = Fsync;
      answer = Err (record { cause = TooLarge count (write_limit two); drawn = None });
    }

-- that it asks, and a request changes something
abbrev pub as_changing : ℕ → Told
as_changing index = record { session = 0; group = 0; end = Fsync; answer = Err (refusal_at index) }

-- that it drew its number, and a transaction failed with this status
abbrev pub as_failed : (tx status : ℕ) → Told
as_failed tx status =
    record {
      session = 0;
      group = 0;
      end = Fsync;
      answer = Err (record { cause = Drive (Failed tx status); drawn = Some 1 });
    }

-- mkdir /a, stat /a, list /, with the last two replies swapped
abbrev pub asking : List Request
asking = Mkdir (directory ∷ []) ∷ Stat (directory ∷ []) ∷ ListOf [] ∷ []

abbrev pub swapped : Line
swapped =
    record {
      number = 1;
      commit = true;
      session = 0;
      group = 0;
      end = Fsync;
      replies = Done ∷ Names (directory ∷ []) ∷ Count 0 ∷ [];
    }

abbrev pub asking_scripts : List Script
asking_scripts = record { groups = record { requests = asking; end = Fsync } ∷ [] } ∷ []

-- the same as a group that asks, which may not be answered well
abbrev pub only_asking : List Script
only_asking = record { groups = record { requests = asking; end = Ask } ∷ [] } ∷ []

abbrev pub well_asked : Told
well_asked = record { session = 0; group = 0; end = Ask; answer = Ok 0 }

-- nor be stopped by the drive
abbrev pub stopped_ask : (tx : ℕ) → Why → Told
stopped_ask tx why =
    record {
      session = 0;
      group = 0;
      end = Ask;
      answer = Err (record { cause = Drive (Stopped tx why); drawn = None });
    }
