-- The room that a session and its helper have for what is reported and for their notices.
use Rattle.std.specs.Prelude.{ℕ, List, [], vec_capacity}
use Rattle.std.specs.declared.alloc.Global.{Global}
use Rattle.std.specs.declared.vec.Vec.{Vec}
use Rattle.mq_notices.specs.declared.helper.HelperEnd.{HelperEnd}
use Rattle.mq_notices.specs.declared.line.Line.{Line as NoticeLine}
use Rattle.mq_notices.specs.declared.session.SessionEnd.{SessionEnd}
use Rattle.mq_report.specs.declared.line.Line.{Line}
use Rattle.mq_report.specs.declared.line.Told.{Told}
use Rattle.mq_run.specs.declared.opening.Kit.{Kit}

-- what lies in a session's two lists, how much has room there, and how many notices may be given
pub record Room : Type 0 where
  pub told : List Told
  pub reads : List Line
  pub told_room : ℕ
  pub reads_room : ℕ
  pub notices_room : ℕ

abbrev pub room_of : Vec Told Global → Vec Line Global → NoticeLine → Room
room_of told reads line =
    record {
      told = told.items;
      reads = reads.items;
      told_room = vec_capacity told;
      reads_room = vec_capacity reads;
      notices_room = line.count;
    }

-- the lists are empty, and there is room for `groups` groups
abbrev pub room_for : (groups : ℕ) → Room
room_for groups =
    record { told = []; reads = []; told_room = groups; reads_room = groups; notices_room = groups }

-- what a session and its helper need, by its parts
abbrev pub kit_of : Vec Told Global → Vec Line Global → NoticeLine → SessionEnd → HelperEnd → Kit
kit_of told reads line announcing listening =
    record {
      told = told;
      reads = reads;
      line = line;
      announcing = announcing;
      listening = listening;
    }
