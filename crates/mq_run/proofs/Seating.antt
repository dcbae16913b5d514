-- A session that has made no call, with room for what it is answered.
use Rattle.std.proofs.Common.{◌≡◌, ℕ, List, length, sym, ap, subst, arith}
use Rattle.std.specs.Prelude.{vec_capacity}
use Rattle.std.specs.declared.vec.Vec.{Vec}
use Rattle.std.specs.declared.alloc.Global.{Global}
use Rattle.mq_blocks.specs.declared.geometry.Geometry.{Geometry}
use Rattle.mq_calls.specs.Opening.{IsNewSession}
use Rattle.mq_calls.specs.Sessions.{IsReady}
use Rattle.mq_drive.specs.declared.port.Port.{Ghosts}
use Rattle.mq_calls.specs.declared.entry.FileEntry.{FileEntry}
use Rattle.mq_journal.specs.Numbers.{Seat, Start}
use Rattle.mq_notices.specs.declared.line.Line.{Line as NoticeLine}
use Rattle.mq_pages.specs.Held.{HeldCells}
use Rattle.mq_report.specs.declared.line.Line.{Line}
use Rattle.mq_report.specs.declared.line.Told.{Told}
use Rattle.mq_script.specs.Scripts.{Group}
use Rattle.mq_run.specs.Playing.{HasRoom}
use Rattle.mq_run.specs.Seating.{room_for, room_of}

pub has_room : (groups : List Group) (told : Vec Told Global) (reads : Vec Line Global) (line : NoticeLine) → room_of told reads line ≡ room_for (length groups) → HasRoom groups told reads line
has_room groups told reads line is =
    let told_room : vec_capacity told ≡ length groups = ap (λ r. r.told_room) is in
    let notices_room : line.count ≡ length groups = ap (λ r. r.notices_room) is in
    let reads_room : vec_capacity reads ≡ length groups = ap (λ r. r.reads_room) is in
    record {
      told_none = ap (λ r. r.told) is;
      told_room = omega arith;
      reads_none = ap (λ r. r.reads) is;
      reads_room = omega arith;
      notices_room = omega arith;
    }

module _ {P : Type 0} {G : Ghosts P} where
  pub new_is_ready : (g files : Geometry) (o : Start P FileEntry G) (i queue calls : ℕ) (wanted : List ℕ) (cells : HeldCells) (v : Seat P FileEntry G) → files ≡ g → IsNewSession g o i queue calls wanted cells v → IsReady files queue calls cells v × (queue ≡ i) × (calls ≡ 0)
  new_is_ready g files o i queue calls wanted cells v same new = (
    subst (λ (h : Geometry). IsReady h queue calls cells v) (sym same)
        (subst (λ (q : ℕ). IsReady g q calls cells v) (sym new.queue_is)
        (subst (λ (k : ℕ). IsReady g i k cells v) (sym new.calls_are) new.ready)),
    new.queue_is,
    new.calls_are,
  )
