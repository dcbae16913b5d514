use Rattle.std.proofs.Common.{◌≡◌, ◌<◌, []}
use Rattle.mq_turns.specs.Swept.{Sweeping}
use Rattle.mq_turns.proofs.desk.Desk.read_marks.Given as goal

abbrev pub invariant-loop-queue : goal.invariant-loop-queue
invariant-loop-queue g l = record {
  table : l.chair.place.table_id ≡ l.fn.chair.place.table_id;
  fits : l.low < 18446744073709551616;
  bare : l.chair.place.me.1 ≡ [];
  sweep : Sweeping g.M.Machine.meaning l.self.sides l.queue l.low l.fn.chair.place.me.0 l.chair.place.me.0;
}
