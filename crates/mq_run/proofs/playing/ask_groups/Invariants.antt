use Rattle.std.proofs.Common.{◌≡◌, ◌≤◌, length, map, vec_capacity, vec_len}
use Rattle.std.specs.List.{All}
use Rattle.mq_calls.specs.Sessions.{IsReady}
use Rattle.mq_notices.specs.Ends.{IsOpen, announced, served_by_session}
use Rattle.mq_turns.specs.AtDesk.{AtDesk, view}
use Rattle.mq_run.specs.Playing.{Plays}
use Rattle.mq_run.proofs.PlayingGroups.{Stays}
use Rattle.mq_run.proofs.playing.ask_groups.Given as goal

abbrev pub invariant-loop-index : goal.invariant-loop-index
invariant-loop-index g l = record {
  desk : AtDesk l.files.desk l.runner.user.chair;
  ready : IsReady l.files.geometry l.runner.user.queue l.runner.user.calls l.runner.user.held (view l.runner.user.chair);
  queue : l.runner.user.queue ≡ l.fn.runner.user.queue;
  calls : l.runner.user.calls ≡ l.index;
  plays : Plays g.P.Port.state g.P.Port.faults l.files.geometry l.fn.runner.user.queue l.script.groups (view l.fn.runner.user.chair) l.index l.runner.told.items l.runner.reads.items (announced l.announcing) (served_by_session l.announcing) (view l.runner.user.chair);
  told : (length l.runner.told.items ≡ l.index) × (vec_capacity l.runner.told ≡ vec_capacity l.fn.runner.told);
  reads : (vec_len l.runner.reads ≤ l.index) × (vec_capacity l.runner.reads ≡ vec_capacity l.fn.runner.reads);
  stays : All Stays l.runner.told.items;
  opened : IsOpen l.line l.announcing;
  few : length (announced l.announcing) ≤ l.index;
}
