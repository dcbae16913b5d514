use Rattle.std.proofs.Common.{◌≡◌, drop}
use Rattle.mq_kv_entries.specs.Group.{store_group}
use Rattle.mq_kv_run.proofs.Played.{Goes}
use Rattle.mq_sessions.specs.Calls.{IsReady}
use Rattle.mq_turns.specs.AtDesk.{AtDesk, view}
use Rattle.mq_kv_run.proofs.playing.play_groups.Given as goal

-- what is played of the groups that are left leads on from here
abbrev pub invariant-loop-group : goal.invariant-loop-group
invariant-loop-group g l = record {
  desk : AtDesk l.store.desk l.session.chair;
  ready : IsReady store_group l.store.geometry l.session.queue l.session.calls l.session.held (view l.session.chair);
  queue : l.session.queue ≡ l.fn.session.queue;
  goes : Goes g.P.Port.state g.P.Port.faults l.store.geometry l.fn.session.queue l.groups (drop l.group-index l.groups) l.reports.items (view l.fn.session.chair) (view l.session.chair);
}
