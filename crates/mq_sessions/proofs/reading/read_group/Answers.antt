use Rattle.std.proofs.Common.{◌∙◌, ap}
use Rattle.mq_journal.specs.Machine.{journal}
use Rattle.mq_turns.specs.AtDesk.{start_of, view}
use Rattle.mq_turns.specs.declared.rule.ChairView.{ChairView}
use Rattle.mq_sessions.specs.Calls.{call_of}
use Rattle.mq_sessions.proofs.PagesBeside.{given-empty}
use Rattle.mq_sessions.proofs.ReadingGroups.{comes-after, may-be-read}
use Rattle.mq_sessions.proofs.reading.read_group.Goals as goal

pub look_and_leave-requires-clause-read : goal.look_and_leave-requires-clause-read
look_and_leave-requires-clause-read g c =
    may-be-read g.P.Port.state g.P.Port.faults g.G.Groups.group g.G.Executor.calls c.args.geometry (start_of c.args.desk.now) c.args.held.now.cells (view c.args.chair.now) (call_of c.args.asked.now) c.args.done.now c.in-Ok.entry c.done_groups_are_on_maps.ensures c.undrawn_groups_fit.ensures c.requires.at.1 c.requires.geometry c.requires.pages.pages c.requires.done c.requires.asks.queue c.requires.undrawn c.in-Ok.ensures.entry c.in-Ok.ensures.undrawn

pub look_and_leave-requires-clause-follows : goal.look_and_leave-requires-clause-follows
look_and_leave-requires-clause-follows g c =
    comes-after g.P.Port.state g.P.Port.faults g.G.Groups.group g.G.Executor.calls c.args.geometry c.args.asked.now (view c.args.chair.now) c.args.done.now c.in-Ok.entry c.entries_are_of_calls.ensures c.requires.asks c.in-Ok.ensures.entry

pub returns-in-Ok-clause-read : goal.returns-in-Ok-clause-read
returns-in-Ok-clause-read g c = record {
  entry = c.in-Ok.entry;
  is = c.in-Ok.ensures.entry;
  looked = c.look_and_leave.ensures.looked;
}

pub returns-in-Err-clause-left : goal.returns-in-Err-clause-left
returns-in-Err-clause-left g c =
    ap (λ (v : ChairView _ _ _ _). v.held) c.give_back_pages.ensures.gave ∙ given-empty (journal g.P.Port.state g.P.Port.faults g.G.Groups.group) (start_of c.args.desk.now) c.args.held.now.cells (view c.args.chair.now) c.requires.pages
