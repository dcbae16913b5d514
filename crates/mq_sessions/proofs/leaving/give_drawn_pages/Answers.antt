use Rattle.std.proofs.Common.{rules, ◌≡◌, ◌∙◌, [], ℕ, refl}
use Rattle.mq_desk_laws.proofs.Meaning.{laws}
use Rattle.mq_turns.specs.AtDesk.{start_of, view}
use Rattle.mq_journal.specs.Machine.{journal}
use Rattle.mq_journal.specs.Values.{side_values}
use Rattle.mq_sessions.proofs.LeavingAfterDraw.{left-all, left-last, left-more, left-none, left-rises}
use Rattle.mq_sessions.proofs.PagesHolding.{last-stands}
use Rattle.mq_sessions.proofs.leaving.give_drawn_pages.Goals as goal

pub loop-block-init : goal.loop-block-init
loop-block-init g c = record {
  at = c.requires.at;
  left = left-none (journal g.P.Port.state g.P.Port.faults g.G.Groups.group) (start_of c.args.desk.now) c.args.number c.args.plan.now c.args.frees.now (view c.args.chair.now) c.args.held.now.cells c.args.writes.now.items c.requires.pages c.requires.writes c.requires.written;
  room = refl;
}

pub page_after-cell-requires-clause-writes : goal.page_after-cell-requires-clause-writes
page_after-cell-requires-clause-writes g c = left-rises _ _ _ _ _ _ _ _ _ _ _ _ _ _ c.loop-block.invariant.left c.in-Some.ensures.last

pub give_back-requires-clause-turn : goal.give_back-requires-clause-turn
give_back-requires-clause-turn g c = (left-last _ _ _ _ _ _ _ _ _ _ _ _ _ _ c.loop-block.invariant.left c.in-Some.ensures.last).page.turn

pub give_back-requires-clause-holds : goal.give_back-requires-clause-holds
give_back-requires-clause-holds g c = (left-last _ _ _ _ _ _ _ _ _ _ _ _ _ _ c.loop-block.invariant.left c.in-Some.ensures.last).page.holds

pub give_back-requires-clause-stands : goal.give_back-requires-clause-stands
give_back-requires-clause-stands g c = λ K sees.
    let last = left-last (journal g.P.Port.state g.P.Port.faults g.G.Groups.group) (start_of c.args.desk.now) c.args.number c.args.plan.now c.args.frees.now _ _ _ _ _ _ _ _ _ c.loop-block.invariant.left c.in-Some.ensures.last in
    rw c.page_after-cell.ensures.cell (last-stands (journal g.P.Port.state g.P.Port.faults g.G.Groups.group) (laws (side_values g.P.Port.state g.P.Port.faults) g.G.Groups.group) ℕ (start_of c.args.desk.now) _ _ _ _ c.loop-block.invariant.at.1 last K sees)

pub loop-block-preserved : goal.loop-block-preserved
loop-block-preserved g c = record {
  at = c.give_back.ensures.at;
  left = left-more _ _ _ _ _ (view c.args.chair.now) (view c.loop-block.chair) _ _ _ _ _ _ _ c.loop-block.invariant.left c.in-Some.ensures.last (view c.give_back.new.chair) c.page_after-cell.new.writes.items c.give_back.ensures.gave c.page_after-cell.ensures.left;
  room = c.in-Some.ensures.room ∙ c.loop-block.invariant.room;
}

pub returns-clause-gave : goal.returns-clause-gave
returns-clause-gave g c =
    let none : c.loop-block.held.cells ≡ [] = search rules in
    left-all (journal g.P.Port.state g.P.Port.faults g.G.Groups.group) (start_of c.args.desk.now) c.args.number c.args.plan.now c.args.frees.now (view c.args.chair.now) (view c.loop-block.chair) c.args.held.now.cells c.loop-block.held.cells c.args.writes.now.items c.loop-block.writes.items c.loop-block.invariant.left none c.loop-block.chair.quiet
