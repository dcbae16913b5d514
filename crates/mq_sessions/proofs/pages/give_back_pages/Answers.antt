use Rattle.std.proofs.Common.{rules, ◌≡◌, ◌∙◌, [], ℕ}
use Rattle.mq_turns.specs.AtDesk.{start_of, view}
use Rattle.mq_sessions.proofs.PagesHolding.{last-stands}
use Rattle.mq_sessions.proofs.PagesTaking.{given-all, given-last, given-more}
use Rattle.mq_sessions.proofs.pages.give_back_pages.Goals as goal

pub give_back-requires-clause-holds : goal.give_back-requires-clause-holds
give_back-requires-clause-holds g c = (given-last g.M.Machine.meaning _ _ _ _ _ _ _ _ c.loop-block.invariant.given c.in-Some.ensures.last).page.holds

pub give_back-requires-clause-stands : goal.give_back-requires-clause-stands
give_back-requires-clause-stands g c = λ K sees.
    last-stands g.M.Machine.meaning c.obeys.ensures ℕ (start_of c.args.desk.now) _ _ _ _ c.loop-block.invariant.at.1 (given-last g.M.Machine.meaning _ _ _ _ _ _ _ _ c.loop-block.invariant.given c.in-Some.ensures.last) K sees

pub loop-block-preserved : goal.loop-block-preserved
loop-block-preserved g c = record {
  at = c.give_back.ensures.at;
  given = given-more g.M.Machine.meaning (start_of c.args.desk.now) (view c.args.chair.now) (view c.loop-block.chair) (view c.give_back.new.chair) _ _ _ _ _ c.loop-block.invariant.given c.in-Some.ensures.last c.give_back.ensures.gave;
  room = c.in-Some.ensures.room ∙ c.loop-block.invariant.room;
}

pub returns-clause-gave : goal.returns-clause-gave
returns-clause-gave g c =
    let none : c.loop-block.held.cells ≡ [] = search rules in
    given-all g.M.Machine.meaning (start_of c.args.desk.now) (view c.args.chair.now) (view c.loop-block.chair) _ _ c.loop-block.invariant.given none c.loop-block.chair.quiet
