use Rattle.std.proofs.Common.{◌<◌, ℕ, refl, sym, subst, ◌∙◌}
use Rattle.mq_turns.specs.AtDesk.{start_of, view}
use Rattle.mq_sessions.proofs.PagesHolding.{cells-above}
use Rattle.mq_sessions.proofs.PagesTaking.{next-above, taken-more, taken-none}
use Rattle.mq_sessions.proofs.pages.take_pages.Goals as goal

pub loop-block-init : goal.loop-block-init
loop-block-init g c = record {
  at = c.requires.at;
  taken = taken-none g.M.Machine.meaning (start_of c.args.desk.now) c.args.blocks.now (view c.args.chair.now) c.args.held.now.cells c.args.chair.now.quiet c.requires.pages c.requires.above;
  room = refl;
}

pub take-requires-clause-above : goal.take-requires-clause-above
take-requires-clause-above g c = next-above g.M.Machine.meaning _ _ _ c.block-item.result _ _ _ _ c.loop-block.invariant.taken c.loop-block-test.true c.block-item.is

pub push-requires-clause-above : goal.push-requires-clause-above
push-requires-clause-above g c =
    let taken = c.loop-block.invariant.taken in
    cells-above g.M.Machine.meaning _ _ _ c.block-item.result taken.pages (next-above g.M.Machine.meaning _ _ _ c.block-item.result _ _ _ _ taken c.loop-block-test.true c.block-item.is)

pub loop-block-preserved : goal.loop-block-preserved
loop-block-preserved g c =
    let took = c.in-Page.ensures.took in
    let mine = c.requires.homes c.loop-block.block-index c.block-item.result c.loop-block-test.true in
    record {
      at = c.in-Page.ensures.at;
      taken = taken-more g.M.Machine.meaning (start_of c.args.desk.now) c.args.blocks.now c.loop-block.block-index c.block-item.result (view c.args.chair.now) (view c.loop-block.chair) (view c.take.new.chair) c.args.held.now.cells c.loop-block.held.cells c.push.new.self.cells c.in-Page.cell took.0
          c.loop-block.invariant.taken c.loop-block-test.true c.block-item.is c.requires.rise (subst (λ (n : ℕ). n < Rattle.std.proofs.Common.length (start_of c.args.desk.now).pages) (sym c.block-item.is) mine) took.1 took.2 took.3 c.push.ensures.cells;
      room = c.push.ensures.room ∙ c.loop-block.invariant.room;
    }
