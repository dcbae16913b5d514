use Rattle.std.proofs.Common.{◌+◌, ◌≤◌, [], subst, sym, arith}
use Rattle.std.proofs.lemmas.Result.{err_from_is_err_and}
use Rattle.mq_turns.specs.AtDesk.{view}
use Rattle.mq_journal.specs.Pages.{AreNoted, IsNoted}
use Rattle.mq_journal.proofs.Steps.{moves_none, moves_on, refuses_on}
use Rattle.mq_journal.proofs.PagesVisits.{noted_next, noted_none}
use Rattle.mq_journal.proofs.pages.bring_pages.Goals as goal

pub loop-block-init : goal.loop-block-init
loop-block-init g c = record {
  at = c.requires.at;
  idle = c.requires.idle;
  done = c.requires.done;
  noted = noted_none g.P.Port.state g.P.Port.faults g.G.Groups.group c.args.base (view c.args.chair.now).reading.pages;
  moves = moves_none (view c.args.chair.now);
}

pub returns-in_err-done-clause-refused : goal.returns-in_err-done-clause-refused
returns-in_err-done-clause-refused g c =
    let p = err_from_is_err_and c.from_residual.result c.from_residual.ensures.1 in
    rw (p.1, p.2) (refuses_on g.P.Port.state g.P.Port.faults g.G.Groups.group [] c.in_err-done.field-0.0 (view c.args.chair.now) (view c.loop-block.chair) (view c.bring_page.new.chair) c.loop-block.invariant.moves c.in_err-done.ensures.refused)

pub loop-block-preserved : goal.loop-block-preserved
loop-block-preserved g c =
    let state = g.P.Port.state in
    let faults = g.P.Port.faults in
    let group = g.G.Groups.group in
    let i = c.loop-block.invariant in
    let e = c.in_ok-done.ensures in
    let v = view c.args.chair.now in
    let u = view c.loop-block.chair in
    let w = view c.bring_page.new.chair in
    let base = c.args.base in
    let b = c.loop-block.block in
    let first = c.requires.done in
    let moved = i.moves.done in
    let low : base ≤ u.reading.done = omega arith in
    let now = subst (IsNoted state faults group base b) e.moves.pages (e.noted base low) in
    record {
      at = e.at;
      idle = e.idle;
      done = e.settled;
      noted = subst (AreNoted state faults group base (b + 1)) (sym e.moves.pages) (noted_next state faults group base b e.moves.noted u.reading.pages i.noted now);
      moves = moves_on [] [] v u w i.moves e.moves;
    }
