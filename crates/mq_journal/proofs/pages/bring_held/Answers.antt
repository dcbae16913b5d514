use Rattle.std.proofs.Common.{[]}
use Rattle.std.proofs.lemmas.Result.{err_from_is_err_and}
use Rattle.mq_turns.specs.AtDesk.{view}
use Rattle.mq_journal.proofs.Steps.{moves_on, refuses_on}
use Rattle.mq_journal.proofs.pages.bring_held.Goals as goal

pub returns-in_err-write_waiting-clause-refused : goal.returns-in_err-write_waiting-clause-refused
returns-in_err-write_waiting-clause-refused g c =
    let p = err_from_is_err_and c.from_residual-in_err-write_waiting.result c.from_residual-in_err-write_waiting.ensures.1 in
    rw (p.1, p.2) (refuses_on g.P.Port.state g.P.Port.faults g.G.Groups.group [] c.in_err-write_waiting.field-0.0 (view c.args.chair.now) (view c.settle_page.new.chair) (view c.write_waiting.new.chair) c.in_ok-done.ensures.moves c.in_err-write_waiting.ensures.refused)

pub returns-clause-moves : goal.returns-clause-moves
returns-clause-moves g c = moves_on [] [] (view c.args.chair.now) (view c.settle_page.new.chair) (view c.write_waiting.new.chair) c.in_ok-done.ensures.moves c.in_ok-write_waiting.ensures.moves
