use Rattle.std.proofs.Common.{ap, map, subst, sym}
use Rattle.mq_journal.specs.Machine.{journal}
use Rattle.mq_turns.specs.AtDesk.{start_of, view}
use Rattle.mq_turns.specs.Chairs.{DeskEnded}
use Rattle.mq_tie.proofs.Runs.{has-run}
use Rattle.mq_tie.proofs.closing.close_desk.Goals as goal

pub returns-in-Ok-close-clause-run : goal.returns-in-Ok-close-clause-run
returns-in-Ok-close-clause-run g c =
    let p = c.in-Ok.parts in
    let e = c.in-Ok-close.ensures in
    let end = c.in-Ok.ensures.ok in
    has-run g.P.Port.state g.P.Port.faults g.G.Groups.group _ _ p.sides.items c.in-Ok-close.ended e.ports e.done p.pages.items p.root p.next p.base (ap (λ v. v.items) e.values.0) e.values.1 e.values.2 e.values.3 end (e.run _ _ end)

pub returns-in-Err-close-clause-err : goal.returns-in-Err-close-clause-err
returns-in-Err-close-clause-err g c =
    subst (λ p. DeskEnded (journal g.P.Port.state g.P.Port.faults g.G.Groups.group) (start_of c.args.desk) (map (λ ch. view ch) c.args.chairs.items) p.pages.items p.sides.items p.root p.next p.base) (sym c.in-Err-close.ensures.err) c.in-Ok.ensures.ok
