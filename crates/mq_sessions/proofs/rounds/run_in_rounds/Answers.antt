use Rattle.std.proofs.Common.{ℕ, List, sym, subst}
use Rattle.std.specs.List.{Contains}
use Rattle.mq_blocks.specs.Geometry.{homes_of}
use Rattle.mq_turns.specs.AtDesk.{start_of, view}
use Rattle.mq_sessions.specs.Wanted.{AreTogether}
use Rattle.mq_sessions.proofs.ExecutorsNow.{possible-now}
use Rattle.mq_sessions.proofs.WantedMissing.{round-smaller}
use Rattle.mq_sessions.proofs.rounds.run_in_rounds.Goals as goal

pub run-requires-clause-possible : goal.run-requires-clause-possible
run-requires-clause-possible g c =
    let i = c.rounds.invariant in
    possible-now g.P.Port.state g.P.Port.faults g.G.Groups.group c.args.geometry (start_of c.args.desk.now) c.rounds.held.cells (view c.rounds.chair) i.at.1 c.requires.geometry i.holds.pages.pages i.holds.seen

pub returns-in_err-take_more-in-Need-clause-keeps : goal.returns-in_err-take_more-in-Need-clause-keeps
returns-in_err-take_more-in-Need-clause-keeps g c = λ b h. subst (λ (xs : List ℕ). Contains xs b) (sym c.in_err-take_more-in-Need.ensures.err) (c.rounds.invariant.keeps b h)

pub rounds-smaller : goal.rounds-smaller
rounds-smaller g c =
    let asked = rw c.in-Need.is at c.in_ok-done.ensures in
    let together = subst (λ (xs : List ℕ). AreTogether c.rounds.wanted.items xs c.take_more.new.wanted.items) c.deref.ensures.value c.in_ok-take_more-in-Need.ensures.more in
    round-smaller (homes_of c.args.geometry) c.rounds.wanted.items c.in-Need.blocks.items c.take_more.new.wanted.items c.rounds.held.cells c.rounds.invariant.holds.blocks together asked.some asked.homes asked.absent
