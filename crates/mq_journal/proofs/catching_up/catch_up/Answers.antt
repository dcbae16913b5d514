use Rattle.std.proofs.Common.{◌≡◌, ◌∙◌, [], ap, rules}
use Rattle.std.proofs.lemmas.Result.{err_from_is_err_and}
use Rattle.mq_turns.specs.AtDesk.{view}
use Rattle.mq_turns.specs.Meaning.{newest}
use Rattle.mq_journal.proofs.Steps.{moves_look, moves_on, refused_on}
use Rattle.mq_journal.proofs.StepsDrains.{refused_by, refused_held, swept_held, swept_moves}
use Rattle.mq_journal.proofs.catching_up.catch_up.Goals as goal

pub returns-clause-held : goal.returns-clause-held
returns-clause-held g c =
    let v = view c.args.chair.now in
    let u = view c.look-last.new.chair in
    let looked : u ≡ record v { seen = newest c.look-last.ensures.looked.0 } = search rules in
    swept_held g.P.Port.state g.P.Port.faults g.G.Groups.group u (view c.drain_all.new.chair) c.in_ok-drain_all.ensures.swept ∙ ap (λ z. z.held) looked

pub returns-clause-moves : goal.returns-clause-moves
returns-clause-moves g c =
    let v = view c.args.chair.now in
    let u = view c.look-last.new.chair in
    let K = c.look-last.ensures.looked.0 in
    let looked : u ≡ record v { seen = newest K } = search rules in
    moves_on [] [] v u (view c.drain_all.new.chair) (moves_look v u (newest K) looked (search rules)) (swept_moves g.P.Port.state g.P.Port.faults g.G.Groups.group u (view c.drain_all.new.chair) c.in_ok-drain_all.ensures.swept)

pub returns-in_err-drain_all-clause-held : goal.returns-in_err-drain_all-clause-held
returns-in_err-drain_all-clause-held g c =
    let v = view c.args.chair.now in
    let u = view c.look-last.new.chair in
    let looked : u ≡ record v { seen = newest c.look-last.ensures.looked.0 } = search rules in
    refused_held g.P.Port.state g.P.Port.faults g.G.Groups.group c.args.queues c.look-last.result c.in_err-drain_all.field-0.0 u (view c.drain_all.new.chair) c.in_err-drain_all.ensures.refused ∙ ap (λ z. z.held) looked

pub returns-in_err-drain_all-clause-refused : goal.returns-in_err-drain_all-clause-refused
returns-in_err-drain_all-clause-refused g c =
    let p = err_from_is_err_and c.from_residual.result c.from_residual.ensures.1 in
    let v = view c.args.chair.now in
    let u = view c.look-last.new.chair in
    let w = view c.drain_all.new.chair in
    let K = c.look-last.ensures.looked.0 in
    let looked : u ≡ record v { seen = newest K } = search rules in
    rw (p.1, p.2) (refused_on g.P.Port.state g.P.Port.faults g.G.Groups.group [] c.in_err-drain_all.field-0.0 v u w (moves_look v u (newest K) looked (search rules)) (refused_by g.P.Port.state g.P.Port.faults g.G.Groups.group c.args.queues _ c.in_err-drain_all.field-0.0 u w c.in_err-drain_all.ensures.refused))
