use Rattle.std.proofs.Common.{◌≡◌, max, sym, ◌∙◌, arith}
use Rattle.std.proofs.lemmas.Result.{err_from_is_err_and}
use Rattle.mq_turns.specs.AtDesk.{view, start_of}
use Rattle.mq_journal.proofs.StepsAtEnd.{base_of_pages, front_known, front_moves, looked_low, raises, refused_last, refused_pages, whole_moves}
use Rattle.mq_journal.proofs.raising.checkpoint.Goals as goal

pub returns-in_err-bring_pages-clause-refused : goal.returns-in_err-bring_pages-clause-refused
returns-in_err-bring_pages-clause-refused g c =
    let state = g.P.Port.state in
    let faults = g.P.Port.faults in
    let group = g.G.Groups.group in
    let v1 = view c.catch_up.new.chair in
    let v2 = view c.front-front.new.chair in
    let front = c.front-front.result in
    let first = c.in_ok-last.ensures in
    let fronts = front_moves state faults group (start_of c.args.desk.now) front v1 v2 c.front-front.ensures.front in
    let p = err_from_is_err_and c.from_residual-in_err-bring_pages.result c.from_residual-in_err-bring_pages.ensures.1 in
    rw (p.1, p.2) (refused_pages state faults group front c.in_err-bring_pages.field-0.0 (view c.args.chair.now) v1 v2 (view c.bring_pages.new.chair) first.moves fronts c.in_err-bring_pages.ensures.refused)

pub raise_to-requires-clause-base : goal.raise_to-requires-clause-base
raise_to-requires-clause-base g c =
    let state = g.P.Port.state in
    let faults = g.P.Port.faults in
    let group = g.G.Groups.group in
    let o = start_of c.args.desk.now in
    let v1 = view c.catch_up.new.chair in
    let v2 = view c.front-front.new.chair in
    let front = c.front-front.result in
    let first = c.in_ok-last.ensures in
    let fronts = front_moves state faults group o front v1 v2 c.front-front.ensures.front in
    let pages = c.in_ok-bring_pages.ensures in
    let last = c.in_ok-last.last in
    let base_is : c.max.result ≡ max last front = c.max.ensures ∙ (λ i. max (c.last.view_is i) (c.front.view_is i)) in
    let low = looked_low state faults group o (view c.args.chair.now) last c.requires.at.1 first.looked in
    let known = front_known state faults group o front v1 v2 c.front-front.ensures.front (let q = c.requires.sides in let l = c.args.geometry.queues_low in omega arith) in
    let one = first.done in
    let two = fronts.done in
    let three = pages.moves.done in
    base_of_pages state faults group o c.args.geometry (view c.bring_pages.new.chair) c.max.result pages.at.1 c.requires.shape (omega arith) (omega arith) pages.noted

pub returns-in_err-raised-clause-refused : goal.returns-in_err-raised-clause-refused
returns-in_err-raised-clause-refused g c =
    let state = g.P.Port.state in
    let faults = g.P.Port.faults in
    let group = g.G.Groups.group in
    let v = view c.args.chair.now in
    let v1 = view c.catch_up.new.chair in
    let v2 = view c.front-front.new.chair in
    let v3 = view c.bring_pages.new.chair in
    let front = c.front-front.result in
    let first = c.in_ok-last.ensures in
    let fronts = front_moves state faults group (start_of c.args.desk.now) front v1 v2 c.front-front.ensures.front in
    let pages = c.in_ok-bring_pages.ensures in
    let moved = whole_moves state faults group front v v1 v2 v3 first.moves fronts pages.moves in
    let p = err_from_is_err_and c.from_residual-in_err-raised.result c.from_residual-in_err-raised.ensures.1 in
    rw (p.1, p.2) (refused_last state faults group front c.in_err-raised.field-0.0 v v3 (view c.raise_to.new.chair) moved c.in_err-raised.ensures.refused)

pub returns-clause-raised : goal.returns-clause-raised
returns-clause-raised g c =
    let state = g.P.Port.state in
    let faults = g.P.Port.faults in
    let group = g.G.Groups.group in
    let v = view c.args.chair.now in
    let v1 = view c.catch_up.new.chair in
    let v2 = view c.front-front.new.chair in
    let v3 = view c.bring_pages.new.chair in
    let front = c.front-front.result in
    let first = c.in_ok-last.ensures in
    let fronts = front_moves state faults group (start_of c.args.desk.now) front v1 v2 c.front-front.ensures.front in
    let pages = c.in_ok-bring_pages.ensures in
    let moved = whole_moves state faults group front v v1 v2 v3 first.moves fronts pages.moves in
    let last = c.in_ok-last.last in
    let base_is : c.max.result ≡ max last front = c.max.ensures ∙ (λ i. max (c.last.view_is i) (c.front.view_is i)) in
    let e = c.in_ok-raised.ensures in
    let reached = e.reached in
    raises state faults group front last c.in_ok-raised.raised v v3 (view c.raise_to.new.chair) moved e.raised first.below (omega arith) (omega arith) (e.idle ∙ sym c.requires.idle)
