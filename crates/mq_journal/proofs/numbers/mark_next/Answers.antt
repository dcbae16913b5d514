use Rattle.std.proofs.Common.{rules, ◌≡◌, ◌+◌, true, false, sym, subst, ◌∙◌, arith}
use Rattle.std.proofs.lemmas.Bool.{false≢true}
use Rattle.mq_turns.specs.AtDesk.{view, start_of}
use Rattle.mq_turns.specs.Words.{after_clear}
use Rattle.mq_journal.proofs.NumbersMarking.{busy_marks, idle_marks, may_mark, side_known}
use Rattle.mq_journal.proofs.numbers.mark_next.Goals as goal

pub returns-then-not-is_at_rest-clause-marks : goal.returns-then-not-is_at_rest-clause-marks
returns-then-not-is_at_rest-clause-marks g c =
    let state = g.P.Port.state in
    let faults = g.P.Port.faults in
    let group = g.G.Groups.group in
    let o = start_of c.args.desk.now in
    let s = c.args.side.now in
    let v = view c.args.chair.now in
    let looked = c.look-last.ensures.looked in
    let moving : c.is_at_rest.result ≡ false = search rules in
    busy_marks state faults group o s.pmr.queue s v (view c.look-last.new.chair) looked.0 (side_known state faults group o s.pmr.queue s v c.requires.at.1 c.requires.side) c.requires.none looked.3 looked.1
    (λ le. false≢true (sym moving ∙ c.is_at_rest.ensures.1 le))

pub clear-requires-clause-may : goal.clear-requires-clause-may
clear-requires-clause-may g c = may_mark g.P.Port.state g.P.Port.faults g.G.Groups.group c.queue.result (c.last.inside.0 + 1) (view c.look-last.new.chair)

pub returns-clause-marks : goal.returns-clause-marks
returns-clause-marks g c =
    let state = g.P.Port.state in
    let faults = g.P.Port.faults in
    let group = g.G.Groups.group in
    let o = start_of c.args.desk.now in
    let s = c.args.side.now in
    let v = view c.args.chair.now in
    let looked = c.look-last.ensures.looked in
    let cleared = c.clear.ensures.cleared in
    let resting : c.is_at_rest.result ≡ true = search rules in
    let is = subst (λ q. view c.clear.new.chair ≡ after_clear q (c.last.inside.0 + 1) cleared.0 (view c.look-last.new.chair)) c.queue.ensures cleared.1 in
    idle_marks state faults group o s.pmr.queue s v (view c.look-last.new.chair) looked.0 (side_known state faults group o s.pmr.queue s v c.requires.at.1 c.requires.side) c.requires.none looked.3 looked.1
    (view c.clear.new.chair) cleared.0 c.requires.at.1 c.requires.side.turn c.requires.side.holds cleared.2 (c.last.inside.0 + 1) (let e = looked.2 in let f = c.last.view_is in omega arith) is (c.is_at_rest.ensures.0 resting)
