use Rattle.std.proofs.Common.{rules, arith, ◌≡◌, ◌≤◌, ◌+◌, ◌∙◌, ap, sym, refl, suc, ℕ, ◌∷◌}
use Rattle.mq_turns.specs.AtDesk.{view, start_of}
use Rattle.mq_test_turns.proofs.SweptFronts.{front_kept}
use Rattle.mq_test_turns.proofs.VoteLaws.{OnSide, mine, side_given, side_taken, side_same, side_cleared, side_covers, side_drawn, side_stands}
use Rattle.mq_test_turns.proofs.votes.cast.Goals as goal

pub draw-number-requires-clause-may : goal.draw-number-requires-clause-may
draw-number-requires-clause-may g c =
    let took = c.in-Side.ensures.took in
    let a = side_taken (λ e. e.queue) (λ e. e.session) (λ e. e.group) (λ q. g.P.Port.state q.port) (start_of c.args.desk.now) c.args.entry.now.queue (view c.args.chair.now) (view c.take.new.chair) c.in-Side.side took.0 c.requires.queue c.take.ensures.at.1 took.1 c.requires.idle took.3 in
    let look = c.look-before.ensures.looked in
    let b = side_same (λ e. e.queue) (λ e. e.session) (λ e. e.group) (λ q. g.P.Port.state q.port) (start_of c.args.desk.now) c.args.entry.now.queue (view c.take.new.chair) (view c.look-before.new.chair) c.in-Side.side (ap (λ v. v.opening) look.1) (ap (λ v. v.held) look.1) a in
    let clear = c.clear.ensures.cleared in
    let d = side_cleared (λ e. e.queue) (λ e. e.session) (λ e. e.group) (λ q. g.P.Port.state q.port) (start_of c.args.desk.now) c.args.entry.now.queue (view c.look-before.new.chair) (view c.clear.new.chair) c.in-Side.side b c.saturating_add.result clear.0 clear.2 clear.1 in
    let last = ap (λ v. v.seen) clear.1 ∙ ap (λ v. v.seen) look.1 in
    side_covers (λ e. e.queue) (λ e. e.session) (λ e. e.group) (λ q. g.P.Port.state q.port) (start_of c.args.desk.now) c.args.entry.now.queue (view c.clear.new.chair) (view c.clear.new.chair) c.in-Side.side d c.args.entry.now (view c.look-before.new.chair) c.saturating_add.result clear.0 clear.2 clear.1 refl (let n = look.2 in let sum = c.saturating_add.ensures in omega arith) refl

pub give_back-requires-clause-stands : goal.give_back-requires-clause-stands
give_back-requires-clause-stands g c = λ K sees.
    let took = c.in-Side.ensures.took in
    let a = side_taken (λ e. e.queue) (λ e. e.session) (λ e. e.group) (λ q. g.P.Port.state q.port) (start_of c.args.desk.now) c.args.entry.now.queue (view c.args.chair.now) (view c.take.new.chair) c.in-Side.side took.0 c.requires.queue c.take.ensures.at.1 took.1 c.requires.idle took.3 in
    let look = c.look-before.ensures.looked in
    let b = side_same (λ e. e.queue) (λ e. e.session) (λ e. e.group) (λ q. g.P.Port.state q.port) (start_of c.args.desk.now) c.args.entry.now.queue (view c.take.new.chair) (view c.look-before.new.chair) c.in-Side.side (ap (λ v. v.opening) look.1) (ap (λ v. v.held) look.1) a in
    let clear = c.clear.ensures.cleared in
    let d = side_cleared (λ e. e.queue) (λ e. e.session) (λ e. e.group) (λ q. g.P.Port.state q.port) (start_of c.args.desk.now) c.args.entry.now.queue (view c.look-before.new.chair) (view c.clear.new.chair) c.in-Side.side b c.saturating_add.result clear.0 clear.2 clear.1 in
    let drew = c.draw-number.ensures.drew in
    let e = side_drawn (λ e. e.queue) (λ e. e.session) (λ e. e.group) (λ q. g.P.Port.state q.port) (start_of c.args.desk.now) c.args.entry.now.queue (view c.clear.new.chair) (view c.draw-number.new.chair) c.in-Side.side d c.args.entry.now (record { port = c.bump.new.self }) drew.0 drew.3 drew.1 refl c.bump.ensures in
    let after = c.look-after.ensures.looked in
    let f = side_same (λ e. e.queue) (λ e. e.session) (λ e. e.group) (λ q. g.P.Port.state q.port) (start_of c.args.desk.now) c.args.entry.now.queue (view c.draw-number.new.chair) (view c.look-after.new.chair) (record { port = c.bump.new.self }) (ap (λ v. v.opening) after.1) (ap (λ v. v.held) after.1) e in
    let one = front_kept c.front-undone.ensures.front in
    let h = side_same (λ e. e.queue) (λ e. e.session) (λ e. e.group) (λ q. g.P.Port.state q.port) (start_of c.args.desk.now) c.args.entry.now.queue (view c.look-after.new.chair) (view c.front-undone.new.chair) (record { port = c.bump.new.self }) one.0 one.1 f in
    let again = c.clear-2.ensures.cleared in
    let i = side_cleared (λ e. e.queue) (λ e. e.session) (λ e. e.group) (λ q. g.P.Port.state q.port) (start_of c.args.desk.now) c.args.entry.now.queue (view c.front-undone.new.chair) (view c.clear-2.new.chair) (record { port = c.bump.new.self }) h 18446744073709551615 again.0 again.2 again.1 in
    let two = front_kept c.front-done.ensures.front in
    let j = side_same (λ e. e.queue) (λ e. e.session) (λ e. e.group) (λ q. g.P.Port.state q.port) (start_of c.args.desk.now) c.args.entry.now.queue (view c.clear-2.new.chair) (view c.front-done.new.chair) (record { port = c.bump.new.self }) two.0 two.1 i in
    side_stands (λ e. e.queue) (λ e. e.session) (λ e. e.group) (λ q. g.P.Port.state q.port) (start_of c.args.desk.now) c.args.entry.now.queue (view c.front-done.new.chair) (view c.front-done.new.chair) (record { port = c.bump.new.self }) j ℕ K sees

pub give_back-requires-clause-holds : goal.give_back-requires-clause-holds
give_back-requires-clause-holds g c =
    let took = c.in-Side.ensures.took in
    let a = side_taken (λ e. e.queue) (λ e. e.session) (λ e. e.group) (λ q. g.P.Port.state q.port) (start_of c.args.desk.now) c.args.entry.now.queue (view c.args.chair.now) (view c.take.new.chair) c.in-Side.side took.0 c.requires.queue c.take.ensures.at.1 took.1 c.requires.idle took.3 in
    let look = c.look-before.ensures.looked in
    let b = side_same (λ e. e.queue) (λ e. e.session) (λ e. e.group) (λ q. g.P.Port.state q.port) (start_of c.args.desk.now) c.args.entry.now.queue (view c.take.new.chair) (view c.look-before.new.chair) c.in-Side.side (ap (λ v. v.opening) look.1) (ap (λ v. v.held) look.1) a in
    let clear = c.clear.ensures.cleared in
    let d = side_cleared (λ e. e.queue) (λ e. e.session) (λ e. e.group) (λ q. g.P.Port.state q.port) (start_of c.args.desk.now) c.args.entry.now.queue (view c.look-before.new.chair) (view c.clear.new.chair) c.in-Side.side b c.saturating_add.result clear.0 clear.2 clear.1 in
    let drew = c.draw-number.ensures.drew in
    let e = side_drawn (λ e. e.queue) (λ e. e.session) (λ e. e.group) (λ q. g.P.Port.state q.port) (start_of c.args.desk.now) c.args.entry.now.queue (view c.clear.new.chair) (view c.draw-number.new.chair) c.in-Side.side d c.args.entry.now (record { port = c.bump.new.self }) drew.0 drew.3 drew.1 refl c.bump.ensures in
    let after = c.look-after.ensures.looked in
    let f = side_same (λ e. e.queue) (λ e. e.session) (λ e. e.group) (λ q. g.P.Port.state q.port) (start_of c.args.desk.now) c.args.entry.now.queue (view c.draw-number.new.chair) (view c.look-after.new.chair) (record { port = c.bump.new.self }) (ap (λ v. v.opening) after.1) (ap (λ v. v.held) after.1) e in
    let one = front_kept c.front-undone.ensures.front in
    let h = side_same (λ e. e.queue) (λ e. e.session) (λ e. e.group) (λ q. g.P.Port.state q.port) (start_of c.args.desk.now) c.args.entry.now.queue (view c.look-after.new.chair) (view c.front-undone.new.chair) (record { port = c.bump.new.self }) one.0 one.1 f in
    let again = c.clear-2.ensures.cleared in
    let i = side_cleared (λ e. e.queue) (λ e. e.session) (λ e. e.group) (λ q. g.P.Port.state q.port) (start_of c.args.desk.now) c.args.entry.now.queue (view c.front-undone.new.chair) (view c.clear-2.new.chair) (record { port = c.bump.new.self }) h 18446744073709551615 again.0 again.2 again.1 in
    let two = front_kept c.front-done.ensures.front in
    let j = side_same (λ e. e.queue) (λ e. e.session) (λ e. e.group) (λ q. g.P.Port.state q.port) (start_of c.args.desk.now) c.args.entry.now.queue (view c.clear-2.new.chair) (view c.front-done.new.chair) (record { port = c.bump.new.self }) two.0 two.1 i in
    mine (λ e. e.queue) (λ e. e.session) (λ e. e.group) (λ q. g.P.Port.state q.port) (start_of c.args.desk.now) c.args.entry.now.queue (view c.front-done.new.chair) (view c.front-done.new.chair) (record { port = c.bump.new.self }) j

pub returns-clause-idle : goal.returns-clause-idle
returns-clause-idle g c =
    let took = c.in-Side.ensures.took in
    let a = side_taken (λ e. e.queue) (λ e. e.session) (λ e. e.group) (λ q. g.P.Port.state q.port) (start_of c.args.desk.now) c.args.entry.now.queue (view c.args.chair.now) (view c.take.new.chair) c.in-Side.side took.0 c.requires.queue c.take.ensures.at.1 took.1 c.requires.idle took.3 in
    let look = c.look-before.ensures.looked in
    let b = side_same (λ e. e.queue) (λ e. e.session) (λ e. e.group) (λ q. g.P.Port.state q.port) (start_of c.args.desk.now) c.args.entry.now.queue (view c.take.new.chair) (view c.look-before.new.chair) c.in-Side.side (ap (λ v. v.opening) look.1) (ap (λ v. v.held) look.1) a in
    let clear = c.clear.ensures.cleared in
    let d = side_cleared (λ e. e.queue) (λ e. e.session) (λ e. e.group) (λ q. g.P.Port.state q.port) (start_of c.args.desk.now) c.args.entry.now.queue (view c.look-before.new.chair) (view c.clear.new.chair) c.in-Side.side b c.saturating_add.result clear.0 clear.2 clear.1 in
    let drew = c.draw-number.ensures.drew in
    let e = side_drawn (λ e. e.queue) (λ e. e.session) (λ e. e.group) (λ q. g.P.Port.state q.port) (start_of c.args.desk.now) c.args.entry.now.queue (view c.clear.new.chair) (view c.draw-number.new.chair) c.in-Side.side d c.args.entry.now (record { port = c.bump.new.self }) drew.0 drew.3 drew.1 refl c.bump.ensures in
    let after = c.look-after.ensures.looked in
    let f = side_same (λ e. e.queue) (λ e. e.session) (λ e. e.group) (λ q. g.P.Port.state q.port) (start_of c.args.desk.now) c.args.entry.now.queue (view c.draw-number.new.chair) (view c.look-after.new.chair) (record { port = c.bump.new.self }) (ap (λ v. v.opening) after.1) (ap (λ v. v.held) after.1) e in
    let one = front_kept c.front-undone.ensures.front in
    let h = side_same (λ e. e.queue) (λ e. e.session) (λ e. e.group) (λ q. g.P.Port.state q.port) (start_of c.args.desk.now) c.args.entry.now.queue (view c.look-after.new.chair) (view c.front-undone.new.chair) (record { port = c.bump.new.self }) one.0 one.1 f in
    let again = c.clear-2.ensures.cleared in
    let i = side_cleared (λ e. e.queue) (λ e. e.session) (λ e. e.group) (λ q. g.P.Port.state q.port) (start_of c.args.desk.now) c.args.entry.now.queue (view c.front-undone.new.chair) (view c.clear-2.new.chair) (record { port = c.bump.new.self }) h 18446744073709551615 again.0 again.2 again.1 in
    let two = front_kept c.front-done.ensures.front in
    let j = side_same (λ e. e.queue) (λ e. e.session) (λ e. e.group) (λ q. g.P.Port.state q.port) (start_of c.args.desk.now) c.args.entry.now.queue (view c.clear-2.new.chair) (view c.front-done.new.chair) (record { port = c.bump.new.self }) two.0 two.1 i in
    side_given (λ e. e.queue) (λ e. e.session) (λ e. e.group) (λ q. g.P.Port.state q.port) (start_of c.args.desk.now) c.args.entry.now.queue (view c.front-done.new.chair) (view c.give_back.new.chair) (record { port = c.bump.new.self }) j c.give_back.ensures.gave

-- the fields of the view that only the draw changes
pub returns-clause-drew : goal.returns-clause-drew
returns-clause-drew g c =
    let took = c.in-Side.ensures.took.1 in
    let look = c.look-before.ensures.looked.1 in
    let low = c.clear.ensures.cleared.1 in
    let drew = c.draw-number.ensures.drew in
    let after = c.look-after.ensures.looked.1 in
    let one = front_kept c.front-undone.ensures.front in
    let high = c.clear-2.ensures.cleared.1 in
    let two = front_kept c.front-done.ensures.front in
    let back = c.give_back.ensures.gave in
    let before : (view c.clear.new.chair).drawn ≡ (view c.args.chair.now).drawn = ap (λ v. v.drawn) low ∙ (ap (λ v. v.drawn) look ∙ ap (λ v. v.drawn) took) in
    let later : (view c.give_back.new.chair).drawn ≡ (view c.draw-number.new.chair).drawn = ap (λ v. v.drawn) back ∙ (two.2 ∙ (ap (λ v. v.drawn) high ∙ (one.2 ∙ ap (λ v. v.drawn) after))) in (
      later ∙ (ap (λ v. v.drawn) drew.1 ∙ (λ i. (sym drew.2 i, c.args.entry.now) ∷ before i)),
      ap (λ v. v.read) back ∙ (two.3 ∙ (ap (λ v. v.read) high ∙ (one.3 ∙ (ap (λ v. v.read) after ∙ (ap (λ v. v.read) drew.1 ∙ (ap (λ v. v.read) low ∙ (ap (λ v. v.read) look ∙ ap (λ v. v.read) took))))))),
      ap (λ v. v.session) back ∙ (two.4 ∙ (ap (λ v. v.session) high ∙ (one.4 ∙ (ap (λ v. v.session) after ∙ (ap (λ v. v.session) drew.1 ∙ (ap (λ v. v.session) low ∙ (ap (λ v. v.session) look ∙ ap (λ v. v.session) took))))))),
    )
