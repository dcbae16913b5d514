use Rattle.std.proofs.Common.{rules, arith, ap, ◌∙◌, subst}
use Rattle.mq_turns.specs.Desk.{Below, heard}
use Rattle.mq_turns.specs.declared.rule.ChairView.{ChairView}
use Rattle.mq_turns.proofs.DeskSeats.{notes, hears_note, told}
use Rattle.mq_turns.proofs.desk.Desk.tell.Goals as goal

pub split_seat-note-requires : goal.split_seat-note-requires
split_seat-note-requires g c = (search rules, omega arith, notes g.M.Machine.meaning _ _ _ _)

pub join_seat-requires : goal.join_seat-requires
join_seat-requires g c = (search rules, search rules, search rules, omega arith, hears_note g.M.Machine.meaning _ _ _ _ _ _ c.args.from.now.place.me.0 (search rules))

pub returns-clause-to : goal.returns-clause-to
returns-clause-to g c =
    let e = ap (λ m. m.0) c.join_seat.ensures.2 ∙ ap (heard c.args.to.now.place.me.0) (ap (λ m. m.0) c.split_seat-note.ensures.4) in
    let b = told c.count.result c.args.to.now.place.me.0 c.args.from.now.place.me.0 (subst (Below c.count.result) e c.count.ensures.below) in
    (c.count.result, ap (λ m. m.0) c.count.ensures.counted ∙ ap (λ (v : ChairView _ _ _ _). record v { seen = c.count.result }) e, b.0, b.1)
