use Rattle.std.proofs.Common.{◌≡◌, ◌∷◌, [], ap, subst, sym, ◌∙◌, ◌<◌, arith}
use Rattle.mq_turns.specs.AtDesk.{view, start_of}
use Rattle.mq_journal.specs.Pages.{IsNoted}
use Rattle.mq_journal.proofs.PagesHomeViews.{page_seen}
use Rattle.mq_journal.proofs.Steps.{moves_note, moves_on, moves_turn, refuses_on, refuses_still}
use Rattle.mq_journal.proofs.PagesVisits.{noted_now, page_kept, taken_page}
use Rattle.mq_journal.proofs.pages.bring_page.Goals as goal

pub bring_held-requires-clause-page : goal.bring_held-requires-clause-page
bring_held-requires-clause-page g c =
    let b = c.args.block in
    let t = c.in-Page.ensures.took in
    taken_page g.P.Port.state g.P.Port.faults g.G.Groups.group (start_of c.args.desk.now) b c.in-Page.cell (view c.args.chair.now) (view c.take.new.chair) t.0 (subst (λ n. b < n) (sym c.requires.pages) c.requires.home) c.requires.idle t.1 t.3

pub note_page-requires-clause-may : goal.note_page-requires-clause-may
note_page-requires-clause-may g c =
    page_seen g.P.Port.state g.P.Port.faults g.G.Groups.group (start_of c.args.desk.now) c.args.block c.bring_held.new.cell (view c.bring_held.new.chair) c.in-Ok.ensures.at.1 c.in-Ok.ensures.page

pub give_back-requires-clause-stands : goal.give_back-requires-clause-stands
give_back-requires-clause-stands g c =
    let state = g.P.Port.state in
    let faults = g.P.Port.faults in
    let group = g.G.Groups.group in
    let o = start_of c.args.desk.now in
    let b = c.args.block in
    let cell = c.bring_held.new.cell in
    let v3 = view c.note_page.new.chair in
    let n = c.note_page.ensures.noted in
    page_seen state faults group o b cell v3 c.note_page.ensures.at.1 (page_kept state faults group o b cell (view c.bring_held.new.chair) v3 (ap (λ z. z.held) n.1) c.in-Ok.ensures.page)

pub give_back-requires-in-Err-clause-stands : goal.give_back-requires-in-Err-clause-stands
give_back-requires-in-Err-clause-stands g c =
    page_seen g.P.Port.state g.P.Port.faults g.G.Groups.group (start_of c.args.desk.now) c.args.block c.bring_held.new.cell (view c.bring_held.new.chair) c.in-Err.ensures.at.1 c.in-Err.ensures.page

pub returns-in-Ok-clause-noted : goal.returns-in-Ok-clause-noted
returns-in-Ok-clause-noted g c =
    let state = g.P.Port.state in
    let faults = g.P.Port.faults in
    let group = g.G.Groups.group in
    let b = c.args.block in
    let v2 = view c.bring_held.new.chair in
    let cell = c.bring_held.new.cell in
    let n = c.note_page.ensures.noted in
    let t = c.in-Page.ensures.took in
    let w = view c.give_back.new.chair in
    let pages : w.reading.pages ≡ (b, cell, n.0) ∷ v2.reading.pages = ap (λ z. z.reading.pages) c.give_back.ensures.gave ∙ ap (λ z. z.reading.pages) n.1 in
    let first = ap (λ z. z.reading.done) t.1 in
    let moved = c.in-Ok.ensures.moves.done in
    λ base low. subst (IsNoted state faults group base b) (sym pages) (noted_now state faults group base b cell v2 n.0 v2.reading.pages n.2 (omega arith) c.in-Ok.ensures.changed c.in-Ok.ensures.brought)

pub returns-in-Ok-clause-moves : goal.returns-in-Ok-clause-moves
returns-in-Ok-clause-moves g c =
    let v = view c.args.chair.now in
    let v1 = view c.take.new.chair in
    let v2 = view c.bring_held.new.chair in
    let v3 = view c.note_page.new.chair in
    let n = c.note_page.ensures.noted in
    let t = c.in-Page.ensures.took in
    let w = view c.give_back.new.chair in
    moves_on [] [] v v1 w (moves_turn v v1 0 _ t.1) (moves_on [] [] v1 v2 w c.in-Ok.ensures.moves (moves_on [] [] v2 v3 w (moves_note v2 v3 c.args.block c.bring_held.new.cell n.0 n.1) (moves_turn v3 w 0 _ c.give_back.ensures.gave)))

pub returns-in-Err-clause-refused : goal.returns-in-Err-clause-refused
returns-in-Err-clause-refused g c =
    let state = g.P.Port.state in
    let faults = g.P.Port.faults in
    let group = g.G.Groups.group in
    let v = view c.args.chair.now in
    let v1 = view c.take.new.chair in
    let v2 = view c.bring_held.new.chair in
    let t = c.in-Page.ensures.took in
    let w = view c.give_back-in-Err.new.chair in
    refuses_on state faults group [] c.in-Err.refusal v v1 w (moves_turn v v1 0 _ t.1) (refuses_still state faults group [] c.in-Err.refusal v1 v2 w c.in-Err.ensures.refused (moves_turn v2 w 0 _ c.give_back-in-Err.ensures.gave))
