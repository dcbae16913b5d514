use Rattle.std.proofs.Common.{◌≡◌, ℕ, ◌+◌, ◌<◌, ◌≤◌, ◌^◌, List, [], ◌∷◌, ◌++◌, length, sym, ap, subst, ◌∙◌, arith}
use lib.ListN.{length-map}
use Rattle.mq_blocks.specs.Descriptor.{further_for, journal_form}
use Rattle.mq_desk_laws.specs.Rule.{IsSide}
use Rattle.mq_revoke.specs.Guard.{placed_of}
use Rattle.mq_queue_side.specs.Commits.{Commit, NumberedCommit, descriptor_size, further_of}
use Rattle.mq_queue_side.specs.Stored.{next_in, numbered_in, rows_of}
use Rattle.mq_turns.specs.AtDesk.{view, start_of}
use Rattle.mq_turns.specs.Desk.{slot_of}
use Rattle.mq_turns.specs.Lists.{times}
use Rattle.mq_turns.specs.Meaning.{drawn}
use Rattle.mq_turns.specs.declared.turn.Turn.TheVariants.{Side}
use Rattle.mq_journal.specs.Numbers.{HasNumbered, values}
use Rattle.mq_journal.proofs.NumbersDrawing.{covers, draws, held_still}
use Rattle.mq_journal.proofs.NumbersDrawn.{has_numbered, may_send}
use Rattle.mq_journal.proofs.numbers.number.Goals as goal

pub draw-number-requires-clause-side : goal.draw-number-requires-clause-side
draw-number-requires-clause-side g c =
    let o = start_of c.args.desk.now in
    let s = c.args.side.now in
    let mid = view c.mark_next.new.chair in
    let same = held_still g.P.Port.state g.P.Port.faults g.G.Groups.group o s.pmr.queue s c.args.entry c.requires.queue (view c.args.chair.now) mid c.mark_next.ensures.marks (slot_of o (Side s.pmr.queue)) in
    let holds = c.requires.side.holds in
    let there : 0 < times (slot_of o (Side s.pmr.queue)) mid.held = omega arith in
    subst (λ z. (z < length o.sides) × (0 < times (length o.pages + z) mid.held)) (sym c.queue.ensures) (c.requires.side.turn, there)

pub draw-number-requires-clause-may : goal.draw-number-requires-clause-may
draw-number-requires-clause-may g c =
    let s = c.args.side.now in
    covers g.P.Port.state g.P.Port.faults g.G.Groups.group (start_of c.args.desk.now) s.pmr.queue s c.args.entry c.requires.queue (view c.args.chair.now) (view c.mark_next.new.chair) c.mark_next.ensures.marks c.requires.may

pub numbered-requires-clause-places : goal.numbered-requires-clause-places
numbered-requires-clause-places g c =
    let s = c.args.side.now in
    let tx = g.G.Groups.group.tx c.args.entry in
    let logged : length (placed_of tx).logged ≡ length tx.logged = length-map tx.logged (λ (w : ℕ × List ℕ). w.0) in
    subst (λ (p : Commit). next_in (rows_of s.stored.items) + (length p.logged + further_of p) < 2 ^ 62) (sym c.requires.tells)
    (subst (λ (n : ℕ). next_in (rows_of s.stored.items) + (n + further_for (n + length tx.revoked)) < 2 ^ 62) logged c.requires.place.bounds.places)

pub returns-clause-draws : goal.returns-clause-draws
returns-clause-draws g c =
    let state = g.P.Port.state in
    let faults = g.P.Port.faults in
    let group = g.G.Groups.group in
    let o = start_of c.args.desk.now in
    let s = c.args.side.now in
    let u = c.numbered.new.self in
    let e = c.args.entry in
    let own = c.requires.queue in
    let old = view c.args.chair.now in
    let mid = view c.mark_next.new.chair in
    let marks = c.mark_next.ensures.marks in
    let drew = c.draw-number.ensures.drew in
    let K = drew.0 in
    let m = marks.knows K drew.3 in
    let place = c.requires.place in
    let number = c.draw-number.result in
    let limit = c.draw-number.ensures.limit in
    let next = drew.2 in
    let may = c.requires.may.may K m.sees (omega arith) in
    let low : place.base ≤ K.word = let a = place.read in let b = m.sees.reader.base in omega arith in
    let is = subst (λ z. IsSide (values state faults group) group z K s) (sym own) m.side in
    let numbered = c.numbered.ensures.commit ∙ ap (λ (p : Commit). numbered_in journal_form s.pmr.queue number (rows_of s.stored.items) p) c.requires.tells in
    let stored = subst (λ (p : Commit). u.stored.items ≡ s.stored.items ++ record { number = number; next = next_in (rows_of s.stored.items) + (length p.logged + descriptor_size (length p.logged) (length p.revoked)); entry = e } ∷ []) c.requires.tells c.numbered.ensures.stored in
    let has = has_numbered state faults group e K s place.base number c.numbered.result is c.requires.none drew.3.ok may low place.fits place.bounds next numbered u c.numbered.ensures.pmr c.numbered.ensures.done c.numbered.ensures.kept stored in
    let sends = may_send state faults group e K s place.base number c.numbered.result is c.requires.none drew.3.ok may low place.fits place.bounds next numbered u c.numbered.ensures.pmr c.numbered.ensures.done c.numbered.ensures.kept stored in
    draws state faults group o s.pmr.queue s e own old mid marks (view c.draw-number.new.chair) K c.requires.at.1 c.requires.side.turn c.requires.side.holds drew.3 drew.1
    u c.numbered.result may (ap (λ (x : NumberedCommit). x.number) numbered ∙ next) (ap (λ (x : NumberedCommit). x.commit) numbered) (ap (λ (x : NumberedCommit). x.queue) numbered)
    (subst (λ z. HasNumbered state faults group z (drawn e K) u c.numbered.result) own has) sends c.numbered.ensures.pmr
