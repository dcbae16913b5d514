use Rattle.std.proofs.Common.{◌≡◌, ◌∙◌, ℕ, List, sym, ap, subst}
use Rattle.mq_sessions.specs.Drawn.{blocks_in, tx_by}
use Rattle.mq_blocks.specs.Descriptor.{AreRising}
use Rattle.mq_blocks.specs.Geometry.{homes_of}
use Rattle.mq_desk_laws.specs.Rule.{core_of}
use Rattle.mq_journal.specs.Values.{side_values}
use Rattle.mq_ledger.specs.declared.tx.Tx.{Tx}
use Rattle.mq_journal.specs.Numbers.{Draws, HoldsNumbered, HoldsSide, IsReported, MayCome, Seat}
use Rattle.mq_pages.specs.Held.{Cells}
use Rattle.mq_turns.specs.AtDesk.{start_of, view}
use Rattle.mq_turns.specs.declared.rule.Report.TheVariants as report
use Rattle.mq_sessions.specs.Acts.{IsUnderWay}
use Rattle.mq_pages.specs.declared.page.Write.{Write}
use Rattle.mq_sessions.specs.Leaving.{AreOnCells, cells_after}
use Rattle.mq_sessions.proofs.ExecutorsNow.{done-now}
use Rattle.mq_sessions.specs.Pages.{HoldsPages}
use Rattle.mq_journal.specs.Machine.{journal}
use Rattle.mq_sessions.proofs.DrawingSent.{cut-at, has-drawn}
use Rattle.mq_sessions.specs.Calls.{call_of}
use Rattle.mq_sessions.proofs.DrawableGroups.{entry-leaves}
use Rattle.mq_sessions.proofs.WantedFurther.{cells-below}
use Rattle.mq_sessions.proofs.ActsUnderWay.{under-way}
use Rattle.mq_sessions.proofs.drawing.draw_group.Goals as goal
use Rattle.mq_sessions.proofs.DrawnPages.{drawn-held, numbered-left}

pub give_drawn_pages-requires-clause-pages : goal.give_drawn_pages-requires-clause-pages
give_drawn_pages-requires-clause-pages g c =
    let st = g.P.Port.state in
    let fs = g.P.Port.faults in
    let o = start_of c.args.desk.now in
    let cells = c.args.held.now.cells in
    let w = view c.number-numbered.new.chair in
    let e = c.args.ready.entry in
    let p = c.requires.ready.1 in
    let pages = drawn-held st fs g.G.Groups.group o c.args.side.pmr.queue e (view c.args.chair.now) w c.number-numbered.new.side c.number-numbered.result c.requires.at.1 c.number-numbered.ensures.draws cells c.requires.holds.pages in
    let leaves = entry-leaves g.G.Groups.group g.G.Executor.calls c.number-numbered.result.number (call_of c.args.asked.now) c.args.done c.args.plan.now e cells (c.entries_tell.ensures (call_of c.args.asked.now) c.args.done e p.is) p.placed in
    let here = subst (λ (cs : Cells). HoldsPages (journal st fs g.G.Groups.group) o cs w) leaves pages in
    let at = subst (λ (n : ℕ). HoldsPages (journal st fs g.G.Groups.group) o (cells_after (tx_by n 0 c.args.plan.now (g.G.Executor.calls.writes c.args.done) (g.G.Executor.calls.frees c.args.done)) cells) w) (sym c.number-at.ensures) here in
    let frees = c.deref.ensures.value ∙ c.parts-replies.ensures.frees in
    let freed = subst (λ (bs : List ℕ). HoldsPages (journal st fs g.G.Groups.group) o (cells_after (tx_by c.number-at.result 0 c.args.plan.now (g.G.Executor.calls.writes c.args.done) bs) cells) w) (sym frees) at in
    subst (λ (xs : List Write). HoldsPages (journal st fs g.G.Groups.group) o (cells_after (tx_by c.number-at.result 0 c.args.plan.now xs c.deref.result.now) cells) w) (sym c.parts-replies.ensures.writes) freed

pub give_drawn_pages-requires-clause-written : goal.give_drawn_pages-requires-clause-written
give_drawn_pages-requires-clause-written g c =
    let cells = c.args.held.now.cells in
    let here = done-now g.P.Port.state g.P.Port.faults g.G.Groups.group c.args.side.pmr.geometry (start_of c.args.desk.now) cells (view c.args.chair.now) c.requires.at.1 c.requires.geometry c.requires.holds.pages g.G.Executor.calls c.done_groups_are_on_maps.ensures c.args.asked.now.queue c.args.asked.now.requests.now c.args.done c.requires.done c.requires.holds.seen in
    subst (λ (ws : List Write). AreOnCells cells ws) (sym c.parts-replies.ensures.writes) here.known.written

pub send-requires-clause-side : goal.send-requires-clause-side
send-requires-clause-side g c =
    let st = g.P.Port.state in
    let fs = g.P.Port.faults in
    let o = start_of c.args.desk.now in
    let cells = c.args.held.now.cells in
    let s = c.number-numbered.new.side in
    let n = c.number-numbered.result in
    let d = c.number-numbered.ensures.draws in
    let w = view c.number-numbered.new.chair in
    let left = numbered-left st fs g.G.Groups.group o c.args.side.pmr.queue s n w cells (cells-below (journal st fs g.G.Groups.group) o cells (view c.args.chair.now) c.requires.holds.pages) d.side in
    let here = subst (λ (x : Seat _ _ _). HoldsNumbered st fs g.G.Groups.group o c.args.side.pmr.queue s n x) (sym c.give_drawn_pages.ensures.gave) left in
    subst (λ (p : _). HoldsNumbered st fs g.G.Groups.group o p.queue s n (view c.give_drawn_pages.new.chair)) (sym c.number-numbered.ensures.pmr) here

pub returns-in-Ok-clause-sent : goal.returns-in-Ok-clause-sent
returns-in-Ok-clause-sent g c =
    let st = g.P.Port.state in
    let fs = g.P.Port.faults in
    let o = start_of c.args.desk.now in
    let q = c.args.asked.now.queue in
    let e = c.args.ready.entry in
    let cells = c.args.held.now.cells in
    let s = c.number-numbered.new.side in
    let n = c.number-numbered.result in
    let v = view c.args.chair.now in
    let w = view c.number-numbered.new.chair in
    let x = view c.give_drawn_pages.new.chair in
    let y = view c.send.new.chair in
    let draws = subst (λ (m : ℕ). Draws st fs g.G.Groups.group o m e v w s n) c.requires.queue c.number-numbered.ensures.draws in
    let same : s.pmr.queue ≡ q = ap (λ p. p.queue) c.number-numbered.ensures.pmr ∙ c.requires.queue in
    let number = c.in-Ok.ensures.answer in
    let told = subst (λ (m : ℕ). IsReported st fs g.G.Groups.group o m (report.Sent n.number) x y) same c.in-Ok.ensures.sent in
    let here = subst (λ (m : ℕ). IsReported st fs g.G.Groups.group o q (report.Sent m) x y) (sym number) told in
    let left = numbered-left st fs g.G.Groups.group o c.args.side.pmr.queue s n w cells (cells-below (journal st fs g.G.Groups.group) o cells v c.requires.holds.pages) c.number-numbered.ensures.draws.side in
    let held = subst (λ (z : Seat _ _ _). HoldsNumbered st fs g.G.Groups.group o c.args.side.pmr.queue s n z) (sym c.give_drawn_pages.ensures.gave) left in
    let mine = subst (λ (m : ℕ). HoldsNumbered st fs g.G.Groups.group o m s n x) c.requires.queue held in
    has-drawn st fs g.G.Groups.group o q c.in-Ok.tx e (report.Sent c.in-Ok.tx) cells c.args.side s n v w x y c.requires.holds draws (sym number) c.give_drawn_pages.ensures.gave here (subst (λ (m : ℕ). IsUnderWay q m x) (sym number) (under-way st fs g.G.Groups.group o q s n x told.known c.give_drawn_pages.ensures.at.1 mine told.sees))

pub returns-in-Err-clause-cut : goal.returns-in-Err-clause-cut
returns-in-Err-clause-cut g c =
    let st = g.P.Port.state in
    let fs = g.P.Port.faults in
    let o = start_of c.args.desk.now in
    let q = c.args.asked.now.queue in
    let e = c.args.ready.entry in
    let cells = c.args.held.now.cells in
    let s = c.number-numbered.new.side in
    let n = c.number-numbered.result in
    let v = view c.args.chair.now in
    let w = view c.number-numbered.new.chair in
    let x = view c.give_drawn_pages.new.chair in
    let y = view c.send.new.chair in
    let draws = subst (λ (m : ℕ). Draws st fs g.G.Groups.group o m e v w s n) c.requires.queue c.number-numbered.ensures.draws in
    let same : s.pmr.queue ≡ q = ap (λ p. p.queue) c.number-numbered.ensures.pmr ∙ c.requires.queue in
    let number = sym c.number-at.ensures in
    let told = subst (λ (m : ℕ). IsReported st fs g.G.Groups.group o m report.Off x y) same c.in-Err.ensures.charged in
    let left = numbered-left st fs g.G.Groups.group o c.args.side.pmr.queue s n w cells (cells-below (journal st fs g.G.Groups.group) o cells v c.requires.holds.pages) c.number-numbered.ensures.draws.side in
    let held = subst (λ (z : Seat _ _ _). HoldsNumbered st fs g.G.Groups.group o c.args.side.pmr.queue s n z) (sym c.give_drawn_pages.ensures.gave) left in
    let mine = subst (λ (m : ℕ). HoldsNumbered st fs g.G.Groups.group o m s n x) c.requires.queue held in (
      has-drawn st fs g.G.Groups.group o q c.number-at.result e report.Off cells c.args.side s n v w x y c.requires.holds draws number c.give_drawn_pages.ensures.gave told (subst (λ (m : ℕ). IsUnderWay q m x) number (under-way st fs g.G.Groups.group o q s n x told.known c.give_drawn_pages.ensures.at.1 mine told.sees)),
      cut-at st fs g.G.Groups.group o q c.number-at.result e s n v w draws number c.in-Err.ensures.cut,
    )

pub number-numbered-requires-clause-at : goal.number-numbered-requires-clause-at
number-numbered-requires-clause-at g c = c.requires.at

pub number-numbered-requires-clause-side : goal.number-numbered-requires-clause-side
number-numbered-requires-clause-side g c =
    subst (λ (q : ℕ). HoldsSide g.P.Port.state g.P.Port.faults g.G.Groups.group (start_of c.args.desk.now) q c.args.side (view c.args.chair.now)) (sym c.requires.queue) c.requires.holds.side

pub number-numbered-requires-clause-none : goal.number-numbered-requires-clause-none
number-numbered-requires-clause-none g c = c.requires.ready.1.none

pub number-numbered-requires-clause-may : goal.number-numbered-requires-clause-may
number-numbered-requires-clause-may g c =
    subst (λ (q : ℕ). MayCome g.P.Port.state g.P.Port.faults g.G.Groups.group (start_of c.args.desk.now) q c.args.ready.entry (view c.args.chair.now)) (sym c.requires.queue) c.requires.ready.1.may

pub number-numbered-requires-clause-follows : goal.number-numbered-requires-clause-follows
number-numbered-requires-clause-follows g c = c.requires.ready.1.follows

pub number-numbered-requires-clause-room : goal.number-numbered-requires-clause-room
number-numbered-requires-clause-room g c = c.requires.room

pub number-numbered-requires-clause-tells : goal.number-numbered-requires-clause-tells
number-numbered-requires-clause-tells g c = c.requires.ready.1.tells

pub number-numbered-requires-clause-place : goal.number-numbered-requires-clause-place
number-numbered-requires-clause-place g c = c.requires.ready.1.place

pub number-numbered-requires-clause-reserved : goal.number-numbered-requires-clause-reserved
number-numbered-requires-clause-reserved g c = c.requires.ready.1.reserved

pub number-numbered-requires-clause-queue : goal.number-numbered-requires-clause-queue
number-numbered-requires-clause-queue g c =
    let tells = c.entries_tell.ensures (call_of c.args.asked.now) c.args.done c.args.ready.entry c.requires.ready.1.is in
    ap (λ (t : Tx). t.queue) tells.tx ∙ sym c.requires.queue

pub give_drawn_pages-requires-clause-at : goal.give_drawn_pages-requires-clause-at
give_drawn_pages-requires-clause-at g c = c.number-numbered.ensures.at

pub give_drawn_pages-requires-clause-logged : goal.give_drawn_pages-requires-clause-logged
give_drawn_pages-requires-clause-logged g c = let plan = c.requires.ready.1.plan_is in (plan.0, plan.1.logged)

pub give_drawn_pages-requires-clause-direct : goal.give_drawn_pages-requires-clause-direct
give_drawn_pages-requires-clause-direct g c = let plan = c.requires.ready.1.plan_is in (plan.0, plan.1.direct)

pub give_drawn_pages-requires-clause-writes : goal.give_drawn_pages-requires-clause-writes
give_drawn_pages-requires-clause-writes g c =
    let plan = c.requires.ready.1.plan_is in
    (plan.0, subst (λ (ws : List Write). AreRising 0 plan.0 (blocks_in ws)) (sym c.parts-replies.ensures.writes) plan.1.rising)

pub give_drawn_pages-requires-clause-frees : goal.give_drawn_pages-requires-clause-frees
give_drawn_pages-requires-clause-frees g c =
    let draws = c.number-numbered.ensures.draws in
    let tells = c.entries_tell.ensures (call_of c.args.asked.now) c.args.done c.args.ready.entry c.requires.ready.1.is in
    let freed = ap (λ (t : Tx). t.freed) tells.tx ∙ sym (c.deref.ensures.value ∙ c.parts-replies.ensures.frees) in
    let homes = homes_of (core_of (side_values g.P.Port.state g.P.Port.faults) g.G.Groups.group draws.known).geometry in
    (homes, subst (λ (bs : List ℕ). AreRising 0 homes bs) freed draws.may.draw.form.freed)

pub send-requires-clause-at : goal.send-requires-clause-at
send-requires-clause-at g c = c.give_drawn_pages.ensures.at

pub send-requires-clause-sends : goal.send-requires-clause-sends
send-requires-clause-sends g c = c.number-numbered.ensures.draws.sends

pub send-requires-clause-queue : goal.send-requires-clause-queue
send-requires-clause-queue g c = c.number-numbered.ensures.draws.queue ∙ sym (ap (λ p. p.queue) c.number-numbered.ensures.pmr)

pub returns-in-Ok-clause-at : goal.returns-in-Ok-clause-at
returns-in-Ok-clause-at g c = c.send.ensures.at

pub returns-in-Ok-clause-cells : goal.returns-in-Ok-clause-cells
returns-in-Ok-clause-cells g c = c.give_drawn_pages.ensures.cells

pub returns-in-Ok-clause-room : goal.returns-in-Ok-clause-room
returns-in-Ok-clause-room g c = c.give_drawn_pages.ensures.room

pub returns-in-Ok-clause-replies : goal.returns-in-Ok-clause-replies
returns-in-Ok-clause-replies g c = c.parts-replies.ensures.replies

pub returns-in-Err-clause-at : goal.returns-in-Err-clause-at
returns-in-Err-clause-at g c = c.send.ensures.at

pub returns-in-Err-clause-cells : goal.returns-in-Err-clause-cells
returns-in-Err-clause-cells g c = c.give_drawn_pages.ensures.cells

pub returns-in-Err-clause-room : goal.returns-in-Err-clause-room
returns-in-Err-clause-room g c = c.give_drawn_pages.ensures.room
