use Rattle.std.proofs.Common.{◌≡◌, ◌<◌, ℕ, List, [], length, sym, ap, subst, arith}
use Rattle.std.specs.List.{All}
use Rattle.mq_turns.specs.AtDesk.{start_of, view}
use Rattle.mq_sessions.specs.Wanted.{AreWanted, HoldsWanted}
use Rattle.mq_sessions.proofs.WantedFurther.{alone, held-low-all, more-held, nothing-held, room-above, room-alone, together-wanted}
use Rattle.mq_sessions.proofs.wanted.take_more.Goals as goal

-- all further blocks are above what is wanted
pub take_pages-requires-clause-above : goal.take_pages-requires-clause-above
take_pages-requires-clause-above g c =
    held-low-all g.M.Machine.meaning (start_of c.args.desk.now) c.args.wanted.now.items c.args.blocks.now c.args.held.now.cells (view c.args.chair.now) c.requires.holds
    (subst (λ (xs : List ℕ). All (λ b. All (λ a. a < b) xs) c.args.blocks.now) c.deref.ensures.value (c.are_above-above.ensures c.if-above.true))

pub take_pages-requires-clause-room : goal.take_pages-requires-clause-room
take_pages-requires-clause-room g c =
    let above = held-low-all g.M.Machine.meaning (start_of c.args.desk.now) c.args.wanted.now.items c.args.blocks.now c.args.held.now.cells (view c.args.chair.now) c.requires.holds
    (subst (λ (xs : List ℕ). All (λ b. All (λ a. a < b) xs) c.args.blocks.now) c.deref.ensures.value (c.are_above-above.ensures c.if-above.true)) in
    let few = room-above g.M.Machine.meaning (start_of c.args.desk.now) c.args.blocks.now c.args.held.now.cells (view c.args.chair.now) c.requires.holds.pages.pages c.requires.blocks above in
    let room = c.requires.room in
    omega arith

pub returns-then-above-clause-wanted : goal.returns-then-above-clause-wanted
returns-then-above-clause-wanted g c = together-wanted (length (start_of c.args.desk.now).pages) c.args.wanted.now.items c.args.blocks.now c.add.new.wanted.items c.requires.wanted c.requires.blocks c.in_ok-add.ensures.ok

pub returns-then-above-clause-holds : goal.returns-then-above-clause-holds
returns-then-above-clause-holds g c =
    let e = c.take_pages.ensures in
    more-held g.M.Machine.meaning (start_of c.args.desk.now) c.args.wanted.now.items c.args.blocks.now c.add.new.wanted.items c.args.held.now.cells c.take_pages.new.held.cells (view c.args.chair.now) (view c.take_pages.new.chair) c.requires.holds e.took e.pages e.cells c.in_ok-add.ensures.ok

-- not all are: all pages are given back before
pub take_pages-requires-2-clause-rise : goal.take_pages-requires-2-clause-rise
take_pages-requires-2-clause-rise g c = rw c.deref-2.ensures.value c.in_ok-add.ensures.ok.rise

pub take_pages-requires-2-clause-homes : goal.take_pages-requires-2-clause-homes
take_pages-requires-2-clause-homes g c =
    let all = together-wanted (length (start_of c.args.desk.now).pages) c.args.wanted.now.items c.args.blocks.now c.add.new.wanted.items c.requires.wanted c.requires.blocks c.in_ok-add.ensures.ok in
    subst (λ (xs : List ℕ). All (λ b. b < length (start_of c.args.desk.now).pages) xs) (sym c.deref-2.ensures.value) all.homes_are

pub take_pages-requires-2-clause-pages : goal.take_pages-requires-2-clause-pages
take_pages-requires-2-clause-pages g c =
    let none = nothing-held g.M.Machine.meaning (start_of c.args.desk.now) c.args.wanted.now.items c.args.held.now.cells c.give_back_pages.new.held.cells (view c.args.chair.now) (view c.give_back_pages.new.chair) c.requires.holds c.give_back_pages.ensures.cells c.give_back_pages.ensures.gave in
    none.pages.pages

pub take_pages-requires-2-clause-above : goal.take_pages-requires-2-clause-above
take_pages-requires-2-clause-above g c =
    let none = nothing-held g.M.Machine.meaning (start_of c.args.desk.now) c.args.wanted.now.items c.args.held.now.cells c.give_back_pages.new.held.cells (view c.args.chair.now) (view c.give_back_pages.new.chair) c.requires.holds c.give_back_pages.ensures.cells c.give_back_pages.ensures.gave in
    held-low-all g.M.Machine.meaning (start_of c.args.desk.now) [] c.deref-2.result.now c.give_back_pages.new.held.cells (view c.give_back_pages.new.chair) none (λ k d l j e m. absurd (omega arith))

pub take_pages-requires-2-clause-room : goal.take_pages-requires-2-clause-room
take_pages-requires-2-clause-room g c =
    let all = together-wanted (length (start_of c.args.desk.now).pages) c.args.wanted.now.items c.args.blocks.now c.add.new.wanted.items c.requires.wanted c.requires.blocks c.in_ok-add.ensures.ok in
    let few = room-alone (length (start_of c.args.desk.now).pages) c.add.new.wanted.items all in
    let same : length c.deref-2.result.now ≡ length c.add.new.wanted.items = ap length c.deref-2.ensures.value in
    let empty : length c.give_back_pages.new.held.cells ≡ 0 = ap length c.give_back_pages.ensures.cells in
    let room = c.requires.room in
    let kept = c.give_back_pages.ensures.room in
    omega arith

pub returns-clause-wanted : goal.returns-clause-wanted
returns-clause-wanted g c = together-wanted (length (start_of c.args.desk.now).pages) c.args.wanted.now.items c.args.blocks.now c.add.new.wanted.items c.requires.wanted c.requires.blocks c.in_ok-add.ensures.ok

pub returns-clause-holds : goal.returns-clause-holds
returns-clause-holds g c =
    let o = start_of c.args.desk.now in
    let all = together-wanted (length o.pages) c.args.wanted.now.items c.args.blocks.now c.add.new.wanted.items c.requires.wanted c.requires.blocks c.in_ok-add.ensures.ok in
    let none = nothing-held g.M.Machine.meaning o c.args.wanted.now.items c.args.held.now.cells c.give_back_pages.new.held.cells (view c.args.chair.now) (view c.give_back_pages.new.chair) c.requires.holds c.give_back_pages.ensures.cells c.give_back_pages.ensures.gave in
    let e = c.take_pages-2.ensures in
    let now = more-held g.M.Machine.meaning o [] c.deref-2.result.now c.deref-2.result.now c.give_back_pages.new.held.cells c.take_pages-2.new.held.cells (view c.give_back_pages.new.chair) (view c.take_pages-2.new.chair) none e.took e.pages e.cells
    (alone (length o.pages) c.deref-2.result.now (subst (AreWanted (length o.pages)) (sym c.deref-2.ensures.value) all)) in
    subst (λ (xs : List ℕ). HoldsWanted g.M.Machine.meaning o xs c.take_pages-2.new.held.cells (view c.take_pages-2.new.chair)) c.deref-2.ensures.value now
