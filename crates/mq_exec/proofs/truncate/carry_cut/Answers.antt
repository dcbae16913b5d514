use Rattle.std.proofs.Common.{◌≤◌, ◌/◌, ℕ, List, length, refl, sym, subst, arith, drop}
use Rattle.std.specs.List.{All}
use Rattle.std.proofs.lemmas.Result.{on_ok_weaker}
use Rattle.mq_exec.specs.Plans.{HoldsPlaces}
use Rattle.mq_exec.proofs.Cuts.{blank-keeps, cut-limit, holds-along, mid-becomes_cut, mid-cut}
use Rattle.mq_inodes.specs.Opened.{IsReleasable}
use Rattle.mq_inodes.specs.Pages.{pages_of}
use Rattle.mq_inodes.proofs.EditsBecoming.{over-then}
use Rattle.mq_tree.specs.Requests.{cut_to}
use Rattle.mq_tree.specs.Sound.{blocks_for}
use Rattle.mq_exec.proofs.truncate.carry_cut.Goals as goal

pub blank-requires-clause-limit : goal.blank-requires-clause-limit
blank-requires-clause-limit c =
    let p = c.requires.possible in
    cut-limit c.args.working.now.geometry p.0 c.args.cutting.now c.args.working.now p.1 p.2

pub blank-requires-clause-few : goal.blank-requires-clause-few
blank-requires-clause-few c =
    let plan = c.requires.possible.2 in
    let n = plan.count in
    let s = plan.shorter in
    subst (λ (xs : List ℕ). blocks_for c.args.cutting.now.size ≤ length xs) (sym c.deref.ensures.value) (omega arith)

pub blank-requires-clause-held : goal.blank-requires-clause-held
blank-requires-clause-held c =
    subst (λ (xs : List ℕ). HoldsPlaces (pages_of c.args.working.now) xs (c.args.cutting.now.size / 4096) (blocks_for c.args.cutting.now.size)) (sym c.deref.ensures.value) c.requires.pages.last

pub count_for-requires : goal.count_for-requires
count_for-requires c =
    let p = c.requires.possible in
    cut-limit c.args.working.now.geometry p.0 c.args.cutting.now c.args.working.now p.1 p.2

pub cut-requires-clause-possible : goal.cut-requires-clause-possible
cut-requires-clause-possible c =
    let p = c.requires.possible in
    let e = c.in_ok-blank.ensures in
    let h = mid-cut c.args.working.now.geometry p.0 c.args.cutting.now c.deref.result.now c.args.working.now c.blank.new.working c.count_for.result refl p.1 p.2 e.over c.deref.ensures.value e.blanked c.count_for.ensures.is in
    (h.file.u, h.file.now, cut_to c.args.cutting.now.size p.2.bytes, h.carries, h.may, h.size)

pub cut-requires-clause-table : goal.cut-requires-clause-table
cut-requires-clause-table c =
    let e = c.in_ok-blank.ensures in
    (holds-along c.args.working.now c.blank.new.working c.args.cutting.now e.over (blank-keeps c.args.working.now c.blank.new.working c.deref.result.now c.args.cutting.now.size e.blanked) c.requires.pages).table

pub cut-requires-clause-blocks : goal.cut-requires-clause-blocks
cut-requires-clause-blocks c =
    let e = c.in_ok-blank.ensures in
    let mid = c.blank.new.working in
    let h = holds-along c.args.working.now mid c.args.cutting.now e.over (blank-keeps c.args.working.now mid c.deref.result.now c.args.cutting.now.size e.blanked) c.requires.pages in
    subst (λ (k : ℕ). All (IsReleasable mid.geometry (pages_of mid)) (drop k c.args.cutting.now.file.blocks.items)) (sym c.count_for.ensures.is) h.blocks

pub cut-requires-clause-pointers : goal.cut-requires-clause-pointers
cut-requires-clause-pointers c =
    let e = c.in_ok-blank.ensures in
    (holds-along c.args.working.now c.blank.new.working c.args.cutting.now e.over (blank-keeps c.args.working.now c.blank.new.working c.deref.result.now c.args.cutting.now.size e.blanked) c.requires.pages).pointers

pub cut-requires-clause-release : goal.cut-requires-clause-release
cut-requires-clause-release c =
    let e = c.in_ok-blank.ensures in
    let h = holds-along c.args.working.now c.blank.new.working c.args.cutting.now e.over (blank-keeps c.args.working.now c.blank.new.working c.deref.result.now c.args.cutting.now.size e.blanked) c.requires.pages in
    λ few many. h.release (let n = c.count_for.ensures.is in omega arith) many

pub returns-clause-over : goal.returns-clause-over
returns-clause-over c =
    on_ok_weaker c.cut.result (over-then c.args.working.now c.blank.new.working c.cut.new.self c.in_ok-blank.ensures.over) c.cut.ensures.over

pub returns-clause-cut : goal.returns-clause-cut
returns-clause-cut c =
    let e = c.in_ok-blank.ensures in
    on_ok_weaker c.cut.result (λ cuts v agrees plan.
    mid-becomes_cut c.args.working.now.geometry v c.args.cutting.now plan.bytes c.args.working.now c.blank.new.working c.cut.new.self c.count_for.result refl e.over c.count_for.ensures.is
    (mid-cut c.args.working.now.geometry v c.args.cutting.now c.deref.result.now c.args.working.now c.blank.new.working c.count_for.result refl agrees plan e.over c.deref.ensures.value e.blanked c.count_for.ensures.is) cuts) c.cut.ensures.cut
