use Rattle.std.proofs.Common.{◌≡◌, ◌∙◌, ap, sym, subst}
use Rattle.std.specs.Prelude.{Some}
use Rattle.mq_inodes.specs.Pages.{content, pages_of}
use Rattle.mq_layout.specs.Places.{zone_bitmap}
use Rattle.mq_inodes.proofs.FitsMarking.{zone-shown}
use Rattle.mq_inodes.proofs.PicksSearching.{more-markable}
use Rattle.mq_inodes.proofs.working.Working.search.Goals as goal

pub returns-clause-ok : goal.returns-clause-ok
returns-clause-ok c v agrees =
    c.in_ok-push_free.ensures v (zone-shown c.args.self.now.geometry (pages_of c.args.self.now) v c.args.zone c.zone_bitmap.result c.in_ok-marks.marks.now agrees c.requires.zone c.zone_bitmap.ensures c.in_ok-marks.ensures.ok)

pub returns-clause-marks : goal.returns-clause-marks
returns-clause-marks c all =
    let g = c.args.self.now.geometry in
    let pages = pages_of c.args.self.now in
    let held : pages (zone_bitmap c.args.zone) ≡ Some (Some c.in_ok-marks.marks.now) = ap pages (sym c.zone_bitmap.ensures) ∙ c.in_ok-marks.ensures.ok in
    let v = c.requires.possible.0 in
    let shown = zone-shown g pages v c.args.zone c.zone_bitmap.result c.in_ok-marks.marks.now c.requires.possible.1 c.requires.zone c.zone_bitmap.ensures c.in_ok-marks.ensures.ok in
    more-markable g pages v c.args.zone c.args.count c.args.picks.now.items c.push_free.new.picks.items c.requires.zone (subst (λ p. p ≡ Some (Some (content p))) (sym held) (cc)) (c.in_ok-push_free.ensures v shown) all
