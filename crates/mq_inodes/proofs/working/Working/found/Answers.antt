use Rattle.std.proofs.Common.{◌≡◌, ◌≢◌, ◌+◌, ◌<◌, ◌≤◌, ◌∙◌, ap, sym, subst, ℕ, List, arith, length}
use Rattle.std.specs.Prelude.{Vec}
use Rattle.std.specs.List.{All}
use Rattle.std.proofs.lemmas.Result.{err_from_is_err_and}
use Rattle.mq_inodes.specs.Fits.{Agrees}
use Rattle.mq_inodes.specs.Pages.{pages_of}
use Rattle.mq_inodes.specs.Picks.{IsMarkable, IsSearched, free_of}
use Rattle.mq_inodes.proofs.MissingPages.{lacks-weaker}
use Rattle.mq_inodes.proofs.PicksSearching.{length-picks}
use Rattle.mq_inodes.proofs.PicksZones.{picks-next, picks-own, reached, searched-other}
use Rattle.mq_layout.specs.Places.{zone_bitmap}
use Rattle.mq_tree.specs.Volume.{Volume}
use Rattle.mq_inodes.proofs.working.Working.found.Goals as goal
use Rattle.mq_inodes.proofs.working.Working.found.Goals.{then-zone-queue+in_ok-search-2, else-zone-queue}

pub returns-in_err-search-2-clause-lack : goal.returns-in_err-search-2-clause-lack
returns-in_err-search-2-clause-lack c =
    let g = c.args.self.now.geometry in
    let pages = pages_of c.args.self.now in
    let old = c.loop-zone.picks.items in
    let n = c.args.count in
    let z = c.loop-zone.zone in
    let other : z ≢ c.args.queue = λ e. c.if-zone-queue.true (omega arith) in
    let p = err_from_is_err_and c.from_residual-in_err-search-2.result c.from_residual-in_err-search-2.ensures.1 in
    rw (p.1, p.2) (lacks-weaker pages (λ b. (v : Volume) → Agrees g pages v → (b ≡ zone_bitmap z) × (length old < n)) (λ b. (v : Volume) → Agrees g pages v → IsSearched g c.args.queue v n b) c.in_err-search-2.field-0.0
    (λ b h v agrees. searched-other g c.args.queue n z b v old other (omega arith) (c.loop-zone.invariant.picks v agrees) (h v agrees).0 (h v agrees).1) c.in_err-search-2.ensures.lack)

pub loop-zone-preserved : goal.loop-zone-preserved
loop-zone-preserved c =
    let g = c.args.self.now.geometry in
    let q = c.args.queue in
    let n = c.args.count in
    let z = c.loop-zone.zone in
    let old = c.loop-zone.picks.items in
    let P : List ℕ → Type 0 = λ xs. All (IsMarkable g (pages_of c.args.self.now)) xs in
    elim c.if-zone-queue.branch [
      | then-zone-queue+in_ok-search-2 w ↦
          let other : z ≢ q = λ e. w.if-zone-queue.true (omega arith) in
          let is : c.if-zone-queue.picks.items ≡ w.search-then-zone-queue.new.picks.items = ap (λ (x : Vec ℕ _). x.items) w.picks-is in
          let next = λ (v : Volume) (agrees : Agrees g (pages_of c.args.self.now) v). is ∙ picks-next g q n z v old w.search-then-zone-queue.new.picks.items other (w.in_ok-search-2.ensures.ok v agrees) (c.loop-zone.invariant.picks v agrees) in
          record {
            picks = next;
            marks = subst P (sym is) (w.in_ok-search-2.ensures.marks c.loop-zone.invariant.marks);
            few = (let e = ap (λ (xs : List ℕ). length xs) (next c.requires.possible.0 c.requires.possible.1) in let m = length-picks n (free_of c.requires.possible.0 (reached g q (z + 1))) in omega arith);
          }
      | else-zone-queue w ↦
          let same : z ≡ q = omega arith in
          let is : c.if-zone-queue.picks.items ≡ old = ap (λ (x : Vec ℕ _). x.items) w.picks-is in
          record {
            picks = λ v agrees. is ∙ picks-own g q n z v old same (c.loop-zone.invariant.picks v agrees);
            marks = subst P (sym is) c.loop-zone.invariant.marks;
            few = subst (λ (xs : List ℕ). length xs ≤ n) (sym is) c.loop-zone.invariant.few;
          }
    ]
