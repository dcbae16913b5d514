use Rattle.std.proofs.Common.{◌≡◌, ◌+◌, ◌*◌, ◌++◌, ◌∷◌, [], ℕ, List, ap, ◌∙◌, arith, length, length-append}
use Rattle.mq_blocks.specs.Geometry.{zone_size}
use Rattle.mq_tree.specs.Laid.{zone_block}
use Rattle.mq_inodes.proofs.FitsMarking.{marks-clear, marks-set}
use Rattle.mq_inodes.proofs.PicksSearching.{picked, picked-enough, picked-free, picked-passed}
use Rattle.mq_inodes.proofs.space.push_free.Goals as goal

pub returns-in_default : goal.returns-in_default
returns-in_default c v shown =
    let g = c.args.geometry in
    let a = zone_block g c.args.zone 0 in
    let old = c.args.picks.now.items in
    picked-passed v c.args.count a c.loop-k.from c.zone-size.result old c.loop-k.picks.items (omega arith) (marks-set g v c.args.zone c.loop-k.from c.zone-size.result c.args.marks.now shown (omega arith) c.in_default.ensures) (c.loop-k.invariant.picks v shown)
    ∙ ap (picked v c.args.count old a) c.zone-size.ensures

pub loop-k-preserved : goal.loop-k-preserved
loop-k-preserved c =
    let g = c.args.geometry in
    let zone = c.args.zone in
    let a = zone_block g zone 0 in
    let old = c.args.picks.now.items in
    let k = c.in-Some.k in
    let first = c.in-Some.ensures in
    let product : c.zone.inside.0 * c.zone-size.result ≡ zone * zone_size g = cc in
    let at : c.meta.result + c.zone.inside.0 * c.zone-size.result + k ≡ a + k = omega arith in
    let more : c.push.new.self.items ≡ c.loop-k.picks.items ++ (a + k) ∷ [] = c.in_ok-push.ensures.items ∙ ap (λ (b : ℕ). c.loop-k.picks.items ++ b ∷ []) at in
    record {
      picks = λ v shown.
          more
          ∙ picked-free v c.args.count a k old c.loop-k.picks.items (marks-clear g v zone k c.args.marks.now shown (omega (arith, first.inside)) first.clear) (omega arith)
          (picked-passed v c.args.count a c.loop-k.from k old c.loop-k.picks.items first.low (marks-set g v zone c.loop-k.from k c.args.marks.now shown (omega (arith, first.inside)) first.before) (c.loop-k.invariant.picks v shown));
      few = (let e = ap (λ (xs : List ℕ). length xs) more in let n = length-append c.loop-k.picks.items ((a + k) ∷ []) in omega arith);
      inside = omega (arith, first.inside);
    }

pub returns : goal.returns
returns c v shown =
    picked-enough v c.args.count (zone_block c.args.geometry c.args.zone 0) c.loop-k.from (zone_size c.args.geometry) c.args.picks.now.items c.loop-k.picks.items (omega arith) (omega arith) (c.loop-k.invariant.picks v shown)
