use Rattle.std.proofs.Common.{◌≡◌, ◌+◌, ◌-◌, ◌∙◌, List, ℕ, length, ap, sym, arith}
use Rattle.std.specs.Prelude.{Some}
use Rattle.mq_blocks.specs.Windows.{window}
use Rattle.mq_kv_buckets.specs.Buckets.{records_of}
use Rattle.mq_kv_buckets.proofs.Spots.{found, not-found}
use Rattle.mq_kv_buckets.proofs.spot.get.Goals as goal

pub returns-then-spot-eq0 : goal.returns-then-spot-eq0
returns-then-spot-eq0 c = not-found _ c.args.key.now c.find-spot.result.at c.find-spot.result.size c.find-spot.ensures.spot c.if-spot-eq0.true

pub overflow_add-spot : goal.overflow_add-spot
overflow_add-spot c =
    let f = found c.args.block.now (records_of c.args.block.now) c.args.key.now c.find-spot.result.at c.find-spot.result.size c.requires c.find-spot.ensures.spot c.if-spot-eq0.false in
    let fits = f.fits in
    let low = f.lengths in
    omega arith

pub part-requires : goal.part-requires
part-requires c =
    let f = found c.args.block.now (records_of c.args.block.now) c.args.key.now c.find-spot.result.at c.find-spot.result.size c.requires c.find-spot.ensures.spot c.if-spot-eq0.false in
    let fits = f.fits in
    let low = f.lengths in
    let l : length c.bytes.result.now ≡ 4096 = ap length c.bytes.ensures.is ∙ c.bytes.ensures.whole in
    record { from = omega arith; inside = omega arith }

pub returns : goal.returns
returns c =
    let f = found c.args.block.now (records_of c.args.block.now) c.args.key.now c.find-spot.result.at c.find-spot.result.size c.requires c.find-spot.ensures.spot c.if-spot-eq0.false in
    f.is ∙ ap (λ (v : List ℕ). Some v) (sym (c.part.ensures ∙ ap (λ (xs : List ℕ). window xs (c.find-spot.result.at + (4 + length c.args.key.now)) (c.find-spot.result.size - (4 + length c.args.key.now))) c.bytes.ensures.is ∙ f.shows))
