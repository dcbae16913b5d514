use Rattle.std.proofs.Common.{◌≡◌, Some, ℕ, arith}
use Rattle.std.proofs.lemmas.Bool.{false≢true}
use Rattle.mq_blocks.specs.Geometry.{homes_of, zone_of}
use Rattle.mq_ledger.specs.History.{blocks_of}
use Rattle.mq_ledger.proofs.RecordsLists.{block-read, goes, rising-high, every-step, every-stop, true_or_not}
use Rattle.mq_ledger.proofs.form.are_zoned.Goals as goal

pub is_in_zone-requires : goal.is_in_zone-requires
is_in_zone-requires c =
    let read = block-read c.args.writes.now c.loop-write.write-index c.write-item.result (omega arith) c.write-item.is in
    let low = rising-high 0 (homes_of c.args.geometry) (blocks_of c.args.writes.now) c.loop-write.write-index c.requires read.0 in
    let is = read.1 in
    omega arith

pub returns-then-not-is_in_zone : goal.returns-then-not-is_in_zone
returns-then-not-is_in_zone c =
    let read = block-read c.args.writes.now c.loop-write.write-index c.write-item.result (omega arith) c.write-item.is in
    let Has : ℕ → Type 0 = λ x. zone_of c.args.geometry x ≡ Some c.args.queue in
    (λ t. absurd (false≢true t), λ all. absurd (every-stop Has (blocks_of c.args.writes.now) c.loop-write.write-index c.write-item.result.0 read.0 read.1 (true_or_not c.is_in_zone.result c.if-not-is_in_zone.true c.is_in_zone.ensures.1) (c.loop-write.invariant.on all)))

pub loop-write-preserved : goal.loop-write-preserved
loop-write-preserved c =
    let read = block-read c.args.writes.now c.loop-write.write-index c.write-item.result (omega arith) c.write-item.is in
    let Has : ℕ → Type 0 = λ x. zone_of c.args.geometry x ≡ Some c.args.queue in
    goes c.loop-write.invariant (every-step Has (blocks_of c.args.writes.now) c.loop-write.write-index c.write-item.result.0 read.0 read.1 (c.is_in_zone.ensures.0 c.if-not-is_in_zone.false))
