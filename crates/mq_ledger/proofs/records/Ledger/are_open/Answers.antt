use Rattle.std.proofs.Common.{arith}
use Rattle.std.proofs.lemmas.Bool.{false≢true}
use Rattle.mq_blocks.specs.Geometry.{homes_of}
use Rattle.mq_ledger.specs.History.{blocks_of}
use Rattle.mq_ledger.specs.Records.{IsOpen}
use Rattle.mq_ledger.proofs.RecordsLists.{block-read, goes, rising-high, every-step, every-stop, true_or_not}
use Rattle.mq_ledger.proofs.records.Ledger.are_open.Goals as goal

pub is_open-requires-clause-block : goal.is_open-requires-clause-block
is_open-requires-clause-block c =
    let read = block-read c.args.writes.now c.loop-write.write-index c.write-item.result (omega arith) c.write-item.is in
    let low = rising-high 0 (homes_of c.args.self.now.geometry) (blocks_of c.args.writes.now) c.loop-write.write-index c.requires.rising read.0 in
    let is = read.1 in
    omega arith

pub returns-then-not-is_open : goal.returns-then-not-is_open
returns-then-not-is_open c =
    let read = block-read c.args.writes.now c.loop-write.write-index c.write-item.result (omega arith) c.write-item.is in
    (λ t. absurd (false≢true t), λ all. absurd (every-stop (IsOpen c.args.self.now c.args.word c.args.revoked.now) (blocks_of c.args.writes.now) c.loop-write.write-index c.write-item.result.0 read.0 read.1 (true_or_not c.is_open.result c.if-not-is_open.true c.is_open.ensures.1) (c.loop-write.invariant.on all)))

pub loop-write-preserved : goal.loop-write-preserved
loop-write-preserved c =
    let read = block-read c.args.writes.now c.loop-write.write-index c.write-item.result (omega arith) c.write-item.is in
    goes c.loop-write.invariant (every-step (IsOpen c.args.self.now c.args.word c.args.revoked.now) (blocks_of c.args.writes.now) c.loop-write.write-index c.write-item.result.0 read.0 read.1 (c.is_open.ensures.0 c.if-not-is_open.false))
