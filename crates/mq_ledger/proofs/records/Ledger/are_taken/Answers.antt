use Rattle.std.proofs.Common.{◌≡◌, ◌<◌, length, get_or, arith}
use Rattle.std.proofs.lemmas.Bool.{false≢true}
use Rattle.std.proofs.lemmas.List.{get_or_read}
use Rattle.mq_blocks.specs.Geometry.{homes_of}
use Rattle.mq_ledger.specs.Records.{IsTaken}
use Rattle.mq_ledger.proofs.RecordsLists.{goes, rising-high, every-step, every-stop}
use Rattle.mq_ledger.proofs.RecordsDraws.{held_some, held_none}
use Rattle.mq_ledger.proofs.records.Ledger.are_taken.Goals as goal

pub content-requires : goal.content-requires
content-requires c =
    let inside : c.loop-block.block-index < length c.args.blocks.now = omega arith in
    let is : c.block-item.result ≡ get_or c.args.blocks.now c.loop-block.block-index 0 = get_or_read c.args.blocks.now c.loop-block.block-index c.block-item.result inside c.block-item.is 0 in
    let low = rising-high 0 (homes_of c.args.self.now.geometry) c.args.blocks.now c.loop-block.block-index c.requires inside in
    omega arith

pub returns-then-is_none : goal.returns-then-is_none
returns-then-is_none c =
    let inside : c.loop-block.block-index < length c.args.blocks.now = omega arith in
    let is : c.block-item.result ≡ get_or c.args.blocks.now c.loop-block.block-index 0 = get_or_read c.args.blocks.now c.loop-block.block-index c.block-item.result inside c.block-item.is 0 in
    (λ t. absurd (false≢true t), λ all. absurd (every-stop (IsTaken c.args.self.now) c.args.blocks.now c.loop-block.block-index c.block-item.result inside is (held_none c.content.result (λ b. b.now) _ c.content.ensures c.if-is_none.ensures) (c.loop-block.invariant.on all)))

pub loop-block-preserved : goal.loop-block-preserved
loop-block-preserved c =
    let inside : c.loop-block.block-index < length c.args.blocks.now = omega arith in
    let is : c.block-item.result ≡ get_or c.args.blocks.now c.loop-block.block-index 0 = get_or_read c.args.blocks.now c.loop-block.block-index c.block-item.result inside c.block-item.is 0 in
    goes c.loop-block.invariant (every-step (IsTaken c.args.self.now) c.args.blocks.now c.loop-block.block-index c.block-item.result inside is (held_some c.content.result (λ b. b.now) _ c.content.ensures c.if-is_none.ensures))
