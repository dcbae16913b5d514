use Rattle.std.proofs.Common.{◌<◌, ◌≤◌, ◌⊎◌, inl, inr, map, ◌∙◌, arith}
use Rattle.std.proofs.lemmas.Bool.{false≢true}
use Rattle.mq_ledger.proofs.RecordsLists.{goes, item-read, rising-step, rising-stop}
use Rattle.mq_ledger.proofs.form.is_rising.Goals as goal
use Rattle.mq_ledger.proofs.form.is_rising.Goals.{then-block-low-via-then-block-low, then-block-low-via-else-block-low+then-block-high}

pub returns-then-block-low : goal.returns-then-block-low
returns-then-block-low g c =
    let of = g.T.OfBlock.block_of in
    let read = item-read of c.args.list.now c.loop-item.item-index c.item-item.result (omega arith) c.item-item.is in
    let out : (c.block.inside.0 < c.loop-item.low) ⊎ (c.args.high ≤ c.block.inside.0) =
    elim c.then-block-low.branch [ then-block-low-via-then-block-low w ↦ inl w.if-block-low.true | then-block-low-via-else-block-low+then-block-high w ↦ inr w.if-block-high.true ] in
    (λ t. absurd (false≢true t), λ r. absurd (rising-stop c.loop-item.low c.args.high (map of c.args.list.now) c.loop-item.item-index c.block.inside.0 read.0 (c.block.view_is ∙ c.block-block.ensures ∙ read.1) out (c.loop-item.invariant.on r)))

pub loop-item-preserved : goal.loop-item-preserved
loop-item-preserved g c =
    let of = g.T.OfBlock.block_of in
    let read = item-read of c.args.list.now c.loop-item.item-index c.item-item.result (omega arith) c.item-item.is in
    goes c.loop-item.invariant (rising-step c.loop-item.low c.args.high (map of c.args.list.now) c.loop-item.item-index c.block.inside.0 read.0 (c.block.view_is ∙ c.block-block.ensures ∙ read.1) c.if-block-low.false c.if-block-high.false)
