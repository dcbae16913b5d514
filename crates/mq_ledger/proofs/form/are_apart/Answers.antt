use Rattle.std.proofs.Common.{◌≡◌, false, ℕ, sym, ◌∙◌, arith}
use Rattle.std.proofs.lemmas.Bool.{false≢true, false_from_ne_true}
use Rattle.mq_blocks.specs.Journal.{is_among}
use Rattle.mq_ledger.specs.History.{blocks_of}
use Rattle.mq_ledger.proofs.RecordsLists.{block-read, goes, every-step, every-stop, apart-every, true_or_not}
use Rattle.mq_ledger.proofs.form.are_apart.Goals as goal

pub loop-write-init : goal.loop-write-init
loop-write-init c = apart-every (blocks_of c.args.writes.now) (blocks_of c.args.others.now)

pub returns-then-is_written : goal.returns-then-is_written
returns-then-is_written c =
    let read = block-read c.args.writes.now c.loop-write.write-index c.write-item.result (omega arith) c.write-item.is in
    let Has : ℕ → Type 0 = λ x. is_among x (blocks_of c.args.others.now) ≡ false in
    (λ t. absurd (false≢true t), λ all. absurd (every-stop Has (blocks_of c.args.writes.now) c.loop-write.write-index c.write-item.result.0 read.0 read.1 (λ out. false≢true (sym out ∙ c.is_written.ensures.0 c.if-is_written.true)) (c.loop-write.invariant.on all)))

pub loop-write-preserved : goal.loop-write-preserved
loop-write-preserved c =
    let read = block-read c.args.writes.now c.loop-write.write-index c.write-item.result (omega arith) c.write-item.is in
    let Has : ℕ → Type 0 = λ x. is_among x (blocks_of c.args.others.now) ≡ false in
    goes c.loop-write.invariant (every-step Has (blocks_of c.args.writes.now) c.loop-write.write-index c.write-item.result.0 read.0 read.1 (false_from_ne_true _ (true_or_not c.is_written.result c.if-is_written.false c.is_written.ensures.1)))
