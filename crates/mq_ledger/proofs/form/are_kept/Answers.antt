use Rattle.std.proofs.Common.{◌≡◌, ◌<◌, ◌++◌, true, false, ℕ, length, get_or, sym, subst, ◌∙◌, arith}
use Rattle.std.proofs.lemmas.Bool.{false≢true, false_from_ne_true}
use Rattle.std.proofs.lemmas.List.{get_or_read}
use Rattle.mq_blocks.specs.Journal.{is_among}
use Rattle.mq_blocks.specs.Machine.{Writes}
use Rattle.mq_ledger.specs.History.{blocks_of}
use Rattle.mq_ledger.proofs.RecordsLists.{goes, every-step, every-stop, apart-every, true_or_not, among-none, among-left, among-right}
use Rattle.mq_ledger.proofs.form.are_kept.Goals as goal

pub loop-block-init : goal.loop-block-init
loop-block-init c = apart-every c.args.blocks.now (blocks_of (c.args.tx.now.logged ++ c.args.tx.now.direct))

pub returns-then-is_written : goal.returns-then-is_written
returns-then-is_written c =
    let inside : c.loop-block.block-index < length c.args.blocks.now = omega arith in
    let is : c.block-item.result ≡ get_or c.args.blocks.now c.loop-block.block-index 0 = get_or_read c.args.blocks.now c.loop-block.block-index c.block-item.result inside c.block-item.is 0 in
    let In : Writes → Type 0 = λ ws. is_among c.block-item.result (blocks_of ws) ≡ true in
    let there = among-left c.args.tx.now.logged c.args.tx.now.direct c.block-item.result (subst In c.as_slice-logged.ensures (c.is_written.ensures.0 c.if-is_written.true)) in
    let Has : ℕ → Type 0 = λ x. is_among x (blocks_of (c.args.tx.now.logged ++ c.args.tx.now.direct)) ≡ false in
    (λ t. absurd (false≢true t), λ all. absurd (every-stop Has c.args.blocks.now c.loop-block.block-index c.block-item.result inside is (λ out. false≢true (sym out ∙ there)) (c.loop-block.invariant.on all)))

pub returns-then-is_written-2 : goal.returns-then-is_written-2
returns-then-is_written-2 c =
    let inside : c.loop-block.block-index < length c.args.blocks.now = omega arith in
    let is : c.block-item.result ≡ get_or c.args.blocks.now c.loop-block.block-index 0 = get_or_read c.args.blocks.now c.loop-block.block-index c.block-item.result inside c.block-item.is 0 in
    let In : Writes → Type 0 = λ ws. is_among c.block-item.result (blocks_of ws) ≡ true in
    let there = among-right c.args.tx.now.logged c.args.tx.now.direct c.block-item.result (subst In c.as_slice-direct.ensures (c.is_written-in-loop-block.ensures.0 c.if-is_written-2.true)) in
    let Has : ℕ → Type 0 = λ x. is_among x (blocks_of (c.args.tx.now.logged ++ c.args.tx.now.direct)) ≡ false in
    (λ t. absurd (false≢true t), λ all. absurd (every-stop Has c.args.blocks.now c.loop-block.block-index c.block-item.result inside is (λ out. false≢true (sym out ∙ there)) (c.loop-block.invariant.on all)))

pub loop-block-preserved : goal.loop-block-preserved
loop-block-preserved c =
    let inside : c.loop-block.block-index < length c.args.blocks.now = omega arith in
    let is : c.block-item.result ≡ get_or c.args.blocks.now c.loop-block.block-index 0 = get_or_read c.args.blocks.now c.loop-block.block-index c.block-item.result inside c.block-item.is 0 in
    let Out : Writes → Type 0 = λ ws. is_among c.block-item.result (blocks_of ws) ≡ false in
    let a = subst Out c.as_slice-logged.ensures (false_from_ne_true _ (true_or_not c.is_written.result c.if-is_written.false c.is_written.ensures.1)) in
    let b = subst Out c.as_slice-direct.ensures (false_from_ne_true _ (true_or_not c.is_written-in-loop-block.result c.if-is_written-2.false c.is_written-in-loop-block.ensures.1)) in
    let Has : ℕ → Type 0 = λ x. is_among x (blocks_of (c.args.tx.now.logged ++ c.args.tx.now.direct)) ≡ false in
    goes c.loop-block.invariant (every-step Has c.args.blocks.now c.loop-block.block-index c.block-item.result inside is (among-none c.args.tx.now.logged c.args.tx.now.direct c.block-item.result a b))
