use Rattle.std.proofs.Common.{◌≡◌, ◌∙◌, ◌+◌, ◌-◌, ◌≤◌, ℕ, leb, Bool, length, ap, arith}
use Rattle.mq_blocks.specs.Geometry.{area_lba}
use Rattle.mq_ledger.specs.History.{writes}
use Rattle.mq_ledger.specs.Items.{next, further_blocks}
use Rattle.mq_ledger.proofs.ItemsStagings.{direct_write, staged-write, staged-descriptor}
use Rattle.mq_ledger.proofs.staging.stage_entry.Goals as goal

pub home-requires : goal.home-requires
home-requires c = (direct_write c.args.geometry c.args.tx.now c.as_slice-logged.result.now c.as_slice-direct.result.now c.args.index c.index-direct-index.result c.as_slice-logged.ensures c.as_slice-direct.ensures c.requires.form c.if-index-copies.false c.if-index-copies-2.true c.index-direct-index.is).home

pub returns-then-index-copies-2 : goal.returns-then-index-copies-2
returns-then-index-copies-2 c txs behind =
    let d = direct_write c.args.geometry c.args.tx.now c.as_slice-logged.result.now c.as_slice-direct.result.now c.args.index c.index-direct-index.result c.as_slice-logged.ensures c.as_slice-direct.ensures c.requires.form c.if-index-copies.false c.if-index-copies-2.true c.index-direct-index.is in
    let new = c.new-then-index-copies-2.ensures in
    staged-write c.args.geometry c.args.tx.now txs c.args.index c.home.result c.index-direct-index.result c.new-then-index-copies-2.result d c.home.ensures new.entry new.tx_is new.lba_is (new.block_is ∙ c.in_ok-block-2.ensures)

pub returns : goal.returns
returns c txs behind =
    let g = c.args.geometry in
    let t = c.args.tx.now in
    let a : length c.as_slice-logged.result.now ≡ length t.logged = ap length c.as_slice-logged.ensures in
    let b : length c.as_slice-direct.result.now ≡ length t.direct = ap length c.as_slice-direct.ensures in
    let at : ℕ = c.args.index - length c.as_slice-logged.result.now - length c.as_slice-direct.result.now in
    let low : writes t ≤ c.args.index = omega (arith, c.if-index-copies-2.false) in
    let at_is : at ≡ c.args.index - writes t = omega arith in
    let blocks : c.descriptor_blocks.result - 1 ≡ further_blocks t = omega (arith, c.descriptor_blocks.ensures) in
    let last : Bool = leb (c.descriptor_blocks.result - 1) at in
    let last_is : last ≡ leb (further_blocks t) at = ap (λ (n : ℕ). leb n at) blocks in
    let first = behind.next_is in
    let place : c.args.before.next + (length c.as_slice-logged.result.now + at) ≡ next txs + (length t.logged + at) = omega arith in
    let new = c.new-2.ensures in
    staged-descriptor g t txs c.args.index at c.area_lba-lba-2.result last c.in_ok-block-3.block c.new-2.result low at_is (c.area_lba-lba-2.ensures ∙ ap (area_lba g t.queue) place) last_is new.entry new.tx_is new.lba_is new.block_is
    (c.in_ok-block-3.ensures txs behind)
