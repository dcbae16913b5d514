use Rattle.std.proofs.Common.{arith, below_more, subst, sym, ◌∙◌, ◌≡◌, ◌<◌, ◌≤◌, ℕ, List}
use Rattle.std.specs.Prelude.{slice_index}
use Rattle.mq_tree.proofs.Parts.{behind-zeros, slot-read}
use Rattle.mq_tree.proofs.dirs.is_dir_block.Goals as goal

pub loop-at-preserved : goal.loop-at-preserved
loop-at-preserved c = below_more _ _ c.loop-at.invariant (slot-read c.args.block.now c.loop-at.at c.read_slot.result c.read_slot.ensures.sound (sym c.is_err.ensures.value ∙ c.if-is_err.false))

pub returns : goal.returns
returns c = record {
  slots = λ at low. c.loop-at.invariant at (let t = c.loop-at-test.false in omega arith);
  rest = behind-zeros c.args.block.now c.bytes-bytes.ensures.whole (λ j high low. let P : List ℕ → Type 0 = λ b. (j : ℕ) → 4080 ≤ j → j < c.loop-k.k → slice_index b j ≡ 0 in subst P c.bytes-bytes.ensures.is c.loop-k.invariant j high (let t = c.loop-k-test.false in omega arith));
}
