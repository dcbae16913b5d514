use Rattle.std.proofs.Common.{◌≡◌, ◌∙◌, ℕ, ◌+◌, ◌*◌, ◌<◌, get_or, set, length, List, drop, length-set, get_or-set_same, get_or-set_other, sym, arith, inl, inr}
use Rattle.std.proofs.lemmas.Bool.{cases_eq}
use Rattle.std.proofs.lemmas.List.{get_or_default, same_lists}
use Rattle.mq_blocks.specs.Windows.{number_at, numbers}
use Rattle.mq_blocks.proofs.WindowsReadings.{length-numbers}
use Rattle.mq_blocks.proofs.Windows.{numbers-at}
use Rattle.mq_layout.proofs.inode.pointers.Goals as goal

one-more : (xs b : List ℕ) (start k x : ℕ) → length xs ≡ 12 → k < 12 → x ≡ number_at 4 (start + 4 * k) b → ((j : ℕ) → j < k → get_or xs j 0 ≡ number_at 4 (start + 4 * j) b)
    → (j : ℕ) → j < k + 1 → get_or (set xs k x) j 0 ≡ number_at 4 (start + 4 * j) b
one-more xs b start k x n l e before j s = elim (cases_eq j k) [
  | inl same ↦ let inside : k < length xs = omega arith in rw (same, get_or-set_same) e
  | inr other ↦ rw get_or-set_other (before j (omega arith))
]

pub loop-k-preserved : goal.loop-k-preserved
loop-k-preserved c = record {
  twelve = length-set _ _ _ ∙ c.loop-k.invariant.twelve;
  read = one-more _ _ _ _ _ c.loop-k.invariant.twelve (omega arith) c.u32_at.ensures c.loop-k.invariant.read;
}

pub returns : goal.returns
returns c = same_lists _ _ (c.loop-k.invariant.twelve ∙ sym (length-numbers 12 (drop c.args.start c.args.block.now))) (λ k d l.
    let low : k < 12 = let n = c.loop-k.invariant.twelve in omega arith in
    let m : k < length (numbers 12 (drop c.args.start c.args.block.now)) = omega (arith, length-numbers 12 (drop c.args.start c.args.block.now)) in
    get_or_default _ k d 0 l ∙ c.loop-k.invariant.read k (omega arith) ∙ sym (numbers-at 12 c.args.block.now c.args.start k low) ∙ get_or_default _ k 0 d m)
