use Rattle.std.proofs.Common.{◌≡◌, ◌+◌, ◌-◌, ℕ, Bool, cond, ap, sym, ◌∙◌, arith}
use Rattle.std.specs.List.{count_by, range_with_len}
use Rattle.mq_tree.specs.Laid.{is_marked}
use Rattle.mq_check.proofs.Counted.{range-le, range-more}
use Rattle.mq_check.proofs.marks.marked_blocks.Goals as goal
use Rattle.mq_check.proofs.marks.marked_blocks.Goals.{then-is_marked, else-is_marked}

pub overflow_add-count : goal.overflow_add-count
overflow_add-count c =
    let g = c.args.geometry in
    let le = range-le (is_marked g c.args.blocks.now) g.meta (c.loop-b.b - g.meta) in
    let limit = g.homes_high in
    omega (arith, le, limit)

-- one more block of the range
one-more : (p : ℕ → Bool) (a b n count next : ℕ) (here : Bool) → a + n ≡ b → here ≡ p b → count ≡ count_by p (range_with_len a n) → next ≡ count + cond here 1 0 → next ≡ count_by p (range_with_len a (n + 1))
one-more p a b n count next here at is so then =
    let more = range-more p a n in
    let same : p b ≡ p (a + n) = ap p (sym at) in
    let one : ◌≡◌ {A = ℕ} (cond here 1 0) (cond (p (a + n)) 1 0) = ap (λ (x : Bool). cond x 1 0) (is ∙ same) in
    omega (arith, more, one, so, then)

pub loop-b-preserved : goal.loop-b-preserved
loop-b-preserved c =
    let g = c.args.geometry in
    let p = is_marked g c.args.blocks.now in
    let n = c.loop-b.b - g.meta in
    let next : c.if-is_marked.count ≡ c.loop-b.count + cond c.is_marked.result 1 0 = elim c.if-is_marked.branch [
      | then-is_marked w ↦ let one : ◌≡◌ {A = ℕ} (cond c.is_marked.result 1 0) 1 = ap (λ (x : Bool). cond x 1 0) w.if-is_marked.true in omega (arith, one)
      | else-is_marked w ↦ let none : ◌≡◌ {A = ℕ} (cond c.is_marked.result 1 0) 0 = ap (λ (x : Bool). cond x 1 0) w.if-is_marked.false in omega (arith, none)
    ] in
    let all = one-more p g.meta c.loop-b.b n c.loop-b.count c.if-is_marked.count c.is_marked.result (omega arith) c.is_marked.ensures c.loop-b.invariant.count next in
    let on : n + 1 ≡ c.loop-b.b + 1 - g.meta = omega arith in
    record { low = omega arith; high = omega arith; count = all ∙ ap (λ (k : ℕ). count_by p (range_with_len g.meta k)) on }
