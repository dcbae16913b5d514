use Rattle.std.proofs.Common.{◌+◌, ℕ, List, length, sym, ap, subst, ◌∙◌, arith}
use Rattle.std.specs.Prelude.{MatchResult}
use Rattle.mq_kv_buckets.specs.Buckets.{IsFirstBad, IsFormed}
use Rattle.mq_kv_buckets.proofs.BucketsChecked.{IsRead, bad-here, checked, read-fits, read-less, read-more, read-none}
use Rattle.mq_kv_buckets.proofs.check.check_bucket.Goals as goal

pub loop-lengths-init : goal.loop-lengths-init
loop-lengths-init c = read-none c.bytes-bytes.result.now

pub returns-in_default-good_key : goal.returns-in_default-good_key
returns-in_default-good_key c =
    let P : List ℕ → Type 0 = λ xs. IsFirstBad xs c.loop-lengths.at in
    let key_is = c.in-Some.ensures.0 in
    let some = c.in-Some.ensures.2 in
    subst P c.bytes-bytes.ensures.is
    (bad-here c.bytes-bytes.result.now c.loop-lengths.last.now c.loop-lengths.at (ap length c.bytes-bytes.ensures.is ∙ c.bytes-bytes.ensures.whole) c.loop-lengths.invariant (omega arith) c.in_default-good_key.ensures)

pub overflow_add-at : goal.overflow_add-at
overflow_add-at c =
    let fits = read-fits c.bytes-bytes.result.now c.loop-lengths.last.now c.in-Some-good_key.key.now c.loop-lengths.at _ (ap length c.bytes-bytes.ensures.is ∙ c.bytes-bytes.ensures.whole) c.loop-lengths.invariant c.in-Some-good_key.ensures in
    let size = c.size-at.ensures in
    omega arith

pub loop-lengths-smaller : goal.loop-lengths-smaller
loop-lengths-smaller c =
    let less = read-less c.bytes-bytes.result.now c.loop-lengths.last.now c.in-Some-good_key.key.now c.loop-lengths.at _ (ap length c.bytes-bytes.ensures.is ∙ c.bytes-bytes.ensures.whole) c.loop-lengths.invariant c.in-Some-good_key.ensures in
    let size = c.size-at.ensures in
    omega arith

pub loop-lengths-preserved : goal.loop-lengths-preserved
loop-lengths-preserved c =
    let P : ℕ → Type 0 = λ n. IsRead c.bytes-bytes.result.now c.in-Some-good_key.key.now (c.loop-lengths.at + n) in
    subst P (sym c.size-at.ensures)
    (read-more c.bytes-bytes.result.now c.loop-lengths.last.now c.in-Some-good_key.key.now c.loop-lengths.at _ (ap length c.bytes-bytes.ensures.is ∙ c.bytes-bytes.ensures.whole) c.loop-lengths.invariant c.in-Some-good_key.ensures)

pub returns : goal.returns
returns c =
    let P : List ℕ → Type 0 = λ xs. MatchResult c.check_zeros.result (λ _. IsFormed xs) (λ k. IsFirstBad xs k) in
    subst P c.bytes-bytes.ensures.is
    (checked c.bytes-bytes.result.now c.loop-lengths.last.now c.loop-lengths.at c.check_zeros.result (ap length c.bytes-bytes.ensures.is ∙ c.bytes-bytes.ensures.whole) c.loop-lengths.invariant c.in_default.ensures c.check_zeros.ensures)
