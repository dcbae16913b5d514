use Rattle.std.proofs.Common.{◌≡◌, ℕ, List, All, drop, length}
use Rattle.mq_ledger.proofs.RecordsLists.{Goes}
use Rattle.mq_ledger.proofs.form.are_whole.Given as goal

-- it holds of all exactly where it holds of the rest
abbrev pub invariant-loop-write : goal.invariant-loop-write
invariant-loop-write l = Goes (All (λ (w : ℕ × List ℕ). length w.1 ≡ 4096) l.writes) (All (λ (w : ℕ × List ℕ). length w.1 ≡ 4096) (drop l.write-index l.writes))
