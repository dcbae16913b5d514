-- Two lists of notices are merged by their indexes.
use Rattle.std.specs.Prelude.{◌≡◌, ◌+◌, ◌≤◌, ℕ, suc, nat_eq, Bool, false, List, [], ◌∷◌, drop, length, Option}
use Rattle.mq_notices.specs.Notices.{Merged, notices_from}
use Rattle.mq_notices.specs.declared.notice.Notice.{Notice}

-- whether the first one has this index
abbrev pub has_head : ℕ → List Notice → Bool
has_head index [] = false
has_head index (x ∷ xs) = nat_eq x.index index

-- The notice is the next one of all, with this index, and the place of the list that had it went on.
pub record IsNext (mine theirs : List Notice) (a b c d index : ℕ) (x : Notice) : Type 0 where
  pub on : c + d ≡ suc (a + b)
  pub first_in : c ≤ length mine
  pub second_in : d ≤ length theirs
  pub rest : (n : Option ℕ) (ns : List (Option ℕ))
      → Merged (drop a mine) (drop b theirs) (notices_from index (n ∷ ns))
      → (x.number ≡ n) × Merged (drop c mine) (drop d theirs) (notices_from (suc index) ns)
