-- Rising numbers.
use Rattle.std.specs.Prelude.{ℕ, Bool, false, List, [], ◌∷◌, drop, nat_eq, nat_lt, if◌then◌else◌}
use Rattle.std.specs.List.{insert}

-- with one more among them
abbrev pub with_number : ℕ → List ℕ → List ℕ
with_number n [] = n ∷ []
with_number n (m ∷ ms) =
    if nat_lt n m then n ∷ m ∷ ms else (if nat_eq n m then m ∷ ms else m ∷ with_number n ms)

abbrev pub starts_with : ℕ → List ℕ → Bool
starts_with n [] = false
starts_with n (m ∷ ms) = nat_eq m n

-- with the number at a place, unless it stands there
abbrev pub put_at : List ℕ → ℕ → ℕ → List ℕ
put_at ns at n = if starts_with n (drop at ns) then ns else insert ns at n
