-- Notices, of which a session pushes all, and a session and a helper take each once.
use Rattle.std.specs.Prelude.{◌≡◌, ◌⊎◌, ℕ, suc, List, [], ◌∷◌, ◌++◌, map, Option, Some, None}
use Rattle.mq_notices.specs.declared.notice.Notice.{Notice}

abbrev pub notice : ℕ → Option ℕ → Notice
notice index number = record { index = index; number = number }

-- notices with these numbers, and with consecutive indexes from n on
abbrev pub notices_from : ℕ → List (Option ℕ) → List Notice
notices_from n [] = []
notices_from n (x ∷ xs) = notice n x ∷ notices_from (suc n) xs

-- what a session pushes for these numbers
abbrev pub some_of : List ℕ → List (Option ℕ)
some_of ns = map (λ n. Some n) ns

-- what it has pushed at its end: the last notice has no number
abbrev pub all_of : List ℕ → List (Option ℕ)
all_of ns = some_of ns ++ None ∷ []

-- the numbers before these, if there is one
abbrev pub with_number : Option ℕ → List ℕ → List ℕ
with_number None ns = ns
with_number (Some n) ns = n ∷ ns

-- the numbers of the notices, in their order
abbrev pub numbers_of : List Notice → List ℕ
numbers_of [] = []
numbers_of (x ∷ xs) = with_number x.number (numbers_of xs)

abbrev pub numbers_in : List (Option ℕ) → List ℕ
numbers_in [] = []
numbers_in (o ∷ os) = with_number o (numbers_in os)

-- one of them is the last notice
abbrev pub HasLast : List Notice → Type 0
HasLast [] = ⊥
HasLast (x ∷ xs) = (x.number ≡ None) ⊎ HasLast xs

-- The third list has what the first two have, each in its order, and nothing else.
pub data Merged {X : Type 0} : List X → List X → List X → Type 0 where
  none : Merged [] [] []
  left : {x : X} {a b c : List X} → Merged a b c → Merged (x ∷ a) b (x ∷ c)
  right : {x : X} {a b c : List X} → Merged a b c → Merged a (x ∷ b) (x ∷ c)
