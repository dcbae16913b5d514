-- Numbers that were served one after another.
use Rattle.std.specs.Prelude.{◌≡◌, ◌++◌, ℕ, List, [], ◌∷◌}

module _ {S : Type 0} (step : ℕ → S → S → Type 0) where
  -- A server has served these numbers, one after another, from one state to the other.
  pub data Serves (from : S) : List ℕ → S → Type 0 where
    begins : Serves from [] from
    goes : {ns : List ℕ} {n : ℕ} {old new : S}
        → Serves from ns old → step n old new → Serves from (ns ++ n ∷ []) new

  -- The numbers that it has served are `old` before and `new` afterwards.
  pub record ServesMore (old new : List ℕ) (from to : S) : Type 0 where
    pub more : List ℕ
    pub added : new ≡ old ++ more
    pub serves : Serves from more to
