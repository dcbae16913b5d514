-- The ends of chains, which are their oldest transactions.
use Rattle.std.specs.Prelude.{◌≡◌, ◌≢◌, ◌<◌, ◌≤◌, ℕ, ◌-◌, List, [], length, Some, MatchOption, slice_get}
use Rattle.mq_blocks.specs.Descriptor.{Descriptor}
use Rattle.mq_recover.specs.Recover.{chain_at}
use Rattle.mq_recover.specs.declared.oldest.Least.{Least}
use Rattle.mq_recover.specs.declared.refusal.ImageFault.{ImageFault}
use Rattle.mq_recover.specs.declared.refusal.ImageFault.TheVariants as fault

-- the chain ends with this number
abbrev pub EndsWith : List Descriptor → ℕ → Type 0
EndsWith ds number = (d : Descriptor) × (slice_get ds (length ds - 1) ≡ Some d) × (d.number ≡ number)

-- the first `count` chains are empty
abbrev pub AreEmpty : ℕ → List (List Descriptor) → Type 0
AreEmpty count chains = (q : ℕ) → q < count → chain_at chains q ≡ []

-- among the first chains none ends with a lesser number
abbrev pub IsLeastEnd : ℕ → List (List Descriptor) → ℕ → Type 0
IsLeastEnd count chains number = (q n : ℕ) → q < count → EndsWith (chain_at chains q) n → number ≤ n

-- among these chains no other ends with the number
abbrev pub IsAlone : (count : ℕ) → List (List Descriptor) → (number first : ℕ) → Type 0
IsAlone count chains number first =
    (q : ℕ) → q < count → q ≢ first → EndsWith (chain_at chains q) number → ⊥

-- this is the next after the first that ends with the number
pub record IsNext (count : ℕ) (chains : List (List Descriptor)) (number first second : ℕ) : Type 0 where
  pub order : first < second
  pub within : second < count
  pub ends : EndsWith (chain_at chains second) number
  pub others : IsAlone second chains number first

-- the least number that ends one of the first chains, and the least two queues whose chains end with it
pub record IsLeast (count : ℕ) (chains : List (List Descriptor)) (l : Least) : Type 0 where
  pub within : l.first < count
  pub ends : EndsWith (chain_at chains l.first) l.number
  pub least : IsLeastEnd count chains l.number
  pub second : MatchOption l.second (IsAlone count chains l.number l.first)
      (IsNext count chains l.number l.first)

-- one chain ends with the least number, and no other with the same
pub record IsOldest (chains : List (List Descriptor)) (q : ℕ) : Type 0 where
  pub number : ℕ
  pub within : q < length chains
  pub ends : EndsWith (chain_at chains q) number
  pub least : IsLeastEnd (length chains) chains number
  pub alone : IsAlone (length chains) chains number q

-- two chains end with the least number, and these are the least two
pub record AreTwoOldest (chains : List (List Descriptor)) (number first second : ℕ) : Type 0 where
  pub ends : EndsWith (chain_at chains first) number
  pub least : IsLeastEnd (length chains) chains number
  pub next : IsNext (length chains) chains number first second

abbrev pub RefusesEnds : List (List Descriptor) → ImageFault → Type 0
RefusesEnds chains (fault.Twice number first second) = AreTwoOldest chains number first second
RefusesEnds chains (fault.Bad q cause) = ⊥
RefusesEnds chains (fault.Limit base) = ⊥
RefusesEnds chains fault.OutOfMemory = ⊥
