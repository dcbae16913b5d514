-- A feeder: the updates of a history that no replica has acknowledged yet.
use Rattle.std.specs.Prelude.{◌≡◌, ℕ, ◌+◌, ◌-◌, List, [], ◌∷◌, ◌++◌, length, drop, min, nat_le, if◌then◌else◌}
use Rattle.mq_replica.specs.declared.update.Update.{Update}

pub record FeederState : Type 0 where
  -- the greatest number that is acknowledged, and the updates above it, the oldest first
  pub acknowledged : ℕ
  pub waiting : List Update

-- the last number that was pushed
abbrev pub last_of : FeederState → ℕ
last_of f = f.acknowledged + length f.waiting

-- their numbers follow one another from a number on
abbrev pub AreNumbered : ℕ → List Update → Type 0
AreNumbered n [] = Unit {0}
AreNumbered n (u ∷ us) = (u.number ≡ n + 1) × AreNumbered (n + 1) us

-- what holds of every feeder
pub record IsFeeder (f : FeederState) : Type 0 where
  pub numbers : AreNumbered f.acknowledged f.waiting

-- where a replica has reached a number: the acknowledged number never falls, and is never above the last
abbrev pub heard_to : ℕ → FeederState → ℕ
heard_to reached f = if nat_le reached f.acknowledged then f.acknowledged else min reached (last_of f)

abbrev pub after_heard : ℕ → FeederState → FeederState
after_heard reached f = record {
  acknowledged = heard_to reached f;
  waiting = drop (heard_to reached f - f.acknowledged) f.waiting;
}

abbrev pub after_push : Update → FeederState → FeederState
after_push u f = record { acknowledged = f.acknowledged; waiting = f.waiting ++ u ∷ [] }
