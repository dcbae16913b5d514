-- The history that is known on a desk over ports, as a list, and what each of its commits and each read is
-- on the map at its number.
use Rattle.std.specs.Prelude.{◌≡◌, ℕ, suc, ◌-◌, ◌≤◌, List, [], ◌∷◌}
use Rattle.mq_blocks.specs.Machine.{Map, after}
use Rattle.mq_ledger.specs.History.{change_of, map_after, upto}
use Rattle.mq_desk_laws.specs.Groups.{GroupView}
use Rattle.mq_desk_laws.specs.Rule.{DeskState, geometry_of, history_of, start_of}
use Rattle.mq_desk_laws.specs.Values.{Values}
use Rattle.mq_turns.specs.Meaning.{newest}

-- numbered one after another from n on
abbrev pub numbered : {E : Type 0} → ℕ → List E → List (ℕ × E)
numbered n [] = []
numbered n (e ∷ es) = (n, e) ∷ numbered (suc n) es

module _ {Q R E : Type 0} (values : Values Q R E) (group : GroupView E) where
  -- the map after all transactions up to the number
  abbrev pub map_at : DeskState values group → ℕ → Map
  map_at K n = map_after (start_of values group K.opening) (upto n (history_of values group K))

  -- The commit ran on the map right before its number, with its replies and its transaction, its blocks are
  -- placed by the rule, and the map at its number is what the transaction makes of the one before.
  pub record IsCommit (K : DeskState values group) (n : ℕ) (e : E) : Type 0 where
    pub does : group.does (geometry_of values group K) (map_at K (n - 1)) e
    pub placed : group.placed (geometry_of values group K)
        (start_of values group K.opening) K.opening.base (upto (n - 1) (history_of values group K)) e
    pub next : map_at K n ≡ after (map_at K (n - 1)) (change_of (group.tx e))

  -- It ran on the map at the number, with its replies, and isn't drawn.
  pub record IsRead (K : DeskState values group) (n : ℕ) (e : E) : Type 0 where
    pub low : K.opening.base ≤ n
    pub high : n ≤ newest K
    pub asks : group.asks (geometry_of values group K) (map_at K n) e
