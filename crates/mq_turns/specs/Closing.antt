-- What lies in the slots of a desk that has ended, and what is taken out of them.
use Rattle.std.specs.Prelude.{◌≡◌, ℕ, ◌+◌, ◌<◌, List, slice_get, Option, Some}
use mathlib.Core.Option.{some}
use lib.ListN.{get_elem?}
use Rattle.mq_turns.specs.declared.turn.Item.{Item}
use Rattle.mq_turns.specs.declared.turn.Item.TheVariants.{Page, Side, Root}

module _ {M P Q R E : Type 0} where
  -- n pages lie there first, then m sides, then the root
  abbrev pub HasPages : ℕ → List (Option (Item M P Q R E)) → Type 0
  HasPages n xs = (k : ℕ) → k < n → (p : P) × (get_elem? xs k ≡ some (Some (Page p)))

  abbrev pub HasSides : ℕ → ℕ → List (Option (Item M P Q R E)) → Type 0
  HasSides n m xs = (k : ℕ) → k < m → (q : Q) × (get_elem? xs (n + k) ≡ some (Some (Side q)))

  abbrev pub HasRoot : ℕ → List (Option (Item M P Q R E)) → Type 0
  HasRoot n xs = (r : R) × (get_elem? xs n ≡ some (Some (Root r)))

  -- these are the pages, the sides and the root that lie there
  abbrev pub ArePages : List (Option (Item M P Q R E)) → List P → Type 0
  ArePages xs pages = (b : ℕ) (p : P) → slice_get pages b ≡ Some p → get_elem? xs b ≡ some (Some (Page p))

  abbrev pub AreSides : ℕ → List (Option (Item M P Q R E)) → List Q → Type 0
  AreSides n xs sides =
      (i : ℕ) (q : Q) → slice_get sides i ≡ Some q → get_elem? xs (n + i) ≡ some (Some (Side q))

  abbrev pub IsRoot : ℕ → List (Option (Item M P Q R E)) → R → Type 0
  IsRoot n xs r = get_elem? xs n ≡ some (Some (Root r))
