-- The fields of a block, and which of them is refused: the first in order of offset that is wrong.
use Rattle.std.specs.Prelude.{◌≡◌, ℕ, zero, suc, ◌+◌, Bool, List, [], ◌∷◌, Option, Some, None, Result, MatchResult, nat_eq, if◌then◌else◌, replicate}
use Rattle.mq_blocks.specs.Windows.{number_at}
use Rattle.mq_layout.specs.declared.refusal.LayoutCause.{LayoutCause}
use Rattle.mq_layout.specs.declared.refusal.LayoutCause.TheVariants.{Zero}
use Rattle.mq_layout.specs.declared.refusal.LayoutRefusal.{LayoutRefusal}

-- `count` bytes, all 0
unfoldable pub zero_bytes : ℕ → List ℕ
zero_bytes count = replicate count 0

abbrev pub refused : LayoutCause → ℕ → LayoutRefusal
refused cause offset = record { cause = cause; offset = offset }

-- a field at this offset: it is right, or is refused for this cause
abbrev pub field : LayoutCause → ℕ → Bool → Option LayoutRefusal
field cause offset right = if right then None else Some (refused cause offset)

-- `count` numbers of `size` bytes each, from an offset on, which have to be 0: the first that is not.
unfoldable pub nonzero : (size count from : ℕ) → List ℕ → Option LayoutRefusal
nonzero size zero from block = None
nonzero size (suc count) from block =
    if nat_eq (number_at size from block) 0 then nonzero size count (from + size) block
    else Some (refused Zero from)

-- the first field that is refused
unfoldable pub first : List (Option LayoutRefusal) → Option LayoutRefusal
first [] = None
first (None ∷ fields) = first fields
first (Some refusal ∷ fields) = Some refusal

-- A reading is refused exactly where a field is wrong, and names the first.
abbrev pub Finds : {X : Type 0} → Option LayoutRefusal → Result X LayoutRefusal → Type 0
Finds wrong result = MatchResult result (λ _. wrong ≡ None) (λ e. wrong ≡ Some e)
