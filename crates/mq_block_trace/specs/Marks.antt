-- Which blocks are live after a text.
use Rattle.std.specs.Prelude.{◌≡◌, ◌<◌, ◌+◌, ◌&&◌, not, ℕ, zero, suc, Bool, true, false, List, [], ◌∷◌, is_some, slice_index_or, nat_eq, if◌then◌else◌}
use Rattle.mq_blocks.specs.Machine.{Map}
use Rattle.mq_block_text.specs.declared.item.BlockItem.{BlockItem}
use Rattle.mq_block_text.specs.declared.item.BlockItem.TheVariants.{Set, Free}

-- whether a block is live after a line, by whether it was before
abbrev pub marked : List BlockItem → ℕ → Bool → Bool
marked [] b old = old
marked (Set c v ∷ is) b old = if nat_eq c b then true else marked is b old
marked (Free c ∷ is) b old = if nat_eq c b then false else marked is b old

-- each block's mark says whether it is in the map
abbrev pub AreMarks : Map → List Bool → Type 0
AreMarks m marks = (b : ℕ) → b < 256 → slice_index_or marks b false ≡ is_some (m b)

-- the marks after a line, by those before it
abbrev pub AreMarked : List BlockItem → (before after : List Bool) → Type 0
AreMarked line before after =
    (b : ℕ) → b < 256 → slice_index_or after b false ≡ marked line b (slice_index_or before b false)

-- the blocks that are live by the first marks and aren't by the second, from b on, so many
abbrev pub dropped_from : (before after : List Bool) → (b n : ℕ) → List ℕ
dropped_from before after b zero = []
dropped_from before after b (suc n) =
    if slice_index_or before b false && not (slice_index_or after b false) then b ∷ dropped_from before after (b + 1) n
    else dropped_from before after (b + 1) n
