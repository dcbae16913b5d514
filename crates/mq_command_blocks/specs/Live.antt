-- What the home blocks hold.
use Rattle.std.specs.Prelude.{◌≡◌, ◌<◌, ℕ, List, Option, Some}
use Rattle.mq_blocks.specs.Blocks.{block_at}
use Rattle.mq_blocks.specs.Machine.{Map}

-- the home blocks, of which an absent one is zeros, hold the map's contents
abbrev pub HoldsMap : List (Option (List ℕ)) → Map → Type 0
HoldsMap stored m = (b : ℕ) (v : List ℕ) → b < 256 → m b ≡ Some v → block_at stored b ≡ v
