-- Which home blocks a base needs at home, and what stands there.
use Rattle.std.specs.Prelude.{◌≡◌, ℕ, ◌-◌, ◌*◌, Bool, true, false, List, [], ◌∷◌, Option, Some, None, is_some, nat_lt, nat_le, slice_index_or, if◌then◌else◌}
use Rattle.mq_blocks.specs.Blocks.{block_at}
use Rattle.mq_blocks.specs.Drive.{PortState, index_of}
use Rattle.mq_blocks.specs.Geometry.{homes_of}
use Rattle.mq_blocks.specs.declared.command.Command.{Command}
use Rattle.mq_blocks.specs.declared.geometry.Geometry.{Geometry}
use Rattle.mq_ledger.specs.History.{map_after, last, upto}
use Rattle.mq_ledger.specs.State.{State, front_of, start_map}

-- the content of a block in the map after the base, where no number above it and up to the front
-- changed the block
abbrev pub due_at : State → ℕ → ℕ → Option (List ℕ)
due_at s b x =
    if nat_lt x (homes_of s.geometry)
    then (if nat_le (last s.base (upto (front_of s) s.history) x) b
    then map_after (start_map s.start) (upto (front_of s) s.history) x else None)
    else None

-- the home block that a command writes
abbrev pub home_of : Geometry → Command → Option ℕ
home_of g c = if nat_lt c.lba (g.queues * g.area) then None else Some (c.lba - g.queues * g.area)

abbrev pub is_due : State → ℕ → Option ℕ → Bool
is_due s b None = false
is_due s b (Some x) = is_some (due_at s b x)

-- none of these commands writes a block that is due
abbrev pub writes_none : State → ℕ → List Command → Bool
writes_none s b [] = true
writes_none s b (c ∷ cs) = if is_due s b (home_of s.geometry c) then false else writes_none s b cs

-- of these ports, no posted command does
abbrev pub post_none : State → ℕ → List PortState → Bool
post_none s b [] = true
post_none s b (p ∷ ps) = if writes_none s b p.posted then post_none s b ps else false

-- this was written last, and is certain except for what posted commands write
pub record Holds (p : PortState) (lba : ℕ) (content : List ℕ) : Type 0 where
  pub certain : slice_index_or p.certain (index_of p lba) false ≡ true
  pub is : block_at p.blocks (index_of p lba) ≡ content
