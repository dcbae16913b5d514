-- Blocks that a cut leaves as they are.
use Rattle.std.proofs.Common.{◌≡◌, ◌≢◌, ◌<◌, ◌≤◌, ℕ, List, ◌∷◌, All, subst, arith}
use Rattle.mq_blocks.specs.declared.command.Command.{Command}
use Rattle.mq_drive.specs.Slots.{index_in}

-- the command writes one of n blocks
abbrev pub IsOwn : ℕ → ℕ → ℕ → ℕ → Command → Type 0
IsOwn area_first area_size homes_first n c = (area_first ≤ c.lba) × (index_in area_first area_size homes_first c.lba < n)

-- it writes another block than this one
abbrev pub IsOther : ℕ → ℕ → ℕ → ℕ → Command → Type 0
IsOther area_first area_size homes_first k c = index_in area_first area_size homes_first c.lba ≢ k

pub first_of : (P : Command → Type 0) (x : Command) (rest all : List Command) → all ≡ x ∷ rest → All P all → P x
first_of P x rest all is holds = subst (λ (l : List Command). All P l) is holds 0 x (omega arith)
