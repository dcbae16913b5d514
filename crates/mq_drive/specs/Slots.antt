-- The slots of a ring, as flushed and as staged.
use Rattle.std.specs.Prelude.{◌≡◌, ◌≢◌, ◌<◌, ◌≤◌, ℕ, ◌+◌, ◌-◌, ◌%◌, List, [], length, slice_index_or, nat_lt, if◌then◌else◌}
use Rattle.mq_blocks.specs.Drive.{AreCounted, AreCounted-prop}
use Rattle.mq_blocks.specs.Limits.{depth}
use Rattle.mq_blocks.specs.declared.command.Command.{Command}

-- the two agree but in the slots of the counts from `from` up to `to`
abbrev pub AreSettled : List (List ℕ) → List (List ℕ) → ℕ → ℕ → Type 0
AreSettled flushed staged from to =
    (k : ℕ) → k < length staged → ((c : ℕ) → from ≤ c → c < to → c % depth ≢ k)
    → slice_index_or flushed k [] ≡ slice_index_or staged k []

-- the commands of staged entries: from the doorbell on, one for each count
abbrev pub AreStaged : ℕ → List Command → Type 0
AreStaged doorbell cs = AreCounted doorbell (doorbell + length cs) cs

pub AreStaged-prop : (doorbell : ℕ) (cs : List Command) → IsProp (AreStaged doorbell cs)
AreStaged-prop doorbell cs = AreCounted-prop doorbell (doorbell + length cs) cs

-- where a block stands among those of a port
abbrev pub index_in : ℕ → ℕ → ℕ → ℕ → ℕ
index_in area_first area_size homes_first lba =
    if nat_lt lba homes_first then lba - area_first else area_size + (lba - homes_first)
