-- The words of lines: queues, blocks, and blocks with their bytes.
use Rattle.std.specs.Prelude.{ℕ, ◌-◌, ◌==◌, nat_lt, if◌then◌else◌, Option, Some, None, List, [], ◌∷◌, length, drop, take}
use Rattle.mq_block_text.specs.Words.{byte_in, number_in}
use Rattle.mq_blocks.specs.Geometry.{queues_of, homes_of}
use Rattle.mq_blocks.specs.declared.geometry.Geometry.{Geometry}

abbrev pub below : ℕ → Option ℕ → Option ℕ
below end None = None
below end (Some n) = if nat_lt n end then Some n else None

-- a queue of the geometry
abbrev pub queue_in : Geometry → List ℕ → Option ℕ
queue_in g word = below (queues_of g) (number_in word)

-- a home block of the geometry
abbrev pub block_in : Geometry → List ℕ → Option ℕ
block_in g word = below (homes_of g) (number_in word)

-- ---- a block and the byte that all of it gets, as `5=ab`

abbrev pub both : Option ℕ → Option ℕ → Option (ℕ × ℕ)
both None byte = None
both (Some block) None = None
both (Some block) (Some byte) = Some (block, byte)

-- the last three bytes are an equals sign and two digits
abbrev pub ended_by : Option ℕ → List ℕ → Option (ℕ × ℕ)
ended_by block (equals ∷ high ∷ low ∷ []) = if equals == 61 then both block (byte_in high low) else None
ended_by block text = None

abbrev pub set_in : Geometry → List ℕ → Option (ℕ × ℕ)
set_in g word =
    ended_by (block_in g (take (length word - 3) word)) (drop (length word - 3) word)
