-- What is certain of the journal area of a port, as long as no command of it has failed.
use Rattle.std.specs.Prelude.{◌≡◌, ◌<◌, ℕ, [], IsSome, true, false, slice_index_or}
use Rattle.mq_blocks.specs.Drive.{PortState}

-- each block of the area is certain, but for posted writes
abbrev pub IsAreaCertain : PortState → Type 0
IsAreaCertain s = (k : ℕ) → k < s.area_size → slice_index_or s.certain k false ≡ true

-- or a command has failed
abbrev pub IsCertainUnlessFailed : PortState → Type 0
IsCertainUnlessFailed s = s.failed ≡ [] → IsAreaCertain s

-- the base of a queue's port, which nothing uses, is one word
abbrev pub HasOneBase : PortState → Type 0
HasOneBase s = IsSome s.queue → s.stored_base ≡ s.base
