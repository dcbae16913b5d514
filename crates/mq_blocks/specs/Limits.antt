-- How much a ring and a descriptor hold, and which version of descriptors is written. The same numbers stand
-- in the code's constants.
use Rattle.std.specs.Prelude.{ℕ}

-- the slots of a queue's ring
abbrev pub depth : ℕ
depth = 4096

-- how many of them may be in use at once: from the head to the staged end one slot stays free, so that the
-- one before the head is never written
abbrev pub usable_depth : ℕ
usable_depth = 4095

-- the most blocks that a descriptor lists on any drive, logged and revoked together
abbrev pub list_limit : ℕ
list_limit = 2000

-- the version that is written
abbrev pub newest_version : ℕ
newest_version = 2
