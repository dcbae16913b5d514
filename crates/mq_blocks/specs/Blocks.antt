-- Contents of blocks: lists of 4,096 bytes.
use Rattle.std.specs.Prelude.{ℕ, List, Option, Some, None, replicate, slice_index_or}

-- the content of a block whose bytes are all this one
unfoldable pub filled : ℕ → List ℕ
filled byte = replicate 4096 byte

-- the content of a block that was never written
unfoldable pub zeros : List ℕ
zeros = replicate 4096 0

-- a block that is absent from a list of stored blocks reads as zeros
abbrev pub content : Option (List ℕ) → List ℕ
content None = zeros
content (Some block) = block

-- the content of the k-th stored block
abbrev pub block_at : List (Option (List ℕ)) → ℕ → List ℕ
block_at stored k = content (slice_index_or stored k None)
