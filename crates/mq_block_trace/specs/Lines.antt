-- What a block text means: each line is one transaction on the map of home blocks.
use Rattle.std.specs.Prelude.{ℕ, zero, suc, ◌+◌, List, [], ◌∷◌, Option, Some, None, slice_index_or, nat_eq, if◌then◌else◌}
use Rattle.mq_blocks.specs.Blocks.{filled}
use Rattle.mq_blocks.specs.Machine.{Map, Writes, Transaction, after_all}
use Rattle.mq_block_text.specs.declared.item.BlockItem.{BlockItem}
use Rattle.mq_block_text.specs.declared.item.BlockItem.TheVariants.{Set, Free}

-- the byte with which a line fills a block
abbrev pub set_in : List BlockItem → ℕ → Option ℕ
set_in [] b = None
set_in (Set c v ∷ is) b = if nat_eq c b then Some v else set_in is b
set_in (Free c ∷ is) b = set_in is b

-- The blocks that a line frees. Some may be free before it, which leaves the map as it is.
abbrev pub freed_in : List BlockItem → List ℕ
freed_in [] = []
freed_in (Set c v ∷ is) = freed_in is
freed_in (Free c ∷ is) = c ∷ freed_in is

abbrev pub with_write : ℕ → Option ℕ → Writes → Writes
with_write b None ws = ws
with_write b (Some v) ws = (b, filled v) ∷ ws

-- the writes that fill blocks with these bytes, from a block on, so many, by rising blocks
abbrev pub writes_from : (ℕ → Option ℕ) → ℕ → ℕ → Writes
writes_from fill b zero = []
writes_from fill b (suc n) = with_write b (fill b) (writes_from fill (b + 1) n)

-- block texts name the blocks below this one
unfoldable pub named : ℕ
named = 256

-- the transaction of a line: it writes the blocks that the line sets, and frees those that it frees
abbrev pub transaction_of : ℕ → List BlockItem → Transaction
transaction_of number is =
    record { number = number; writes = writes_from (set_in is) 0 named; freed = freed_in is }

abbrev pub line_at : List (List BlockItem) → ℕ → List BlockItem
line_at lines k = slice_index_or lines k []

-- the transactions of the first n lines, newest first, numbered from 1
abbrev pub transactions_of : List (List BlockItem) → ℕ → List Transaction
transactions_of lines zero = []
transactions_of lines (suc n) = transaction_of (n + 1) (line_at lines n) ∷ transactions_of lines n

-- all blocks are free
abbrev pub empty_map : Map
empty_map b = None

-- the map after the first n lines
abbrev pub map_after : List (List BlockItem) → ℕ → Map
map_after lines n = after_all empty_map (transactions_of lines n)

abbrev pub live_one : ℕ → Option (List ℕ) → List (ℕ × ℕ) → List (ℕ × ℕ)
live_one b None es = es
live_one b (Some block) es = (b, slice_index_or block 0 0) ∷ es

-- the blocks that are not free, from `low` on, so many, each with its first byte
abbrev pub live_from : Map → ℕ → ℕ → List (ℕ × ℕ)
live_from m b zero = []
live_from m b (suc n) = live_one b (m b) (live_from m (b + 1) n)
