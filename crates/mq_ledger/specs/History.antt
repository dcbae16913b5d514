-- The history of a journal: its transactions, the newest first. Each word here is a recursion down
-- this list.
use Rattle.std.specs.Prelude.{◌≡◌, ◌⊎◌, ℕ, ◌+◌, Bool, true, false, ◌&&◌, List, [], ◌∷◌, ◌++◌, length, map, nat_eq, nat_le, is_some, if◌then◌else◌}
use Rattle.mq_blocks.specs.Journal.{is_among}
use Rattle.mq_blocks.specs.Machine.{Map, Writes, Transaction, write_of, after_all, last_change}
use Rattle.mq_blocks.specs.Machine as machine
use Rattle.mq_ledger.specs.declared.tx.Tx.{Tx}

abbrev pub blocks_of : Writes → List ℕ
blocks_of ws = map (λ w. w.0) ws

-- how many blocks it writes
abbrev pub writes : Tx → ℕ
writes t = length t.logged + length t.direct

-- what it does to the map
abbrev pub change_of : Tx → Transaction
change_of t = record { number = t.number; writes = t.logged ++ t.direct; freed = t.freed }

abbrev pub map_after : Map → List Tx → Map
map_after m ts = after_all m (map change_of ts)

-- it writes or frees the block
abbrev pub changes : Tx → ℕ → Bool
changes t x = machine.changes (change_of t) x

-- the number of the last of these that changed the block, else the base
abbrev pub last : ℕ → List Tx → ℕ → ℕ
last base ts x = last_change base (map change_of ts) x

-- the number of the last of these that logged the block, else the base
abbrev pub last_logged : ℕ → List Tx → ℕ → ℕ
last_logged base [] x = base
last_logged base (t ∷ ts) x = if is_some (write_of t.logged x) then t.number else last_logged base ts x

-- of these, a copy of the block above the number is revoked by no later one
abbrev pub is_exposed : ℕ → List Tx → ℕ → Bool
is_exposed n [] x = false
is_exposed n (t ∷ ts) x =
    if nat_le t.number n then false
    else (if is_some (write_of t.logged x) then true
    else (if is_among x t.revoked then false else is_exposed n ts x))

-- the numbers follow one another from the base on
abbrev pub AreNumbered : ℕ → List Tx → Type 0
AreNumbered base [] = Unit {0}
AreNumbered base (t ∷ ts) = (t.number ≡ base + length ts + 1) × AreNumbered base ts

-- the transaction stands in the history, and these are the ones before it
abbrev pub IsAt : Tx → List Tx → List Tx → Type 0
IsAt t ts [] = ⊥
IsAt t ts (u ∷ txs) = ((u ≡ t) × (txs ≡ ts)) ⊎ IsAt t ts txs

-- those with a number up to n
abbrev pub upto : ℕ → List Tx → List Tx
upto n [] = []
upto n (t ∷ ts) = if nat_le t.number n then t ∷ ts else upto n ts

abbrev pub of_queue : ℕ → List Tx → List Tx
of_queue q [] = []
of_queue q (t ∷ ts) = if nat_eq t.queue q then t ∷ of_queue q ts else of_queue q ts

-- all of these have it
abbrev pub all_of : (Tx → List Tx → Bool) → List Tx → Bool
all_of has [] = true
all_of has (t ∷ ts) = has t ts && all_of has ts

-- the longest beginning of the history whose members all have it
abbrev pub part_of : (Tx → List Tx → Bool) → List Tx → List Tx
part_of has [] = []
part_of has (t ∷ ts) = if all_of has (t ∷ ts) then t ∷ ts else part_of has ts

-- the first list is what stood before some newer ones
abbrev pub IsPart : List Tx → List Tx → Type 0
IsPart txs ws = (newer : List Tx) × (ws ≡ newer ++ txs)
