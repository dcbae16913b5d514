-- Maps of home blocks, transactions, and what a list of transactions makes of a map.
use Rattle.std.specs.Prelude.{◌≡◌, ℕ, Bool, true, List, [], ◌∷◌, length, Option, Some, None, nat_eq, if◌then◌else◌, map, All, is_some}
use Rattle.mq_blocks.specs.Descriptor.{AreRising, AreApart}
use Rattle.mq_blocks.specs.Journal.{is_among}

-- home blocks with their contents; a block that is not in the map is free
abbrev pub Map : Type 0
Map = ℕ → Option (List ℕ)

abbrev pub Writes : Type 0
Writes = List (ℕ × List ℕ)

-- the change from one map to the next
pub record Transaction : Type 0 where
  pub number : ℕ
  pub writes : Writes
  pub freed : List ℕ

-- A transaction on a drive with `homes` home blocks: it writes rising blocks of 4,096 bytes, and
-- frees none that it writes.
pub record IsTransaction (homes : ℕ) (t : Transaction) : Type 0 where
  pub rising : AreRising 0 homes (map (λ w. w.0) t.writes)
  pub whole : All (λ w. length w.1 ≡ 4096) t.writes
  pub apart : AreApart t.freed (map (λ w. w.0) t.writes)

abbrev pub write_of : Writes → ℕ → Option (List ℕ)
write_of [] b = None
write_of (w ∷ ws) b = if nat_eq w.0 b then Some w.1 else write_of ws b

abbrev pub or_kept : Option (List ℕ) → Option (List ℕ) → Option (List ℕ)
or_kept (Some v) old = Some v
or_kept None old = old

-- the map after a transaction: the freed blocks are gone, and the written ones set
unfoldable pub after : Map → Transaction → Map
after m t b = or_kept (write_of t.writes b) (if is_among b t.freed then None else m b)

-- the map after transactions, the newest first
abbrev pub after_all : Map → List Transaction → Map
after_all m [] = m
after_all m (t ∷ ts) = after (after_all m ts) t

-- the transaction writes or frees the block
abbrev pub changes : Transaction → ℕ → Bool
changes t b = if is_some (write_of t.writes b) then true else is_among b t.freed

-- the number of the last of them, the newest first, that changed the block, else the base
abbrev pub last_change : ℕ → List Transaction → ℕ → ℕ
last_change base [] b = base
last_change base (t ∷ ts) b = if changes t b then t.number else last_change base ts b
