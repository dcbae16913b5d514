-- What is known of the whole journal, apart from what its ports show.
use Rattle.std.specs.Prelude.{◌≡◌, ◌<◌, ◌≤◌, ℕ, ◌+◌, Bool, true, false, All, List, ◌∷◌, ◌++◌, length, Some, None}
use Rattle.mq_blocks.specs.Descriptor.{AreRising, AreApart}
use Rattle.mq_blocks.specs.Geometry.{homes_of, zone_of, write_limit}
use Rattle.mq_blocks.specs.Journal.{is_among, number_limit}
use Rattle.mq_blocks.specs.Machine.{Map}
use Rattle.mq_blocks.specs.declared.geometry.Geometry.{Geometry}
use Rattle.mq_ledger.specs.History.{blocks_of, writes, map_after, last, last_logged, is_exposed, AreNumbered, IsAt, part_of}
use Rattle.mq_ledger.specs.Items.{Entries, AreRead}
use Rattle.mq_ledger.specs.declared.tx.Tx.{Tx}

pub record KnownJournal : Type 0 where
  pub geometry : Geometry
  pub entries : Entries
  -- the map and the number that the history starts from, and the doorbell of each queue there
  pub start : Map
  pub base : ℕ
  pub from : ℕ → ℕ
  pub history : List Tx
  -- which transactions, where these stand before them, are known to be done
  pub done : Tx → List Tx → Bool
  -- the blocks and numbers whose contents are kept at home: a block's content in the map after the number
  pub due : ℕ → ℕ → Bool
  -- the base: recovery needs no transaction up to it
  pub word : ℕ

-- all numbers up to the front are done
abbrev pub front : KnownJournal → ℕ
front k = k.base + length (part_of k.done k.history)

-- What holds of a transaction by itself: no more blocks than it may write, in rising lists, none twice, of
-- which it frees none; the direct ones in its queue's zone, and the revoked ones among them.
pub record IsTx (g : Geometry) (t : Tx) : Type 0 where
  pub queue : t.queue < g.queues
  pub logged : AreRising 0 (homes_of g) (blocks_of t.logged)
  pub direct : AreRising 0 (homes_of g) (blocks_of t.direct)
  pub revoked : AreRising 0 (homes_of g) t.revoked
  pub freed : AreRising 0 (homes_of g) t.freed
  pub whole : All (λ w. length w.1 ≡ 4096) (t.logged ++ t.direct)
  pub few : writes t ≤ write_limit g
  pub apart : AreApart (blocks_of t.logged) (blocks_of t.direct)
  pub kept : AreApart t.freed (blocks_of (t.logged ++ t.direct))
  pub zoned : (x : ℕ) → is_among x (blocks_of t.direct) ≡ true → zone_of g x ≡ Some t.queue
  pub revokes : (x : ℕ) → is_among x t.revoked ≡ true → is_among x (blocks_of t.direct) ≡ true

-- Where these stand before it, each block that it writes directly is free, is settled up to the
-- front, and has no copy in sight above the base, unless it is revoked.
pub record IsPlaced (k : KnownJournal) (t : Tx) (ts : List Tx) : Type 0 where
  pub free : (x : ℕ) → is_among x (blocks_of t.direct) ≡ true → map_after k.start ts x ≡ None
  pub settled : (x : ℕ) → is_among x (blocks_of t.direct) ≡ true → last k.base ts x ≤ front k
  pub hidden : (x : ℕ) → is_among x (blocks_of t.direct) ≡ true → is_among x t.revoked ≡ false
      → is_exposed k.word ts x ≡ false

pub record LogOk (k : KnownJournal) : Type 0 where
  pub entries : AreRead k.entries
  pub numbers : AreNumbered k.base k.history
  pub limit : k.base + length k.history ≤ number_limit
  pub word_low : k.base ≤ k.word
  pub word_high : k.word ≤ front k
  pub due : (x v : ℕ) → k.due x v ≡ true → v ≤ front k
  pub each : (t : Tx) (ts : List Tx) → IsAt t ts k.history → IsTx k.geometry t × IsPlaced k t ts

-- ---- one more transaction

abbrev pub draw_known : Tx → KnownJournal → KnownJournal
draw_known t k = record k { history = t ∷ k.history }

-- The part of a draw's guard that is about the history: its number is the next, it frees blocks of the
-- map, its direct blocks are free and settled, and those that have a copy above the base are revoked.
pub record MayDraw (k : KnownJournal) (t : Tx) : Type 0 where
  pub form : IsTx k.geometry t
  pub number : t.number ≡ k.base + length k.history + 1
  pub limit : t.number ≤ number_limit
  pub freed : (x : ℕ) → is_among x t.freed ≡ true
      → (block : List ℕ) × (map_after k.start k.history x ≡ Some block)
  pub free : (x : ℕ) → is_among x (blocks_of t.direct) ≡ true → map_after k.start k.history x ≡ None
  pub settled : (x : ℕ) → is_among x (blocks_of t.direct) ≡ true → last k.base k.history x ≤ front k
  pub revoked : (x : ℕ) → is_among x (blocks_of t.direct) ≡ true
      → k.word < last_logged k.base k.history x → is_among x t.revoked ≡ true
