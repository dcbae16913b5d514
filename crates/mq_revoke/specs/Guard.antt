-- What a plan says of a transaction that is drawn by it.
use Rattle.std.specs.Prelude.{◌≡◌, ◌<◌, ◌≤◌, ◌↔◌, ℕ, ◌+◌, true, All, List, ◌++◌, length, Some, None}
use Rattle.mq_blocks.specs.Descriptor.{AreRising, AreApart}
use Rattle.mq_blocks.specs.Geometry.{homes_of}
use Rattle.mq_blocks.specs.Journal.{is_among, number_limit}
use Rattle.mq_ledger.specs.History.{blocks_of, map_after, last, last_logged}
use Rattle.mq_ledger.specs.KnownJournal.{KnownJournal}
use Rattle.mq_ledger.specs.declared.tx.Tx.{Tx}
use Rattle.mq_revoke.specs.Placed.{Placed}
use Rattle.mq_revoke.specs.declared.placement.Planned.{Planned}

-- What is planned with is what the history says of the block.
pub record IsOfHistory (k : KnownJournal) (w : Planned) : Type 0 where
  pub was_free : (w.was_free ≡ true) ↔ (map_after k.start k.history w.block ≡ None)
  pub version : w.version ≡ last k.base k.history w.block
  pub last_logged : w.last_logged ≡ last_logged k.base k.history w.block

-- where a transaction writes its blocks
abbrev pub placed_of : Tx → Placed
placed_of t = record { logged = blocks_of t.logged; direct = blocks_of t.direct; revoked = t.revoked }

-- The rest of a draw's guard, of which a plan says nothing: the transaction's queue and number, its
-- contents, and the blocks that it frees.
pub record MeetsRest (k : KnownJournal) (t : Tx) : Type 0 where
  pub queue : t.queue < k.geometry.queues
  pub number : t.number ≡ k.base + length k.history + 1
  pub limit : t.number ≤ number_limit
  pub whole : All (λ w. length w.1 ≡ 4096) (t.logged ++ t.direct)
  pub freed : AreRising 0 (homes_of k.geometry) t.freed
  pub kept : AreApart t.freed (blocks_of (t.logged ++ t.direct))
  pub there : (x : ℕ) → is_among x t.freed ≡ true
      → (block : List ℕ) × (map_after k.start k.history x ≡ Some block)
