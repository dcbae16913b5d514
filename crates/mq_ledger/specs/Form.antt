-- The form of a transaction, in two parts: its lists by themselves, and by one another.
use Rattle.std.specs.Prelude.{◌≡◌, ◌<◌, ◌≤◌, ℕ, true, All, List, ◌++◌, length, Some, slice_index}
use Rattle.mq_blocks.specs.Descriptor.{AreRising, AreApart}
use Rattle.mq_blocks.specs.Geometry.{homes_of, zone_of, write_limit}
use Rattle.mq_blocks.specs.Journal.{is_among}
use Rattle.mq_blocks.specs.declared.geometry.Geometry.{Geometry}
use Rattle.mq_ledger.specs.History.{blocks_of, writes}
use Rattle.mq_ledger.specs.Records.{Every}
use Rattle.mq_ledger.specs.declared.tx.Tx.{Tx}

-- a rising list, in the words of a search
abbrev pub IsAscending : List ℕ → Type 0
IsAscending xs = (i j : ℕ) → i ≤ j → j < length xs → slice_index xs i ≤ slice_index xs j

pub record HasLists (g : Geometry) (t : Tx) : Type 0 where
  pub queue : t.queue < g.queues
  pub logged : AreRising 0 (homes_of g) (blocks_of t.logged)
  pub direct : AreRising 0 (homes_of g) (blocks_of t.direct)
  pub revoked : AreRising 0 (homes_of g) t.revoked
  pub freed : AreRising 0 (homes_of g) t.freed
  pub few : writes t ≤ write_limit g

pub record FitsTogether (g : Geometry) (t : Tx) : Type 0 where
  pub whole : All (λ w. length w.1 ≡ 4096) (t.logged ++ t.direct)
  pub apart : AreApart (blocks_of t.logged) (blocks_of t.direct)
  pub kept : AreApart t.freed (blocks_of (t.logged ++ t.direct))
  pub zoned : Every (λ x. zone_of g x ≡ Some t.queue) (blocks_of t.direct)
  pub revokes : Every (λ x. is_among x (blocks_of t.direct) ≡ true) t.revoked
