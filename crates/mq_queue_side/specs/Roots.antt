-- The root's calls.
use Rattle.std.specs.Prelude.{◌≡◌, ◌⊎◌, ◌≤◌, ℕ, None}
use Rattle.mq_blocks.specs.Drive.{PortState, after_flush, after_store_base}
use Rattle.mq_ledger.specs.KnownJournal.{KnownJournal}
use Rattle.mq_ledger.specs.Sides.{RootOk}

-- the root's base as it is flushed and as it is stored, and its port
pub record IsRootOf (base stored : ℕ) (p : PortState) : Type 0 where
  pub queue : p.queue ≡ None
  pub base_is : base ≡ p.base
  pub stored_is : stored ≡ p.stored_base
  pub order : base ≤ stored

-- the base is stored and flushed
abbrev pub after_raise : PortState → ℕ → PortState
after_raise p base = after_flush (after_store_base p base)

-- a raise that was cut: nothing was stored, or the base was stored and not flushed
abbrev pub IsRaiseCut : PortState → ℕ → PortState → Type 0
IsRaiseCut old base new = (new ≡ old) ⊎ (new ≡ after_store_base old base)

-- whatever is known, it stays the root
abbrev pub RootStays : PortState → PortState → Type 0
RootStays old new = (k : KnownJournal) → RootOk k old → RootOk k new
