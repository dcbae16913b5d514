-- The sessions at an opening.
use Rattle.std.specs.Prelude.{ℕ, List}
use Rattle.mq_blocks.specs.declared.geometry.Geometry.{Geometry}
use Rattle.mq_drive.specs.declared.port.Port.{Ghosts}
use Rattle.mq_journal.specs.Numbers.{Seat, Start}
use Rattle.mq_kv_entries.specs.Group.{store_group}
use Rattle.mq_kv_entries.specs.declared.entry.KvEntry.{KvEntry}
use Rattle.mq_pages.specs.Held.{HeldCells}
use Rattle.mq_sessions.specs.Opening as opening
pub use Rattle.mq_sessions.specs.Seats.{IsEquipped, IsUncalled}

module _ {P : Type 0} {G : Ghosts P} where
  -- a session that has made no call
  abbrev pub IsNewSession : Geometry → Start P KvEntry G → (i queue calls : ℕ) → (wanted : List ℕ)
      → HeldCells → Seat P KvEntry G → Type 0
  IsNewSession g o i queue calls wanted cells v =
      opening.IsNewSession store_group g o i queue calls wanted cells v
