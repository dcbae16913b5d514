-- A helper after a drain beside the calls.
use Rattle.std.proofs.Common.{sym, subst}
use Rattle.mq_drive.specs.declared.port.Port.{Ghosts}
use Rattle.mq_calls.specs.Helpers.{IsAtEase}
use Rattle.mq_calls.specs.declared.entry.FileEntry.{FileEntry}
use Rattle.mq_journal.specs.Numbers.{Seat}
use Rattle.mq_sessions.specs.Settling.{OnlyReads}

module _ {P : Type 0} {G : Ghosts P} where
  pub still-at-ease : (v w : Seat P FileEntry G) → OnlyReads v w → IsAtEase v → IsAtEase w
  still-at-ease v w is ease = subst (λ (x : Seat P FileEntry G). IsAtEase x) (sym is) (record { idle = ease.idle; drawn = ease.drawn; read = ease.read })
