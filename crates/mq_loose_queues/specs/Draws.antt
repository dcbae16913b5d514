-- A commit that is ready to be drawn.
use Rattle.std.specs.Prelude.{◌≡◌, ℕ, All, List, [], length}
use Rattle.mq_blocks.specs.Descriptor.{journal_form}
use Rattle.mq_blocks.specs.Machine.{Writes}
use Rattle.mq_ledger.specs.History.{blocks_of}
use Rattle.mq_ledger.specs.State.{State}
use Rattle.mq_ledger.specs.declared.tx.Tx.{Tx}
use Rattle.mq_loose.specs.Rows.{row_for}
use Rattle.mq_loose_order.specs.Form.{loose_bytes}
use Rattle.mq_pages.specs.declared.page.Write.{Write}
use Rattle.mq_queue_side.specs.Commits.{Commit, NumberedCommit}
use Rattle.mq_queue_side.specs.Stored.{Row, numbered_in}
use Rattle.mq_loose_queues.specs.Journal.{IsJournal, loose_tx}
use Rattle.mq_loose_queues.specs.Queues.{QueuesState}
use Rattle.mq_loose_queues.specs.declared.prepare.Ready.{Ready}

abbrev pub written_as : Write → ℕ × List ℕ
written_as w = (w.block, w.content)

-- a commit that is numbered next on a queue, with this as the last block of its descriptor
abbrev pub numbered_on : (queue number : ℕ) → List Row → Commit → (last : List ℕ) → NumberedCommit
numbered_on queue number rows commit last =
    record (numbered_in journal_form queue number rows commit) { last = last }

-- It logs these writes. Whatever the queues' journal is, its row is that of the next transaction; and the last
-- block of its descriptor is written.
pub record IsReadyFor (v : QueuesState) (q : ℕ) (ws : Writes) (frees : List ℕ) (number : ℕ) (r : Ready) : Type 0 where
  pub prepared : r.prepared ≡ record { logged = ws; direct = []; revoked = [] }
  pub row : (s : State) (h : List Tx) → IsJournal s h v
      → r.row ≡ row_for s.base s.starts (loose_tx number q ws frees) h
  pub last : r.last ≡ loose_bytes r.row.descriptor r.row.deps
  pub blocks : r.blocks.items ≡ blocks_of ws
  pub whole : All (λ w. length w.1 ≡ 4096) ws
