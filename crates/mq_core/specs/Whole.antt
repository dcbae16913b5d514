-- The transactions that an image shows whole.
use Rattle.std.specs.Prelude.{◌+◌, ◌||◌, Bool, List, nat_le}
use Rattle.mq_blocks.specs.Journal.{Shown}
use Rattle.mq_ledger.specs.History.{writes, of_queue}
use Rattle.mq_ledger.specs.Items.{end_of, descriptor_blocks}
use Rattle.mq_ledger.specs.State.{State, from_at}
use Rattle.mq_ledger.specs.declared.tx.Tx.{Tx}

-- Where these stand before it, the transaction is not above the image's base, or its entries stand below
-- the image's head.
abbrev pub is_whole : State → Shown → Tx → List Tx → Bool
is_whole s i t ts =
    nat_le t.number i.base
    || nat_le (end_of (from_at s.starts t.queue) (of_queue t.queue ts) + (writes t + descriptor_blocks t))
    (i.head t.queue)
