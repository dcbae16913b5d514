use Rattle.std.proofs.Common.{◌≡◌, ◌≤◌, ◌<◌, ℕ, ◌+◌, ◌-◌, ◌%◌, [], length, Some, None, reverse, slice_index_or, if◌then◌else◌}
use Rattle.mq_blocks.specs.Drive.{PortState, staged_end}
use Rattle.mq_blocks.specs.Limits.{depth}
use Rattle.mq_pmr.specs.Ring.{AreOf}
use Rattle.mq_pmr.specs.Runs.{OwnsAll, after_some, is_last}
use Rattle.mq_pmr.proofs.Runs.{PortStays}
use Rattle.mq_pmr.proofs.queue.PmrQueue.stage_reversed.Given as goal

-- staging what is left goes on to the same states
abbrev pub invariant-staging : goal.invariant-staging
invariant-staging g l =
    let now : PortState = g.P.Port.state l.self.port in
    let start : PortState = g.P.Port.state l.fn.self.port in
    record {
      begun : staged_end start ≤ staged_end now;
      end : staged_end now + length l.items.items ≡ staged_end start + length l.fn.items.items;
      goes_on : (j : ℕ) → after_some now l.tx j (reverse l.items.items) ≡ after_some start l.tx (staged_end now - staged_end start + j) (reverse l.fn.items.items);
      own : OwnsAll start (reverse l.items.items);
      same : PortStays start now;
      before : 0 < start.head → slice_index_or now.staged ((start.head - 1) % depth) [] ≡ slice_index_or start.staged ((start.head - 1) % depth) [];
      no_fault : g.P.Port.faults l.self.port ≡ g.P.Port.faults l.fn.self.port;
      done : l.self.done ≡ l.fn.self.done;
      rung : l.self.rung.items ≡ l.fn.self.rung.items;
      whose : AreOf now l.tx;
      staged : l.self.staged ≡ (if is_last (reverse l.items.items) then Some l.tx else None);
      opened : l.self.opened ≡ l.fn.self.opened;
      stays : (l.self.geometry ≡ l.fn.self.geometry) × (l.self.queue ≡ l.fn.self.queue);
    }

abbrev pub decreases-staging : goal.decreases-staging
decreases-staging g l = length l.items.items
