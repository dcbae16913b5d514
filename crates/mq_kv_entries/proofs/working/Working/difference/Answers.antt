use Rattle.mq_kv_entries.specs.Groups.{held_map}
use Rattle.mq_kv_entries.specs.Working.{held_of}
use Rattle.mq_kv_entries.proofs.Differences.{differs, taken-end}
use Rattle.mq_kv_entries.proofs.working.Working.difference.Goals as goal

pub returns : goal.returns
unfolding held_of
returns c =
    differs c.args.self c.loop-b.writes.items c.into_iter-b-iterator.ensures.into_iter_gives.5
    (taken-end (held_map c.args.self.held.now.cells) c.loop-b.writes.items c.loop-b.b-iterator c.args.self.changed.entries c.loop-b.invariant c.in-None.ensures.steps.0)
