use Rattle.std.proofs.Common.{arith}
use Rattle.std.proofs.Math.Logic.{∥∥₁_map}
use Rattle.std.proofs.lemmas.List.{length-map}
use Rattle.mq_loose_queues.specs.Queues.{parts_state, stored_state}
use Rattle.mq_loose_queues.proofs.Committed.{committed}
use Rattle.mq_loose_queues.proofs.queues.LooseQueues.commit.Goals as goal

pub invariant_of-self : goal.invariant_of-self
invariant_of-self g c =
    let state = g.P.Port.state in
    let faults = g.P.Port.faults in
    let old = c.args.self.now.parts in
    let new = c.commit.new.self in
    let is = committed (parts_state state faults old) (parts_state state faults new) c.args.queue c.args.writes.now c.args.frees.now c.commit.result c.commit.ensures in
    let count = is.count in
    let before = length-map old.sides.items (stored_state state faults) in
    let after = length-map new.sides.items (stored_state state faults) in
    let room = c.args.self.now.room in
    record {
      journal = ∥∥₁_map c.args.self.now.journal (λ r. (let later = is.journal r.0 r.1 r.2 in (r.0, later.0, later.1)));
      empty = c.args.self.now.empty;
      room = omega (arith, count, before, after, room, old.sides.ok.0, new.sides.ok.0);
    }
