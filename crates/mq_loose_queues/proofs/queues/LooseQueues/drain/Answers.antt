use Rattle.std.proofs.Common.{arith}
use Rattle.std.proofs.Math.Logic.{∥∥₁_map}
use Rattle.std.proofs.lemmas.List.{length-map}
use Rattle.mq_loose_queues.specs.Queues.{stored_state}
use Rattle.mq_loose_queues.proofs.queues.LooseQueues.drain.Goals as goal

pub invariant_of-self : goal.invariant_of-self
invariant_of-self g c =
    let stored = stored_state g.P.Port.state g.P.Port.faults in
    let old = c.args.self.now.parts.sides in
    let new = c.drain.new.self.sides in
    let count = c.drain.ensures.count in
    let before = length-map old.items stored in
    let after = length-map new.items stored in
    let room = c.args.self.now.room in
    record {
      journal = ∥∥₁_map c.args.self.now.journal (λ r. (r.0, r.1, c.drain.ensures.journal r.0 r.1 r.2));
      empty = c.args.self.now.empty;
      room = omega (arith, count, before, after, room, old.ok.0, new.ok.0);
    }
