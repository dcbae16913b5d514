use Rattle.std.proofs.Common.{◌≡◌, length, arith}
use Rattle.mq_ledger.specs.Records.{own}
use Rattle.mq_ledger.proofs.RecordsLookups.{tables_now, lane_length, lane_up_to}
use Rattle.mq_ledger.proofs.records.Ledger.up_to.Goals as goal

pub returns-clause-is : goal.returns-clause-is
returns-clause-is c = lane_up_to c.args.self.now c.self.inside.newest.items c.self.inside.settled.items c.self.inside.queue_rows.items c.self.inside.ends.items (tables_now c.self.inside c.args.self.now c.self.view_is c.self.invariant) c.args.queue c.requires c.queue.inside.0 c.queue.view_is c.index.result.now c.index.ensures c.args.number c.up_to.result c.up_to.ensures.is

pub returns-clause-bound : goal.returns-clause-bound
returns-clause-bound c =
    let size : length c.index.result.now ≡ length (own c.args.self.now c.args.queue) = lane_length c.args.self.now c.self.inside.newest.items c.self.inside.settled.items c.self.inside.queue_rows.items c.self.inside.ends.items (tables_now c.self.inside c.args.self.now c.self.view_is c.self.invariant) c.args.queue c.requires c.queue.inside.0 c.queue.view_is c.index.result.now c.index.ensures in
    let bound = c.up_to.ensures.bound in
    omega arith
