use Rattle.std.proofs.Common.{◌≡◌, length, arith}
use Rattle.mq_ledger.specs.Records.{own}
use Rattle.mq_ledger.proofs.RecordsLookups.{tables_now, lane_length, lane_number}
use Rattle.mq_ledger.proofs.records.Ledger.number_at.Goals as goal

pub number-requires : goal.number-requires
number-requires c =
    let size : length c.index.result.now ≡ length (own c.args.self.now c.args.queue) = lane_length c.args.self.now c.self.inside.newest.items c.self.inside.settled.items c.self.inside.queue_rows.items c.self.inside.ends.items (tables_now c.self.inside c.args.self.now c.self.view_is c.self.invariant) c.args.queue c.requires.queue c.queue.inside.0 c.queue.view_is c.index.result.now c.index.ensures in
    let bound = c.requires.at in
    omega arith

pub returns : goal.returns
returns c t txs at size = lane_number c.args.self.now c.self.inside.newest.items c.self.inside.settled.items c.self.inside.queue_rows.items c.self.inside.ends.items (tables_now c.self.inside c.args.self.now c.self.view_is c.self.invariant) c.args.queue c.requires.queue c.queue.inside.0 c.queue.view_is c.index.result.now c.index.ensures c.args.at c.number.result t txs c.number.ensures at size
