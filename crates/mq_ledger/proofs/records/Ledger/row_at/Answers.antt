use Rattle.std.proofs.Common.{◌≡◌, length, ap, arith}
use Rattle.mq_ledger.specs.Records.{Ledger, own}
use Rattle.mq_ledger.proofs.RecordsLookups.{tables_now, lane_length, lane_before, from_read}
use Rattle.mq_ledger.proofs.records.Ledger.row_at.Goals as goal

pub before-requires : goal.before-requires
before-requires c =
    let size : length c.index.result.now ≡ length (own c.args.self.now c.args.queue) = lane_length c.args.self.now c.self.inside.newest.items c.self.inside.settled.items c.self.inside.queue_rows.items c.self.inside.ends.items (tables_now c.self.inside c.args.self.now c.self.view_is c.self.invariant) c.args.queue c.requires.queue c.queue.inside.0 c.queue.view_is c.index.result.now c.index.ensures in
    let bound = c.requires.at in
    omega arith

pub returns : goal.returns
returns c txs part size =
    let t = tables_now c.self.inside c.args.self.now c.self.view_is c.self.invariant in
    let from = from_read c.self.inside.starts.items c.args.self.now c.args.queue c.queue.inside.0 c.index-from.result.now (ap (λ (v : Ledger). v.starts) c.self.view_is) t.starts_size c.requires.queue c.queue.view_is c.index-from.ensures in
    lane_before c.args.self.now c.self.inside.newest.items c.self.inside.settled.items c.self.inside.queue_rows.items c.self.inside.ends.items (tables_now c.self.inside c.args.self.now c.self.view_is c.self.invariant) c.args.queue c.requires.queue c.queue.inside.0 c.queue.view_is c.index.result.now c.index.ensures c.index-from.result.now c.args.at c.before-2.result txs from c.before-2.ensures part size
