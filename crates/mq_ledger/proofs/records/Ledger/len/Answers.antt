use Rattle.std.proofs.Common.{◌∙◌}
use Rattle.mq_ledger.proofs.RecordsLookups.{tables_now, lane_length}
use Rattle.mq_ledger.proofs.records.Ledger.len.Goals as goal

pub returns-clause-is : goal.returns-clause-is
returns-clause-is c = c.len.ensures ∙ lane_length c.args.self.now c.self.inside.newest.items c.self.inside.settled.items c.self.inside.queue_rows.items c.self.inside.ends.items (tables_now c.self.inside c.args.self.now c.self.view_is c.self.invariant) c.args.queue c.requires c.queue.inside.0 c.queue.view_is c.index.result.now c.index.ensures

pub returns-clause-counts : goal.returns-clause-counts
returns-clause-counts c = (tables_now c.self.inside c.args.self.now c.self.view_is c.self.invariant).counts c.args.queue c.requires

pub returns-clause-places : goal.returns-clause-places
returns-clause-places c = (tables_now c.self.inside c.args.self.now c.self.view_is c.self.invariant).places c.args.queue c.requires
