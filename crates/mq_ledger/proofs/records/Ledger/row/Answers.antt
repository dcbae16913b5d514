use Rattle.std.proofs.Common.{ap, sym, arith}
use Rattle.mq_ledger.specs.Records.{own}
use Rattle.mq_ledger.specs.declared.queue_rows.Row.{Row}
use Rattle.mq_ledger.proofs.TablesRows.{part-same}
use Rattle.mq_ledger.proofs.records.Ledger.row.Goals as goal

pub returns-clause-is : goal.returns-clause-is
returns-clause-is c = c.row_at.ensures (own c.args.self.now c.args.queue) (part-same (own c.args.self.now c.args.queue)) (sym c.len.ensures.is)

pub returns-clause-counts : goal.returns-clause-counts
returns-clause-counts c =
    let e = ap (λ (r : Row). r.end) (c.row_at.ensures (own c.args.self.now c.args.queue) (part-same (own c.args.self.now c.args.queue)) (sym c.len.ensures.is)) in
    let most = c.len.ensures.counts in
    omega arith

pub returns-clause-places : goal.returns-clause-places
returns-clause-places c =
    let e = ap (λ (r : Row). r.next) (c.row_at.ensures (own c.args.self.now c.args.queue) (part-same (own c.args.self.now c.args.queue)) (sym c.len.ensures.is)) in
    let most = c.len.ensures.places in
    omega arith
