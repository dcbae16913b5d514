use Rattle.std.proofs.Common.{arith}
use Rattle.mq_blocks.specs.Geometry.{homes_of}
use Rattle.mq_ledger.proofs.TablesLedgers.{latest_limit}
use Rattle.mq_ledger.proofs.RecordsLookups.{tables_now, latest_read}
use Rattle.mq_ledger.proofs.records.Ledger.newest_of.Goals as goal

pub returns-clause-limit : goal.returns-clause-limit
returns-clause-limit c =
    let s = c.args.self.now in
    let t = tables_now c.self.inside s c.self.view_is c.self.invariant in
    let is = latest_read s.start s.base (homes_of s.geometry) c.args.block c.block.inside.0 s.history c.self.inside.newest.items c.index.result.now t.newest_is c.requires c.block.view_is c.index.ensures in
    let low = latest_limit s.start s.base c.args.block s.history c.index.result.now t.numbers is in
    let top = t.limit in
    (omega arith, omega arith)
