use Rattle.std.proofs.Common.{arith}
use Rattle.mq_blocks.specs.Geometry.{homes_of}
use Rattle.mq_ledger.specs.History.{upto}
use Rattle.mq_ledger.proofs.TablesLedgers.{latest_limit}
use Rattle.mq_ledger.proofs.RecordsLookups.{tables_now, latest_read}
use Rattle.mq_ledger.proofs.History.{numbered-upto, length-upto}
use Rattle.mq_ledger.proofs.records.Ledger.settled_of.Goals as goal

pub returns-clause-limit : goal.returns-clause-limit
returns-clause-limit c =
    let s = c.args.self.now in
    let t = tables_now c.self.inside s c.self.view_is c.self.invariant in
    let is = latest_read s.start s.base (homes_of s.geometry) c.args.block c.block.inside.0 (upto s.front s.history) c.self.inside.settled.items c.index.result.now t.settled_is c.requires c.block.view_is c.index.ensures in
    let low = latest_limit s.start s.base c.args.block (upto s.front s.history) c.index.result.now (numbered-upto s.base s.front s.history t.numbers) is in
    let few = length-upto s.base s.front s.history t.numbers t.front_low in
    let high = t.front_high in
    let top = t.limit in
    omega arith
