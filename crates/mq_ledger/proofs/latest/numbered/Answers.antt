use Rattle.std.proofs.Common.{◌-◌, ◌<◌, length, arith, rules}
use Rattle.mq_ledger.proofs.TablesLedgers.{numbered-at, numbered-bound}
use Rattle.mq_ledger.proofs.latest.numbered.Goals as goal

pub overflow_sub-result : goal.overflow_sub-result
overflow_sub-result c = let r = c.requires.there in let k = numbered-bound c.args.history.now c.args.base c.args.number r.0 r.1 c.requires.numbers r.2 r.3 in omega arith

pub overflow_sub-result-2 : goal.overflow_sub-result-2
overflow_sub-result-2 c = let r = c.requires.there in let k = numbered-bound c.args.history.now c.args.base c.args.number r.0 r.1 c.requires.numbers r.2 r.3 in omega arith

pub offset_bounds-history-number : goal.offset_bounds-history-number
offset_bounds-history-number c =
    let r = c.requires.there in
    let k = numbered-bound c.args.history.now c.args.base c.args.number r.0 r.1 c.requires.numbers r.2 r.3 in
    let bound : c.args.number - c.args.base - 1 < length c.args.history.now = k.1 in
    search rules

pub bounds-history-number : goal.bounds-history-number
bounds-history-number c = let r = c.requires.there in (numbered-bound c.args.history.now c.args.base c.args.number r.0 r.1 c.requires.numbers r.2 r.3).1

pub returns : goal.returns
returns c t ts at is = numbered-at c.args.history.now c.args.base c.args.number t c.index-history-number.result ts c.requires.numbers at is c.index-history-number.is
