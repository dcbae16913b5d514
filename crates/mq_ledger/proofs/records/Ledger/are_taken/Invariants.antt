use Rattle.std.proofs.Common.{drop}
use Rattle.mq_ledger.specs.Records.{Every, IsTaken}
use Rattle.mq_ledger.proofs.RecordsLists.{Goes}
use Rattle.mq_ledger.proofs.records.Ledger.are_taken.Given as goal

-- it holds of all exactly where it holds of the rest
abbrev pub invariant-loop-block : goal.invariant-loop-block
invariant-loop-block l = Goes (Every (IsTaken l.self) l.blocks) (Every (IsTaken l.self) (drop l.block-index l.blocks))
