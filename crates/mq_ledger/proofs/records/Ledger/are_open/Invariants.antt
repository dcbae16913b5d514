use Rattle.std.proofs.Common.{drop}
use Rattle.mq_ledger.specs.History.{blocks_of}
use Rattle.mq_ledger.specs.Records.{Every, IsOpen}
use Rattle.mq_ledger.proofs.RecordsLists.{Goes}
use Rattle.mq_ledger.proofs.records.Ledger.are_open.Given as goal

-- it holds of all exactly where it holds of the rest
abbrev pub invariant-loop-write : goal.invariant-loop-write
invariant-loop-write l = Goes (Every (IsOpen l.self l.word l.revoked) (blocks_of l.writes)) (Every (IsOpen l.self l.word l.revoked) (drop l.write-index (blocks_of l.writes)))
