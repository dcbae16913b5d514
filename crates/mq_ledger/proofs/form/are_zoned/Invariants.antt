use Rattle.std.proofs.Common.{◌≡◌, drop, Some}
use Rattle.mq_blocks.specs.Geometry.{zone_of}
use Rattle.mq_ledger.specs.History.{blocks_of}
use Rattle.mq_ledger.specs.Records.{Every}
use Rattle.mq_ledger.proofs.RecordsLists.{Goes}
use Rattle.mq_ledger.proofs.form.are_zoned.Given as goal

-- it holds of all exactly where it holds of the rest
abbrev pub invariant-loop-write : goal.invariant-loop-write
invariant-loop-write l = Goes (Every (λ x. zone_of l.geometry x ≡ Some l.queue) (blocks_of l.writes)) (Every (λ x. zone_of l.geometry x ≡ Some l.queue) (drop l.write-index (blocks_of l.writes)))
