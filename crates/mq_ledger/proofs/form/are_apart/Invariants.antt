use Rattle.std.proofs.Common.{◌≡◌, drop, false}
use Rattle.mq_blocks.specs.Descriptor.{AreApart}
use Rattle.mq_blocks.specs.Journal.{is_among}
use Rattle.mq_ledger.specs.History.{blocks_of}
use Rattle.mq_ledger.specs.Records.{Every}
use Rattle.mq_ledger.proofs.RecordsLists.{Goes}
use Rattle.mq_ledger.proofs.form.are_apart.Given as goal

-- it holds of all exactly where it holds of the rest
abbrev pub invariant-loop-write : goal.invariant-loop-write
invariant-loop-write l = Goes (AreApart (blocks_of l.writes) (blocks_of l.others)) (Every (λ x. is_among x (blocks_of l.others) ≡ false) (drop l.write-index (blocks_of l.writes)))
