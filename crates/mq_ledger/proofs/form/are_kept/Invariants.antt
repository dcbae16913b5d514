use Rattle.std.proofs.Common.{◌≡◌, ◌++◌, drop, false}
use Rattle.mq_blocks.specs.Descriptor.{AreApart}
use Rattle.mq_blocks.specs.Journal.{is_among}
use Rattle.mq_ledger.specs.History.{blocks_of}
use Rattle.mq_ledger.specs.Records.{Every}
use Rattle.mq_ledger.proofs.RecordsLists.{Goes}
use Rattle.mq_ledger.proofs.form.are_kept.Given as goal

-- it holds of all exactly where it holds of the rest
abbrev pub invariant-loop-block : goal.invariant-loop-block
invariant-loop-block l = Goes (AreApart l.blocks (blocks_of (l.tx.logged ++ l.tx.direct))) (Every (λ x. is_among x (blocks_of (l.tx.logged ++ l.tx.direct)) ≡ false) (drop l.block-index l.blocks))
