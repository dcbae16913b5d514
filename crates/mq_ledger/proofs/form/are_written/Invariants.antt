use Rattle.std.proofs.Common.{◌≡◌, drop, true}
use Rattle.mq_blocks.specs.Journal.{is_among}
use Rattle.mq_ledger.specs.History.{blocks_of}
use Rattle.mq_ledger.specs.Records.{Every}
use Rattle.mq_ledger.proofs.RecordsLists.{Goes}
use Rattle.mq_ledger.proofs.form.are_written.Given as goal

-- it holds of all exactly where it holds of the rest
abbrev pub invariant-loop-block : goal.invariant-loop-block
invariant-loop-block l = Goes (Every (λ x. is_among x (blocks_of l.writes) ≡ true) l.blocks) (Every (λ x. is_among x (blocks_of l.writes) ≡ true) (drop l.block-index l.blocks))
