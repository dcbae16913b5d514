use Rattle.std.proofs.Common.{◌≡◌, ◌+◌, ◌*◌, drop}
use Rattle.std.specs.Prelude.{◌||◌, nat_le}
use Rattle.mq_area.specs.Reading.{header_of}
use Rattle.mq_blocks.specs.Journal.{is_among}
use Rattle.mq_loose_order.specs.Dependence.{all_in}
use Rattle.mq_loose_recover.specs.Reading.{deps_of_block}
use Rattle.mq_loose_recover.proofs.choice.is_met.Given as goal

-- the rest decides
abbrev pub invariant-loop-i : goal.invariant-loop-i
invariant-loop-i l = record {
  first_is : l.first ≡ 56 + 4 * (header_of l.block).logged;
  rest : all_in (λ n. nat_le n l.base || is_among n l.set) (deps_of_block l.block) ≡ all_in (λ n. nat_le n l.base || is_among n l.set) (drop l.i (deps_of_block l.block));
}
