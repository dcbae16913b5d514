use Rattle.std.proofs.Common.{rules, ◌≡◌, ℕ, false, cond, List, length, get_or, sym, ◌∙◌, arith, vec_len}
use Rattle.std.proofs.lemmas.List.{at_drop_all, length-set}
use Rattle.mq_blocks.specs.Journal.{is_among}
use Rattle.mq_loose_run.proofs.MarksKept.{block_named, unmark_step}
use Rattle.mq_loose_run.proofs.marks.unmark.Goals as goal

pub index_mut-requires : goal.index_mut-requires
index_mut-requires c =
    let small = block_named c.args.frees.now c.loop-block.block-index c.block-item.result c.requires.named c.loop-block-test.true c.block-item.is in
    let len : vec_len c.loop-block.marks ≡ length c.loop-block.marks.items = search rules in
    let whole = c.loop-block.invariant.whole in
    let is = c.block.view_is in
    omega (arith, small, len, whole, is)

pub loop-block-preserved : goal.loop-block-preserved
loop-block-preserved c =
    let whole = c.loop-block.invariant.whole in
    let small = block_named c.args.frees.now c.loop-block.block-index c.block-item.result c.requires.named c.loop-block-test.true c.block-item.is in
    let is = c.block.view_is in
    record {
      whole = length-set c.loop-block.marks.items c.block.inside.0 false ∙ whole;
      rest = λ b low.
          c.loop-block.invariant.rest b low
          ∙ unmark_step c.args.frees.now c.loop-block.block-index c.block-item.result c.block.inside.0 c.loop-block.marks.items b c.loop-block-test.true c.block-item.is is (omega (arith, small, whole, is));
    }

pub returns-clause-marked : goal.returns-clause-marked
returns-clause-marked c b low =
    sym (c.loop-block.invariant.rest b low ∙ at_drop_all (λ (us : List ℕ). cond (is_among b us) false (get_or c.loop-block.marks.items b false)) c.args.frees.now c.loop-block.block-index c.loop-block-test.false)
