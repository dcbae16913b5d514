use Rattle.std.proofs.Common.{rules, ◌≡◌, true, cond, length, get_or, sym, ◌∙◌, arith, vec_len, false}
use Rattle.std.proofs.lemmas.List.{at_drop_all, length-set}
use Rattle.mq_blocks.specs.Journal.{is_among}
use Rattle.mq_blocks.specs.Machine.{Writes}
use Rattle.mq_ledger.specs.History.{blocks_of}
use Rattle.mq_loose_run.proofs.MarksKept.{mark_step, write_named}
use Rattle.mq_loose_run.proofs.marks.mark.Goals as goal

pub index_mut-requires : goal.index_mut-requires
index_mut-requires c =
    let small = write_named c.args.writes.now c.loop-block.block-index c.loop-block-item.result c.requires.named c.loop-block-test.true c.loop-block-item.is in
    let len : vec_len c.loop-block.marks ≡ length c.loop-block.marks.items = search rules in
    let whole = c.loop-block.invariant.whole in
    let is = c.block.view_is in
    omega (arith, small, len, whole, is)

pub loop-block-preserved : goal.loop-block-preserved
loop-block-preserved c =
    let whole = c.loop-block.invariant.whole in
    let small = write_named c.args.writes.now c.loop-block.block-index c.loop-block-item.result c.requires.named c.loop-block-test.true c.loop-block-item.is in
    let is = c.block.view_is in
    record {
      whole = length-set c.loop-block.marks.items c.block.inside.0 true ∙ whole;
      rest = λ b low.
          c.loop-block.invariant.rest b low
          ∙ mark_step c.args.writes.now c.loop-block.block-index c.loop-block-item.result c.block.inside.0 c.loop-block.marks.items b c.loop-block-test.true c.loop-block-item.is is (omega (arith, small, whole, is));
    }

pub returns-clause-marked : goal.returns-clause-marked
returns-clause-marked c b low =
    sym (c.loop-block.invariant.rest b low ∙ at_drop_all (λ (us : Writes). cond (is_among b (blocks_of us)) true (get_or c.loop-block.marks.items b false)) c.args.writes.now c.loop-block.block-index c.loop-block-test.false)
