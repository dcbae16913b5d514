use Rattle.std.proofs.Common.{◌≡◌, ◌∙◌}
use Rattle.mq_block_trace.specs.Written.{event_line, step_at}
use Rattle.mq_block_trace.proofs.PortSteps.{steps_end, steps_more}
use Rattle.mq_block_trace.proofs.steps.push_steps.Goals as goal

pub loop-at-preserved : goal.loop-at-preserved
loop-at-preserved c =
    let text : c.as_bytes.result.now ≡ event_line (step_at c.args.tx.count c.args.tx.entries c.loop-at.at) = c.as_bytes.ensures.value ∙ c.in_ok-step_line.ensures in
    steps_more c.args.tx.count c.args.tx.entries c.loop-at.at c.args.steps c.loop-at.out.items c.as_bytes.result.now c.extend_from_slice.new.self.items _ c.loop-at-test.true text c.in_ok-extend_from_slice.ensures.items c.loop-at.invariant

pub returns : goal.returns
returns c = steps_end c.args.tx.count c.args.tx.entries c.loop-at.at c.args.steps c.loop-at.out.items _ c.loop-at-test.false c.loop-at.invariant
