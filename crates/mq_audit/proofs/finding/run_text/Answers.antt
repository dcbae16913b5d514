use Rattle.mq_audit.proofs.finding.run_text.Goals as goal

pub returns : goal.returns
returns c = (c.in_ok-trace.trace, c.in_ok-trace.ensures.reading, c.in_ok-run_trace.ensures)
