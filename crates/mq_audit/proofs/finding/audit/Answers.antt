use Rattle.mq_audit.proofs.TracesOnce.{line_is_found, trace_is_found, accepted_is_found, refused_is_found}
use Rattle.mq_audit.proofs.finding.audit.Goals as goal

pub returns-clause-line : goal.returns-clause-line
returns-clause-line c = line_is_found c.args.bytes.now c.run_text.result c.run_text.ensures

pub returns-clause-trace : goal.returns-clause-trace
returns-clause-trace c = trace_is_found c.args.bytes.now c.run_text.result c.run_text.ensures

pub returns-clause-accepted : goal.returns-clause-accepted
returns-clause-accepted c = λ t is allowed. accepted_is_found t c.run_text.result allowed (trace_is_found c.args.bytes.now c.run_text.result c.run_text.ensures t is)

pub returns-clause-refused : goal.returns-clause-refused
returns-clause-refused c = λ t index is first. refused_is_found t c.run_text.result index first (trace_is_found c.args.bytes.now c.run_text.result c.run_text.ensures t is)
