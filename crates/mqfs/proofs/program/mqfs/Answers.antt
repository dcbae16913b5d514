use Rattle.mqfs.proofs.Does.{does-audit, does-blocks, does-cat, does-check, does-dump, does-format, does-gen, does-help, does-loose, does-ls, does-recover, does-replicate, does-run, does-version, is-out-of-memory, is-refused, is-said, is-status, keeps-files, tells-faults, tells-usage}
use Rattle.mqfs.proofs.program.mqfs.Goals as goal

pub returns-clause-status : goal.returns-clause-status
returns-clause-status g c = is-status _ c.read_and_run.ensures.ends

pub returns-clause-said : goal.returns-clause-said
returns-clause-said g c = is-said _ c.read_and_run.ensures.ends

pub returns-clause-usage : goal.returns-clause-usage
returns-clause-usage g c = tells-usage _ c.read_and_run.ensures.ends

pub returns-clause-refused : goal.returns-clause-refused
returns-clause-refused g c = is-refused _ c.read_and_run.ensures.ends

pub returns-clause-fault : goal.returns-clause-fault
returns-clause-fault g c = tells-faults _ c.read_and_run.ensures.ends

pub returns-clause-memory : goal.returns-clause-memory
returns-clause-memory g c = is-out-of-memory _ c.read_and_run.ensures.ends

pub returns-clause-names : goal.returns-clause-names
returns-clause-names g c = keeps-files _ c.read_and_run.ensures.ends

pub returns-clause-blocks : goal.returns-clause-blocks
returns-clause-blocks g c = does-blocks _ c.read_and_run.ensures.ends c.read_and_run.ensures.decided

pub returns-clause-format : goal.returns-clause-format
returns-clause-format g c = does-format _ c.read_and_run.ensures.ends c.read_and_run.ensures.decided

pub returns-clause-run : goal.returns-clause-run
returns-clause-run g c = does-run _ c.read_and_run.ensures.ends c.read_and_run.ensures.decided c.read_and_run.ensures.runs

pub returns-clause-recover : goal.returns-clause-recover
returns-clause-recover g c = does-recover _ c.read_and_run.ensures.ends c.read_and_run.ensures.decided

pub returns-clause-ls : goal.returns-clause-ls
returns-clause-ls g c = does-ls _ c.read_and_run.ensures.ends c.read_and_run.ensures.decided

pub returns-clause-cat : goal.returns-clause-cat
returns-clause-cat g c = does-cat _ c.read_and_run.ensures.ends c.read_and_run.ensures.decided

pub returns-clause-generate : goal.returns-clause-generate
returns-clause-generate g c = does-gen _ c.read_and_run.ensures.ends c.read_and_run.ensures.decided

pub returns-clause-dump : goal.returns-clause-dump
returns-clause-dump g c = does-dump _ c.read_and_run.ensures.ends c.read_and_run.ensures.decided

pub returns-clause-check : goal.returns-clause-check
returns-clause-check g c = does-check _ c.read_and_run.ensures.ends c.read_and_run.ensures.decided

pub returns-clause-audit : goal.returns-clause-audit
returns-clause-audit g c = does-audit _ c.read_and_run.ensures.ends c.read_and_run.ensures.decided

pub returns-clause-replicate : goal.returns-clause-replicate
returns-clause-replicate g c = does-replicate _ c.read_and_run.ensures.ends c.read_and_run.ensures.decided

pub returns-clause-loose : goal.returns-clause-loose
returns-clause-loose g c = does-loose _ c.read_and_run.ensures.ends c.read_and_run.ensures.decided

pub returns-clause-help : goal.returns-clause-help
returns-clause-help g c = does-help _ c.read_and_run.ensures.ends c.read_and_run.ensures.decided

pub returns-clause-version : goal.returns-clause-version
returns-clause-version g c = does-version _ c.read_and_run.ensures.ends c.read_and_run.ensures.decided
