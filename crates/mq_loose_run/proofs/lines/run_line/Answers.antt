use Rattle.std.proofs.Common.{subst}
use Rattle.mq_loose_text.specs.declared.line.LooseLine.{LooseLine}
use Rattle.mq_loose_run.specs.Steps.{MayRun}
use Rattle.mq_loose_run.proofs.lines.run_line.Goals as goal

pub commit_line-requires : goal.commit_line-requires
commit_line-requires c = subst (λ (l : LooseLine). MayRun l c.args.running.now) c.in-Commit.is c.requires

pub done_line-requires : goal.done_line-requires
done_line-requires c = subst (λ (l : LooseLine). MayRun l c.args.running.now) c.in-Done.is c.requires
