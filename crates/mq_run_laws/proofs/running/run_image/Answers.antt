use Rattle.std.proofs.Common.{◌≡◌}
use Rattle.std.proofs.lemmas.Result.{IfErr-weaker}
use Rattle.mq_image_ops.specs.declared.refusal.StandingRefusal.TheVariants.{OutOfMemory}
use Rattle.mq_run_laws.specs.Refusals.{RefusesRun, wanting}
use Rattle.mq_run_laws.proofs.RunsRefused.{only-wanting}
use Rattle.mq_run_laws.proofs.running.run_image.Goals as goal

pub returns-then-not-are_countable-clause-refused : goal.returns-then-not-are_countable-clause-refused
returns-then-not-are_countable-clause-refused g c = wanting

pub returns-clause-long : goal.returns-clause-long
returns-clause-long g c = λ long. absurd (long (c.are_countable.ensures.short c.if-not-are_countable.false))

pub returns-clause-complete : goal.returns-clause-complete
returns-clause-complete g c = λ v for within. IfErr-weaker c.run_countable.result (RefusesRun c.args.image) (λ e. e ≡ OutOfMemory) (λ e. only-wanting c.args.image v e for within) c.run_countable.ensures.refused
