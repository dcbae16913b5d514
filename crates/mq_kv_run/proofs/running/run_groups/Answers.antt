use Rattle.std.proofs.Common.{◌≡◌}
use Rattle.std.proofs.lemmas.Result.{IfErr-weaker}
use Rattle.mq_kv_run.specs.Refusals.{RefusesStore}
use Rattle.mq_kv_run.specs.declared.refusal.KvRunRefusal.TheVariants.{OutOfMemory}
use Rattle.mq_kv_run.proofs.Left.{only-wanting}
use Rattle.mq_kv_run.proofs.running.run_groups.Goals as goal

pub returns-clause-complete : goal.returns-clause-complete
returns-clause-complete g c = λ ds top holds.
    IfErr-weaker c.run_or_refuse.result (RefusesStore c.args.image) (λ e. e ≡ OutOfMemory)
    (λ e. only-wanting c.one_offset_is_the_first_bad.ensures.never c.args.image ds top e holds) c.run_or_refuse.ensures.refused
