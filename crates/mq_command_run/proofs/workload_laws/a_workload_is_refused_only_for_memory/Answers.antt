use Rattle.mq_command_run.proofs.WorkloadAnswers.{refused-for-memory}
use Rattle.mq_command_run.proofs.workload_laws.a_workload_is_refused_only_for_memory.Goals as goal

pub returns : goal.returns
returns c = refused-for-memory c.a_run_on_an_image_keeps_its_promise.ensures
