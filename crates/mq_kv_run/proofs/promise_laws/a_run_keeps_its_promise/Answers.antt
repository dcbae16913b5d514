use Rattle.mq_kv_run.proofs.Promise.{keeps}
use Rattle.mq_kv_run.proofs.promise_laws.a_run_keeps_its_promise.Goals as goal

pub returns : goal.returns
returns c = λ x groups o r run. keeps x groups o r run
