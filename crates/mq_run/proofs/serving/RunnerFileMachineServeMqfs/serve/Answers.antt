use Rattle.std.proofs.Common.{refl}
use Rattle.mq_run.proofs.serving.RunnerFileMachineServeMqfs.serve.Goals as goal

pub returns-clause-served : goal.returns-clause-served
returns-clause-served g c = (
  refl,
  refl,
  c.settle_own.ensures.queue,
  c.settle_own.ensures.calls,
  record {
    answer = c.settle_own.result;
    settled = c.settle_own.ensures.settled;
    refused = c.settle_own.ensures.refused;
    goes = c.settle_own.ensures.goes;
  },
)
