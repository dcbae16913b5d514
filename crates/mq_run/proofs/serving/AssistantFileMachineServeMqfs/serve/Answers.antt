use Rattle.std.proofs.Common.{refl}
use Rattle.mq_run.proofs.serving.AssistantFileMachineServeMqfs.serve.Goals as goal

pub returns-clause-served : goal.returns-clause-served
returns-clause-served g c = (
  refl,
  record {
    answer = c.settle.result;
    settled = c.settle.ensures.settled;
    refused = c.settle.ensures.refused;
    goes = c.settle.ensures.goes;
  },
)
