-- An entry of a request is not refused, and its request is read.
use Rattle.std.proofs.Common.{ap}
use Rattle.mq_nvme.specs.Entry.{request_of}
use Rattle.mq_nvme.proofs.EntryRequests.{request_of-entry}
use Rattle.mq_nvme.proofs.EntryRefusals.{refusal_of-write}
use Rattle.mq_nvme.proofs.write.read_write.Goals as goal

pub returns-in-Some-clause-write : goal.returns-in-Some-clause-write
returns-in-Some-clause-write c r w = let none = refusal_of-write _ r w in let was = c.in-Some.ensures in cc

pub returns-in-None-clause-write : goal.returns-in-None-clause-write
returns-in-None-clause-write c r w = let at = ap request_of w.is in let is = request_of-entry r in let was = c.request.ensures.fields in cc
