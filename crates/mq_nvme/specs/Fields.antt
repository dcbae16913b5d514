-- The fields of each kind of entry (NVM Express 1.4, "Submission Queue Entry", "Write command" and
-- "Completion Queue Entry"), and this project's own in what it reserves.
use Rattle.mq_nvme.specs.Field.{Place, place}
use Rattle.mq_nvme.specs.declared.rows.SubmissionField.{SubmissionField}
use Rattle.mq_nvme.specs.declared.rows.SubmissionField.TheVariants.{Opcode, Fuse, Psdt, Cid, Nsid, TxLow, TxHigh, MptrLow, MptrHigh, Prp1Low, Prp1High, Prp2Low, Prp2High, SlbaLow, SlbaHigh, Nlb, ReqTx, ReqTxCommit, Fua, LimitedRetry}
use Rattle.mq_nvme.specs.declared.rows.CompletionField.{CompletionField}
use Rattle.mq_nvme.specs.declared.rows.CompletionField.TheVariants.{SqHead, SqId, Ccid, Phase, StatusCode, StatusCodeType}

-- by dword, low bit and width
abbrev pub submission_place : SubmissionField → Place
submission_place Opcode = place 0 0 8
submission_place Fuse = place 0 8 2
submission_place Psdt = place 0 14 2
submission_place Cid = place 0 16 16
submission_place Nsid = place 1 0 32
-- this project's, the number of the transaction
submission_place TxLow = place 2 0 32
submission_place TxHigh = place 3 0 32
submission_place MptrLow = place 4 0 32
submission_place MptrHigh = place 5 0 32
submission_place Prp1Low = place 6 0 32
submission_place Prp1High = place 7 0 32
submission_place Prp2Low = place 8 0 32
submission_place Prp2High = place 9 0 32
submission_place SlbaLow = place 10 0 32
submission_place SlbaHigh = place 11 0 32
submission_place Nlb = place 12 0 16
-- this project's, the marks of a transaction's requests
submission_place ReqTx = place 12 16 1
submission_place ReqTxCommit = place 12 17 1
submission_place Fua = place 12 30 1
submission_place LimitedRetry = place 12 31 1

abbrev pub completion_place : CompletionField → Place
completion_place SqHead = place 2 0 16
completion_place SqId = place 2 16 16
completion_place Ccid = place 3 0 16
completion_place Phase = place 3 16 1
completion_place StatusCode = place 3 17 8
completion_place StatusCodeType = place 3 25 3
