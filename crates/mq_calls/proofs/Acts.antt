-- The entry of a call.
use Rattle.mq_exec.specs.declared.outcome.Done.{Done}
use Rattle.mq_calls.specs.declared.entry.FileEntry.{FileEntry}
use Rattle.mq_calls.specs.Acts.{Call, IsOfCall}
use Rattle.mq_calls.specs.Runs.{IsEntryFor}

-- an entry of the call's group is one of the call, with the group's replies
pub of-call : (c : Call) (done : Done) (e : FileEntry) → IsEntryFor c done e → IsOfCall c done.replies.items e
of-call c done e is = record {
  session = is.is.session_is;
  call = is.call;
  durable = is.durable;
  requests = is.is.requests_are;
  replies_are = is.is.replies_are;
}
