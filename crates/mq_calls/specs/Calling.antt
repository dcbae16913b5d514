-- A call of a session.
use Rattle.std.specs.Prelude.{ℕ, Bool, List}
use Rattle.mq_tree.specs.declared.request.Request.{Request}
use Rattle.mq_calls.specs.Acts.{Call}
use Rattle.mq_sessions.specs.Calls as sessions

abbrev pub call_by : (session calls : ℕ) → (durable : Bool) → List Request → Call
call_by session calls durable requests = sessions.call_by session calls durable requests
