-- Which answers end a session.
use Rattle.std.specs.Prelude.{ℕ, Bool, true, false, Result, Ok, Err}
use Rattle.mq_queue_side.specs.declared.answers.CallCause.{CallCause}
use Rattle.mq_queue_side.specs.declared.answers.CallCause.TheVariants.{OutOfMemory, TooLarge, Changes, Drive}
use Rattle.mq_queue_side.specs.declared.answers.Refusal.{Refusal}

-- a refusal for this cause ends its session
abbrev pub is_end : CallCause → Bool
is_end OutOfMemory = true
is_end (TooLarge count limit) = false
is_end (Changes index) = false
is_end (Drive why) = true

-- a session asks nothing more after such an answer
abbrev pub ends_session : Result ℕ Refusal → Bool
ends_session (Ok number) = false
ends_session (Err refusal) = is_end refusal.cause
