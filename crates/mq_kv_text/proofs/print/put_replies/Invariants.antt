use Rattle.std.proofs.Common.{◌≡◌, ◌++◌, drop, map}
use Rattle.mq_block_text.specs.Refusals.{ended}
use Rattle.mq_kv_text.specs.Reports.{reply_text}
use Rattle.mq_kv_text.proofs.print.put_replies.Given as goal

-- with the lines of those that are left, it is the whole text
abbrev pub invariant-loop-reply : goal.invariant-loop-reply
invariant-loop-reply l = l.out.items ++ ended 10 (map reply_text (drop l.reply-index l.replies)) ≡ l.initial.out.items ++ ended 10 (map reply_text l.replies)
