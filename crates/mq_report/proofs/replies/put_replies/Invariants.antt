use Rattle.std.proofs.Common.{◌≡◌, ◌++◌, drop, map}
use Rattle.mq_report.specs.Texts.{reply_line, spelled}
use Rattle.mq_report.proofs.replies.put_replies.Given as goal

-- with the lines of those that are left, it is the whole text
abbrev pub invariant-loop-reply : goal.invariant-loop-reply
invariant-loop-reply l = l.out.items ++ spelled (map reply_line (drop l.reply-index l.replies)) ≡ l.initial.out.items ++ spelled (map reply_line l.replies)
