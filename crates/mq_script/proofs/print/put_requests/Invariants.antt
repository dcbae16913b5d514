use Rattle.std.proofs.Common.{◌≡◌, ◌++◌, drop}
use Rattle.mq_script.specs.Printing.{requests_text}
use Rattle.mq_script.proofs.print.put_requests.Given as goal

-- with the text of those that are left, it is the whole text
abbrev pub invariant-loop-request : goal.invariant-loop-request
invariant-loop-request l = l.out.items ++ requests_text (drop l.request-index l.requests) ≡ l.initial.out.items ++ requests_text l.requests
