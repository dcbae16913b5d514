use Rattle.std.proofs.Common.{drop}
use Rattle.mq_exec.proofs.Outcomes.{IsRun}
use Rattle.mq_inodes.specs.Pages.{held_pages}
use Rattle.mq_exec.proofs.group.run.Given as goal

abbrev pub invariant-loop-request : goal.invariant-loop-request
invariant-loop-request l = IsRun l.fn.geometry l.fn.queue (held_pages l.fn.view.held.now.cells) l.initial.working l.working l.requests (drop l.request-index l.requests) l.replies.items
