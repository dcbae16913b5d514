use Rattle.std.proofs.Common.{drop}
use Rattle.mq_exec.proofs.AheadLacking.{IsAhead}
use Rattle.mq_inodes.specs.Pages.{held_pages}
use Rattle.mq_exec.proofs.ahead.look_ahead.Given as goal

abbrev pub invariant-loop-request : goal.invariant-loop-request
invariant-loop-request l = IsAhead l.fn.geometry l.fn.queue (held_pages l.fn.view.held.now.cells) l.working l.requests (drop l.request-index l.requests) l.lacked.items
