use Rattle.mq_loose_text.proofs.Forms.{done_read, no_done_queue, no_queue}
use Rattle.mq_loose_text.proofs.read.read_done.Goals as goal

pub returns-in-Some-clause-found : goal.returns-in-Some-clause-found
returns-in-Some-clause-found c = done_read c.args.digit c.in-Some.queue c.in-Some.ensures.found.0 c.in-Some.ensures.found.1

pub returns-in-None-clause-only : goal.returns-in-None-clause-only
returns-in-None-clause-only c = λ none. no_done_queue c.args.digit (no_queue c.args.digit c.read_queue.result c.in-None.is c.read_queue.ensures.only)
