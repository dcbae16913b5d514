use Rattle.mq_loose_text.proofs.Forms.{no_form}
use Rattle.mq_loose_text.proofs.read.read_loose_line.Goals as goal

pub returns-in-None-clause-only : goal.returns-in-None-clause-only
returns-in-None-clause-only c = λ none. no_form c.args.text.now (c.commit_parts.ensures.only c.in_default.is) (c.done_digit.ensures.only c.in-None.is)
