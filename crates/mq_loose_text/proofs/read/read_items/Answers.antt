use Rattle.std.proofs.Common.{Err, ap, ◌∙◌}
use Rattle.mq_loose_text.proofs.ItemLines.{no_feed, not_refused, read_one, shorter}
use Rattle.mq_loose_text.proofs.read.read_items.Goals as goal

pub returns-then-without_last_line_feed-text-clause-only :
    goal.returns-then-without_last_line_feed-text-clause-only
returns-then-without_last_line_feed-text-clause-only c = λ none.
    no_feed c.args.text.now c.without_last_line_feed.result.now
    (shorter c.args.text.now c.without_last_line_feed.result.now c.without_last_line_feed.ensures c.if-without_last_line_feed-text.true)

pub returns-in-Ok-clause-only : goal.returns-in-Ok-clause-only
returns-in-Ok-clause-only c = λ none is good e.
    c.only_line.ensures.only none (read_one c.args.text.now c.read_block_text.result c.in-Ok.read c.in-Ok.is c.read_block_text.ensures.only is good e)

pub returns-in-Err-At-clause-only : goal.returns-in-Err-At-clause-only
returns-in-Err-At-clause-only c = λ none is good e.
    not_refused c.args.text.now c.read_block_text.result c.in-Err-At.field-0-0 c.in-Err-At.field-0-1 (c.in-Err-At.is ∙ ap Err c.in-Err-At.field-0-is) c.read_block_text.ensures.only is good e
