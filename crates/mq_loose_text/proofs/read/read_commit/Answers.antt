use Rattle.std.proofs.Common.{◌≡◌, List, Option, IfSome, subst}
use Rattle.mq_block_text.specs.Text as items
use Rattle.mq_block_text.specs.declared.item.BlockItem.{BlockItem}
use Rattle.mq_loose_text.proofs.Forms.{commit_read, no_commit_items, no_commit_queue, no_queue}
use Rattle.mq_loose_text.proofs.read.read_commit.Goals as goal

pub returns-in_default-clause-only : goal.returns-in_default-clause-only
returns-in_default-clause-only c = λ none. no_commit_queue c.args.digit c.args.text.now (no_queue c.args.digit c.read_queue.result c.in_default.is c.read_queue.ensures.only)

pub returns-in-Some-2-clause-found : goal.returns-in-Some-2-clause-found
returns-in-Some-2-clause-found c =
    let queue = c.in-Some.ensures.found in
    let read = subst (λ (o : Option (List BlockItem)). IfSome o (λ l. (c.args.text.now ≡ items.line_text l) × items.IsGoodLine l)) c.in-Some-2.is c.in_ok-items.ensures.found in
    commit_read c.args.digit c.args.text.now c.in-Some.queue c.in-Some-2.items queue.0 queue.1 read.0 read.1

pub returns-in-None-clause-only : goal.returns-in-None-clause-only
returns-in-None-clause-only c = λ none. no_commit_items c.args.digit c.args.text.now (c.in_ok-items.ensures.only c.in-None.is)
