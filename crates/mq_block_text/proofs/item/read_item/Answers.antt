use Rattle.std.proofs.lemmas.Result.{err_from_is_err_and}
use Rattle.mq_block_text.specs.declared.item.BlockItem.TheVariants.{Set, Free}
use Rattle.mq_block_text.proofs.TextItems.{block_refused}
use Rattle.mq_block_text.proofs.item.read_item.Goals as goal

pub returns-in_err-named_block-clause-refused : goal.returns-in_err-named_block-clause-refused
returns-in_err-named_block-clause-refused c =
    let p = err_from_is_err_and c.from_residual.result c.from_residual.ensures.1 in
    let found = c.in-Some.ensures.found in
    let bad = c.in_err-named_block.ensures.refused in
    rw (p.1, p.2) (block_refused c.args.text.now c.in_err-named_block.field-0.0 (Set c.in-Some.number c.in-Some.byte) (found.0, found.1) bad.1 found.2 bad.0)

pub returns-in_err-named_block-in-Some-read_free-clause-refused :
    goal.returns-in_err-named_block-in-Some-read_free-clause-refused
returns-in_err-named_block-in-Some-read_free-clause-refused c =
    let p = err_from_is_err_and c.from_residual-in_err-named_block-in-Some-read_free.result c.from_residual-in_err-named_block-in-Some-read_free.ensures.1 in
    let found = c.in-Some-read_free.ensures.found in
    let bad = c.in_err-named_block-in-Some-read_free.ensures.refused in
    rw (p.1, p.2) (block_refused c.args.text.now c.in_err-named_block-in-Some-read_free.field-0.0 (Free c.in-Some-read_free.number) found.0 bad.1 found.1 bad.0)
