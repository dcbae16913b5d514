use Rattle.std.proofs.Common.{sym, ◌∙◌, ap}
use Rattle.std.specs.Prelude.{position}
use Rattle.mq_outside.specs.Outside.{held_in, is_named}
use Rattle.mq_outside.proofs.OutsideLemmas.{held_in-set, held_in-push}
use Rattle.mq_outside.proofs.names.put.Goals as goal

pub returns-in-Some-clause-ok : goal.returns-in-Some-clause-ok
returns-in-Some-clause-ok c =
    held_in-set c.args.entries.now.items c.args.name.now c.args.bytes.now c.in-Some.at c.index_mut.result.now c.in_ok-copy.copy
    (ap (position (is_named c.args.name.now)) (sym c.as_slice.ensures.value) ∙ sym c.in-Some.ensures) c.index_mut.ensures.value c.in_ok-copy.ensures.items

pub returns-in_ok-push-in-None-clause-ok : goal.returns-in_ok-push-in-None-clause-ok
returns-in_ok-push-in-None-clause-ok c =
    ap held_in c.in_ok-push-in-None.ensures.items
    ∙ held_in-push c.args.entries.now.items c.args.name.now c.args.bytes.now (c.in_ok-from_str-in-None.field-0, c.in_ok-copy.copy)
    (ap (position (is_named c.args.name.now)) (sym c.as_slice.ensures.value) ∙ sym c.in-None.ensures) c.in_ok-from_str-in-None.ensures.ok c.in_ok-copy.ensures.items
