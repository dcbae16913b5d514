use Rattle.std.proofs.Common.{[], ap, length, replicate, ◌∙◌, rules, arith}
use Rattle.mq_ledger.proofs.TablesStarts.{tables_start}
use Rattle.mq_ledger.proofs.records.Ledger.start.Goals as goal

pub invariant_of-result : goal.invariant_of-result
invariant_of-result c =
    tables_start c.args.geometry _ _ _ _ _ _ _ _ (record {
      size = ap length c.in_ok-copy_blocks.ensures ∙ c.requires.blocks;
      limit = omega (arith, c.requires.base, c.base.view_is);
      starts_are = c.in_ok-repeated.ensures ∙ ap (λ n. replicate n 0) c.queues-queues.ensures;
      history_is = c.new.ensures.items;
      ends_are = c.new-2.ensures.items;
      newest_is = search rules;
      settled_is = search rules;
      rows_are = c.in_ok-empty_queue_rows.ensures ∙ ap (λ n. replicate n []) c.queues-queues.ensures;
    })
