use Rattle.std.proofs.Common.{rules}
use Rattle.std.specs.Ordering.{is_lt}
use Rattle.std.proofs.lemmas.List.Sorted.{answers_always, ranks_by}
use Rattle.mq_run.specs.Lines.{line_cmp}
use Rattle.mq_run.proofs.LinesOrder.{in_order, line_cmp_total}
use Rattle.mq_run.proofs.lines.sort_lines.Goals as goal

pub returns-clause-order : goal.returns-clause-order
returns-clause-order c =
    in_order c.sort_unstable_by.new.self.items
    (c.sort_unstable_by.ensures.sorted (λ x y. is_lt (line_cmp x y)) (ranks_by line_cmp_total (λ l. l)) (answers_always _ _ _ (λ f a r g h. search rules)))
