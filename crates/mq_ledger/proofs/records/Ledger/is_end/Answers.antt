use Rattle.std.proofs.Common.{ap, sym, ◌∙◌}
use Rattle.std.proofs.lemmas.Bool.{eq-eqb, eqb-true}
use Rattle.mq_ledger.specs.Items.{below}
use Rattle.mq_ledger.specs.Records.{own, from_of}
use Rattle.mq_ledger.specs.declared.queue_rows.Row.{Row}
use Rattle.mq_ledger.proofs.TablesRows.{below-part}
use Rattle.mq_ledger.proofs.records.Ledger.is_end.Goals as goal

pub returns : goal.returns
returns c =
    let s = c.args.self.now in
    let txs = below (from_of s c.args.queue) c.args.count (own s c.args.queue) in
    let e = ap (λ (r : Row). r.end) (c.row_at.ensures txs (below-part (from_of s c.args.queue) c.args.count (own s c.args.queue)) (sym c.ended.ensures.is)) in
    (λ t. sym e ∙ eqb-true _ _ t, λ is. eq-eqb _ _ (e ∙ is))
