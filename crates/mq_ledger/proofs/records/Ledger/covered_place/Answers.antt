use Rattle.std.proofs.Common.{ℕ, length, ap, sym, ◌∙◌, arith}
use Rattle.mq_ledger.specs.History.{upto}
use Rattle.mq_ledger.specs.Records.{own}
use Rattle.mq_ledger.specs.declared.queue_rows.Row.{Row}
use Rattle.mq_ledger.proofs.TablesRows.{upto-part}
use Rattle.mq_ledger.proofs.records.Ledger.covered_place.Goals as goal
use Rattle.mq_ledger.proofs.Items.{next_upto}

pub returns-clause-is : goal.returns-clause-is
returns-clause-is c =
    let txs = own c.args.self.now c.args.queue in
    ap (λ (r : Row). r.next) (c.row_at.ensures (upto c.args.word txs) (upto-part c.args.word txs) (sym (c.up_to.ensures.is ∙ ap (λ (n : ℕ). length (upto n txs)) c.word.view_is)))

pub returns-clause-limit : goal.returns-clause-limit
returns-clause-limit c =
    let txs = own c.args.self.now c.args.queue in
    let few = next_upto c.args.word txs in
    let e = ap (λ (r : Row). r.next) (c.row_at.ensures (upto c.args.word txs) (upto-part c.args.word txs) (sym (c.up_to.ensures.is ∙ ap (λ (n : ℕ). length (upto n txs)) c.word.view_is))) in
    omega arith
