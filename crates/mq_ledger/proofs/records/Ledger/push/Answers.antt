use Rattle.std.proofs.Common.{◌≡◌, ◌++◌, ◌∷◌, [], set, get_or, refl, sym, subst, rules}
use Rattle.mq_ledger.specs.Records.{Ledger, HasPlace, own, from_of}
use Rattle.mq_ledger.specs.Tables.{ledger_of, row_of}
use Rattle.mq_ledger.proofs.TablesLedgers.{tables_along}
use Rattle.mq_ledger.proofs.records.Ledger.push.Goals as goal

pub invariant_of-self-2 : goal.invariant_of-self-2
invariant_of-self-2 c =
    let i = c.self.inside in
    let t = c.args.tx in
    let history : c.push_reserved-2.new.self.items ≡ i.history.items ++ t ∷ [] = search rules in
    let ends : c.push_reserved.new.self.items ≡ i.ends.items ++ c.row_after-row.result.end ∷ [] = search rules in
    let queue_rows : c.add_row.new.queue_rows.items ≡ set i.queue_rows.items t.queue (get_or i.queue_rows.items t.queue [] ++ c.row_after-row.result ∷ []) = search rules in
    let Fits : Ledger → Type 0 = λ v. HasPlace v t in
    let Behind : Ledger → Type 0 = λ v. c.row.result ≡ row_of (from_of v t.queue) (own v t.queue) in
    let row = c.row_after-row.ensures in
    tables_along (ledger_of i) t c.row.result c.row_after-row.result i.newest.items i.settled.items c.mark.new.table.items i.queue_rows.items c.add_row.new.queue_rows.items i.ends.items c.push_reserved.new.self.items i.history.items c.push_reserved-2.new.self.items
    c.self.invariant (subst Fits (sym c.self.view_is) c.requires) (subst Behind (sym c.self.view_is) c.row.ensures.is) row.number row.end row.next_is refl history c.mark.ensures queue_rows ends
