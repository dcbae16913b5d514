use Rattle.std.proofs.Common.{reverse, Result, Ok, Err, ap, ◌∙◌}
use Rattle.std.specs.Prelude.{IfOk}
use Rattle.mq_ledger.specs.History.{of_queue}
use Rattle.mq_ledger.specs.Items.{end_of, next, number_before}
use Rattle.mq_ledger.specs.State.{State, from_at}
use Rattle.mq_loose.specs.Rows.{newest_number}
use Rattle.mq_loose.proofs.RowLists.{newest-of}
use Rattle.mq_loose.proofs.Staged.{few-further}
use Rattle.mq_loose.proofs.machine.LooseCore.next_row.Goals as goal

ok_along : {E A : Type 0} (r : Result A E) (P Q : A → Type 0) → IfOk r P → ((x : A) → P x → Q x) → IfOk r Q
ok_along (Ok v) P Q p each = each v p
ok_along (Err x) P Q p each = tt

pub row_of-requires-clause-one : goal.row_of-requires-clause-one
row_of-requires-clause-one c = few-further c.args.tx.now (record { direct = c.requires.direct; revoked = c.requires.revoked; few = c.requires.may.fits.few })

pub returns : goal.returns
returns c =
    let i = c.self.inside in
    let s = c.args.self.now in
    let q = c.args.tx.now.queue in
    let end = c.end-end.ensures.is ∙ ap (λ (v : State). end_of (from_at v.starts q) (of_queue q v.history)) c.self.view_is in
    let place = c.next_place-place.ensures.is ∙ ap (λ (v : State). next (of_queue q v.history)) c.self.view_is in
    let newest = c.newest_of.ensures ∙ ap (λ rs. newest_number q (reverse rs)) c.deref.ensures.value ∙ newest-of i.ledger.base i.ledger.starts q i.ledger.history i.rows.items c.self.invariant.rows ∙ ap (λ (v : State). number_before (of_queue q v.history)) c.self.view_is in
    ok_along c.row_of.result _ _ c.row_of.ensures (λ r each. each s.base s.starts s.history end place newest c.requires.may.deps_are)
