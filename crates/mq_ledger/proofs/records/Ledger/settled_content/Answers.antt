use Rattle.std.proofs.Common.{◌≡◌, ℕ, List, Option, reverse, sym, ap, subst, ◌∙◌}
use Rattle.mq_ledger.specs.History.{map_after, upto}
use Rattle.mq_ledger.specs.Records.{Ledger}
use Rattle.mq_ledger.specs.State.{start_map}
use Rattle.mq_ledger.specs.Tables.{Stands}
use Rattle.mq_ledger.specs.declared.tx.Tx.{Tx}
use Rattle.mq_ledger.proofs.RecordsDraws.{stands_upto}
use Rattle.mq_ledger.proofs.records.Ledger.settled_content.Goals as goal

pub find-requires-clause-place : goal.find-requires-clause-place
find-requires-clause-place c =
    let s = c.args.self.now in
    let m = map_after (start_map s.start) (upto s.front s.history) c.args.block in
    let p = c.settled_of-place.result.place in
    let start : c.deref.result.now ≡ s.start = c.deref.ensures.value ∙ ap (λ (v : Ledger). v.start) c.self.view_is in
    let history : reverse c.deref-2.result.now ≡ s.history = ap reverse c.deref-2.ensures.value ∙ ap (λ (v : Ledger). v.history) c.self.view_is in
    let whole = stands_upto s.start s.front s.history c.args.block p m c.settled_of-place.ensures.is.place in
    let S : List (Option (List ℕ)) → Type 0 = λ v. Stands v (reverse c.deref-2.result.now) c.args.block p m in
    let H : List Tx → Type 0 = λ h. Stands s.start h c.args.block p m in
    (m, subst S (sym start) (subst H (sym history) whole))

pub returns : goal.returns
returns c =
    let s = c.args.self.now in
    let m = map_after (start_map s.start) (upto s.front s.history) c.args.block in
    let p = c.settled_of-place.result.place in
    let start : c.deref.result.now ≡ s.start = c.deref.ensures.value ∙ ap (λ (v : Ledger). v.start) c.self.view_is in
    let history : reverse c.deref-2.result.now ≡ s.history = ap reverse c.deref-2.ensures.value ∙ ap (λ (v : Ledger). v.history) c.self.view_is in
    let whole = stands_upto s.start s.front s.history c.args.block p m c.settled_of-place.ensures.is.place in
    let S : List (Option (List ℕ)) → Type 0 = λ v. Stands v (reverse c.deref-2.result.now) c.args.block p m in
    let H : List Tx → Type 0 = λ h. Stands s.start h c.args.block p m in
    c.find.ensures m (subst S (sym start) (subst H (sym history) whole))
