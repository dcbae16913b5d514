use Rattle.std.proofs.Common.{◌≡◌, length, reverse, subst, sym, ap, refl, ◌∙◌, arith}
use Rattle.std.proofs.lemmas.Result.{IfOk-weaker}
use Rattle.mq_blocks.specs.declared.geometry.Geometry.{Geometry}
use Rattle.mq_ledger.specs.History.{writes, IsAt}
use Rattle.mq_ledger.specs.Items.{further_blocks}
use Rattle.mq_ledger.specs.KnownJournal.{IsTx}
use Rattle.mq_ledger.specs.Records.{Ledger}
use Rattle.mq_ledger.specs.declared.queue_rows.Row.{Row}
use Rattle.mq_ledger.specs.declared.tx.Tx.{Tx}
use Rattle.mq_ledger.proofs.RecordsLookups.{tables_now}
use Rattle.mq_ledger.proofs.RecordsStages.{entry_of, entry_staged}
use Rattle.mq_ledger.proofs.records.Ledger.entry.Goals as goal

pub number_at-number-requires-clause-at : goal.number_at-number-requires-clause-at
number_at-number-requires-clause-at c =
    let e = entry_of c.args.self.now c.args.queue c.args.count c.requires.low c.requires.high in
    let size = e.size in
    let few = e.few in
    let is = c.ended-at.ensures.is in
    omega arith

pub numbered-tx-requires-clause-there : goal.numbered-tx-requires-clause-there
numbered-tx-requires-clause-there c =
    let e = entry_of c.args.self.now c.args.queue c.args.count c.requires.low c.requires.high in
    let history : reverse c.deref.result.now ≡ c.args.self.now.history = ap reverse c.deref.ensures.value ∙ ap (λ (v : Ledger). v.history) c.self.view_is in
    (e.t, e.ts, subst (IsAt e.t e.ts) (sym history) e.at, sym (c.number_at-number.ensures e.t e.txs e.inside (sym (c.ended-at.ensures.is ∙ e.size))))

pub overflow_sub-count : goal.overflow_sub-count
overflow_sub-count c =
    let e = entry_of c.args.self.now c.args.queue c.args.count c.requires.low c.requires.high in
    let row = ap (λ (r : Row). r.end) (c.row_at-before.ensures e.txs e.part (sym (c.ended-at.ensures.is ∙ e.size))) in
    let low = e.low in
    omega arith

pub stage_entry-requires-clause-form : goal.stage_entry-requires-clause-form
stage_entry-requires-clause-form c =
    let s = c.args.self.now in
    let e = entry_of s c.args.queue c.args.count c.requires.low c.requires.high in
    let history : reverse c.deref.result.now ≡ s.history = ap reverse c.deref.ensures.value ∙ ap (λ (v : Ledger). v.history) c.self.view_is in
    let tx = c.numbered-tx.ensures e.t e.ts (subst (IsAt e.t e.ts) (sym history) e.at) (sym (c.number_at-number.ensures e.t e.txs e.inside (sym (c.ended-at.ensures.is ∙ e.size)))) in
    let form = (tables_now c.self.inside s c.self.view_is c.self.invariant).each e.t e.ts e.at in
    let G : Geometry → Type 0 = λ g. IsTx g e.t in
    let T : Tx → Type 0 = λ t. IsTx c.self.inside.geometry t in
    subst T (sym tx) (subst G (sym (ap (λ (v : Ledger). v.geometry) c.self.view_is)) form)

pub stage_entry-requires-clause-places : goal.stage_entry-requires-clause-places
stage_entry-requires-clause-places c =
    let s = c.args.self.now in
    let e = entry_of s c.args.queue c.args.count c.requires.low c.requires.high in
    let history : reverse c.deref.result.now ≡ s.history = ap reverse c.deref.ensures.value ∙ ap (λ (v : Ledger). v.history) c.self.view_is in
    let tx = c.numbered-tx.ensures e.t e.ts (subst (IsAt e.t e.ts) (sym history) e.at) (sym (c.number_at-number.ensures e.t e.txs e.inside (sym (c.ended-at.ensures.is ∙ e.size)))) in
    let logged = ap (λ (t : Tx). length t.logged) tx in
    let blocks = ap further_blocks tx in
    let row = ap (λ (r : Row). r.next) (c.row_at-before.ensures e.txs e.part (sym (c.ended-at.ensures.is ∙ e.size))) in
    let most = (tables_now c.self.inside s c.self.view_is c.self.invariant).places c.args.queue c.requires.queue in
    let place = e.place in
    omega arith

pub stage_entry-requires-clause-index : goal.stage_entry-requires-clause-index
stage_entry-requires-clause-index c =
    let s = c.args.self.now in
    let e = entry_of s c.args.queue c.args.count c.requires.low c.requires.high in
    let history : reverse c.deref.result.now ≡ s.history = ap reverse c.deref.ensures.value ∙ ap (λ (v : Ledger). v.history) c.self.view_is in
    let tx = c.numbered-tx.ensures e.t e.ts (subst (IsAt e.t e.ts) (sym history) e.at) (sym (c.number_at-number.ensures e.t e.txs e.inside (sym (c.ended-at.ensures.is ∙ e.size)))) in
    let many = ap writes tx in
    let blocks = ap further_blocks tx in
    let row = ap (λ (r : Row). r.end) (c.row_at-before.ensures e.txs e.part (sym (c.ended-at.ensures.is ∙ e.size))) in
    let high = e.high in
    omega arith

pub returns : goal.returns
returns c =
    let s = c.args.self.now in
    let e = entry_of s c.args.queue c.args.count c.requires.low c.requires.high in
    let history : reverse c.deref.result.now ≡ s.history = ap reverse c.deref.ensures.value ∙ ap (λ (v : Ledger). v.history) c.self.view_is in
    let tx = c.numbered-tx.ensures e.t e.ts (subst (IsAt e.t e.ts) (sym history) e.at) (sym (c.number_at-number.ensures e.t e.txs e.inside (sym (c.ended-at.ensures.is ∙ e.size)))) in
    let row = c.row_at-before.ensures e.txs e.part (sym (c.ended-at.ensures.is ∙ e.size)) in
    IfOk-weaker c.stage_entry.result _ _ (λ staged each. entry_staged s c.self.inside.geometry c.args.queue c.args.count _ e c.numbered-tx.result.now c.row_at-before.result staged (ap (λ (v : Ledger). v.geometry) c.self.view_is) tx row refl each) c.stage_entry.ensures
