use Rattle.std.proofs.Common.{◌≡◌, ◌<◌, ◌-◌, length, get_or, sym, ap, subst, ◌∙◌, arith}
use Rattle.std.proofs.lemmas.List.{get_or_read}
use Rattle.mq_ledger.specs.History.{IsAt}
use Rattle.mq_ledger.specs.State.{State}
use Rattle.mq_ledger.proofs.History.{at_most, at_numbered}
use Rattle.mq_loose.specs.Rows.{row_for}
use Rattle.mq_loose.proofs.RowLists.{length-rows, row_at}
use Rattle.mq_loose.proofs.machine.LooseCore.row.Goals as goal

pub overflow_sub-at : goal.overflow_sub-at
overflow_sub-at c =
    let n = (at_numbered c.args.self.now.base c.requires.tx c.requires.before c.args.self.now.history c.base.ensures.numbers c.requires.stands).0 in
    omega (arith, n, c.requires.number, c.number.view_is, c.base.ensures.is)

pub overflow_sub-at-2 : goal.overflow_sub-at-2
overflow_sub-at-2 c =
    let n = (at_numbered c.args.self.now.base c.requires.tx c.requires.before c.args.self.now.history c.base.ensures.numbers c.requires.stands).0 in
    omega (arith, n, c.requires.number, c.number.view_is, c.base.ensures.is)

pub index-requires : goal.index-requires
index-requires c =
    let h = c.args.self.now.history in
    let n = (at_numbered c.args.self.now.base c.requires.tx c.requires.before h c.base.ensures.numbers c.requires.stands).0 in
    let m = at_most c.args.self.now.base c.requires.tx c.requires.before h c.base.ensures.numbers c.requires.stands in
    let r = length-rows c.self.inside.ledger.base c.self.inside.ledger.starts c.self.inside.ledger.history c.self.inside.rows.items c.self.invariant.rows in
    let same : length c.self.inside.ledger.history ≡ length h = ap (λ (t : State). length t.history) c.self.view_is in
    omega (arith, n, m, r, same, c.requires.number, c.number.view_is, c.base.ensures.is, c.self.inside.rows.ok.0)

pub returns : goal.returns
returns c t ts at number =
    let base = c.args.self.now.base in
    let n = (at_numbered base t ts c.args.self.now.history c.base.ensures.numbers at).0 in
    let m = at_most base t ts c.args.self.now.history c.base.ensures.numbers at in
    let r = length-rows c.self.inside.ledger.base c.self.inside.ledger.starts c.self.inside.ledger.history c.self.inside.rows.items c.self.invariant.rows in
    let same : length c.self.inside.ledger.history ≡ length c.args.self.now.history = ap (λ (s : State). length s.history) c.self.view_is in
    let index : c.number.inside.0 - c.base.result - 1 ≡ length ts = omega (arith, n, number, c.number.view_is, c.base.ensures.is) in
    let inside : c.number.inside.0 - c.base.result - 1 < length c.self.inside.rows.items = omega (arith, index, r, same, n, m) in
    let there : IsAt t ts c.self.inside.ledger.history = subst (λ (s : State). IsAt t ts s.history) (sym c.self.view_is) at in
    let read : c.index.result.now ≡ get_or c.self.inside.rows.items (length ts) c.index.result.now = get_or_read c.self.inside.rows.items (c.number.inside.0 - c.base.result - 1) c.index.result.now inside c.index.ensures c.index.result.now ∙ ap (λ k. get_or c.self.inside.rows.items k c.index.result.now) index in
    read ∙ row_at c.self.inside.ledger.base c.self.inside.ledger.starts t ts c.self.inside.ledger.history c.self.inside.rows.items c.index.result.now c.self.invariant.rows there ∙ ap (λ (s : State). row_for s.base s.starts t ts) c.self.view_is
