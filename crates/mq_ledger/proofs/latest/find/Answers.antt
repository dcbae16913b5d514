use Rattle.std.proofs.Common.{◌<◌, ◌++◌, Some, ℕ, List, sym, ap, subst, ◌∙◌, reverse}
use Rattle.mq_ledger.specs.History.{writes}
use Rattle.mq_ledger.specs.Items.{write_at}
use Rattle.mq_ledger.specs.Tables.{Stands}
use Rattle.mq_ledger.specs.declared.latest.Place.{Place}
use Rattle.mq_ledger.specs.declared.tx.Tx.{Tx}
use Rattle.mq_ledger.proofs.latest.find.Goals as goal

pub written-requires : goal.written-requires
written-requires c =
    let r = c.requires.place in
    let P : Place → Type 0 = λ p. Stands c.args.start.now (reverse c.args.history.now) c.args.block p r.0 in
    let s = subst P c.in-Written.is r.1 in
    let Q : Tx → Type 0 = λ t. c.in-Written.at < writes t in
    subst Q (sym (c.numbered.ensures s.0 s.1 s.2 s.3)) s.4

pub returns-in-Written : goal.returns-in-Written
returns-in-Written c v stands =
    let P : Place → Type 0 = λ p. Stands c.args.start.now (reverse c.args.history.now) c.args.block p v in
    let s = subst P c.in-Written.is stands in
    let same = c.numbered.ensures s.0 s.1 s.2 s.3 in
    s.5 ∙ ap (λ (t : Tx). Some (write_at (t.logged ++ t.direct) c.in-Written.at).1) (sym same) ∙ ap (λ (k : List ℕ). Some k) (sym c.written.ensures)
