use Rattle.std.proofs.Common.{◌≡◌, Bool, List, length, not, true, false, refl, sym, ap, subst, ◌∙◌, arith}
use Rattle.std.proofs.lemmas.List.{length-map}
use Rattle.mq_ledger.specs.Items.{item_at}
use Rattle.mq_ledger.specs.Plain.{plain}
use Rattle.mq_ledger.specs.Staged.{IsStaged}
use Rattle.mq_ledger.specs.State.{State, from_at}
use Rattle.mq_core.specs.Events.{us_of}
use Rattle.mq_loose_order.proofs.Dependences.{deps_few}
use Rattle.mq_loose_order.specs.Form.{loose_bytes}
use Rattle.mq_loose.specs.Rows.{row_for}
use Rattle.mq_loose.specs.Safe.{Facts}
use Rattle.mq_loose.specs.declared.machine.rows.LooseRow.{LooseRow}
use Rattle.mq_loose.proofs.Staged.{EntryOf, entry_of, says_last, staged_other, staged_last}
use Rattle.mq_loose.proofs.machine.LooseCore.entry.Goals as goal
use Rattle.mq_loose.proofs.machine.LooseCore.entry.Goals.{After-said, After-row}

not_true : (b : Bool) → not b ≡ true → b ≡ false
not_true true e = sym e
not_true false e = refl

not_false : (b : Bool) → not b ≡ false → b ≡ true
not_false true e = refl
not_false false e = sym e

facts : (c : After-said) → Facts plain c.args.self.now
facts c = subst (λ (t : State). Facts plain t) c.self.view_is c.self.invariant.held.facts

staged : (c : After-said) → IsStaged c.args.self.now.geometry c.args.queue (item_at (from_at c.args.self.now.starts c.args.queue) (us_of c.args.self.now c.args.queue) c.args.count) c.in_ok-said.field-0
staged c = subst (λ (t : State). IsStaged t.geometry c.args.queue (item_at (from_at t.starts c.args.queue) (us_of t c.args.queue) c.args.count) c.in_ok-said.field-0) c.self.view_is c.in_ok-said.ensures

says : (c : After-said) → c.said.inside.commit ≡ (item_at (from_at c.args.self.now.starts c.args.queue) (us_of c.args.self.now c.args.queue) c.args.count).commit
says c = says_last c.args.self.now c.args.queue c.args.count c.in_ok-said.field-0 c.said.inside.number c.said.inside.lba c.said.inside.commit (staged c) c.said.view_is

of : (c : After-said) → EntryOf c.args.self.now c.args.queue c.args.count
of c = entry_of c.args.self.now c.args.queue c.args.count (facts c) c.requires.low c.requires.high

row_is : (c : After-row) → c.row.result.now ≡ row_for c.args.self.now.base c.args.self.now.starts (of (goal.at.After-row c).After-said).t (of (goal.at.After-row c).After-said).ts
row_is c =
    let a = (goal.at.After-row c).After-said in
    let e = of a in
    c.row.ensures e.t e.ts e.at (sym e.kind.number ∙ sym (staged a).tx)

pub returns-then-not-said : goal.returns-then-not-said
returns-then-not-said c =
    let a = (goal.at.returns-then-not-said c).After-said in
    let r = staged_other c.args.self.now c.args.queue c.args.count c.in_ok-said.field-0 (facts a) c.requires.low c.requires.high (sym (says a) ∙ not_true c.said.inside.commit c.if-not-said.true) (staged a) in
    record { entry = r.entry; tx = r.tx; lba = r.lba; block = r.block }

pub row-requires : goal.row-requires
row-requires c =
    let a = (goal.at.row-requires c).After-said in
    let e = of a in
    record { tx = e.t; before = e.ts; stands = e.at; number = sym e.kind.number ∙ sym (staged a).tx }

pub descriptor_block-requires-clause-logged : goal.descriptor_block-requires-clause-logged
descriptor_block-requires-clause-logged c =
    let r = (goal.at.descriptor_block-requires-clause-logged c).After-row in
    let a = (goal.at.descriptor_block-requires-clause-logged c).After-said in
    let e = of a in
    let few = ((facts a).plain e.t e.ts e.at).few in
    let long = length-map e.t.logged (λ (w : _ × List _). w.0) in
    let is = ap (λ (v : LooseRow). length v.descriptor.logged) (row_is r) in
    omega (arith, is, few, long)

pub descriptor_block-requires-clause-deps : goal.descriptor_block-requires-clause-deps
descriptor_block-requires-clause-deps c =
    let r = (goal.at.descriptor_block-requires-clause-deps c).After-row in
    let a = (goal.at.descriptor_block-requires-clause-deps c).After-said in
    let e = of a in
    let few = ((facts a).plain e.t e.ts e.at).few in
    let is = ap (λ (v : LooseRow). length v.deps) (row_is r) in
    omega (arith, is, few, deps_few c.args.self.now.base e.t e.ts)

pub returns : goal.returns
returns c =
    let r = (goal.at.returns c).After-row in
    let a = (goal.at.returns c).After-said in
    let e = of a in
    let written = c.in_ok-block.ensures ∙ ap (λ (v : LooseRow). loose_bytes v.descriptor v.deps) (row_is r) in
    let k = staged_last c.args.self.now c.args.queue c.args.count c.in_ok-said.field-0 c.in_ok-block.block e.t e.ts (facts a) c.requires.low c.requires.high (sym (says a) ∙ not_false c.said.inside.commit c.if-not-said.false) (staged a) e.at (sym e.kind.number ∙ sym (staged a).tx) written in
    record { entry = k.entry; tx = k.tx; lba = k.lba; block = k.block }
