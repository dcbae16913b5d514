use Rattle.std.proofs.Common.{◌≡◌, ◌++◌, ◌∷◌, [], Ok, reverse, filter, not, sym, ap, subst, ◌∙◌, rules}
use Rattle.mq_blocks.specs.Geometry.{homes_of}
use Rattle.mq_ledger.specs.Plain.{plain}
use Rattle.mq_ledger.specs.Records.{Ledger, push_tx}
use Rattle.mq_ledger.specs.State.{State}
use Rattle.mq_core.specs.Answers.{Answers}
use Rattle.mq_core.specs.Events.{draw, unchanged_by}
use Rattle.mq_core.specs.View.{state_with}
use Rattle.mq_loose.specs.Guards.{MayDrawLoose}
use Rattle.mq_loose.specs.Rows.{loose_rows, row_for}
use Rattle.mq_loose.specs.View.{IsHeld, no_marks, state_of}
use Rattle.mq_loose.proofs.RowLists.{rows_more}
use Rattle.mq_core.proofs.EventsTellings.{is_new, left_by}
use Rattle.mq_loose.proofs.Tellings.{drawn}
use Rattle.mq_loose.proofs.machine.LooseCore.draw_tx.Goals as goal
use Rattle.mq_loose.proofs.machine.LooseCore.draw_tx.Goals.{After-drop_changed}

-- the state after it
abbrev after : After-drop_changed → State
after c = state_with c.push.new.self c.self.inside.ports.items c.self.inside.root (no_marks c.push.new.self) (reverse c.drop_changed.new.blocks.items) (reverse c.self.inside.acknowledged.items)

pushed : (c : After-drop_changed) → c.push.new.self ≡ push_tx c.args.tx c.self.inside.ledger
pushed c = c.in_ok-push.ensures.ok

told : (c : After-drop_changed) → IsHeld c.self.inside.ledger.front (after c) × Answers (MayDrawLoose plain (state_of c.self.inside) c.args.tx c.args.deps) (draw c.args.tx (state_of c.self.inside)) (state_of c.self.inside) (after c) (Ok tt)
told c =
    let i = c.self.inside in
    let s = state_of i in
    let t = c.args.tx in
    let f = c.self.invariant.held.facts in
    let m : MayDrawLoose plain s t c.args.deps = subst (λ (v : State). MayDrawLoose plain v t c.args.deps) (sym c.self.view_is) (c.in_ok-may_draw.ensures.0 c.if-not-branch.false) in
    let left : reverse c.drop_changed.new.blocks.items ≡ unchanged_by t (reverse i.writing.items) =
    ap reverse c.drop_changed.ensures ∙ ap (λ (l : Ledger). reverse (filter (λ x. not (is_new (homes_of l.geometry) l.base l.history t.number x)) i.writing.items)) (pushed c)
    ∙ left_by (homes_of i.ledger.geometry) i.ledger.base t i.ledger.history i.writing.items f.log.numbers m.fits.may.number (λ x among. (f.writing x among).block) in
    drawn i.ledger s.ports s.root s.marks s.writing s.acknowledged c.self.invariant.held t c.args.deps (after c) c.requires.direct c.requires.revoked m
    (λ j. state_with (pushed c j) i.ports.items i.root (no_marks (pushed c j)) (left j) (reverse i.acknowledged.items))

pub invariant_of-self-2 : goal.invariant_of-self-2
invariant_of-self-2 c =
    let i = c.self.inside in
    let t = c.args.tx in
    let row : c.in_ok-row.row ≡ row_for i.ledger.base i.ledger.starts t i.ledger.history = c.in_ok-row.ensures ∙ sym (ap (λ (v : State). row_for v.base v.starts t v.history) c.self.view_is) in
    let items : c.push_reserved.new.self.items ≡ i.rows.items ++ c.in_ok-row.row ∷ [] = search rules in
    record {
      held = subst (λ n. IsHeld n (after c)) (sym (ap (λ (l : Ledger). l.front) (pushed c))) (told c).0;
      rows = rows_more i.ledger.base i.ledger.starts t i.ledger.history i.rows.items c.push_reserved.new.self.items c.in_ok-row.row c.self.invariant.rows row items ∙ sym (ap (λ (l : Ledger). reverse (loose_rows l.base l.starts l.history)) (pushed c));
    }

pub returns : goal.returns
returns c = subst (λ (v : State). Answers (MayDrawLoose plain v c.args.tx c.args.deps) (draw c.args.tx v) v (after c) (Ok tt)) c.self.view_is (told c).1
