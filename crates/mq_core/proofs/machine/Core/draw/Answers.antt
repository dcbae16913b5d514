use Rattle.std.proofs.Common.{◌≡◌, Ok, reverse, filter, not, sym, ap, subst, ◌∙◌}
use Rattle.mq_blocks.specs.Geometry.{homes_of}
use Rattle.mq_ledger.specs.Plain.{plain}
use Rattle.mq_ledger.specs.Records.{Ledger, push_tx}
use Rattle.mq_ledger.specs.State.{State}
use Rattle.mq_core.specs.Events.{unchanged_by}
use Rattle.mq_core.specs.Machine.{IsAllowed, Draw}
use Rattle.mq_core.specs.View.{IsHeld, state_of, state_with}
use Rattle.mq_core.proofs.MachineLifts.{Told, happened, answer_at}
use Rattle.mq_core.proofs.MachineCore.{core_machine}
use Rattle.mq_core.proofs.EventsTellings.{drawn_front, has_place, is_new, left_by}
use Rattle.mq_core.proofs.machine.Core.draw.Goals as goal
use Rattle.mq_core.proofs.machine.Core.draw.Goals.{Else-not-may_draw, After-drop_changed}

may : (c : Else-not-may_draw) → IsAllowed plain (Draw c.args.tx) (state_of c.self.inside)
may c = subst (λ (t : State). IsAllowed plain (Draw c.args.tx) t) (sym c.self.view_is) (c.may_draw.ensures.0 c.if-not-may_draw.false)

told : (c : After-drop_changed) → Told core_machine (Draw c.args.tx) c.self.inside.ledger.front (state_of c.self.inside) (state_with c.push.new.self c.self.inside.ports.items c.self.inside.root c.self.inside.marks.items (reverse c.drop_changed.new.blocks.items) (reverse c.self.inside.acknowledged.items)) (Ok tt)
told c =
    let i = c.self.inside in
    let s = state_of i in
    let t = c.args.tx in
    let f = c.self.invariant.facts in
    let m = may (goal.at.After-drop_changed c).Else-not-may_draw in
    let pushed : c.push.new.self ≡ push_tx t i.ledger = c.in_ok-push.ensures.ok in
    let left : reverse c.drop_changed.new.blocks.items ≡ unchanged_by t (reverse i.writing.items) =
    ap reverse c.drop_changed.ensures ∙ ap (λ (l : Ledger). reverse (filter (λ x. not (is_new (homes_of l.geometry) l.base l.history t.number x)) i.writing.items)) pushed
    ∙ left_by (homes_of i.ledger.geometry) i.ledger.base t i.ledger.history i.writing.items f.log.numbers m.0.number (λ x among. (f.writing x among).block) in
    happened core_machine (Draw t) i.ledger.front s (state_with c.push.new.self i.ports.items i.root i.marks.items (reverse c.drop_changed.new.blocks.items) (reverse i.acknowledged.items)) c.self.invariant m
    (λ j. state_with (pushed j) i.ports.items i.root i.marks.items (left j) (reverse i.acknowledged.items)) (drawn_front i.ledger s.ports s.root s.marks s.writing s.acknowledged c.self.invariant t m)

pub push-requires : goal.push-requires
push-requires c =
    let i = c.self.inside in
    let s = state_of i in
    let m = may (goal.at.push-requires c).Else-not-may_draw in
    has_place i.ledger s.ports s.root s.marks s.writing s.acknowledged c.self.invariant c.args.tx m.0 m.1

pub invariant_of-self-2 : goal.invariant_of-self-2
invariant_of-self-2 c = subst (λ n. IsHeld n (state_with c.push.new.self c.self.inside.ports.items c.self.inside.root c.self.inside.marks.items (reverse c.drop_changed.new.blocks.items) (reverse c.self.inside.acknowledged.items))) (sym (ap (λ (l : Ledger). l.front) c.in_ok-push.ensures.ok)) (told c).held

pub returns : goal.returns
returns c = answer_at c.self.view_is (told c)
