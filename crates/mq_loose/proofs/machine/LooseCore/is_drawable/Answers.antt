use Rattle.std.proofs.Common.{◌≡◌, ◌+◌, ◌≤◌, List, length, sym, ap, subst, ◌∙◌, arith}
use Rattle.std.proofs.lemmas.Bool.{false≢true}
use Rattle.mq_blocks.specs.Drive.{PortState}
use Rattle.mq_ledger.specs.KnownJournal.{IsTx, MayDraw}
use Rattle.mq_ledger.specs.Plain.{plain}
use Rattle.mq_ledger.specs.Records.{IsKnown}
use Rattle.mq_ledger.specs.State.{State, from_at, port_at}
use Rattle.mq_core.specs.Events.{HasRoom, us_of}
use Rattle.mq_core.specs.Parts.{AreHeld, parts}
use Rattle.mq_loose_order.specs.Form.{loose_limit}
use Rattle.mq_loose.specs.Guards.{side_known}
use Rattle.mq_loose.specs.View.{state_of}
use Rattle.mq_core.proofs.MachineParts.{held_parts}
use Rattle.mq_loose.proofs.Sides.{sides_of}
use Rattle.mq_loose.proofs.Tellings.{known_is}
use Rattle.mq_loose.proofs.machine.LooseCore.is_drawable.Goals as goal
use Rattle.mq_loose.proofs.machine.LooseCore.is_drawable.Goals.{After-may_draw, Else-not-may_draw}

known : (c : After-may_draw) → IsKnown c.self.inside.ledger c.base.result (side_known plain (state_of c.self.inside))
known c =
    let i = c.self.inside in
    let s = state_of i in
    subst (λ n. IsKnown i.ledger n (side_known plain s)) (sym c.base.ensures) (known_is i.ledger s.ports s.root s.marks s.writing s.acknowledged c.self.invariant.held)

may : (c : Else-not-may_draw) → MayDraw (side_known plain c.args.self.now) c.args.tx.now
may c = subst (λ (t : State). MayDraw (side_known plain t) c.args.tx.now) c.self.view_is ((c.may_draw.ensures (side_known plain (state_of c.self.inside)) (known (goal.at.Else-not-may_draw c).After-may_draw)).0 c.if-not-may_draw.false)

pub returns-then-not-may_draw : goal.returns-then-not-may_draw
returns-then-not-may_draw c = (
  λ k. absurd (false≢true k),
  λ a. sym c.if-not-may_draw.true ∙ (c.may_draw.ensures (side_known plain (state_of c.self.inside)) (known (goal.at.returns-then-not-may_draw c).After-may_draw)).1 (subst (λ (t : State). MayDraw (side_known plain t) c.args.tx.now) (sym c.self.view_is) a.may),
)

pub has_room-requires-clause-held : goal.has_room-requires-clause-held
has_room-requires-clause-held c =
    let i = c.self.inside in
    let s = state_of i in
    subst (λ ps. AreHeld i.ledger.front (parts i.ledger ps i.root)) (sym c.deref.ensures.value) (held_parts i.ledger i.ports.items i.root s.marks s.writing s.acknowledged (sides_of plain s c.self.invariant.held.facts) c.self.invariant.held.front_is)

pub has_room-requires-clause-tx : goal.has_room-requires-clause-tx
has_room-requires-clause-tx c = subst (λ (t : State). IsTx t.geometry c.args.tx.now) (sym c.self.view_is) (may (goal.at.has_room-requires-clause-tx c).Else-not-may_draw).form

pub returns : goal.returns
returns c =
    let l : length c.as_slice-logged.result.now ≡ length c.args.tx.now.logged = ap length c.as_slice-logged.ensures in
    let f : length c.as_slice-freed.result.now ≡ length c.args.tx.now.freed = ap length c.as_slice-freed.ensures in
    let few : length c.args.tx.now.logged + length c.args.tx.now.freed ≤ loose_limit = omega (arith, l, f, c.if-logged-gt-NAMED_LIMIT.false, c.if-freed-logged.false) in
    let t = c.args.tx.now in
    let R : State → List PortState → Type 0 = λ v ps. HasRoom v.geometry (from_at v.starts t.queue) v.root.base (us_of v t.queue) t (port_at ps t.queue) in (
      λ k. record { may = may (goal.at.returns c).Else-not-may_draw; few = few; room = subst (λ (v : State). R v v.ports) c.self.view_is (subst (R (state_of c.self.inside)) c.deref.ensures.value (c.has_room.ensures.0 k)) },
      λ a. c.has_room.ensures.1 (subst (R (state_of c.self.inside)) (sym c.deref.ensures.value) (subst (λ (v : State). R v v.ports) (sym c.self.view_is) a.room)),
    )
