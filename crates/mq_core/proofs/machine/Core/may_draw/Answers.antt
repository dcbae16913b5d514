use Rattle.std.proofs.Common.{◌≡◌, List, length, get_or, sym, ap, subst, ◌∙◌, arith}
use Rattle.std.proofs.lemmas.Bool.{false≢true}
use Rattle.mq_blocks.specs.Drive.{PortState}
use Rattle.mq_ledger.specs.KnownJournal.{IsTx, MayDraw}
use Rattle.mq_ledger.specs.Plain.{plain}
use Rattle.mq_ledger.specs.Records.{IsKnown}
use Rattle.mq_ledger.specs.State.{State, from_at, known_of, port_at}
use Rattle.mq_core.specs.Events.{HasRoom, us_of}
use Rattle.mq_core.specs.Parts.{AreHeld, parts}
use Rattle.mq_core.specs.View.{state_of}
use Rattle.mq_core.proofs.EventsTellings.{known_is}
use Rattle.mq_core.proofs.MachineParts.{held_parts}
use Rattle.mq_core.proofs.StateSides.{sides_of}
use Rattle.mq_core.proofs.machine.Core.may_draw.Goals as goal
use Rattle.mq_core.proofs.machine.Core.may_draw.Goals.{After-may_draw, Else-not-may_draw, After-deref}

known : (c : After-may_draw) → IsKnown c.self.inside.ledger c.base.result (known_of plain (state_of c.self.inside))
known c =
    let i = c.self.inside in
    let s = state_of i in
    subst (λ n. IsKnown i.ledger n (known_of plain s)) (sym c.base.ensures) (known_is i.ledger s.ports s.root s.marks s.writing s.acknowledged c.self.invariant)

may : (c : Else-not-may_draw) → MayDraw (known_of plain c.args.self.now) c.args.tx.now
may c = subst (λ (t : State). MayDraw (known_of plain t) c.args.tx.now) c.self.view_is ((c.may_draw.ensures (known_of plain (state_of c.self.inside)) (known (goal.at.Else-not-may_draw c).After-may_draw)).0 c.if-not-may_draw.false)

pub returns-then-not-may_draw : goal.returns-then-not-may_draw
returns-then-not-may_draw c = (
  λ k. absurd (false≢true k),
  λ a. sym c.if-not-may_draw.true ∙ (c.may_draw.ensures (known_of plain (state_of c.self.inside)) (known (goal.at.returns-then-not-may_draw c).After-may_draw)).1 (subst (λ (t : State). MayDraw (known_of plain t) c.args.tx.now) (sym c.self.view_is) a.0),
)

pub has_room-requires-clause-held : goal.has_room-requires-clause-held
has_room-requires-clause-held c =
    let i = c.self.inside in
    let s = state_of i in
    subst (λ ps. AreHeld i.ledger.front (parts i.ledger ps i.root)) (sym c.deref.ensures.value) (held_parts i.ledger i.ports.items i.root s.marks s.writing s.acknowledged (sides_of plain s c.self.invariant.facts) c.self.invariant.front_is)

pub has_room-requires-clause-tx : goal.has_room-requires-clause-tx
has_room-requires-clause-tx c = subst (λ (t : State). IsTx t.geometry c.args.tx.now) (sym c.self.view_is) (may (goal.at.has_room-requires-clause-tx c).Else-not-may_draw).form

pub is_marked-requires : goal.is_marked-requires
is_marked-requires c =
    let own = (may (goal.at.is_marked-requires c).Else-not-may_draw).form.queue in
    let marked : length c.self.inside.marks.items ≡ c.args.self.now.geometry.queues = c.self.invariant.facts.marked ∙ ap (λ (t : State). t.geometry.queues) c.self.view_is in
    let seen = ap length c.deref-2.ensures.value in
    omega arith

-- the room by the parts, and by the state that the caller sees
room : (c : After-deref) → (let s = c.args.self.now in let t = c.args.tx.now in let l = c.self.inside.ledger in let R : State → List PortState → Type 0 = λ v ps. HasRoom v.geometry (from_at v.starts t.queue) v.root.base (us_of v t.queue) t (port_at ps t.queue) in (R (state_of c.self.inside) c.deref.result.now → R s s.ports) × (R s s.ports → R (state_of c.self.inside) c.deref.result.now))
room c =
    let t = c.args.tx.now in
    let R : State → List PortState → Type 0 = λ v ps. HasRoom v.geometry (from_at v.starts t.queue) v.root.base (us_of v t.queue) t (port_at ps t.queue) in (
      λ r. subst (λ (v : State). R v v.ports) c.self.view_is (subst (R (state_of c.self.inside)) c.deref.ensures.value r),
      λ r. subst (R (state_of c.self.inside)) (sym c.deref.ensures.value) (subst (λ (v : State). R v v.ports) (sym c.self.view_is) r),
    )

pub returns-then-not-has_room : goal.returns-then-not-has_room
returns-then-not-has_room c = (
  λ k. absurd (false≢true k),
  λ a. absurd (false≢true (sym c.if-not-has_room.true ∙ c.has_room.ensures.1 ((room (goal.at.returns-then-not-has_room c).After-deref).1 a.1))),
)

pub returns : goal.returns
returns c =
    let seen : c.deref-2.result.now ≡ c.args.self.now.marks = c.deref-2.ensures.value ∙ ap (λ (t : State). t.marks) c.self.view_is in
    let at = ap (λ l. get_or l c.args.tx.now.queue 0) seen in (
      λ k. (may (goal.at.returns c).Else-not-may_draw, (room (goal.at.returns c).After-deref).0 (c.has_room.ensures.0 c.if-not-has_room.false), let m = c.is_marked.ensures.0 k in omega arith),
      λ a. (let m = a.2 in c.is_marked.ensures.1 (omega arith)),
    )
