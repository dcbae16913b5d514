use Rattle.std.proofs.Common.{◌≡◌, ◌<◌, true, Ok, IsSome, set, sym, refl, subst, ◌∙◌, reverse, arith}
use Rattle.mq_blocks.specs.Drive.{after_flush, after_ring, after_store_base, after_store_head}
use Rattle.mq_blocks.specs.Journal.{is_among}
use Rattle.mq_ledger.specs.Plain.{plain}
use Rattle.mq_ledger.specs.Records.{Ledger}
use Rattle.mq_ledger.specs.State.{State, from_at, port_at}
use Rattle.mq_core.specs.Events.{MayEnd, MayFlush, MayRing, MayStoreBase, MayStoreHead, complete_side, content_at, end_home, fail_side, us_of, without}
use Rattle.mq_core.specs.Parts.{AreHeld, AreSides, home_ended, parts, state_with, under}
use Rattle.mq_loose.specs.Runs.{Flush, Ring, Complete, FailCommand, StoreHead, FlushHead, HomeDone, StoreBase, FlushBase}
use Rattle.mq_loose.specs.View.{IsHeld, no_marks, state_of}
use Rattle.mq_loose.specs.declared.machine.LooseCore.TheInside.{Inside}
use Rattle.mq_core.proofs.HomesCalls.{home_told, is_in, is_there}
use Rattle.mq_core.proofs.MachineLifts.{Told, answer_for, happened}
use Rattle.mq_core.proofs.MachineParts.{flush_told, held_parts, held_sides, lift, may_store, queue_told, store_may, told_same}
use Rattle.mq_loose.proofs.Machines.{loose_machine}
use Rattle.mq_loose.proofs.Sides.{rows_stay, sides_of}
use Rattle.mq_loose.proofs.machine.LooseCore.apply.Goals as goal
use Rattle.mq_loose.proofs.machine.LooseCore.apply.Goals.{After-flush, After-ring, After-complete, After-fail_command, After-store_head, After-flush_head, After-home_done, After-store_base, After-flush-in-FlushBase}

sides : (i : Inside) → IsHeld i.ledger.front (state_of i) → AreSides i.ledger i.ports.items
sides i h = (let s = state_of i in held_sides i.ledger i.ports.items i.root s.marks s.writing s.acknowledged (sides_of plain s h.facts) h.front_is)

pub flush-requires : goal.flush-requires
flush-requires c = sides c.self.inside c.self.invariant.held

flush-told : (c : After-flush) → Told loose_machine (Flush c.in-Flush.queue) c.flush.new.ledger.front (state_of c.self.inside) (state_with c.flush.new.ledger c.flush.new.ports.items c.self.inside.root (no_marks c.flush.new.ledger) (state_of c.self.inside).writing (state_of c.self.inside).acknowledged) c.flush.result
flush-told c =
    let i = c.self.inside in
    let s = state_of i in
    let q = c.in-Flush.queue in
    let r = c.flush.result in
    let Asked : Type 0 = (q < s.geometry.queues) × MayFlush (from_at s.starts q) (us_of s q) (port_at s.ports q) in
    subst (λ (l : Ledger). Told loose_machine (Flush q) l.front s (state_with l c.flush.new.ports.items i.root (no_marks l) s.writing s.acknowledged) r) (sym c.flush.ensures.ledger)
    (flush_told loose_machine (Flush q) i.ledger.front s (record s { ports = set s.ports q (after_flush (port_at s.ports q)) }) Asked c.flush.new.ports.items r c.self.invariant.held (lift Asked (set s.ports q (after_flush (port_at s.ports q))) s.ports c.flush.new.ports.items (λ ps. record s { ports = ps }) r c.flush.ensures.ports) (λ a. a) (λ a. a) refl)

pub invariant_of-self : goal.invariant_of-self
invariant_of-self c = record { held = (flush-told (goal.at.invariant_of-self c).After-flush).held; rows = rows_stay c.self.inside.ledger c.flush.new.ledger c.flush.new.ports.items c.self.inside.rows.items c.flush.ensures.ledger c.self.invariant.rows }

pub returns-in-Flush : goal.returns-in-Flush
returns-in-Flush c = answer_for c.in-Flush.is c.self.view_is (flush-told (goal.at.returns-in-Flush c).After-flush)

pub ring-requires : goal.ring-requires
ring-requires c = sides c.self-in-Ring.inside c.self-in-Ring.invariant.held

ring-told : (c : After-ring) → Told loose_machine (Ring c.in-Ring.queue) c.self-in-Ring.inside.ledger.front (state_of c.self-in-Ring.inside) (record (state_of c.self-in-Ring.inside) { ports = c.ring.new.ports.items }) c.ring.result
ring-told c = (let s = state_of c.self-in-Ring.inside in queue_told loose_machine (Ring c.in-Ring.queue) c.self-in-Ring.inside.ledger.front s c.in-Ring.queue (λ p. MayRing (from_at s.starts c.in-Ring.queue) (us_of s c.in-Ring.queue) p) after_ring c.ring.new.ports.items c.ring.result c.self-in-Ring.invariant.held c.self-in-Ring.invariant.held.facts.ports c.ring.ensures (λ a. a) (λ a. a) refl refl)

pub invariant_of-self-in-Ring : goal.invariant_of-self-in-Ring
invariant_of-self-in-Ring c = record { held = (ring-told (goal.at.invariant_of-self-in-Ring c).After-ring).held; rows = c.self-in-Ring.invariant.rows }

pub returns-in-Ring : goal.returns-in-Ring
returns-in-Ring c = answer_for c.in-Ring.is c.self-in-Ring.view_is (ring-told (goal.at.returns-in-Ring c).After-ring)

pub complete-requires : goal.complete-requires
complete-requires c = sides c.self-in-Complete.inside c.self-in-Complete.invariant.held

complete-told : (c : After-complete) → Told loose_machine (Complete c.in-Complete.queue c.in-Complete.count) c.self-in-Complete.inside.ledger.front (state_of c.self-in-Complete.inside) (record (state_of c.self-in-Complete.inside) { ports = c.complete.new.ports.items }) c.complete.result
complete-told c = (let s = state_of c.self-in-Complete.inside in queue_told loose_machine (Complete c.in-Complete.queue c.in-Complete.count) c.self-in-Complete.inside.ledger.front s c.in-Complete.queue (λ p. MayEnd c.in-Complete.count p) (complete_side c.in-Complete.count) c.complete.new.ports.items c.complete.result c.self-in-Complete.invariant.held c.self-in-Complete.invariant.held.facts.ports c.complete.ensures (λ a. a) (λ a. a) refl refl)

pub invariant_of-self-in-Complete : goal.invariant_of-self-in-Complete
invariant_of-self-in-Complete c = record { held = (complete-told (goal.at.invariant_of-self-in-Complete c).After-complete).held; rows = c.self-in-Complete.invariant.rows }

pub returns-in-Complete : goal.returns-in-Complete
returns-in-Complete c = answer_for c.in-Complete.is c.self-in-Complete.view_is (complete-told (goal.at.returns-in-Complete c).After-complete)

pub fail_command-requires : goal.fail_command-requires
fail_command-requires c = sides c.self-in-FailCommand.inside c.self-in-FailCommand.invariant.held

fail_command-told : (c : After-fail_command) → Told loose_machine (FailCommand c.in-FailCommand.queue c.in-FailCommand.count) c.self-in-FailCommand.inside.ledger.front (state_of c.self-in-FailCommand.inside) (record (state_of c.self-in-FailCommand.inside) { ports = c.fail_command.new.ports.items }) c.fail_command.result
fail_command-told c = (let s = state_of c.self-in-FailCommand.inside in queue_told loose_machine (FailCommand c.in-FailCommand.queue c.in-FailCommand.count) c.self-in-FailCommand.inside.ledger.front s c.in-FailCommand.queue (λ p. MayEnd c.in-FailCommand.count p) (fail_side c.in-FailCommand.count) c.fail_command.new.ports.items c.fail_command.result c.self-in-FailCommand.invariant.held c.self-in-FailCommand.invariant.held.facts.ports c.fail_command.ensures (λ a. a) (λ a. a) refl refl)

pub invariant_of-self-in-FailCommand : goal.invariant_of-self-in-FailCommand
invariant_of-self-in-FailCommand c = record { held = (fail_command-told (goal.at.invariant_of-self-in-FailCommand c).After-fail_command).held; rows = c.self-in-FailCommand.invariant.rows }

pub returns-in-FailCommand : goal.returns-in-FailCommand
returns-in-FailCommand c = answer_for c.in-FailCommand.is c.self-in-FailCommand.view_is (fail_command-told (goal.at.returns-in-FailCommand c).After-fail_command)

pub store_head-requires : goal.store_head-requires
store_head-requires c = sides c.self-in-StoreHead.inside c.self-in-StoreHead.invariant.held

store_head-told : (c : After-store_head) → Told loose_machine (StoreHead c.in-StoreHead.queue c.in-StoreHead.head) c.self-in-StoreHead.inside.ledger.front (state_of c.self-in-StoreHead.inside) (record (state_of c.self-in-StoreHead.inside) { ports = c.store_head.new.ports.items }) c.store_head.result
store_head-told c = (let s = state_of c.self-in-StoreHead.inside in queue_told loose_machine (StoreHead c.in-StoreHead.queue c.in-StoreHead.head) c.self-in-StoreHead.inside.ledger.front s c.in-StoreHead.queue (λ p. MayStoreHead (from_at s.starts c.in-StoreHead.queue) (us_of s c.in-StoreHead.queue) p c.in-StoreHead.head) (λ p. after_store_head p c.in-StoreHead.head) c.store_head.new.ports.items c.store_head.result c.self-in-StoreHead.invariant.held c.self-in-StoreHead.invariant.held.facts.ports c.store_head.ensures (λ a. a) (λ a. a) refl refl)

pub invariant_of-self-in-StoreHead : goal.invariant_of-self-in-StoreHead
invariant_of-self-in-StoreHead c = record { held = (store_head-told (goal.at.invariant_of-self-in-StoreHead c).After-store_head).held; rows = c.self-in-StoreHead.invariant.rows }

pub returns-in-StoreHead : goal.returns-in-StoreHead
returns-in-StoreHead c = answer_for c.in-StoreHead.is c.self-in-StoreHead.view_is (store_head-told (goal.at.returns-in-StoreHead c).After-store_head)

pub flush_head-requires : goal.flush_head-requires
flush_head-requires c = sides c.self-in-FlushHead.inside c.self-in-FlushHead.invariant.held

flush_head-told : (c : After-flush_head) → Told loose_machine (FlushHead c.in-FlushHead.queue) c.flush_head.new.ledger.front (state_of c.self-in-FlushHead.inside) (state_with c.flush_head.new.ledger c.flush_head.new.ports.items c.self-in-FlushHead.inside.root (no_marks c.flush_head.new.ledger) (state_of c.self-in-FlushHead.inside).writing (state_of c.self-in-FlushHead.inside).acknowledged) c.flush_head.result
flush_head-told c =
    let i = c.self-in-FlushHead.inside in
    let s = state_of i in
    let q = c.in-FlushHead.queue in
    let r = c.flush_head.result in
    let Asked : Type 0 = (q < s.geometry.queues) × Unit {0} in
    subst (λ (l : Ledger). Told loose_machine (FlushHead q) l.front s (state_with l c.flush_head.new.ports.items i.root (no_marks l) s.writing s.acknowledged) r) (sym c.flush_head.ensures.ledger)
    (flush_told loose_machine (FlushHead q) i.ledger.front s (record s { ports = set s.ports q (after_flush (port_at s.ports q)) }) Asked c.flush_head.new.ports.items r c.self-in-FlushHead.invariant.held (lift Asked (set s.ports q (after_flush (port_at s.ports q))) s.ports c.flush_head.new.ports.items (λ ps. record s { ports = ps }) r c.flush_head.ensures.ports) (λ a. a.0) (λ m. (m, tt)) refl)

pub invariant_of-self-in-FlushHead : goal.invariant_of-self-in-FlushHead
invariant_of-self-in-FlushHead c = record { held = (flush_head-told (goal.at.invariant_of-self-in-FlushHead c).After-flush_head).held; rows = rows_stay c.self-in-FlushHead.inside.ledger c.flush_head.new.ledger c.flush_head.new.ports.items c.self-in-FlushHead.inside.rows.items c.flush_head.ensures.ledger c.self-in-FlushHead.invariant.rows }

pub returns-in-FlushHead : goal.returns-in-FlushHead
returns-in-FlushHead c = answer_for c.in-FlushHead.is c.self-in-FlushHead.view_is (flush_head-told (goal.at.returns-in-FlushHead c).After-flush_head)

pub home_done-requires : goal.home_done-requires
home_done-requires c = λ m.
    let s = state_of c.self-in-HomeDone.inside in
    let x = c.in-HomeDone.block in
    let f = sides_of plain s c.self-in-HomeDone.invariant.held.facts in
    let u = c.self-in-HomeDone.invariant.held.facts.writing x m in
    (u.block, subst (λ o. IsSome o) (sym (is_there s x f u.low u.logged).1) refl, is_in s f x u.block)

home_done-told : (c : After-home_done) → Told loose_machine (HomeDone c.in-HomeDone.block) c.self-in-HomeDone.inside.ledger.front (state_of c.self-in-HomeDone.inside) (record (state_of c.self-in-HomeDone.inside) { ports = c.home_done.new.ports.items; root = c.home_done.new.root; writing = reverse c.home_done.new.writing.items }) c.home_done.result
home_done-told c =
    let i = c.self-in-HomeDone.inside in
    let s = state_of i in
    let x = c.in-HomeDone.block in
    home_told loose_machine (HomeDone x) c.self-in-HomeDone.inside.ledger.front s x (end_home s.geometry x (content_at s x)) (without x s.writing) c.self-in-HomeDone.invariant.held (sides_of plain s c.self-in-HomeDone.invariant.held.facts) (λ p. refl) refl (record s { ports = c.home_done.new.ports.items; root = c.home_done.new.root; writing = reverse c.home_done.new.writing.items }) (is_among x s.writing ≡ true) c.home_done.result
    (lift (is_among x s.writing ≡ true) (home_ended i.ledger i.ports.items i.root i.writing.items x) (under i.ledger i.ports.items i.root i.writing.items) (under i.ledger c.home_done.new.ports.items c.home_done.new.root c.home_done.new.writing.items) (λ (t : State). record t { marks = s.marks; acknowledged = s.acknowledged }) c.home_done.result c.home_done.ensures) (λ a. a) (λ a. a) (λ a. (c.self-in-HomeDone.invariant.held.facts.writing x a).block)

pub invariant_of-self-in-HomeDone : goal.invariant_of-self-in-HomeDone
invariant_of-self-in-HomeDone c = record { held = (home_done-told (goal.at.invariant_of-self-in-HomeDone c).After-home_done).held; rows = c.self-in-HomeDone.invariant.rows }

pub returns-in-HomeDone : goal.returns-in-HomeDone
returns-in-HomeDone c = answer_for c.in-HomeDone.is c.self-in-HomeDone.view_is (home_done-told (goal.at.returns-in-HomeDone c).After-home_done)

pub store_base-requires : goal.store_base-requires
store_base-requires c =
    let i = c.self-in-StoreBase.inside in
    let s = state_of i in
    subst (λ ps. AreHeld i.ledger.front (parts i.ledger ps i.root)) (sym c.deref.ensures.value) (held_parts i.ledger i.ports.items i.root s.marks s.writing s.acknowledged (sides_of plain s c.self-in-StoreBase.invariant.held.facts) c.self-in-StoreBase.invariant.held.front_is)

store_base-told : (c : After-store_base) → Told loose_machine (StoreBase c.in-StoreBase.base) c.self-in-StoreBase.inside.ledger.front (state_of c.self-in-StoreBase.inside) (record (state_of c.self-in-StoreBase.inside) { root = c.store_base.new.root }) c.store_base.result
store_base-told c =
    let i = c.self-in-StoreBase.inside in
    let s = state_of i in
    let b = c.in-StoreBase.base in
    let r = c.store_base.result in
    told_same loose_machine (StoreBase b) i.ledger.front s (record s { root = c.store_base.new.root }) (record s { root = after_store_base s.root b }) (MayStoreBase plain (parts i.ledger c.deref.result.now i.root) b) r c.self-in-StoreBase.invariant.held (lift (MayStoreBase plain (parts i.ledger c.deref.result.now i.root) b) (after_store_base i.root b) i.root c.store_base.new.root (λ p. record s { root = p }) r c.store_base.ensures)
    (may_store plain i.ledger c.deref.result.now i.ports.items i.root s.marks s.writing s.acknowledged b c.deref.ensures.value) (store_may plain i.ledger c.deref.result.now i.ports.items i.root s.marks s.writing s.acknowledged b c.deref.ensures.value) refl (λ a. refl)

pub invariant_of-self-in-StoreBase : goal.invariant_of-self-in-StoreBase
invariant_of-self-in-StoreBase c = record { held = (store_base-told (goal.at.invariant_of-self-in-StoreBase c).After-store_base).held; rows = c.self-in-StoreBase.invariant.rows }

pub returns-in-StoreBase : goal.returns-in-StoreBase
returns-in-StoreBase c = answer_for c.in-StoreBase.is c.self-in-StoreBase.view_is (store_base-told (goal.at.returns-in-StoreBase c).After-store_base)

pub flush-requires-in-FlushBase-clause-ring : goal.flush-requires-in-FlushBase-clause-ring
flush-requires-in-FlushBase-clause-ring c = (let p = c.self-in-FlushBase.invariant.held.facts.root.port in p.flushed ∙ sym p.staged)

pub flush-requires-in-FlushBase-clause-room : goal.flush-requires-in-FlushBase-clause-room
flush-requires-in-FlushBase-clause-room c = omega (arith, c.self-in-FlushBase.invariant.held.idle)

base-told : (c : After-flush-in-FlushBase) → Told loose_machine FlushBase c.self-in-FlushBase.inside.ledger.front (state_of c.self-in-FlushBase.inside) (record (state_of c.self-in-FlushBase.inside) { root = c.flush-in-FlushBase.new.self }) (Ok tt)
base-told c = (let s = state_of c.self-in-FlushBase.inside in happened loose_machine FlushBase c.self-in-FlushBase.inside.ledger.front s (record s { root = c.flush-in-FlushBase.new.self }) c.self-in-FlushBase.invariant.held tt (λ i. record s { root = c.flush-in-FlushBase.ensures i }) refl)

pub invariant_of-self-in-FlushBase : goal.invariant_of-self-in-FlushBase
invariant_of-self-in-FlushBase c = record { held = (base-told (goal.at.invariant_of-self-in-FlushBase c).After-flush-in-FlushBase).held; rows = c.self-in-FlushBase.invariant.rows }

pub returns-in-FlushBase : goal.returns-in-FlushBase
returns-in-FlushBase c = answer_for c.in-FlushBase.is c.self-in-FlushBase.view_is (base-told (goal.at.returns-in-FlushBase c).After-flush-in-FlushBase)
