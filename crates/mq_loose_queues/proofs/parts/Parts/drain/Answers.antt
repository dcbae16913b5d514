use Rattle.std.proofs.Common.{◌≡◌, ℕ, ◌+◌, ◌<◌, ◌≤◌, Bool, List, length, map, reverse, set, get_or, refl, sym, ap, subst, ◌∙◌, arith, OnOk, Result}
use Rattle.std.specs.Vec.{with_item}
use Rattle.std.proofs.Props.{props}
use Rattle.std.proofs.Math.Logic.{∥∥₁_elim}
use Rattle.std.proofs.lemmas.List.{length-map, length-set}
use Rattle.mq_blocks.specs.Drive.{PortState}
use Rattle.mq_drive.specs.Steps.{PortFault}
use Rattle.mq_drive.specs.declared.port.Port.{Ghosts}
use Rattle.mq_ledger.specs.History.{AreNumbered}
use Rattle.mq_ledger.specs.State.{State, is_done}
use Rattle.mq_ledger.specs.declared.tx.Tx.{Tx}
use Rattle.mq_loose.specs.Rows.{AreRows, flag_of, loose_rows}
use Rattle.mq_loose_order.specs.Dependence.{closure}
use Rattle.mq_queue_side.specs.Drained.{DrainCause, DrainMakes, Drains, IsWhole}
use Rattle.mq_queue_side.specs.Side.{side_state}
use Rattle.mq_queue_side.specs.Staying.{Stays}
use Rattle.mq_queue_side.specs.Stored.{rows_of}
use Rattle.mq_queue_side.specs.declared.answers.Cause.{Cause}
use Rattle.mq_queue_side.specs.declared.side.QueueSide.{QueueSide}
use Rattle.mq_loose_queues.specs.Drains.{IsDrainOf}
use Rattle.mq_loose_queues.specs.Journal.{AreFlags, IsJournal}
use Rattle.mq_loose_queues.specs.Queues.{QueuesState, StoredSide, at_queue, parts_state, stored_state}
use Rattle.mq_loose_queues.specs.Rings.{IsRingIn, ports_in}
use Rattle.mq_loose_queues.specs.declared.parts.Parts.{Parts}
use Rattle.mq_loose_queues.proofs.Calls.{flags_over, heads_any, ports_are, ring_at, ringed, room_any, rows_any, side_read}
use Rattle.mq_loose_queues.proofs.Drained.{drained_journal, heads_then, none_before, sides_then}
use Rattle.mq_loose_queues.proofs.Sides.{IsMoved, at_other, at_same, map-set, same_count}
use Rattle.mq_loose_queues.proofs.parts.Parts.drain.Goals as goal

module _ {P : Type 0} {G : Ghosts P} (state : P → PortState) (faults : P → List PortFault) (p : Parts P G) (q at : ℕ) (x new : QueueSide P (Unit {0}) G) (r : Result ℕ Cause) (own : q < length p.sides.items) (is : at ≡ q) (value : x ≡ get_or p.sides.items at x) where
  abbrev v : QueuesState
  v = parts_state state faults p

  abbrev d : StoredSide
  d = stored_state state faults new

  abbrev later : Parts P G
  later = record p { sides = with_item p.sides at new }

  abbrev w : QueuesState
  w = parts_state state faults later

  read : stored_state state faults x ≡ at_queue v q
  read = side_read state faults p q at x (omega (arith, own, is)) is value

  long : length v.sides ≡ length p.sides.items
  long = length-map p.sides.items (stored_state state faults)

  sides_are : w.sides ≡ set v.sides q d
  sides_are = map-set (stored_state state faults) p.sides.items at new ∙ ap (λ n. set (map (stored_state state faults) p.sides.items) n d) is

  pub moved : (fs : List Bool) → IsMoved v q d (record w { flags = fs })
  moved fs = record { geometry = refl; sides = sides_are }

  module _ (stays : Stays (side_state state faults x) d.side) where
    stays_at : Stays (at_queue v q).side d.side
    stays_at = subst (λ (y : StoredSide). Stays y.side d.side) read stays

    pub rings : ∥ ((s : State) × (h : List Tx) × IsJournal s h v) ∥₁ → (n : ℕ) (e : QueueSide P (Unit {0}) G) → n < length later.sides.items → IsRingIn state (get_or later.sides.items n e)
    rings is_one n e inside = ring_at state faults later n e inside (∥∥₁_elim is_one (Prim.hlevel props) (λ j. ringed j.0 j.1 n (at_queue w n) (sides_then j.0 j.1 v w q d j.2 (let c = j.2.count in omega (arith, own, c, long)) (moved w.flags) stays_at n (let c = j.2.count in let l = length-set p.sides.items at new in omega (arith, inside, c, long, l)))))

    pub drained : (fs : List Bool) → Drains (side_state state faults x) r d.side → DrainMakes (side_state state faults x) r d.side → DrainCause r (faults x.pmr.port) (faults new.pmr.port) → OnOk r (IsWhole (side_state state faults x) d.side) → new.stored ≡ x.stored
        → ((s : State) (h : List Tx) → IsJournal s h v → AreFlags s h (record w { flags = fs })) → ∥ ((s : State) × (h : List Tx) × IsJournal s h v) ∥₁ → IsDrainOf v q r (record w { flags = fs })
    drained fs drains makes cause whole stored flags is_one =
        let within : q < length v.sides = omega (arith, own, long) in
        let there : d ≡ at_queue (record w { flags = fs }) q = sym (at_same v q d (record w { flags = fs }) (moved fs) within) in
        record {
          journal = λ s h j.
              drained_journal s h v (record w { flags = fs }) q d j (let c = j.count in omega (arith, own, c, long)) (moved fs) stays_at refl refl refl
              (ap (λ n. rows_of (n.items)) stored ∙ ap (λ (y : StoredSide). y.rows) read) (drains.doorbell ∙ ap (λ (y : StoredSide). y.side.port.doorbell) read)
              (λ none. ap (λ (y : StoredSide). y.side.kept) (sym read) ∙ none_before _ drains.failures _ drains.takes.kept none) (flags s h j);
          drains = subst (λ (y : StoredSide). Drains (at_queue v q).side r y.side) there (subst (λ (y : StoredSide). Drains y.side r d.side) read drains);
          makes = subst (λ (y : StoredSide). DrainMakes (at_queue v q).side r y.side) there (subst (λ (y : StoredSide). DrainMakes y.side r d.side) read makes);
          cause = subst (λ (y : StoredSide). DrainCause r (at_queue v q).side.faults y.side.faults) there (subst (λ (y : StoredSide). DrainCause r y.side.faults d.side.faults) read cause);
          whole = subst (λ (y : StoredSide). OnOk r (IsWhole (at_queue v q).side y.side)) there (subst (λ (y : StoredSide). OnOk r (IsWhole y.side d.side)) read whole);
          root = refl;
          root_faults = refl;
          others = λ n other. at_other v q d (record w { flags = fs }) (moved fs) n other;
          count = same_count v q d (record w { flags = fs }) (moved fs);
          changes = refl;
          rows = refl;
          heads = heads_any v (record w { flags = fs }) is_one (λ j. heads_then j.0 j.1 v (record w { flags = fs }) q d j.2 (let c = j.2.count in omega (arith, own, c, long)) (moved fs) stays_at);
        }

pub refresh-requires-clause-room : goal.refresh-requires-clause-room
refresh-requires-clause-room g c =
    let v = parts_state g.P.Port.state g.P.Port.faults c.args.self.now in
    let flags = c.args.self.now.flags.ok in
    let rows = ap length c.deref.ensures.value in
    let room = room_any v c.args.self.now.flags.cap c.requires.journal (omega (arith, flags.0, flags.1)) in
    omega (arith, rows, room)

pub refresh-requires-clause-rows : goal.refresh-requires-clause-rows
refresh-requires-clause-rows g c =
    let v = parts_state g.P.Port.state g.P.Port.faults c.args.self.now in
    let items = c.args.self.now.sides.items in
    let long : length v.sides ≡ length c.deref-2.result.now = length-map items (stored_state g.P.Port.state g.P.Port.faults) ∙ (sym (length-set items c.queue.inside.0 c.drain-answer.new.self) ∙ ap length (sym c.deref-2.ensures.value)) in
    subst (λ b. AreRows b c.deref.result.now (length c.deref-2.result.now)) (sym c.base-base.ensures)
    (subst (λ rows. AreRows v.root.base rows (length c.deref-2.result.now)) (sym c.deref.ensures.value)
    (subst (λ n. AreRows v.root.base v.rows n) long (rows_any v c.requires.journal)))

pub refresh-requires-clause-rings : goal.refresh-requires-clause-rings
refresh-requires-clause-rings g c =
    let state = g.P.Port.state in
    let faults = g.P.Port.faults in
    let at = c.deref-2.ensures.value in
    subst (λ xs. (n : ℕ) (e : _) → n < length xs → IsRingIn state (get_or xs n e)) (sym at)
    (rings state faults c.args.self.now c.args.queue c.queue.inside.0 c.index_mut.result.now c.drain-answer.new.self c.drain-answer.result c.requires.queue c.queue.view_is c.index_mut.ensures.value c.drain-answer.ensures.stays c.requires.journal)

pub returns : goal.returns
returns g c =
    let state = g.P.Port.state in
    let faults = g.P.Port.faults in
    let p = c.args.self.now in
    let e = c.drain-answer.ensures in
    drained state faults p c.args.queue c.queue.inside.0 c.index_mut.result.now c.drain-answer.new.self c.drain-answer.result c.requires.queue c.queue.view_is c.index_mut.ensures.value e.stays c.refresh.new.flags.items e.drains e.makes e.cause e.whole e.stored
    (λ s h j.
    let word = c.base-base.ensures ∙ (ap (λ (q : PortState). q.base) j.root_is ∙ j.start.base) in
    let ports = ap (ports_in state) c.deref-2.ensures.value ∙ ports_are state faults (set p.sides.items c.queue.inside.0 c.drain-answer.new.self) in
    flags_over s h _ c.base-base.result (ports_in state c.deref-2.result.now) word ports j.log.numbers j.rows (subst (λ rows. (starts : List ℕ) (us : List Tx) → AreNumbered c.base-base.result us → rows ≡ reverse (loose_rows c.base-base.result starts us) → (length c.refresh.new.flags.items ≡ length us) × ((n : ℕ) → c.base-base.result < n → n ≤ c.base-base.result + length us → flag_of c.base-base.result c.refresh.new.flags.items n ≡ closure (is_done starts (ports_in state c.deref-2.result.now)) c.base-base.result us n)) c.deref.ensures.value c.refresh.ensures.flags))
    c.requires.journal
