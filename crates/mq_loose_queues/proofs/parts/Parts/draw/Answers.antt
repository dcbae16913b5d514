use Rattle.std.specs.Prelude.{vec_capacity}
use Rattle.std.proofs.Common.{◌≡◌, ◌<◌, ◌≤◌, ◌+◌, ◌^◌, ℕ, List, [], ◌∷◌, true, false, length, length-append, reverse, set, get_or, sym, ap, subst, ◌∙◌, arith}
use Rattle.std.proofs.lemmas.List.{length-map, length-set}
use Rattle.mq_blocks.specs.Descriptor.{AreRising}
use Rattle.mq_blocks.specs.Drive.{PortState, staged_end}
use Rattle.mq_blocks.specs.Geometry.{homes_of, queues_of}
use Rattle.mq_ledger.specs.History.{AreNumbered}
use Rattle.mq_ledger.specs.State.{is_done}
use Rattle.mq_ledger.specs.declared.tx.Tx.{Tx}
use Rattle.mq_loose.specs.Rows.{AreRows, flag_of, loose_rows}
use Rattle.mq_loose_order.specs.Dependence.{closure}
use Rattle.mq_queue_side.specs.Commits.{Commit}
use Rattle.mq_queue_side.specs.Stored.{next_in}
use Rattle.mq_loose_queues.specs.Changes.{with_changes}
use Rattle.mq_loose_queues.specs.Journal.{loose_tx}
use Rattle.mq_loose_queues.specs.Queues.{StoredSide, next_number, parts_state, stored_state}
use Rattle.mq_loose_queues.specs.Rings.{IsRingIn, ports_in}
use Rattle.mq_loose_queues.proofs.Calls.{flags_over, ports_are}
use Rattle.mq_loose_queues.proofs.DrawCalls.{both_err, both_ok, cut_then, drawn, got, limit_any, queue_any, read, rings, rings_when, rows_later, rows_then, rung_then, sizes, within}
use Rattle.mq_loose_queues.proofs.Drawn.{numbers}
use Rattle.mq_loose_queues.proofs.Readied.{homes_any, own_any, sizes_any}
use Rattle.mq_loose_queues.proofs.parts.Parts.draw.Goals as goal

pub note_commit-requires-clause-blocks : goal.note_commit-requires-clause-blocks
note_commit-requires-clause-blocks g c =
    let v = parts_state g.P.Port.state g.P.Port.faults c.args.self.now in
    subst (λ (k : ℕ). AreRising 0 k c.deref.result.now) (sym (homes_any v c.requires.journal))
    (subst (λ (xs : List ℕ). AreRising 0 (homes_of c.args.self.now.geometry) xs) (sym (c.deref.ensures.value ∙ c.requires.ready.blocks)) c.requires.request.writes)

pub note_commit-requires-clause-frees : goal.note_commit-requires-clause-frees
note_commit-requires-clause-frees g c =
    let v = parts_state g.P.Port.state g.P.Port.faults c.args.self.now in
    subst (λ (k : ℕ). AreRising 0 k c.args.frees.now) (sym (homes_any v c.requires.journal)) c.requires.request.frees_rise

pub index_mut-requires : goal.index_mut-requires
index_mut-requires g c =
    let state = g.P.Port.state in
    let faults = g.P.Port.faults in
    let v = parts_state state faults c.args.self.now in
    let within = own_any v c.args.queue c.requires.journal c.requires.request.queue in
    let long = length-map c.args.self.now.sides.items (stored_state state faults) in
    let same = ap (λ sides. length sides.items) c.note_commit.ensures.sides in
    let at = c.queue.view_is in
    omega (arith, within, long, same, at, c.note_commit.new.self.sides.ok.0)

pub send_on-answer-requires-clause-reserved : goal.send_on-answer-requires-clause-reserved
send_on-answer-requires-clause-reserved g c =
    let state = g.P.Port.state in
    let faults = g.P.Port.faults in
    let v = parts_state state faults c.args.self.now in
    let m = c.note_commit.ensures in
    let changes = m.changes ∙ ap (λ xs. with_changes c.args.frees.now (record { number = c.args.number; is_there = false }) (with_changes xs (record { number = c.args.number; is_there = true }) c.args.self.now.changes.items)) c.deref.ensures.value in
    c.requires.stored c.index_mut.result.now (got state faults c.args.self.now c.note_commit.new.self c.args.queue c.queue.inside.0 c.args.number c.index_mut.result.now c.index_mut.result.now c.args.ready.prepared.logged c.args.frees.now c.args.ready m.geometry m.sides m.root changes m.rows c.queue.view_is c.index_mut.ensures.value c.requires.journal c.requires.request c.requires.may c.requires.few c.requires.number c.requires.ready)

pub send_on-answer-requires-clause-places : goal.send_on-answer-requires-clause-places
send_on-answer-requires-clause-places g c =
    let state = g.P.Port.state in
    let faults = g.P.Port.faults in
    let v = parts_state state faults c.args.self.now in
    let m = c.note_commit.ensures in
    let changes = m.changes ∙ ap (λ xs. with_changes c.args.frees.now (record { number = c.args.number; is_there = false }) (with_changes xs (record { number = c.args.number; is_there = true }) c.args.self.now.changes.items)) c.deref.ensures.value in
    let at = ap (λ (y : StoredSide). next_in y.rows) (read state faults c.args.self.now c.note_commit.new.self c.args.queue c.queue.inside.0 c.args.number c.index_mut.result.now c.index_mut.result.now c.args.ready.prepared.logged c.args.frees.now c.args.ready m.geometry m.sides m.root changes m.rows c.queue.view_is c.index_mut.ensures.value c.requires.journal c.requires.request c.requires.may c.requires.few c.requires.number c.requires.ready) in
    let s = sizes v c.args.queue c.args.number c.args.ready.prepared.logged c.args.frees.now c.args.ready c.requires.journal c.requires.request c.requires.may c.requires.few c.requires.number c.requires.ready in
    let area = c.requires.may.area in
    let top : 16384 < 2 ^ 62 = omega arith in
    omega (arith, at, s.0, s.1.1, area, c.args.self.now.geometry.area_high, top)

pub send_on-answer-requires-clause-queue : goal.send_on-answer-requires-clause-queue
send_on-answer-requires-clause-queue g c =
    let state = g.P.Port.state in
    let faults = g.P.Port.faults in
    let v = parts_state state faults c.args.self.now in
    let m = c.note_commit.ensures in
    let changes = m.changes ∙ ap (λ xs. with_changes c.args.frees.now (record { number = c.args.number; is_there = false }) (with_changes xs (record { number = c.args.number; is_there = true }) c.args.self.now.changes.items)) c.deref.ensures.value in
    let at = read state faults c.args.self.now c.note_commit.new.self c.args.queue c.queue.inside.0 c.args.number c.index_mut.result.now c.index_mut.result.now c.args.ready.prepared.logged c.args.frees.now c.args.ready m.geometry m.sides m.root changes m.rows c.queue.view_is c.index_mut.ensures.value c.requires.journal c.requires.request c.requires.may c.requires.few c.requires.number c.requires.ready in
    let inside = within state faults c.args.self.now c.note_commit.new.self c.args.queue c.queue.inside.0 c.args.number c.index_mut.result.now c.index_mut.result.now c.args.ready.prepared.logged c.args.frees.now c.args.ready m.geometry m.sides m.root changes m.rows c.queue.view_is c.index_mut.ensures.value c.requires.journal c.requires.request c.requires.may c.requires.few c.requires.number c.requires.ready in
    let queue = ap (λ (y : StoredSide). y.side.queue) at ∙ queue_any v c.args.queue c.requires.journal c.requires.request.queue in
    let count = ap (λ (y : StoredSide). queues_of y.side.geometry) at ∙ sizes_any v c.args.queue c.requires.journal inside queues_of in
    let own = c.requires.request.queue in
    omega (arith, queue, count, own)

pub send_on-answer-requires-clause-number : goal.send_on-answer-requires-clause-number
send_on-answer-requires-clause-number g c = (let n = c.requires.number in omega (arith, n))

pub send_on-answer-requires-clause-none : goal.send_on-answer-requires-clause-none
send_on-answer-requires-clause-none g c =
    let state = g.P.Port.state in
    let faults = g.P.Port.faults in
    let v = parts_state state faults c.args.self.now in
    let m = c.note_commit.ensures in
    let changes = m.changes ∙ ap (λ xs. with_changes c.args.frees.now (record { number = c.args.number; is_there = false }) (with_changes xs (record { number = c.args.number; is_there = true }) c.args.self.now.changes.items)) c.deref.ensures.value in
    ap (λ (y : StoredSide). y.side.kept) (read state faults c.args.self.now c.note_commit.new.self c.args.queue c.queue.inside.0 c.args.number c.index_mut.result.now c.index_mut.result.now c.args.ready.prepared.logged c.args.frees.now c.args.ready m.geometry m.sides m.root changes m.rows c.queue.view_is c.index_mut.ensures.value c.requires.journal c.requires.request c.requires.may c.requires.few c.requires.number c.requires.ready) ∙ c.requires.may.runs

pub send_on-answer-requires-clause-plain : goal.send_on-answer-requires-clause-plain
send_on-answer-requires-clause-plain g c = ap (λ (k : Commit). k.direct) c.requires.ready.prepared

pub send_on-answer-requires-clause-room : goal.send_on-answer-requires-clause-room
send_on-answer-requires-clause-room g c =
    let state = g.P.Port.state in
    let faults = g.P.Port.faults in
    let v = parts_state state faults c.args.self.now in
    let m = c.note_commit.ensures in
    let changes = m.changes ∙ ap (λ xs. with_changes c.args.frees.now (record { number = c.args.number; is_there = false }) (with_changes xs (record { number = c.args.number; is_there = true }) c.args.self.now.changes.items)) c.deref.ensures.value in
    let at = read state faults c.args.self.now c.note_commit.new.self c.args.queue c.queue.inside.0 c.args.number c.index_mut.result.now c.index_mut.result.now c.args.ready.prepared.logged c.args.frees.now c.args.ready m.geometry m.sides m.root changes m.rows c.queue.view_is c.index_mut.ensures.value c.requires.journal c.requires.request c.requires.may c.requires.few c.requires.number c.requires.ready in
    let end = ap (λ (y : StoredSide). staged_end y.side.port) at in
    let head = ap (λ (y : StoredSide). y.side.port.head) at in
    let s = sizes v c.args.queue c.args.number c.args.ready.prepared.logged c.args.frees.now c.args.ready c.requires.journal c.requires.request c.requires.may c.requires.few c.requires.number c.requires.ready in
    let ring = c.requires.may.ring in
    omega (arith, end, head, s.0, s.1.0, s.1.1, ring)

pub send_on-answer-requires-clause-end : goal.send_on-answer-requires-clause-end
send_on-answer-requires-clause-end g c =
    let state = g.P.Port.state in
    let faults = g.P.Port.faults in
    let v = parts_state state faults c.args.self.now in
    let m = c.note_commit.ensures in
    let changes = m.changes ∙ ap (λ xs. with_changes c.args.frees.now (record { number = c.args.number; is_there = false }) (with_changes xs (record { number = c.args.number; is_there = true }) c.args.self.now.changes.items)) c.deref.ensures.value in
    let end = ap (λ (y : StoredSide). staged_end y.side.port) (read state faults c.args.self.now c.note_commit.new.self c.args.queue c.queue.inside.0 c.args.number c.index_mut.result.now c.index_mut.result.now c.args.ready.prepared.logged c.args.frees.now c.args.ready m.geometry m.sides m.root changes m.rows c.queue.view_is c.index_mut.ensures.value c.requires.journal c.requires.request c.requires.may c.requires.few c.requires.number c.requires.ready) in
    let s = sizes v c.args.queue c.args.number c.args.ready.prepared.logged c.args.frees.now c.args.ready c.requires.journal c.requires.request c.requires.may c.requires.few c.requires.number c.requires.ready in
    let low = limit_any v c.args.queue c.args.number c.args.ready.prepared.logged c.args.frees.now c.args.ready c.requires.journal c.requires.request c.requires.may c.requires.few c.requires.number c.requires.ready in
    omega (arith, end, s.0, s.1.0, s.1.1, low)

pub refresh-requires-clause-rows : goal.refresh-requires-clause-rows
refresh-requires-clause-rows g c =
    let state = g.P.Port.state in
    let faults = g.P.Port.faults in
    let v = parts_state state faults c.args.self.now in
    let m = c.note_commit.ensures in
    let changes = m.changes ∙ ap (λ xs. with_changes c.args.frees.now (record { number = c.args.number; is_there = false }) (with_changes xs (record { number = c.args.number; is_there = true }) c.args.self.now.changes.items)) c.deref.ensures.value in
    let long : length v.sides ≡ length c.deref-3.result.now = length-map c.args.self.now.sides.items (stored_state state faults) ∙ (sym (ap (λ sides. length sides.items) m.sides) ∙ (sym (length-set c.note_commit.new.self.sides.items c.queue.inside.0 c.send_on-answer.new.side) ∙ ap length (sym c.deref-3.ensures.value))) in
    subst (λ b. AreRows b c.deref-2.result.now (length c.deref-3.result.now)) (sym c.base-base.ensures)
    (subst (λ rows. AreRows v.root.base rows (length c.deref-3.result.now)) (sym c.deref-2.ensures.value)
    (subst (λ k. AreRows v.root.base c.note_commit.new.self.rows.items k) long (rows_later state faults c.args.self.now c.note_commit.new.self c.args.queue c.queue.inside.0 c.args.number c.index_mut.result.now c.send_on-answer.new.side c.args.ready.prepared.logged c.args.frees.now c.args.ready m.geometry m.sides m.root changes m.rows c.queue.view_is c.index_mut.ensures.value c.requires.journal c.requires.request c.requires.may c.requires.few c.requires.number c.requires.ready)))

pub refresh-requires-clause-rings : goal.refresh-requires-clause-rings
refresh-requires-clause-rings g c =
    let state = g.P.Port.state in
    let faults = g.P.Port.faults in
    let v = parts_state state faults c.args.self.now in
    let m = c.note_commit.ensures in
    let changes = m.changes ∙ ap (λ xs. with_changes c.args.frees.now (record { number = c.args.number; is_there = false }) (with_changes xs (record { number = c.args.number; is_there = true }) c.args.self.now.changes.items)) c.deref.ensures.value in
    subst (λ xs. (k : ℕ) (e : _) → k < length xs → IsRingIn state (get_or xs k e)) (sym c.deref-3.ensures.value)
    (rings state faults c.args.self.now c.note_commit.new.self c.args.queue c.queue.inside.0 c.args.number c.index_mut.result.now c.send_on-answer.new.side c.args.ready.prepared.logged c.args.frees.now c.args.ready m.geometry m.sides m.root changes m.rows c.queue.view_is c.index_mut.ensures.value c.requires.journal c.requires.request c.requires.may c.requires.few c.requires.number c.requires.ready c.send_on-answer.ensures.stays)

pub refresh-requires-clause-room : goal.refresh-requires-clause-room
refresh-requires-clause-room g c =
    let v = parts_state g.P.Port.state g.P.Port.faults c.args.self.now in
    let rows = ap length c.deref-2.ensures.value in
    let more = ap length c.note_commit.ensures.rows in
    let long = length-append c.args.self.now.rows.items (c.args.ready.row ∷ []) in
    let flags = ap (λ fs. vec_capacity fs) c.note_commit.ensures.flags in
    let room = c.requires.flags in
    let old = c.args.self.now.rows.ok.0 in
    omega (arith, rows, more, long, flags, room, old)

pub returns-clause-drawn : goal.returns-clause-drawn
returns-clause-drawn g c =
    let state = g.P.Port.state in
    let faults = g.P.Port.faults in
    let v = parts_state state faults c.args.self.now in
    let m = c.note_commit.ensures in
    let changes = m.changes ∙ ap (λ xs. with_changes c.args.frees.now (record { number = c.args.number; is_there = false }) (with_changes xs (record { number = c.args.number; is_there = true }) c.args.self.now.changes.items)) c.deref.ensures.value in
    let e = c.send_on-answer.ensures in
    drawn state faults c.args.self.now c.note_commit.new.self c.args.queue c.queue.inside.0 c.args.number c.index_mut.result.now c.send_on-answer.new.side c.args.ready.prepared.logged c.args.frees.now c.args.ready m.geometry m.sides m.root changes m.rows c.queue.view_is c.index_mut.ensures.value c.requires.journal c.requires.request c.requires.may c.requires.few c.requires.number c.requires.ready e.stays (rings_when c.send_on-answer.result c.send_on-answer.new.side.kept c.args.number _ e.whole e.kept) e.rows c.refresh.new.flags.items
    (λ s h j.
    let word = c.base-base.ensures ∙ (ap (λ (p : PortState). p.base) j.root_is ∙ j.start.base) in
    let ports = ap (ports_in state) c.deref-3.ensures.value ∙ ports_are state faults (set c.note_commit.new.self.sides.items c.queue.inside.0 c.send_on-answer.new.side) in
    let t = loose_tx (next_number v) c.args.queue c.args.ready.prepared.logged c.args.frees.now in
    flags_over s (t ∷ h) _ c.base-base.result (ports_in state c.deref-3.result.now) word ports (numbers s h v c.args.queue c.args.ready.prepared.logged c.args.frees.now j c.requires.request c.requires.ready.whole c.requires.may c.requires.few) (rows_then state faults c.args.self.now c.note_commit.new.self c.args.queue c.queue.inside.0 c.args.number c.index_mut.result.now c.send_on-answer.new.side c.args.ready.prepared.logged c.args.frees.now c.args.ready m.geometry m.sides m.root changes m.rows c.queue.view_is c.index_mut.ensures.value c.requires.journal c.requires.request c.requires.may c.requires.few c.requires.number c.requires.ready s h j) (subst (λ rows. (starts : List ℕ) (us : List Tx) → AreNumbered c.base-base.result us → rows ≡ reverse (loose_rows c.base-base.result starts us) → (length c.refresh.new.flags.items ≡ length us) × ((k : ℕ) → c.base-base.result < k → k ≤ c.base-base.result + length us → flag_of c.base-base.result c.refresh.new.flags.items k ≡ closure (is_done starts (ports_in state c.deref-3.result.now)) c.base-base.result us k)) c.deref-2.ensures.value c.refresh.ensures.flags))

pub returns-clause-rung : goal.returns-clause-rung
returns-clause-rung g c =
    let state = g.P.Port.state in
    let faults = g.P.Port.faults in
    let v = parts_state state faults c.args.self.now in
    let m = c.note_commit.ensures in
    let changes = m.changes ∙ ap (λ xs. with_changes c.args.frees.now (record { number = c.args.number; is_there = false }) (with_changes xs (record { number = c.args.number; is_there = true }) c.args.self.now.changes.items)) c.deref.ensures.value in
    let e = c.send_on-answer.ensures in
    both_ok c.send_on-answer.result _ _ _ _ _ e.ok e.none e.cause (λ port kept same. rung_then state faults c.args.self.now c.note_commit.new.self c.args.queue c.queue.inside.0 c.args.number c.index_mut.result.now c.send_on-answer.new.side c.args.ready.prepared.logged c.args.frees.now c.args.ready m.geometry m.sides m.root changes m.rows c.queue.view_is c.index_mut.ensures.value c.requires.journal c.requires.request c.requires.may c.requires.few c.requires.number c.requires.ready c.refresh.new.flags.items port kept same)

pub returns-clause-cut : goal.returns-clause-cut
returns-clause-cut g c =
    let state = g.P.Port.state in
    let faults = g.P.Port.faults in
    let v = parts_state state faults c.args.self.now in
    let m = c.note_commit.ensures in
    let changes = m.changes ∙ ap (λ xs. with_changes c.args.frees.now (record { number = c.args.number; is_there = false }) (with_changes xs (record { number = c.args.number; is_there = true }) c.args.self.now.changes.items)) c.deref.ensures.value in
    let e = c.send_on-answer.ensures in
    both_err c.send_on-answer.result _ _ _ _ _ e.off e.kept e.cause (λ port kept gained. cut_then state faults c.args.self.now c.note_commit.new.self c.args.queue c.queue.inside.0 c.args.number c.index_mut.result.now c.send_on-answer.new.side c.args.ready.prepared.logged c.args.frees.now c.args.ready m.geometry m.sides m.root changes m.rows c.queue.view_is c.index_mut.ensures.value c.requires.journal c.requires.request c.requires.may c.requires.few c.requires.number c.requires.ready c.refresh.new.flags.items port kept gained)
