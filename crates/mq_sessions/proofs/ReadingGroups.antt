-- A group that is not drawn may be read, and comes after all that its session drew and read.
use Rattle.std.proofs.Common.{◌≡◌, ℕ, ◌<◌, List, sym, subst, ◌∙◌}
use Rattle.std.specs.Prelude.{Some}
use Rattle.mq_blocks.specs.Drive.{PortState}
use Rattle.mq_blocks.specs.Geometry.{queues_of}
use Rattle.mq_blocks.specs.declared.geometry.Geometry.{Geometry}
use Rattle.mq_desk_laws.specs.Groups.{GroupView}
use Rattle.mq_desk_laws.specs.Rule.{geometry_of, map_now, shape_of}
use Rattle.mq_desk_laws.specs.Values.{Values}
use Rattle.mq_drive.specs.Steps.{PortFault}
use Rattle.mq_drive.specs.declared.port.Port.{Ghosts}
use Rattle.mq_journal.specs.Machine.{journal}
use Rattle.mq_journal.specs.Numbers.{Seat, Start}
use Rattle.mq_journal.specs.Values.{side_values}
use Rattle.mq_pages.specs.Held.{Cells}
use Rattle.mq_queue_side.specs.declared.root.Root.{Root}
use Rattle.mq_queue_side.specs.declared.side.QueueSide.{QueueSide}
use Rattle.mq_turns.specs.Desk.{Follows, MayRead}
use Rattle.mq_turns.proofs.Lists.{each_map}
use Rattle.mq_sessions.specs.Calls.{Call, IsAsking, call_of}
use Rattle.mq_sessions.specs.Executors.{CallView, DoneGroupsAreOnMaps, EntriesAreOfCalls, IsUndrawn, UndrawnGroupsFit}
use Rattle.mq_sessions.specs.Pages.{HoldsPages}
use Rattle.mq_sessions.specs.declared.asked.Asked.{Asked}
use Rattle.mq_sessions.proofs.ExecutorsNow.{agrees-now, good-now, shape-is}

module _ {P E Req Rep D : Type 0} {G : Ghosts P} (state : P → PortState) (faults : P → List PortFault) (group : GroupView E) (calls : CallView E Req Rep D) where
  abbrev V : Values (QueueSide P E G) (Root P G) E
  V = side_values state faults

  -- whatever is known by now, the machine answers the group so on the map at the newest number
  pub may-be-read : (g : Geometry) (o : Start P E G) (cells : Cells) (v : Seat P E G) (c : Call Req) (done : D) (e : E) → DoneGroupsAreOnMaps calls group.good → UndrawnGroupsFit V group calls → v.opening ≡ Some o → shape_of V group o ≡ g → HoldsPages (journal state faults group) o cells v → calls.on_cells g c.session cells c.requests done → c.session < queues_of g → IsUndrawn g (calls.writes done) (calls.frees done) → calls.entry_for c done e → calls.undrawn e → MayRead (journal state faults group) e v
  may-be-read g o cells v c done e maps fits opening shape held on queue few is undrawn K s =
      let same : geometry_of V group K ≡ g = shape-is state faults group g o cells v opening shape held K s in
      let there = (maps g c.session cells (map_now V group K) c.requests done (good-now state faults group g o cells v opening shape held K s) (agrees-now state faults group g o cells v opening shape held K s) on).1 in
      fits K c done e
      (subst (λ (x : Geometry). calls.on_map x c.session (map_now V group K) c.requests done) (sym same) there)
      is
      (subst (λ (x : Geometry). c.session < queues_of x) (sym same) queue)
      (subst (λ (x : Geometry). IsUndrawn x (calls.writes done) (calls.frees done)) (sym same) few)
      undrawn

  -- the entry comes after all that the session drew and read
  pub comes-after : (g : Geometry) (a : Asked Req) (v : Seat P E G) (done : D) (e : E) → EntriesAreOfCalls group calls → IsAsking group g a v → calls.entry_for (call_of a) done e → Follows (journal state faults group) e v
  comes-after g a v done e law asks is = record {
    session = (law (call_of a) done e is).0 ∙ sym asks.own;
    drawn = each_map (λ d. group.call d.1 < a.calls) (λ d. group.call d.1 < group.call e) (λ d low. below (group.call d.1) low) v.drawn asks.called.drawn;
    read = each_map (λ r. group.call r.0 < a.calls) (λ r. group.call r.0 < group.call e) (λ r low. below (group.call r.0) low) v.read asks.called.read;
  }
    where
      below : (n : ℕ) → n < a.calls → n < group.call e
      below n low = subst (λ (m : ℕ). n < m) (sym (law (call_of a) done e is).1) low
