-- A desk that is opened over ports on which nothing has happened yet is fresh.
use Rattle.std.proofs.Common.{◌≡◌, ℕ, ◌+◌, ◌<◌, ◌≤◌, List, [], ◌∷◌, length, get_or, map, refl, sym, ap, subst, ◌∙◌, inl, inr, arith}
use Rattle.std.specs.Prelude.{Option, Some, None, slice_get}
use Rattle.std.proofs.lemmas.List.{length-map}
use Rattle.mq_blocks.specs.Drive.{PortState, IsBoundKept}
use Rattle.mq_blocks.specs.Geometry.{homes_of, queues_of}
use Rattle.mq_blocks.specs.Machine.{Map}
use Rattle.mq_blocks.specs.declared.geometry.Geometry.{Geometry}
use Rattle.mq_drive.specs.Faults.{count_of}
use Rattle.mq_drive.specs.Steps.{PortFault}
use Rattle.mq_drive.specs.declared.port.Port.{Ghosts}
use Rattle.mq_drive.specs.declared.port.Ports.{Ports}
use Rattle.mq_journal.specs.Numbers.{Start}
use Rattle.mq_journal.specs.Values.{Says, entries_in, least_geometry, side_values}
use Rattle.mq_ledger.specs.State.{IsStart, no_port}
use Rattle.mq_ledger.specs.Written.{journal_entries}
use Rattle.mq_pages.specs.declared.page.PageCell.{PageCell}
use Rattle.mq_pmr.specs.Rungs.{last_end}
use Rattle.mq_pmr.specs.declared.rungs.Rung.{Rung}
use Rattle.mq_recover.specs.Drives.{drive_of}
use Rattle.mq_recover.specs.Recovery.{started}
use Rattle.mq_recover.specs.declared.standing.Standing.{Standing}
use Rattle.mq_desk_laws.specs.Groups.{GroupView}
use Rattle.mq_desk_laws.specs.Rule as rule
use Rattle.mq_desk_laws.proofs.Opening.{at_map}
use Rattle.mq_queue_side.proofs.DrainedCompletes.{bound_now}
use Rattle.mq_queue_side.specs.Side.{AreRungsOf, IsKept}
use Rattle.mq_queue_side.specs.Stored.{rows_of}
use Rattle.mq_queue_side.specs.Told.{IsTold}
use Rattle.mq_queue_side.specs.declared.answers.Why.{Why}
use Rattle.mq_queue_side.specs.declared.side.QueueSide.{QueueSide}
use Rattle.mq_queue_side.proofs.Counts.{same-none}
use Rattle.mq_sessions.specs.Opening.{IsOpenedOver, first_cells, geometry_at, listed}
use Rattle.mq_sessions.proofs.OpeningState.{count-is, first-contents, first-numbers, map-after, map-at, state-is}
use Rattle.mq_queue_side.specs.Opening.{IsNewSide}

-- ---- the record of a new side

module _ {P E : Type 0} {G : Ghosts P} (state : P → PortState) (faults : P → List PortFault) where
  new-says : (g : Geometry) (q from word : ℕ) (port : PortState) (first : List PortFault) (s : QueueSide P E G)
      → from ≡ (state s.pmr.port).doorbell → port ≡ state s.pmr.port → first ≡ faults s.pmr.port → IsNewSide state g q s
      → Says state faults (record { geometry = g; queue = q; start = from; opened = port; first = first; word = word; txs = []; reports = [] }) s
  new-says g q from word port first s bell same told n =
      let passed : s.pmr.done.tx ≡ 0 = ap (λ (r : Rung). r.tx) n.passed in
      let end : s.pmr.done.end ≡ (state s.pmr.port).doorbell = ap (λ (r : Rung). r.end) n.passed in
      let idle = n.idle in
      let bell_end : (state s.pmr.port).doorbell ≡ from + 0 = omega arith in
      let pending = ap length idle.pending in
      let posted = ap length idle.posted in
      let rung = ap length n.rung in
      let bell_waits = same-none (state s.pmr.port).doorbell (from + 0) 4 bell_end in
      let head_waits = same-none (state s.pmr.port).head s.pmr.done.end 2 (idle.head ∙ sym end) in
      let events = ap (λ (p : PortState). p.events) same in
      record {
        is = record {
          geometry = n.geometry;
          queue = n.queue;
          passed = inl (passed, end ∙ sym bell);
          rung = subst (λ (rs : List Rung). AreRungsOf from [] s.pmr.done.end rs) (sym n.rung) tt;
          last = ap (last_end s.pmr.done.end) n.rung ∙ end;
          done = inl n.done;
          kept = subst (λ (k : Option (ℕ × Why)). IsKept from [] (state s.pmr.port).failed (state s.pmr.port).pending (state s.pmr.port).doorbell k) (sym n.kept) (idle.failed, idle.pending);
          told = subst (λ (k : Option (ℕ × Why)). IsTold first (faults s.pmr.port) k) (sym n.kept) (inr (record { more = λ f. let c = ap (count_of f) told in omega arith; added = tt }));
          few = inr (omega arith);
          rings = sym (ap (λ (p : PortState). p.rings) same);
          bound = subst (λ (p : PortState). IsBoundKept p (state s.pmr.port)) (sym same) (bound_now (state s.pmr.port));
        };
        whole = λ _. bell_end;
        stored = ap rows_of n.stored;
        shows = tt;
      }

-- ---- the whole

-- the shape of the drive is that of its first side
first-shape : {P E : Type 0} {G : Ghosts P} (state : P → PortState) (g least : Geometry) (sides : List (QueueSide P E G)) → ((q : ℕ) (s : QueueSide P E G) → slice_get sides q ≡ Some s → IsNewSide state g q s) → 0 < length sides → get_or (map (λ s. s.pmr.geometry) sides) 0 least ≡ g
first-shape state g least [] new some = absurd (omega arith)
first-shape state g least (s ∷ ss) new some = (new 0 s refl).geometry

-- The ports are a start of the machine over this map, on which groups run.
module _ {P E : Type 0} {G : Ghosts P} (state : P → PortState) (faults : P → List PortFault) (group : GroupView E) where
  pub opened-over : (g : Geometry) (m : Map) (ports : Ports P) (s : Standing) (o : Start P E G)
      → IsStart journal_entries (started g (drive_of state ports) (listed g m)) → s.base ≡ (drive_of state ports).root.base → ((b : ℕ) → homes_of g ≤ b → m b ≡ None) → group.good g m
      → o.pages ≡ first_cells g m s.base → o.base ≡ s.base → map (λ q. q.pmr.port) o.sides ≡ ports.queues.items → o.root.port ≡ ports.root
      → ((q : ℕ) (w : QueueSide P E G) → slice_get o.sides q ≡ Some w → IsNewSide state g q w)
      → IsOpenedOver state faults group g m ports s o
  opened-over g m ports s o start based none good pages base queues root new =
      let count : length ports.queues.items ≡ g.queues = count-is g state ports.queues.items (state ports.root) (listed g m) start in
      let many : length o.sides ≡ g.queues = sym (length-map o.sides (λ (w : QueueSide P E G). w.pmr.port)) ∙ (ap length queues ∙ count) in
      let some = g.queues_low in
      let shape : geometry_at state faults group o ≡ g = first-shape state g least_geometry o.sides new (omega arith) in
      let contents : map (λ c. c.content) o.pages ≡ listed g m = ap (map (λ (c : PageCell). c.content)) pages ∙ first-contents g m s.base in
      let states : map (λ w. state w.pmr.port) o.sides ≡ map state ports.queues.items = sym (map-after state (λ (w : QueueSide P E G). w.pmr.port) o.sides) ∙ ap (map state) queues in
      let state_is = state-is (side_values state faults) group g (drive_of state ports) (listed g m) o shape contents (base ∙ based) states (ap state root) (length-map ports.queues.items state ∙ count) in
      let map_is : (b : ℕ) → rule.start_of (side_values state faults) group o b ≡ m b = λ (b : ℕ). ap (λ (xs : List (Option (List ℕ))). get_or xs b None) contents ∙ map-at g m none b in
      record {
        base = base;
        pages = contents;
        queues = queues;
        root = root;
        shape = shape;
        fresh = record {
          start = subst (IsStart journal_entries) (sym state_is) start;
          good = subst (λ (h : Geometry). group.good h (rule.start_of (side_values state faults) group o)) (sym shape) (subst (λ (n : Map). group.good g n) (λ i b. sym (map_is b) i) good);
          cells = λ b c e.
              let n = first-numbers g m s.base b c (ap (λ (cs : List PageCell). slice_get cs b) (sym pages) ∙ e) in
              (n.0 ∙ sym base, n.1 ∙ sym base, n.2 ∙ sym base);
          stored = λ q w e. ap entries_in (new q w e).stored;
          shape = tt;
          says = λ q w e.
              let bell = (at_map (λ (v : QueueSide P E G). (state v.pmr.port).doorbell) o.sides q w 0 e).0 in
              let port = (at_map (λ (v : QueueSide P E G). state v.pmr.port) o.sides q w no_port e).0 in
              let first = (at_map (λ (v : QueueSide P E G). faults v.pmr.port) o.sides q w [] e).0 in
              new-says state faults (geometry_at state faults group o) q _ o.base _ _ w bell port first (subst (λ (h : Geometry). IsNewSide state h q w) (sym shape) (new q w e));
        };
      }

-- there is a side for each queue
pub sides-count : {P E : Type 0} {G : Ghosts P} (state : P → PortState) (g : Geometry) (ports : Ports P) (start : List (Option (List ℕ))) (sides : List (QueueSide P E G)) → IsStart journal_entries (started g (drive_of state ports) start) → map (λ q. q.pmr.port) sides ≡ ports.queues.items → length sides ≡ queues_of g
sides-count {P = P} {E = E} {G = G} state g ports start sides at queues = sym (length-map sides (λ (w : QueueSide P E G). w.pmr.port)) ∙ (ap length queues ∙ count-is g state ports.queues.items (state ports.root) start at)
