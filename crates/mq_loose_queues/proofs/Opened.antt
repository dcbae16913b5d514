-- The queues over the ports of a start.
use Rattle.std.specs.Prelude.{◌≤◌, ◌^◌, IsSome, slice_get, slice_index_or}
use Rattle.std.proofs.Common.{◌≡◌, ℕ, suc, zero, ◌<◌, Bool, true, false, List, [], ◌∷◌, length, map, replicate, get_or, is_some, Option, Some, None, sym, refl, ap, subst, ◌∙◌, arith}
use Rattle.std.proofs.lemmas.Option.{same_Some}
use Rattle.std.proofs.lemmas.Bool.{eqb-true, or_left}
use Rattle.std.proofs.lemmas.List.{get_or-replicate, length-map, length-replicate}
use Rattle.mq_blocks.specs.Drive.{PortState}
use Rattle.mq_blocks.specs.Geometry.{homes_of}
use Rattle.mq_blocks.specs.declared.geometry.Geometry.{Geometry}
use Rattle.mq_core.proofs.KnownJournalGrowth.{side_moved}
use Rattle.mq_core.proofs.MachineFacts.{start_facts}
use Rattle.mq_ledger.specs.KnownJournal.{KnownJournal, LogOk}
use Rattle.mq_ledger.specs.Sides.{RootOk, SideOk}
use Rattle.mq_ledger.specs.Items.{Entries}
use Rattle.mq_ledger.specs.State.{Facts, IsStart, State, from_at, known_of, no_port, port_at, start_map}
use Rattle.mq_ledger.specs.Written.{journal_entries}
use Rattle.mq_loose.specs.Guards.{IsLooseStart, entries_in}
use Rattle.mq_queue_side.proofs.SideDraws.{opened}
use Rattle.mq_drive.proofs.StartRolePorts.{is-port_of}
use Rattle.mq_drive.specs.Steps.{PortFault}
use Rattle.mq_drive.specs.declared.port.Port.{Ghosts}
use Rattle.mq_queue_side.specs.Laws.{IsFresh}
use Rattle.mq_queue_side.specs.Opening.{IsIdle, IsNewSide}
use Rattle.mq_queue_side.specs.Stored.{rows_of}
use Rattle.mq_queue_side.specs.declared.drawn.Drawn.{Drawn}
use Rattle.mq_queue_side.specs.declared.side.QueueSide.{QueueSide}
use Rattle.mq_drive.specs.declared.port.Ports.{Ports}
use Rattle.mq_loose_recover.specs.declared.standing.LooseStanding.{LooseStanding}
use Rattle.mq_recover.specs.Drives.{DriveState, drive_of, faults_on}
use Rattle.mq_recover.specs.Recovery.{started}
use Rattle.mq_loose_queues.specs.Changes.{AreChanges, first_change}
use Rattle.mq_loose_queues.specs.Journal.{IsJournal, known_over}
use Rattle.mq_loose_queues.specs.Opening.{IsOpened, MayOpen, home_map}
use Rattle.mq_loose_queues.specs.Queues.{QueuesState, StoredSide, at_queue, drive_in, no_side, parts_state, ports_of, stored_state}
use Rattle.mq_loose_queues.specs.declared.changes.Change.{Change}
use Rattle.mq_loose_queues.specs.declared.parts.Parts.{Parts}
use Rattle.mq_loose_queues.proofs.Calls.{map-after}
use Rattle.mq_loose_queues.proofs.Ports.{mapped, port_is}

-- a side on which nothing was drawn
pub record IsNewAt (g : Geometry) (q : ℕ) (s : StoredSide) : Type 0 where
  pub fresh : IsFresh s.side
  pub geometry : s.side.geometry ≡ g
  pub queue : s.side.queue ≡ q
  pub rows : s.rows ≡ []

abbrev pub IsNew : Geometry → ℕ → QueuesState → Type 0
IsNew g q v = IsNewAt g q (at_queue v q)

-- a start of the loose machine over a map in which all home blocks are
pub record OpensOver (g : Geometry) (d : DriveState) (start : List (Option (List ℕ))) : Type 0 where
  pub starts : IsLooseStart journal_entries (started g d start)
  pub full : (x : ℕ) → x < homes_of g → IsSome (slice_index_or start x None)
  pub base : d.root.base ≤ 2 ^ 62
  pub rung : (q : ℕ) → q < g.queues → (port_at d.queues q).doorbell ≤ 2 ^ 62

there_in : (blocks : List (Option (List ℕ))) (x : ℕ) → x < length (home_map blocks) → IsSome (slice_index_or (home_map blocks) x None)
there_in [] x l = absurd (omega arith)
there_in (b ∷ bs) zero l = refl
there_in (b ∷ bs) (suc x) l = there_in bs x (omega arith)

pub opens_over : (g : Geometry) (d : DriveState) (standing : LooseStanding) → MayOpen g d standing → OpensOver g d (home_map standing.blocks.items)
opens_over g d standing may = record {
  starts = may.starts;
  full = λ x inside. there_in standing.blocks.items x (let l = may.starts.start in omega (arith, inside, l));
  base = (let e = may.base_is in let l = may.base in omega (arith, e, l));
  rung = may.rung;
}

some_is : {A : Type 0} (x : Option A) → IsSome x → is_some x ≡ true
some_is (Some a) h = refl
some_is None h = absurd (cc)

module _ (g : Geometry) (d : DriveState) (start : List (Option (List ℕ))) (v : QueuesState) (may : OpensOver g d start) (shape : v.geometry ≡ g) (drive : drive_in v ≡ d) (each : (q : ℕ) → q < g.queues → IsNew g q v) where
  abbrev s : State
  s = started g d start

  abbrev k : KnownJournal
  k = known_over s []

  facts : Facts (entries_in journal_entries s) s
  facts = start_facts (entries_in journal_entries s) s may.starts

  abbrev old : KnownJournal
  old = known_of (entries_in journal_entries s) s

  log_at : LogOk k
  log_at = record {
    entries = facts.log.entries;
    numbers = tt;
    limit = facts.log.limit;
    word_low = omega arith;
    word_high = omega arith;
    due = λ x b e. omega (arith, eqb-true _ _ e);
    each = λ t ts at. absurd at;
  }

  port_at_start : (q : ℕ) → port_at d.queues q ≡ (at_queue v q).side.port
  port_at_start q = ap (λ (w : DriveState). port_at w.queues q) (sym drive) ∙ port_is v q

  side_at : (q : ℕ) → q < g.queues → SideOk k q [] (at_queue v q).side.port
  side_at q own =
      let side = facts.sides q own in
      subst (λ (p : PortState). SideOk k q [] p) (port_at_start q)
      (side_moved old q [] (port_at d.queues q) [] (λ t ts. false) k.due s.base side (record { part = side.part; fits = omega arith; low = omega arith; based = omega (arith, side.order.head_low); done = λ t ts at e f. absurd at; change = λ x b l. l })
      (λ x b content inside zone due there m. side.homes x b content inside zone (or_left _ _ due) there m))

  root_at : RootOk k d.root
  root_at = record { port = facts.root.port; posted = facts.root.posted; bases = (omega arith, facts.root.bases.1); homes = λ x b content inside zone due there m. facts.root.homes x b content inside zone (or_left _ _ due) there m }

  from_is : (q : ℕ) → from_at s.starts q ≡ (at_queue v q).side.port.doorbell
  from_is q = mapped (λ (p : PortState). p.doorbell) d.queues q no_port ∙ ap (λ (p : PortState). p.doorbell) (port_at_start q)

  pub opened_journal : length v.sides ≡ g.queues → v.changes ≡ replicate (homes_of g) (first_change d.root.base) → v.rows ≡ [] → v.flags ≡ [] → IsJournal s [] v
  opened_journal count changes rows flags = record {
    start = may.starts;
    low = record { base = may.base; rung = λ q own. (let low = may.rung q own in let is = mapped (λ (p : PortState). p.doorbell) d.queues q no_port in omega (arith, low, is)) };
    geometry = shape;
    root_is = ap (λ (w : DriveState). w.root) drive;
    root = root_at;
    plain = λ t ts at. absurd at;
    log = log_at;
    count = count;
    sides = λ q own. (let n = each q own in opened k q (at_queue v q).side n.fresh n.geometry n.queue refl (sym (from_is q)) (side_at q own));
    rung = λ q own none. omega (arith, from_is q);
    stored = λ q own. (each q own).rows;
    changes = subst (λ (c : List Change). AreChanges g start s.base [] c) (sym changes) (record {
      whole = length-replicate (homes_of g) (first_change s.base);
      number = λ x inside. ap (λ (c : Change). c.number) (get_or-replicate (homes_of g) x (first_change s.base) (first_change s.base) inside);
      there = λ x inside. ap (λ (c : Change). c.is_there) (get_or-replicate (homes_of g) x (first_change s.base) (first_change s.base) inside) ∙ sym (some_is (start_map start x) (may.full x inside));
    });
    rows = rows;
    flags = record { whole = ap (λ (fs : List Bool). length fs) flags; each = λ n low high. absurd (omega arith) };
  }

-- ---- the sides that were opened

got : {A B : Type 0} (f : A → B) (xs : List A) (q : ℕ) (x : A) (d : B) → slice_get xs q ≡ Some x → (q < length xs) × (get_or (map f xs) q d ≡ f x)
got f [] q x d e = absurd (cc)
got f (y ∷ ys) zero x d e = (omega arith, ap f (same_Some y x e))
got f (y ∷ ys) (suc q) x d e = (let r = got f ys q x d e in (omega (arith, r.0), r.1))

there_is : {A : Type 0} (xs : List A) (q : ℕ) → q < length xs → (x : A) × (slice_get xs q ≡ Some x)
there_is [] q l = absurd (omega arith)
there_is (y ∷ ys) zero l = (y, refl)
there_is (y ∷ ys) (suc q) l = there_is ys q (omega arith)

-- nothing is under way on a port of a start
idle_each : {P : Type 0} (e : Entries) (g : Geometry) (state : P → PortState) (ports : List P) (root : PortState) (start : List (Option (List ℕ))) → IsStart e (started g (record { queues = map state ports; root = root }) start) → (q : ℕ) (p : P) → slice_get ports q ≡ Some p → IsIdle g q (state p)
idle_each e g state ports root start st q p at =
    let there = got state ports q p no_port at in
    let count : length (map state ports) ≡ length ports = length-map ports state in
    let port = st.each q (let n = st.ports in omega (arith, there.0, count, n)) in
    subst (λ (w : PortState). IsIdle g q w) there.1 (record {
      port = is-port_of port.port (λ k l f. ap (λ (xs : List (List ℕ)). get_or xs k []) (sym port.staged));
      head = port.head ∙ sym port.doorbell;
      stored_head = port.stored_head ∙ sym port.doorbell;
      pending = port.pending;
      posted = port.posted;
      failed = port.failed;
      flushed = port.flushed_end ∙ sym port.doorbell;
    })

pub idle_over : {P : Type 0} (state : P → PortState) (g : Geometry) (ports : Ports P) (standing : LooseStanding) → MayOpen g (drive_of state ports) standing → (q : ℕ) (p : P) → slice_get ports.queues.items q ≡ Some p → IsIdle g q (state p)
idle_over state g ports standing may =
    let start = home_map standing.blocks.items in
    idle_each (entries_in journal_entries (started g (drive_of state ports) start)) g state ports.queues.items (state ports.root) start may.starts

module _ {P : Type 0} {G : Ghosts P} (state : P → PortState) (faults : P → List PortFault) (g : Geometry) (p : Parts P G) (each : (q : ℕ) (s : QueueSide P (Unit {0}) G) → slice_get p.sides.items q ≡ Some s → IsNewSide state g q s) where
  pub new_at : (q : ℕ) → q < length p.sides.items → IsNew g q (parts_state state faults p)
  new_at q inside =
      let x = there_is p.sides.items q inside in
      let n = each q x.0 x.1 in
      let is = (got (stored_state state faults) p.sides.items q x.0 (no_side p.geometry) x.1).1 in
      let new : IsNewAt g q (stored_state state faults x.0) = record {
        fresh = record { passed = n.passed; rung = n.rung; done = n.done; kept = n.kept; failed = n.idle.failed; pending = n.idle.pending };
        geometry = n.geometry;
        queue = n.queue;
        rows = ap (λ (ds : List (Drawn (Unit {0}))). rows_of ds) n.stored;
      } in
      subst (λ w. IsNewAt g q w) (sym is) new

  pub drive_is : (ports : List P) → map (λ s. s.pmr.port) p.sides.items ≡ ports → ports_of (parts_state state faults p) ≡ map state ports
  drive_is ports same = map-after (λ (s : StoredSide). s.side.port) (stored_state state faults) p.sides.items ∙ (sym (map-after state (λ s. s.pmr.port) p.sides.items) ∙ ap (map state) same)

  pub faults_are : (ports : List P) → map (λ s. s.pmr.port) p.sides.items ≡ ports → map (λ (s : StoredSide). s.side.faults) (map (stored_state state faults) p.sides.items) ≡ map faults ports
  faults_are ports same = map-after (λ (s : StoredSide). s.side.faults) (stored_state state faults) p.sides.items ∙ (sym (map-after faults (λ s. s.pmr.port) p.sides.items) ∙ ap (map faults) same)

-- the queues that were opened over these ports
module _ {P : Type 0} {G : Ghosts P} (state : P → PortState) (faults : P → List PortFault) (g : Geometry) (ports : Ports P) (p : Parts P G) (same : map (λ s. s.pmr.port) p.sides.items ≡ ports.queues.items) (each : (q : ℕ) (s : QueueSide P (Unit {0}) G) → slice_get p.sides.items q ≡ Some s → IsNewSide state g q s) where
  pub opened_over : (start : List (Option (List ℕ))) → OpensOver g (drive_of state ports) start → p.geometry ≡ g → p.root.port ≡ ports.root → p.changes.items ≡ replicate (homes_of g) (first_change (state ports.root).base) → p.rows.items ≡ [] → p.flags.items ≡ []
      → IsOpened g (drive_of state ports) (faults_on faults ports) start (parts_state state faults p)
  opened_over start may shape root changes rows flags =
      let v = parts_state state faults p in
      let mine = length-map p.sides.items (stored_state state faults) in
      let own : length p.sides.items ≡ length ports.queues.items = sym (length-map p.sides.items (λ s. s.pmr.port)) ∙ ap (λ (xs : List P). length xs) same in
      let all : length (map state ports.queues.items) ≡ length ports.queues.items = length-map ports.queues.items state in
      let count : length v.sides ≡ g.queues = (let n = may.starts.ports in omega (arith, mine, own, all, n)) in
      let drive : drive_in v ≡ drive_of state ports = (λ i. record { queues = drive_is state faults g p each ports.queues.items same i; root = state (root i) }) in
      record {
        drive = drive;
        faults = λ i. record { queues = faults_are state faults g p each ports.queues.items same i; root = faults (root i) };
        journal = opened_journal g (drive_of state ports) start v may shape drive (λ q inside. new_at state faults g p each q (omega (arith, inside, count, mine))) count changes rows flags;
      }
