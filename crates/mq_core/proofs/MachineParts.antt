-- What a machine has by the answers of its parts.
use Rattle.std.proofs.Common.{◌≡◌, ℕ, ◌^◌, ◌<◌, ◌≤◌, Bool, List, length, get_or, set, Some, Result, Ok, Err, sym, refl, ap, subst, ◌∙◌, arith}
use Rattle.std.proofs.lemmas.List.{set-get_or}
use Rattle.mq_blocks.specs.Drive.{PortState, after_flush, staged_end}
use Rattle.mq_ledger.specs.History.{of_queue}
use Rattle.mq_ledger.specs.Items.{Entries}
use Rattle.mq_ledger.specs.Records.{Ledger}
use Rattle.mq_ledger.specs.State.{State, front_of, from_at, is_done, port_at}
use Rattle.mq_core.specs.Answers.{Answers}
use Rattle.mq_core.specs.Events.{MayEnd, MayStoreBase, command_with, with_port}
use Rattle.mq_core.specs.Parts.{AreHeld, AreSides, HasSides, QueueAnswers, known_with, parts, state_with}
use Rattle.mq_core.specs.Settled.{IsSettled, settled, with_front}
use Rattle.mq_core.specs.View.{IsHeldBy}
use Rattle.mq_core.specs.Within.{IsWithin}
use Rattle.mq_core.specs.declared.event.CoreRefusal.{CoreRefusal}
use Rattle.mq_core.specs.declared.event.CoreRefusal.TheVariants.{NotAllowed, OutOfMemory}
use Rattle.mq_core.proofs.EventsSides.{side_flush}
use Rattle.mq_core.proofs.HistoryFronts.{done_below, part_le}
use Rattle.mq_core.proofs.KnownJournalGrowth.{front_more}
use Rattle.mq_core.proofs.StatePorts.{done_more}
use Rattle.mq_core.proofs.MachineLifts.{Machine, Told, front_stays, same_port}
use Rattle.mq_core.proofs.Within.{posted_within, staged_small}

-- what the facts of a whole state say of its parts
module _ {e : Entries} {due : ℕ → ℕ → Bool} (l : Ledger) (ports : List PortState) (root : PortState) (marks writing acknowledged : List ℕ) (f : HasSides e due (state_with l ports root marks writing acknowledged)) (front : l.front ≡ front_of (parts l ports root)) where
  pub held_parts : AreHeld l.front (parts l ports root)
  held_parts = record { entries = e; due = due; sides = record { log = f.log; ports = f.ports; sides = f.sides; root = f.root }; front_is = front }

  pub held_sides : AreSides l ports
  held_sides = record { root = root; held = held_parts }

-- ---- the port of a queue, among ports that fit the ledger

module _ (l : Ledger) (ports : List PortState) (h : AreSides l ports) (q : ℕ) (own : q < l.geometry.queues) where
  pub small : staged_end (port_at ports q) < 2 ^ 64
  small = (let f = h.held.sides in staged_small (known_with h.held.entries h.held.due (parts l ports h.root)) q (of_queue q l.history) (port_at ports q) f.log (f.sides q own))

  pub low : from_at l.starts q ≤ staged_end (port_at ports q)
  low = (let o = (h.held.sides.sides q own).order in omega (arith, o.head_low, o.stored, o.rung))

  pub posted_there : (n : ℕ) → MayEnd n (port_at ports q) → IsWithin (port_at ports q) (command_with n (port_at ports q).posted).lba
  posted_there n = (let f = h.held.sides in posted_within (known_with h.held.entries h.held.due (parts l ports h.root)) q (of_queue q l.history) (port_at ports q) f.log (f.sides q own) n)

-- after the flush of a queue's port, all up to the front is done
pub flush_sides_settled : (l : Ledger) (ports : List PortState) (h : AreSides l ports) (q : ℕ) → q < l.geometry.queues → IsSettled l (set ports q (after_flush (port_at ports q)))
flush_sides_settled l ports h q own =
    let s = parts l ports h.root in
    let e = h.held.entries in
    let f = h.held.sides in
    let due = h.held.due in
    let k = known_with e due s in
    let p = after_flush (port_at ports q) in
    let o = (f.sides q own).order in
    let more = done_more e due s f q own p (side_flush k q (of_queue q l.history) (port_at ports q) (f.sides q own)) (omega (arith, o.stored)) in
    let higher : front_of s ≤ front_of (with_port s (Some q) p) = front_more k (is_done l.starts (set ports q p)) f.log more in
    record {
      numbers = f.log.numbers;
      low = omega (arith, h.held.front_is);
      high = omega (arith, h.held.front_is, part_le (is_done l.starts ports) l.history);
      done = λ t ts at below. done_below l.base (is_done l.starts (set ports q p)) t ts l.history f.log.numbers at (omega (arith, h.held.front_is, higher));
    }

-- where nothing changes, the ledger is settled
pub settled_already : (l : Ledger) (ports : List PortState) → AreSides l ports → l ≡ settled ports l
settled_already l ports h = ap (λ n. with_front n l) h.held.front_is

-- The port that stands at this index is the queue's, it was asked for an event, and is this one now.
module _ (l : Ledger) (ports : List PortState) (q at : ℕ) (v p : PortState) (inside : at < length ports) (is : at ≡ q) (value : v ≡ get_or ports at v) where
  pub same : v ≡ port_at ports q
  same = same_port ports q at v inside is value

  stays : p ≡ port_at ports q → set ports at p ≡ ports
  stays e = (λ i. set ports (is i) (e i)) ∙ set-get_or ports q _

  pub queue_answer : (asked allowed : PortState → Type 0) (after : PortState → PortState) (r : Result (Unit {0}) CoreRefusal) → length ports ≡ l.geometry.queues → (asked (port_at ports q) → allowed (port_at ports q)) → (allowed (port_at ports q) → asked (port_at ports q)) → Answers (asked v) (after v) v p r
      → QueueAnswers l q allowed after ports (set ports at p) r
  queue_answer asked allowed after r full allow deny told = go r (subst (λ w. Answers (asked w) (after w) w p r) same told)
    where
      go : (r : Result (Unit {0}) CoreRefusal) → Answers (asked (port_at ports q)) (after (port_at ports q)) (port_at ports q) p r → QueueAnswers l q allowed after ports (set ports at p) r
      go (Ok u) a = ((omega (arith, inside, is, full), allow a.0), λ i. set ports (is i) (a.1 i))
      go (Err (NotAllowed n)) a = (a.0, λ k. a.1 (deny k.1), stays a.2)
      go (Err OutOfMemory) a = stays a

-- ---- a whole machine

-- the answer seen in a greater whole
pub lift : {A B : Type 0} (allowed : Type 0) (after old new : A) (g : A → B) (r : Result (Unit {0}) CoreRefusal) → Answers allowed after old new r → Answers allowed (g after) (g old) (g new) r
lift allowed after old new g (Ok u) a = (a.0, ap g a.1)
lift allowed after old new g (Err (NotAllowed n)) a = (a.0, a.1, ap g a.2)
lift allowed after old new g (Err OutOfMemory) a = ap g a

-- what is always allowed, where something else is
pub allowed_as : {A : Type 0} (allowed : Type 0) (after old new : A) → allowed → (r : Result (Unit {0}) CoreRefusal) → Answers (Unit {0}) after old new r → Answers allowed after old new r
allowed_as allowed after old new may (Ok u) a = (may, a.1)
allowed_as allowed after old new may (Err (NotAllowed n)) a = absurd (a.1 tt)
allowed_as allowed after old new may (Err OutOfMemory) a = a

-- an answer about the state that an event leads to is the machine's
pub told_by : (m : Machine) (v : m.Event) (front then : ℕ) (s new after : State) (allowed : Type 0) (r : Result (Unit {0}) CoreRefusal) → IsHeldBy m.Facts front s → Answers allowed after s new r → (allowed → m.Allowed v s) → (m.Allowed v s → allowed) → m.happens v s ≡ after → then ≡ front_of new → Told m v then s new r
told_by m v front then s new after allowed (Ok u) held a allow deny is f =
    let e : new ≡ m.happens v s = a.1 ∙ sym is in
    record {
      held = record {
        facts = subst (λ t. m.Facts t) (sym e) (m.keeps v s held.facts (allow a.0));
        front_is = f;
        idle = ap (λ (t : State). staged_end t.root) e ∙ m.idle_stays v s ∙ held.idle;
      };
      answer = (allow a.0, e);
    }
told_by m v front then s new after allowed (Err (NotAllowed n)) held a allow deny is f =
    record {
      held = record { facts = subst (λ t. m.Facts t) (sym a.2) held.facts; front_is = f; idle = ap (λ (t : State). staged_end t.root) a.2 ∙ held.idle };
      answer = (a.0, λ k. a.1 (deny k), a.2);
    }
told_by m v front then s new after allowed (Err OutOfMemory) held a allow deny is f =
    record {
      held = record { facts = subst (λ t. m.Facts t) (sym a) held.facts; front_is = f; idle = ap (λ (t : State). staged_end t.root) a ∙ held.idle };
      answer = a;
    }

-- and leaves the front
pub told_same : (m : Machine) (v : m.Event) (front : ℕ) (s new after : State) (allowed : Type 0) (r : Result (Unit {0}) CoreRefusal) → IsHeldBy m.Facts front s → Answers allowed after s new r → (allowed → m.Allowed v s) → (m.Allowed v s → allowed) → m.happens v s ≡ after → (allowed → front_of after ≡ front_of s) → Told m v front s new r
told_same m v front s new after allowed r held a allow deny is same = told_by m v front front s new after allowed r held a allow deny is (go r a)
  where
    go : (r : Result (Unit {0}) CoreRefusal) → Answers allowed after s new r → front ≡ front_of new
    go (Ok u) b = held.front_is ∙ sym (ap front_of b.1 ∙ same b.0)
    go (Err (NotAllowed n)) b = held.front_is ∙ sym (ap front_of b.2)
    go (Err OutOfMemory) b = held.front_is ∙ sym (ap front_of b)

-- an event of a queue's port that leaves its head
pub queue_told : (m : Machine) (v : m.Event) (front : ℕ) (s : State) (q : ℕ) (allowed : PortState → Type 0) (after : PortState → PortState) (new : List PortState) (r : Result (Unit {0}) CoreRefusal) → IsHeldBy m.Facts front s → length s.ports ≡ s.geometry.queues → Answers ((q < s.geometry.queues) × allowed (port_at s.ports q)) (set s.ports q (after (port_at s.ports q))) s.ports new r
    → ((q < s.geometry.queues) × allowed (port_at s.ports q) → m.Allowed v s) → (m.Allowed v s → (q < s.geometry.queues) × allowed (port_at s.ports q)) → m.happens v s ≡ record s { ports = set s.ports q (after (port_at s.ports q)) } → (after (port_at s.ports q)).head ≡ (port_at s.ports q).head → Told m v front s (record s { ports = new }) r
queue_told m v front s q allowed after new r held full a allow deny is head = told_same m v front s (record s { ports = new }) (record s { ports = set s.ports q (after (port_at s.ports q)) }) ((q < s.geometry.queues) × allowed (port_at s.ports q)) r held (lift ((q < s.geometry.queues) × allowed (port_at s.ports q)) (set s.ports q (after (port_at s.ports q))) s.ports new (λ ps. record s { ports = ps }) r a) allow deny is (λ k. front_stays s q (after (port_at s.ports q)) (omega (arith, k.0, full)) head)

-- an event of a queue's port that moves the front along
pub flush_told : (m : Machine) (v : m.Event) (front : ℕ) (s after : State) (allowed : Type 0) (new : List PortState) (r : Result (Unit {0}) CoreRefusal) → IsHeldBy m.Facts front s → Answers allowed after s (record s { ports = new }) r → (allowed → m.Allowed v s) → (m.Allowed v s → allowed) → m.happens v s ≡ after → Told m v (front_of (record s { ports = new })) s (record s { ports = new }) r
flush_told m v front s after allowed new r held a allow deny is = told_by m v front (front_of (record s { ports = new })) s (record s { ports = new }) after allowed r held a allow deny is refl

-- where a base may be stored, by the parts of a whole state and by all of it
pub may_store : (e : Entries) (l : Ledger) (ps ports : List PortState) (root : PortState) (marks writing acknowledged : List ℕ) (b : ℕ) → ps ≡ ports → MayStoreBase e (parts l ps root) b → MayStoreBase e (state_with l ports root marks writing acknowledged) b
may_store e l ps ports root marks writing acknowledged b is m = (let n = subst (λ qs. MayStoreBase e (parts l qs root) b) is m in record { above = n.above; reached = n.reached; home = n.home })

pub store_may : (e : Entries) (l : Ledger) (ps ports : List PortState) (root : PortState) (marks writing acknowledged : List ℕ) (b : ℕ) → ps ≡ ports → MayStoreBase e (state_with l ports root marks writing acknowledged) b → MayStoreBase e (parts l ps root) b
store_may e l ps ports root marks writing acknowledged b is m = subst (λ qs. MayStoreBase e (parts l qs root) b) (sym is) (record { above = m.above; reached = m.reached; home = m.home })
