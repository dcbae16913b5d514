-- What the port of a queue answers to an event, and what a whole machine over the journal's states answers by it.
use Rattle.std.proofs.Common.{◌≡◌, ℕ, ◌+◌, ◌<◌, Bool, List, length, get_or, set, Option, Some, None, Result, Ok, sym, refl, ap, subst, ◌∙◌, inl, inr, nat_le}
use Rattle.std.proofs.lemmas.Bool.{cases_eq}
use Rattle.std.proofs.lemmas.List.{get_or_read}
use Rattle.mq_blocks.specs.Drive.{PortState, staged_end}
use Rattle.mq_ledger.specs.History.{part_of, writes, of_queue}
use Rattle.mq_ledger.specs.Items.{end_of, descriptor_blocks}
use Rattle.mq_ledger.specs.State.{State, port_at, port_of, from_at, front_of}
use Rattle.mq_ledger.specs.declared.tx.Tx.{Tx}
use Rattle.mq_core.specs.Answers.{Answers}
use Rattle.mq_core.specs.Events.{with_port}
use Rattle.mq_core.specs.View.{IsHeldBy}
use Rattle.mq_core.specs.declared.event.CoreRefusal.{CoreRefusal}
use Rattle.mq_core.proofs.StatePorts.{port_same, port_other}

-- heads that stay where they are leave the front
pub front_stays : (s : State) (q : ℕ) (p : PortState) → q < length s.ports → p.head ≡ (port_at s.ports q).head → front_of (with_port s (Some q) p) ≡ front_of s
front_stays s q p within same = ap (λ (w : Tx → List Tx → Bool). s.base + length (part_of w s.history)) (λ i t ts. nat_le (end_of (from_at s.starts t.queue) (of_queue t.queue ts) + (writes t + descriptor_blocks t)) (heads t.queue i))
  where
    heads : (r : ℕ) → (port_at (set s.ports q p) r).head ≡ (port_at s.ports r).head
    heads r = elim (cases_eq r q) [
      | inl is ↦ ap (λ n. (port_at (set s.ports q p) n).head) is ∙ ap (λ (w : PortState). w.head) (port_same s.ports q p within) ∙ same ∙ ap (λ n. (port_at s.ports n).head) (sym is)
      | inr other ↦ ap (λ (w : PortState). w.head) (port_other s.ports q r p other)
    ]

-- A machine over states of the journal: its events, where each is allowed, what each changes, and the facts
-- that they keep. No event stages anything at the root.
pub record Machine : Type 1 where
  pub Event : Type 0
  pub Facts : State → Type 0
  pub Allowed : Event → State → Type 0
  pub happens : Event → State → State
  pub keeps : (v : Event) (s : State) → Facts s → Allowed v s → Facts (happens v s)
  pub idle_stays : (v : Event) (s : State) → staged_end (happens v s).root ≡ staged_end s.root

-- What the machine answers to an event: the new state is held, and the answer is the event's.
pub record Told (m : Machine) (v : m.Event) (front : ℕ) (s new : State) (r : Result (Unit {0}) CoreRefusal) : Type 0 where
  pub held : IsHeldBy m.Facts front new
  pub answer : Answers (m.Allowed v s) (m.happens v s) s new r

-- the answer where the old state is seen by another name
pub answer_at : {m : Machine} {v : m.Event} {front : ℕ} {s old new : State} {r : Result (Unit {0}) CoreRefusal} → s ≡ old → Told m v front s new r → Answers (m.Allowed v old) (m.happens v old) old new r
answer_at {m} {v} {front} {s} {old} {new} {r} is told = subst (λ t. Answers (m.Allowed v t) (m.happens v t) t new r) is told.answer

-- and the event, too
pub answer_for : {m : Machine} {v w : m.Event} {front : ℕ} {s old new : State} {r : Result (Unit {0}) CoreRefusal} → w ≡ v → s ≡ old → Told m v front s new r → Answers (m.Allowed w old) (m.happens w old) old new r
answer_for {m} {v} {w} {front} {s} {old} {new} {r} event is told = subst (λ u. Answers (m.Allowed u old) (m.happens u old) old new r) (sym event) (subst (λ t. Answers (m.Allowed v t) (m.happens v t) t new r) is told.answer)

-- an event that was allowed has happened, and left the front
pub happened : (m : Machine) (v : m.Event) (front : ℕ) (s new : State) → IsHeldBy m.Facts front s → m.Allowed v s → new ≡ m.happens v s → front_of (m.happens v s) ≡ front_of s → Told m v front s new (Ok tt)
happened m v front s new held may is stays =
    record {
      held = subst (λ t. IsHeldBy m.Facts front t) (sym is) (record { facts = m.keeps v s held.facts may; front_is = held.front_is ∙ sym stays; idle = m.idle_stays v s ∙ held.idle });
      answer = (may, is);
    }

-- what changes a block's port stages nothing at the root, where it stages nothing at any port
pub idle_with : (s : State) (z : Option ℕ) (p : PortState) → staged_end p ≡ staged_end (port_of s z) → staged_end (with_port s z p).root ≡ staged_end s.root
idle_with s (Some q) p same = refl
idle_with s None p same = same

-- the port that stands at an index
pub same_port : (ports : List PortState) (q at : ℕ) (v : PortState) → at < length ports → at ≡ q → v ≡ get_or ports at v → v ≡ port_at ports q
same_port ports q at v own is value = get_or_read ports at v own value _ ∙ ap (port_at ports) is

-- and is changed
pub set_port : (after : PortState → PortState) (ports : List PortState) (q at : ℕ) (v p : PortState) → at < length ports → at ≡ q → v ≡ get_or ports at v → p ≡ after v → set ports at p ≡ set ports q (after (port_at ports q))
set_port after ports q at v p own is value e = λ i. set ports (is i) ((e ∙ ap after (same_port ports q at v own is value)) i)
