-- Home writes as the machine makes them: on the port of the block's zone, or on the root's.
use Rattle.std.proofs.Common.{◌≡◌, ℕ, ◌<◌, ◌≤◌, true, Bool, List, length, Option, Some, None, Result, sym, refl, ap, ◌∙◌, arith}
use Rattle.mq_blocks.specs.Drive.{PortState}
use Rattle.mq_blocks.specs.Geometry.{homes_of, zone_of, home_lba}
use Rattle.mq_blocks.specs.Journal.{is_among}
use Rattle.mq_ledger.specs.History.{blocks_of, map_after, last, IsAt}
use Rattle.mq_ledger.specs.Items.{Entries}
use Rattle.mq_ledger.specs.State.{State, front_of, port_at, port_of, start_map}
use Rattle.mq_core.specs.Events.{with_port}
use Rattle.mq_core.specs.Homes.{ports_after, root_after, IsIn, IsInZone}
use Rattle.mq_core.specs.View.{IsHeldBy}
use Rattle.mq_core.specs.Within.{IsWithin}
use Rattle.mq_core.specs.Answers.{Answers}
use Rattle.mq_core.specs.declared.event.CoreRefusal.{CoreRefusal}
use Rattle.mq_ledger.specs.declared.tx.Tx.{Tx}
use Rattle.mq_core.proofs.Within.{home_within, root_within}
use Rattle.mq_core.proofs.MachineLifts.{Machine, Told, front_stays}
use Rattle.mq_core.proofs.MachineParts.{told_same}
use Rattle.mq_core.proofs.StateBases.{logged_value}
use Rattle.mq_core.proofs.StateEvents.{zone-queue}
use Rattle.mq_core.proofs.StateSides.{HasSides}

module _ {e : Entries} {due : ℕ → ℕ → Bool} (s : State) (f : HasSides e due s) (x : ℕ) (inside : x < homes_of s.geometry) where
  -- the port is there and has the block
  pub is_in : IsIn s.geometry x s.ports s.root
  is_in = go (zone_of s.geometry x) refl
    where
      go : (z : Option ℕ) → zone_of s.geometry x ≡ z → IsInZone z (home_lba s.geometry x) s.ports s.root
      go (Some q) zone =
          let own = zone-queue s.geometry q x inside zone in
          let within : q < length s.ports = omega (arith, own, f.ports) in
          (within, home_within s.geometry q x (port_at s.ports q) (f.sides q own).port zone inside)
      go None zone = root_within s.geometry x s.root f.root.port zone inside

  pub port_within : IsWithin (port_of s (zone_of s.geometry x)) (home_lba s.geometry x)
  port_within = go (zone_of s.geometry x) is_in
    where
      go : (z : Option ℕ) → IsInZone z (home_lba s.geometry x) s.ports s.root → IsWithin (port_of s z) (home_lba s.geometry x)
      go (Some q) h = h.1
      go None h = h

  pub zone_there : (q : ℕ) → zone_of s.geometry x ≡ Some q → q < length s.ports
  zone_there q zone = (let own = zone-queue s.geometry q x inside zone in omega (arith, own, f.ports))

  -- what leaves its head leaves the front
  pub same_front : (after : PortState → PortState) → ((p : PortState) → (after p).head ≡ p.head) → front_of (with_port s (zone_of s.geometry x) (after (port_of s (zone_of s.geometry x)))) ≡ front_of s
  same_front after head = go (zone_of s.geometry x) refl
    where
      go : (z : Option ℕ) → zone_of s.geometry x ≡ z → front_of (with_port s z (after (port_of s z))) ≡ front_of s
      go (Some q) zone = (let own = zone-queue s.geometry q x inside zone in front_stays s q (after (port_at s.ports q)) (omega (arith, own, f.ports)) (head (port_at s.ports q)))
      go None zone = refl

-- the state with the port changed, in two parts
pub in_parts : (s : State) (after : PortState → PortState) (writing : List ℕ) (z : Option ℕ) → record s { ports = ports_after after z s.ports; root = root_after after z s.root; writing = writing } ≡ record (with_port s z (after (port_of s z))) { writing = writing }
in_parts s after writing (Some q) = refl
in_parts s after writing None = refl

-- a block whose last change, above the stored base, logged it is in the map
pub is_there : {e : Entries} {due : ℕ → ℕ → Bool} (s : State) (x : ℕ) → HasSides e due s → s.root.stored_base < last s.base s.history x → ((t : Tx) (ts : List Tx) → IsAt t ts s.history → t.number ≡ last s.base s.history x → is_among x (blocks_of t.logged) ≡ true)
    → (block : List ℕ) × (map_after (start_map s.start) s.history x ≡ Some block)
is_there s x f low logged =
    let word : s.base ≤ s.root.base = f.log.word_low in
    let stored : s.root.base ≤ s.root.stored_base = f.root.bases.1 in
    logged_value (start_map s.start) s.base x s.history f.log.numbers (omega arith) logged

-- an event of a machine that changes the block's port by this, and what is under way
module _ (m : Machine) (v : m.Event) {e : Entries} {due : ℕ → ℕ → Bool} (front : ℕ) (s : State) (x : ℕ) (after : PortState → PortState) (writing : List ℕ) (held : IsHeldBy m.Facts front s) (f : HasSides e due s) (head : (p : PortState) → (after p).head ≡ p.head) (is : m.happens v s ≡ record (with_port s (zone_of s.geometry x) (after (port_of s (zone_of s.geometry x)))) { writing = writing }) where
  pub home_told : (new : State) (allowed : Type 0) (r : Result (Unit {0}) CoreRefusal) → Answers allowed (record s { ports = ports_after after (zone_of s.geometry x) s.ports; root = root_after after (zone_of s.geometry x) s.root; writing = writing }) s new r → (allowed → m.Allowed v s) → (m.Allowed v s → allowed) → (allowed → x < homes_of s.geometry)
      → Told m v front s new r
  home_told new allowed r a allow deny inside =
      let parts = in_parts s after writing (zone_of s.geometry x) in
      told_same m v front s new (record s { ports = ports_after after (zone_of s.geometry x) s.ports; root = root_after after (zone_of s.geometry x) s.root; writing = writing }) allowed r held a allow deny (is ∙ sym parts) (λ k. ap front_of parts ∙ same_front s f x (inside k) after head)
