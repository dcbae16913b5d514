-- The state of the machine at an opening, by the values that a desk is opened with.
use Rattle.std.proofs.Common.{◌≡◌, ℕ, zero, suc, ◌-◌, ◌^◌, ◌<◌, ◌≤◌, List, [], ◌∷◌, length, get_or, map, replicate, refl, sym, ap, subst, ◌∙◌, inl, inr, arith}
use Rattle.std.specs.Prelude.{Option, Some, None, slice_get}
use Rattle.std.specs.List.{range_with_len}
use Rattle.std.proofs.lemmas.Bool.{cases_lt}
use Rattle.std.proofs.lemmas.List.{get_or_past, length-map}
use Rattle.std.proofs.lemmas.List.FromFn.{get_or-map-range_with_len, length-map-range_with_len}
use Rattle.mq_blocks.specs.Drive.{PortState}
use Rattle.mq_blocks.specs.Geometry.{homes_of}
use Rattle.mq_blocks.specs.Machine.{Map}
use Rattle.mq_blocks.specs.declared.geometry.Geometry.{Geometry}
use Rattle.mq_drive.proofs.StartRolePorts.{is-port_of}
use Rattle.mq_ledger.specs.State.{IsStart, IsStartPort, no_port, port_at}
use Rattle.mq_ledger.specs.Written.{journal_entries}
use Rattle.mq_pages.specs.declared.page.PageCell.{PageCell}
use Rattle.mq_recover.specs.Drives.{DriveState}
use Rattle.mq_recover.specs.Recovery.{started}
use Rattle.mq_desk_laws.specs.Groups.{GroupView}
use Rattle.mq_desk_laws.specs.Opening.{state_of}
use Rattle.mq_desk_laws.specs.Rule.{shape_of}
use Rattle.mq_desk_laws.specs.Values.{Values}
use Rattle.mq_desk_laws.proofs.Opening.{at_map}
use Rattle.mq_turns.specs.declared.rule.Opening.{Opening}
use Rattle.mq_sessions.specs.Opening.{first_cell, first_cells, listed}
use Rattle.mq_queue_side.specs.Opening.{IsIdle}

-- ---- lists

pub map-after : {A B C : Type 0} (f : B → C) (h : A → B) (xs : List A) → map f (map h xs) ≡ map (λ x. f (h x)) xs
map-after {C = C} f h [] = refl
map-after {C = C} f h (x ∷ xs) = ap (λ (ys : List C). f (h x) ∷ ys) (map-after f h xs)

all-same : {A B : Type 0} (b : B) (xs : List A) → map (λ x. b) xs ≡ replicate (length xs) b
all-same {B = B} b [] = refl
all-same {B = B} b (x ∷ xs) = ap (λ (ys : List B). b ∷ ys) (all-same b xs)

-- an element of a list that is made by a function
of-map : {A B : Type 0} (f : A → B) (xs : List A) (k : ℕ) (y : B) → slice_get (map f xs) k ≡ Some y → (x : A) × (y ≡ f x)
of-map f [] k y e = absurd (cc)
of-map f (x ∷ xs) zero y e = let same : f x ≡ y = cc in (x, sym same)
of-map f (x ∷ xs) (suc k) y e = of-map f xs k y e

-- ---- the map

module _ (g : Geometry) (m : Map) where
  -- the list says of each block what the map has there, which has none but home blocks
  pub map-at : ((b : ℕ) → homes_of g ≤ b → m b ≡ None) → (b : ℕ) → get_or (listed g m) b None ≡ m b
  map-at none b = elim (cases_lt b (homes_of g)) [
    | inl low ↦ get_or-map-range_with_len m 0 (homes_of g) b b None low (omega arith)
    | inr out ↦
        let few = length-map-range_with_len m 0 (homes_of g) in
        get_or_past (listed g m) b None (omega arith) ∙ sym (none b out)
  ]

  -- the contents of the first cells
  pub first-contents : (base : ℕ) → map (λ c. c.content) (first_cells g m base) ≡ listed g m
  first-contents base = map-after (λ (c : PageCell). c.content) (λ (b : ℕ). first_cell base (m b)) (range_with_len 0 (homes_of g))

  pub first-count : (base : ℕ) → length (first_cells g m base) ≡ homes_of g
  first-count base = length-map-range_with_len (λ (b : ℕ). first_cell base (m b)) 0 (homes_of g)

  pub first-numbers : (base b : ℕ) (c : PageCell) → slice_get (first_cells g m base) b ≡ Some c → (c.version ≡ base) × (c.last_logged ≡ base) × (c.home_version ≡ base)
  first-numbers base b c e =
      let at = of-map (λ (k : ℕ). first_cell base (m k)) (range_with_len 0 (homes_of g)) b c e in
      (ap (λ (d : PageCell). d.version) at.1, ap (λ (d : PageCell). d.last_logged) at.1, ap (λ (d : PageCell). d.home_version) at.1)

-- ---- the ports

idle-at : (g : Geometry) (d : DriveState) (start : List (Option (List ℕ))) (q from : ℕ) (p : PortState) → IsStartPort journal_entries (started g d start) (Some q) from p → IsIdle g q p
idle-at g d start q from p at = record {
  port = is-port_of at.port (λ k l f. ap (λ (xs : List (List ℕ)). get_or xs k []) (sym at.staged));
  head = at.head ∙ sym at.doorbell;
  stored_head = at.stored_head ∙ sym at.doorbell;
  pending = at.pending;
  posted = at.posted;
  failed = at.failed;
  flushed = at.flushed_end ∙ sym at.doorbell;
}

pub count-is : {P : Type 0} (g : Geometry) (state : P → PortState) (ports : List P) (root : PortState) (start : List (Option (List ℕ))) → IsStart journal_entries (started g (record { queues = map state ports; root = root }) start) → length ports ≡ g.queues
count-is g state ports root start at = sym (length-map ports state) ∙ at.ports

-- each port of a queue is idle
pub idle-each : {P : Type 0} (g : Geometry) (state : P → PortState) (ports : List P) (root : PortState) (start : List (Option (List ℕ)))
    → IsStart journal_entries (started g (record { queues = map state ports; root = root }) start) → (q : ℕ) (p : P) → slice_get ports q ≡ Some p → IsIdle g q (state p)
idle-each g state ports root start at q p e =
    let there = at_map state ports q p no_port e in
    let count = count-is g state ports root start at in
    let low : q < g.queues = let l = there.1 in omega arith in
    subst (λ (s : PortState). IsIdle g q s) there.0 (idle-at g (record { queues = map state ports; root = root }) start q _ (port_at (map state ports) q) (at.each q low))

-- ---- the state

module _ {Q R E : Type 0} (values : Values Q R E) (group : GroupView E) where
  pub state-is : (g : Geometry) (d : DriveState) (start : List (Option (List ℕ))) (o : Opening PageCell Q R)
      → shape_of values group o ≡ g → map (λ c. c.content) o.pages ≡ start → o.base ≡ d.root.base → map values.port o.sides ≡ d.queues → values.root o.root ≡ d.root → length d.queues ≡ g.queues
      → state_of values group o ≡ started g d start
  state-is g d start o shape pages base queues root count =
      let bells : map (λ w. (values.port w).doorbell) o.sides ≡ map (λ p. p.doorbell) d.queues = sym (map-after (λ (p : PortState). p.doorbell) values.port o.sides) ∙ ap (map (λ (p : PortState). p.doorbell)) queues in
      let many : length o.sides ≡ g.queues = sym (length-map o.sides values.port) ∙ (ap length queues ∙ count) in
      let marks : map (λ w. 2 ^ 64 - 1) o.sides ≡ replicate g.queues (2 ^ 64 - 1) = all-same (2 ^ 64 - 1) o.sides ∙ ap (λ (n : ℕ). replicate n (2 ^ 64 - 1)) many in
      λ i. record {
        geometry = shape i;
        start = pages i;
        base = base i;
        starts = bells i;
        history = [];
        ports = queues i;
        root = root i;
        marks = marks i;
        writing = [];
        acknowledged = [];
      }
