-- The events on a queue's port keep the facts of the whole state.
use Rattle.std.proofs.Common.{◌≡◌, ◌≢◌, ℕ, ◌+◌, ◌<◌, ◌≤◌, true, false, Bool, List, length, get_or, set, Option, Some, None, sym, refl, ap, subst, ◌∙◌, inl, inr, arith}
use Rattle.std.proofs.lemmas.Bool.{cases_eq, cases_Bool, le-leb, leb-true, false≢true}
use Rattle.std.proofs.lemmas.List.{length-set, get_or-set_same, get_or-set_other}
use Rattle.mq_blocks.specs.Drive.{PortState, holds_write, index_of, after_flush, after_ring, after_store_head}
use Rattle.mq_blocks.specs.Geometry.{zone_of, home_lba}
use Rattle.mq_blocks.specs.Journal.{is_among}
use Rattle.mq_ledger.specs.History.{writes, last, of_queue}
use Rattle.mq_ledger.specs.Items.{Entries, end_of, descriptor_blocks}
use Rattle.mq_ledger.specs.KnownJournal.{KnownJournal, front}
use Rattle.mq_ledger.specs.Sides.{SideOk, home_index}
use Rattle.mq_ledger.specs.State.{State, Facts, IsUnder, is_done, port_at, port_of, from_at, known_of, front_of}
use Rattle.mq_ledger.specs.declared.tx.Tx.{Tx}
use Rattle.mq_ledger.proofs.History.{last_at, changes_direct}
use Rattle.mq_core.specs.Events.{with_port, us_of, stage, flush, ring, complete, fail_command, store_head, stage_side, complete_side, fail_side, command_with, MayStage, MayRing, MayEnd, MayStoreHead}
use Rattle.mq_core.proofs.SidesCommands.{own_with}
use Rattle.mq_core.proofs.KnownJournalSources.{late}
use Rattle.mq_core.proofs.HistoryFronts.{DoneMore}
use Rattle.mq_core.proofs.KnownJournalGrowth.{front_more, log_more, side_more, root_more}
use Rattle.mq_core.proofs.StateSides.{HasSides, known_with, sides_of}
use Rattle.mq_core.proofs.EventsSides.{side_stage, side_flush, side_store_head}
use Rattle.mq_core.proofs.EventsSideCommands.{side_ring, side_complete, side_fail, apart_home, posted_late}

pub port_same : (ports : List PortState) (q : ℕ) (p : PortState) → q < length ports → port_at (set ports q p) q ≡ p
port_same ports q p l = get_or-set_same ports q p _ l

pub port_other : (ports : List PortState) (q r : ℕ) (p : PortState) → r ≢ q → port_at (set ports q p) r ≡ port_at ports r
port_other ports q r p other = get_or-set_other ports q r p _ other

-- what is said of a block's port, where another port stands for the queue's
pub port_along : (A : PortState → Type 0) (s : State) (q : ℕ) (p : PortState) (z : Option ℕ) → q < length s.ports → (z ≡ Some q → A (port_at s.ports q) → A p) → A (port_of s z) → A (port_of (with_port s (Some q) p) z)
port_along A s q p None within to a = a
port_along A s q p (Some r) within to a = elim (cases_eq r q) [
  | inl same ↦ subst A (sym (ap (port_at (set s.ports q p)) same ∙ port_same s.ports q p within)) (to (ap Some same) (subst (λ n. A (port_at s.ports n)) same a))
  | inr other ↦ subst A (sym (port_other s.ports q r p other)) a
]

-- and for the root's
pub root_along : (A : PortState → Type 0) (s : State) (p : PortState) (z : Option ℕ) → (z ≡ None → A s.root → A p) → A (port_of s z) → A (port_of (record s { root = p }) z)
root_along A s p None to a = to refl a
root_along A s p (Some q) to a = a

-- the queue's port is this one now, and its head is no lower
module _ (e : Entries) (due : ℕ → ℕ → Bool) (s : State) (h : HasSides e due s) (q : ℕ) (own : q < s.geometry.queues) (p : PortState) (side : SideOk (known_with e due s) q (us_of s q) p) (higher : (port_at s.ports q).head ≤ p.head) where
  abbrev known : KnownJournal
  known = known_with e due s

  abbrev done_now : Tx → List Tx → Bool
  done_now = is_done s.starts (set s.ports q p)

  there : q < length s.ports
  there = omega (arith, own, h.ports)

  pub done_more : DoneMore known.done done_now s.history
  done_more = record {
    each = λ t ts at d. le-leb _ _ (elim (cases_eq t.queue q) [
      | inl same ↦ (let l = leb-true _ _ d in let up : (port_at s.ports t.queue).head ≤ (port_at (set s.ports q p) t.queue).head = rw (same, port_same s.ports q p there) higher in omega arith)
      | inr other ↦ rw (port_other s.ports q t.queue p other) (leb-true _ _ d)
    ]);
  }

  at_each : (r : ℕ) → r < s.geometry.queues → SideOk known r (of_queue r s.history) (port_at (set s.ports q p) r)
  at_each r inside = elim (cases_eq r q) [
    | inl same ↦
        let is : port_at (set s.ports q p) r ≡ p = ap (port_at (set s.ports q p)) same ∙ port_same s.ports q p there in
        subst (λ w. SideOk known r (of_queue r s.history) w) (sym is) (subst (λ n. SideOk known n (of_queue n s.history) p) (sym same) side)
    | inr other ↦ subst (λ w. SideOk known r (of_queue r s.history) w) (sym (port_other s.ports q r p other)) (h.sides r inside)
  ]

  pub sides_with : HasSides e due (with_port s (Some q) p)
  sides_with = record {
    log = log_more known done_now h.log done_more;
    ports = length-set s.ports q p ∙ h.ports;
    sides = λ r inside. side_more known done_now h.log done_more r (of_queue r s.history) (port_at (set s.ports q p) r) (at_each r inside) (λ t ts at mine d.
        let l : end_of (from_at s.starts t.queue) (of_queue t.queue ts) + (writes t + descriptor_blocks t) ≤ (port_at (set s.ports q p) t.queue).head = leb-true _ _ d in
        let l' = rw mine at l in l');
    root = root_more known done_now h.log done_more s.root h.root;
  }

module _ (e : Entries) (s : State) (f : Facts e s) (q : ℕ) (own : q < s.geometry.queues) where
  abbrev k : KnownJournal
  k = known_of e s

  abbrev port : PortState
  port = port_at s.ports q

  pub within : q < length s.ports
  within = omega (arith, own, f.ports)

  -- the state with another port of the queue
  abbrev with : PortState → State
  with p = with_port s (Some q) p

  -- home writes under way see the port as before
  abbrev pub StaysUnder : PortState → Type 0
  StaysUnder p =
      (x : ℕ) → is_among x s.writing ≡ true → zone_of s.geometry x ≡ Some q → IsUnder s x → (get_or port.certain (home_index s.geometry x) false ≡ false → get_or p.certain (home_index s.geometry x) false ≡ false)
      × (holds_write (home_lba s.geometry x) port.begun ≡ true → holds_write (home_lba s.geometry x) p.begun ≡ true)

  module _ (p : PortState) (side : SideOk k q (us_of s q) p) (higher : port.head ≤ p.head) (writing : StaysUnder p) where
    abbrev now : Tx → List Tx → Bool
    now = is_done s.starts (set s.ports q p)

    more : DoneMore k.done now s.history
    more = done_more e k.due s (sides_of e s f) q own p side higher

    unders : (x : ℕ) → is_among x s.writing ≡ true → IsUnder s x → IsUnder (with p) x
    unders x h u =
        let more_front : front_of s ≤ front_of (with p) = front_more k now f.log more in
        record {
          block = u.block;
          low = u.low;
          high = omega (arith, u.high, more_front);
          logged = u.logged;
          loose = port_along (λ w. get_or w.certain (home_index s.geometry x) false ≡ false) s q p (zone_of s.geometry x) within (λ z. (writing x h z u).0) u.loose;
          begun = port_along (λ w. holds_write (home_lba s.geometry x) w.begun ≡ true) s q p (zone_of s.geometry x) within (λ z. (writing x h z u).1) u.begun;
        }

    pub port_front : front_of s ≤ front_of (with p)
    port_front = front_more k now f.log more

    pub port_keeps : Facts e (with p)
    port_keeps =
        let more_front : front_of s ≤ front_of (with p) = front_more k now f.log more in
        let new = sides_with e k.due s (sides_of e s f) q own p side higher in
        record {
          form = f.form;
          log = new.log;
          ports = new.ports;
          marked = f.marked;
          sides = new.sides;
          root = new.root;
          marks = λ t ts at d. elim (cases_Bool (is_done s.starts s.ports t ts)) [
            | inl was ↦ absurd (false≢true (sym d ∙ more.each t ts at was))
            | inr undone ↦ f.marks t ts at undone
          ];
          writing = λ x h. unders x h (f.writing x h);
          acknowledged = λ n h. omega (arith, f.acknowledged n h, more_front);
        }

  pub stage_keeps : MayStage (from_at s.starts q) (us_of s q) port → Facts e (stage e q s)
  stage_keeps may =
      port_keeps (stage_side e s.geometry q (from_at s.starts q) (us_of s q) port) (side_stage k q (us_of s q) port f.log (f.sides q own) may) (omega arith) (λ x among z u. (λ h. h, λ h. h))

  pub flush_keeps : Facts e (flush q s)
  flush_keeps = (let o = (f.sides q own).order in port_keeps (after_flush port) (side_flush k q (us_of s q) port (f.sides q own)) (omega (arith, o.stored)) (λ x among z u. (λ h. h, λ h. h)))

  pub flush_front : front_of s ≤ front_of (flush q s)
  flush_front = (let o = (f.sides q own).order in port_front (after_flush port) (side_flush k q (us_of s q) port (f.sides q own)) (omega (arith, o.stored)) (λ x among z u. (λ h. h, λ h. h)))

  pub store_head_keeps : (h : ℕ) → MayStoreHead (from_at s.starts q) (us_of s q) port h → Facts e (store_head q h s)
  store_head_keeps h may = port_keeps (after_store_head port h) (side_store_head k q (us_of s q) port h (f.sides q own) may) (omega arith) (λ x among z u. (λ h. h, λ h. h))

  pub ring_keeps : MayRing (from_at s.starts q) (us_of s q) port → Facts e (ring q s)
  ring_keeps may = port_keeps (after_ring port) (side_ring k q (us_of s q) port f.log (f.sides q own) may) (omega arith) (λ x among z u. (λ h. h, λ h. h))

  -- the block of a home write under way is none of a posted command's
  under_apart : (x c : ℕ) → zone_of s.geometry x ≡ Some q → IsUnder s x → MayEnd c port → index_of port (command_with c port.posted).lba ≢ home_index s.geometry x
  under_apart x c z u may same =
      let side = f.sides q own in
      let l = posted_late k q (us_of s q) port f.log side c may in
      let mine = own_with e.form s.geometry q (from_at s.starts q) c (us_of s q) port.posted side.commands.posted may in
      apart_home k q (us_of s q) port f.log side c x l.0 z (λ d.
      let past = late k q (us_of s q) port c x f.log side l.0.0 d in
      let most = last_at s.base d.t d.ts s.history x f.log.numbers d.at (changes_direct d.t x d.among) in
      let high : last s.base s.history x ≤ front k = u.high in
      absurd (omega arith)) (ap (λ (w : Rattle.mq_blocks.specs.declared.command.Command.Command). index_of port w.lba) (sym mine) ∙ same)

  pub complete_keeps : (c : ℕ) → MayEnd c port → Facts e (complete q c s)
  complete_keeps c may =
      port_keeps (complete_side c port) (side_complete k q (us_of s q) port f.log (f.sides q own) c may) (omega arith) (λ x among z u. (
        λ h. get_or-set_other port.certain (index_of port (command_with c port.posted).lba) (home_index s.geometry x) true false (λ same. under_apart x c z u may (sym same)) ∙ h,
        λ h. h,
      ))

  pub fail_keeps : (c : ℕ) → MayEnd c port → Facts e (fail_command q c s)
  fail_keeps c may =
      port_keeps (fail_side c port) (side_fail k q (us_of s q) port f.log (f.sides q own) c may) (omega arith) (λ x among z u. (
        λ h. get_or-set_other port.certain (index_of port (command_with c port.posted).lba) (home_index s.geometry x) false false (λ same. under_apart x c z u may (sym same)) ∙ h,
        λ h. h,
      ))
