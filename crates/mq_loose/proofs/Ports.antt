-- The events on a queue's port keep the facts of the whole loose state.
use Rattle.std.proofs.Common.{◌≡◌, ◌≢◌, ℕ, ◌<◌, ◌≤◌, true, false, List, length, get_or, set, Option, Some, sym, refl, ap, ◌∙◌, arith}
use Rattle.std.proofs.lemmas.List.{get_or-set_other}
use Rattle.mq_blocks.specs.Drive.{PortState, holds_write, index_of, staged_end, after_flush, after_ring, after_store_head}
use Rattle.mq_blocks.specs.Geometry.{homes_of, zone_of, home_lba}
use Rattle.mq_blocks.specs.Journal.{is_among}
use Rattle.mq_blocks.specs.declared.command.Command.{Command}
use Rattle.mq_ledger.specs.History.{IsAt}
use Rattle.mq_ledger.specs.Items.{Entries}
use Rattle.mq_ledger.specs.KnownJournal.{KnownJournal}
use Rattle.mq_ledger.specs.Sides.{SideOk, Certainly, home_index}
use Rattle.mq_ledger.specs.State.{State, is_done, port_at, port_of, from_at, front_of}
use Rattle.mq_ledger.specs.declared.tx.Tx.{Tx}
use Rattle.mq_core.specs.Events.{with_port, us_of, stage, flush, ring, complete, fail_command, store_head, stage_side, complete_side, fail_side, command_with, MayStage, MayRing, MayEnd, MayStoreHead}
use Rattle.mq_core.proofs.SidesCommands.{own_with, apart_own, count_range, counted_next}
use Rattle.mq_core.proofs.EventsPorts.{certainly_ring, certainly_complete, certainly_fail}
use Rattle.mq_core.proofs.HistoryFronts.{DoneMore}
use Rattle.mq_core.proofs.StatePorts.{done_more, sides_with, port_along}
use Rattle.mq_core.proofs.KnownJournalGrowth.{front_more}
use Rattle.mq_core.proofs.EventsSides.{IsSame, certainly_same, side_stage, side_flush, side_store_head}
use Rattle.mq_core.proofs.EventsSideCommands.{side_ring, side_complete, side_fail, apart_home, posted_late}
use Rattle.mq_loose.specs.Safe.{NoneChanges}
use Rattle.mq_loose.specs.Guards.{entries_in, side_known, settled}
use Rattle.mq_loose.specs.Safe.{IsABase, IsUnder, IsPlain, Facts}
use Rattle.mq_loose.proofs.Closures.{closure_more}
use Rattle.mq_loose.proofs.Homes.{no_direct}
use Rattle.mq_loose.proofs.Sides.{sides_of}

module _ (e : Entries) (s : State) (f : Facts e s) (q : ℕ) (own : q < s.geometry.queues) where
  abbrev k : KnownJournal
  k = side_known e s

  abbrev port : PortState
  port = port_at s.ports q

  pub within : q < length s.ports
  within = omega (arith, own, f.ports)

  abbrev with : PortState → State
  with p = with_port s (Some q) p

  -- what must be at home on the port stays there
  abbrev pub StaysHome : PortState → Type 0
  StaysHome p =
      (x v : ℕ) (content : List ℕ) → x < homes_of s.geometry → zone_of s.geometry x ≡ Some q → IsABase s v → NoneChanges (settled s) s.history x v → Certainly port (home_index s.geometry x) content → Certainly p (home_index s.geometry x) content

  -- home writes under way see the port as before
  abbrev pub StaysUnder : PortState → Type 0
  StaysUnder p =
      (x : ℕ) → is_among x s.writing ≡ true → zone_of s.geometry x ≡ Some q → (get_or port.certain (home_index s.geometry x) false ≡ false → get_or p.certain (home_index s.geometry x) false ≡ false)
      × (holds_write (home_lba s.geometry x) port.begun ≡ true → holds_write (home_lba s.geometry x) p.begun ≡ true)

  module _ (p : PortState) (side : SideOk k q (us_of s q) p) (higher : port.head ≤ p.head) (homes : StaysHome p) (writing : StaysUnder p) where
    more : DoneMore k.done (is_done s.starts (set s.ports q p)) s.history
    more = done_more (entries_in e s) (λ x v. false) s (sides_of e s f) q own p side higher

    still_settled : (n : ℕ) → settled s n ≡ true → settled (with p) n ≡ true
    still_settled n st = closure_more k.done (is_done s.starts (set s.ports q p)) s.base s.history n f.log.numbers more st

    home_in : (z : Option ℕ) (x v : ℕ) (content : List ℕ) → zone_of s.geometry x ≡ z → x < homes_of s.geometry → IsABase s v → NoneChanges (settled s) s.history x v → Certainly (port_of s z) (home_index s.geometry x) content → Certainly (port_of (with p) z) (home_index s.geometry x) content
    home_in z x v content is inside base none c = port_along (λ w. Certainly w (home_index s.geometry x) content) s q p z within (λ own c. homes x v content inside (is ∙ own) base none c) c

    unders : (x : ℕ) → is_among x s.writing ≡ true → IsUnder s x → IsUnder (with p) x
    unders x h u =
        record {
          block = u.block;
          low = u.low;
          settled_is = still_settled _ u.settled_is;
          logged = u.logged;
          loose = port_along (λ w. get_or w.certain (home_index s.geometry x) false ≡ false) s q p (zone_of s.geometry x) within (λ z. (writing x h z).0) u.loose;
          begun = port_along (λ w. holds_write (home_lba s.geometry x) w.begun ≡ true) s q p (zone_of s.geometry x) within (λ z. (writing x h z).1) u.begun;
        }

    pub port_keeps : Facts e (with p)
    port_keeps =
        let front : front_of s ≤ front_of (with p) = front_more k (is_done s.starts (set s.ports q p)) f.log more in
        let new = sides_with (entries_in e s) (λ x v. false) s (sides_of e s f) q own p side higher in
        record {
          log = new.log;
          plain = f.plain;
          ports = new.ports;
          sides = new.sides;
          root = new.root;
          reached = omega (arith, f.reached, front);
          homes = λ x v content inside base there none.
              let before : NoneChanges (settled s) s.history x v = λ t ts at st ch. none t ts at (still_settled t.number st) ch in
              home_in (zone_of s.geometry x) x v content refl inside base before (f.homes x v content inside base there before);
          writing = λ x h. unders x h (f.writing x h);
          acknowledged = λ n h. still_settled n (f.acknowledged n h);
        }

    pub port_front : front_of s ≤ front_of (with p)
    port_front = front_more k (is_done s.starts (set s.ports q p)) f.log more

    pub port_settles : (n : ℕ) → settled s n ≡ true → settled (with p) n ≡ true
    port_settles = still_settled

  -- where blocks and commands stay
  alike : (p : PortState) → IsSame port p → StaysHome p
  alike p same x v content inside z base none c = certainly_same port p (home_index s.geometry x) content same c

  plain_known : (t : Tx) (ts : List Tx) → IsAt t ts k.history → IsPlain t
  plain_known = f.plain

  pub stage_keeps : MayStage (from_at s.starts q) (us_of s q) port → Facts e (stage (entries_in e s) q s)
  stage_keeps may =
      let p = stage_side (entries_in e s) s.geometry q (from_at s.starts q) (us_of s q) port in
      port_keeps p (side_stage k q (us_of s q) port f.log (f.sides q own) may) (omega arith) (alike p (record { index = λ lba. refl; certain = refl; blocks = refl; posted = refl; failed = refl; doorbell = refl })) (λ x among z. (λ h. h, λ h. h))

  pub flush_keeps : Facts e (flush q s)
  flush_keeps =
      let o = (f.sides q own).order in
      port_keeps (after_flush port) (side_flush k q (us_of s q) port (f.sides q own)) (omega (arith, o.stored)) (alike (after_flush port) (record { index = λ lba. refl; certain = refl; blocks = refl; posted = refl; failed = refl; doorbell = refl })) (λ x among z. (λ h. h, λ h. h))

  pub flush_front : front_of s ≤ front_of (flush q s)
  flush_front =
      let o = (f.sides q own).order in
      port_front (after_flush port) (side_flush k q (us_of s q) port (f.sides q own)) (omega (arith, o.stored)) (alike (after_flush port) (record { index = λ lba. refl; certain = refl; blocks = refl; posted = refl; failed = refl; doorbell = refl })) (λ x among z. (λ h. h, λ h. h))

  pub store_head_keeps : (h : ℕ) → MayStoreHead (from_at s.starts q) (us_of s q) port h → Facts e (store_head q h s)
  store_head_keeps h may =
      port_keeps (after_store_head port h) (side_store_head k q (us_of s q) port h (f.sides q own) may) (omega arith) (alike (after_store_head port h) (record { index = λ lba. refl; certain = refl; blocks = refl; posted = refl; failed = refl; doorbell = refl }))
      (λ x among z. (λ h. h, λ h. h))

  -- staged commands write none of the home blocks
  pub ring_keeps : MayRing (from_at s.starts q) (us_of s q) port → Facts e (ring q s)
  ring_keeps may =
      let side = f.sides q own in
      let o = side.order in
      port_keeps (after_ring port) (side_ring k q (us_of s q) port f.log side may) (omega arith)
      (λ x v content inside z base none c. certainly_ring port (home_index s.geometry x) content
      (apart_own (entries_in e s).form port s.geometry q (from_at s.starts q) (us_of s q) (home_index s.geometry x) port.pending side.commands.pending (λ n held.
      let r = count_range port.doorbell (staged_end port) n port.pending (counted_next port.doorbell port.pending side.commands.pending_counts) held in
      apart_home k q (us_of s q) port f.log side n x (omega (arith, r.0, o.rung), omega (arith, r.1, o.drawn)) z (λ d. no_direct k q (us_of s q) n x plain_known d))) c)
      (λ x among z. (λ h. h, λ h. h))

  -- nor do posted ones
  posted_apart : (x c : ℕ) → zone_of s.geometry x ≡ Some q → MayEnd c port → index_of port (command_with c port.posted).lba ≢ home_index s.geometry x
  posted_apart x c z may same =
      let side = f.sides q own in
      let l = posted_late k q (us_of s q) port f.log side c may in
      let mine = own_with (entries_in e s).form s.geometry q (from_at s.starts q) c (us_of s q) port.posted side.commands.posted may in
      apart_home k q (us_of s q) port f.log side c x l.0 z (λ d. no_direct k q (us_of s q) c x plain_known d) (ap (λ (w : Command). index_of port w.lba) (sym mine) ∙ same)

  pub complete_keeps : (c : ℕ) → MayEnd c port → Facts e (complete q c s)
  complete_keeps c may =
      port_keeps (complete_side c port) (side_complete k q (us_of s q) port f.log (f.sides q own) c may) (omega arith)
      (λ x v content inside z base none c'. certainly_complete port c (home_index s.geometry x) content may c')
      (λ x among z. (
        λ h. get_or-set_other port.certain (index_of port (command_with c port.posted).lba) (home_index s.geometry x) true false (λ same. posted_apart x c z may (sym same)) ∙ h,
        λ h. h,
      ))

  pub fail_keeps : (c : ℕ) → MayEnd c port → Facts e (fail_command q c s)
  fail_keeps c may =
      port_keeps (fail_side c port) (side_fail k q (us_of s q) port f.log (f.sides q own) c may) (omega arith)
      (λ x v content inside z base none c'. certainly_fail port c (home_index s.geometry x) content may c')
      (λ x among z. (
        λ h. get_or-set_other port.certain (index_of port (command_with c port.posted).lba) (home_index s.geometry x) false false (λ same. posted_apart x c z may (sym same)) ∙ h,
        λ h. h,
      ))
