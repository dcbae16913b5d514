-- A port by which a page was written home, by what the rule says of it.
use Rattle.std.proofs.Common.{◌≡◌, ◌⊎◌, ℕ, ◌-◌, ◌<◌, ◌≤◌, ◌^◌, Bool, cond, List, length, Option, sym, refl, ap, subst, ◌∙◌, inl, inr, arith}
use Rattle.std.specs.Prelude.{None, Some, Result, Ok, Err}
use Rattle.mq_blocks.specs.Drive.{IsBoundKept, IsHome, PortState, after_begin, after_end, counted}
use Rattle.mq_blocks.specs.Geometry.{homes_of, home_lba, zone_of}
use Rattle.mq_blocks.specs.Ports.{IsPort}
use Rattle.mq_blocks.specs.declared.geometry.Geometry.{Geometry}
use Rattle.mq_blocks.proofs.GeometryZones.{zone-none, zone-row}
use Rattle.mq_desk_laws.specs.Bases.{BaseOk}
use Rattle.mq_desk_laws.specs.Pages.{IsToBring}
use Rattle.mq_desk_laws.proofs.Bases.{base_later}
use Rattle.mq_desk_laws.proofs.PagesHomeWrites.{grown_brought, log_brought, logged_last, root_brought, side_brought}
use Rattle.mq_core.proofs.HomesWritten.{root_began, side_began}
use Rattle.mq_core.specs.Events.{begin_home, end_home}
use Rattle.mq_drive.specs.Faults.{AreMore, count_of}
use Rattle.mq_drive.specs.Steps.{PortFault, Gains, HomeError, HomeGives, PowerOff}
use Rattle.mq_drive.specs.declared.port.HomeStep.{HomeStep}
use Rattle.mq_drive.specs.declared.port.HomeStep.TheVariants as home
use Rattle.mq_drive.specs.declared.port.Off.{Off}
use Rattle.mq_drive.specs.declared.port.Port.{Ghosts}
use Rattle.mq_journal.specs.Draining.{report_of}
use Rattle.mq_journal.specs.Numbers
use Rattle.mq_journal.specs.Numbers.{Seat, Shared}
use Rattle.mq_journal.specs.Values.{Shows, entries_in, rung_of}
use Rattle.mq_journal.proofs.NumbersReports.{side_reported}
use Rattle.mq_journal.proofs.Sent.{gained_more, off_backed}
use Rattle.mq_journal.proofs.ValuesSides.{queue_side}
use Rattle.mq_ledger.specs.KnownJournal.{KnownJournal}
use Rattle.mq_ledger.specs.Sides.{RootOk, SideOk}
use Rattle.mq_ledger.specs.declared.tx.Tx.{Tx}
use Rattle.mq_pages.specs.declared.page.PageCell.{PageCell}
use Rattle.mq_desk_laws.specs.Faults.{AreCharged, IsBacked, of_kind, reports_of}
use Rattle.mq_desk_laws.specs.Groups.{GroupView}
use Rattle.mq_desk_laws.specs.Rule
use Rattle.mq_desk_laws.specs.Rule.{IsOfRoot, IsOk, IsPage, IsRoot, IsSide}
use Rattle.mq_desk_laws.specs.Values.{Values}
use Rattle.mq_desk_laws.proofs.Faults.{charged_more}
use Rattle.mq_desk_laws.proofs.RuleTelling.{root_charged}
use Rattle.mq_queue_side.specs.Side.{IsQueueSide, side_state}
use Rattle.mq_queue_side.specs.Stored.{AreStored}
use Rattle.mq_queue_side.specs.declared.answers.Cause.{Cause}
use Rattle.mq_queue_side.specs.declared.answers.Cause.TheVariants as cause
use Rattle.mq_queue_side.specs.declared.answers.Why.{Why}
use Rattle.mq_queue_side.specs.declared.root.Root.{Root}
use Rattle.mq_queue_side.specs.declared.side.QueueSide.{QueueSide}
use Rattle.mq_queue_side.proofs.DrainedCompletes.{bound_then, gains_rises}
use Rattle.mq_queue_side.proofs.Told.{one_more}
use Rattle.mq_turns.specs.Desk.{Stands}
use Rattle.mq_turns.specs.Lists.{Each}
use Rattle.mq_turns.specs.Meaning.{Meaning, charged, written}
use Rattle.mq_turns.specs.declared.rule.Charge.{Charge}
use Rattle.mq_turns.specs.declared.rule.Report.{Report}
use Rattle.mq_turns.specs.declared.rule.Report.TheVariants as report
use Rattle.mq_turns.specs.declared.turn.Item.{Item}
use Rattle.mq_turns.specs.declared.turn.Item.TheVariants as item
use Rattle.mq_turns.specs.declared.turn.Turn.{Turn}
use Rattle.mq_turns.specs.declared.turn.Turn.TheVariants.{Side}
use Rattle.mq_turns.specs.declared.turn.Turn.TheVariants as turn
use Rattle.mq_journal.specs.Ports.{IsHomeOf, WritesByRoot, WritesBySide, WritesHome, answer_of, by_root, by_side, charge_of, port_of}
use Rattle.mq_journal.specs.Steps.{IsCauseOf, IsCaused, IsKnownFrom, at_root, at_side}

-- ---- the block is one of the port

home_in_zone : (g : Geometry) (q x : ℕ) (p : PortState) → IsPort g (Some q) p → zone_of g x ≡ Some q → IsHome p (home_lba g x)
home_in_zone g q x p port zone =
    let row = zone-row g q x zone in
    let first = port.homes_first in
    let size = port.homes_size in
    (omega arith, omega arith)

home_in_meta : (g : Geometry) (x : ℕ) (p : PortState) → IsPort g None p → x < g.meta → IsHome p (home_lba g x)
home_in_meta g x p port low =
    let first = port.homes_first in
    let size = port.homes_size in
    (omega arith, omega arith)

-- ---- faults

home_more : (p q : PortState) (old new : List PortFault) (lba : ℕ) (block : List ℕ) (r : Result HomeStep Off) → HomeGives p old lba block r q new → AreMore old new
home_more p q old new lba block (Ok home.Done) gives f = let e : count_of f new ≡ count_of f old = ap (count_of f) gives.1 in omega arith
home_more p q old new lba block (Ok (home.Error status)) gives f = gained_more old new (HomeError lba status) gives.2 f
home_more p q old new lba block (Err off) gives f = gained_more old new PowerOff gives.1 f

-- what a home write keeps of its port
home_same : {A : Type 0} (f : PortState → A) (p q : PortState) (old new : List PortFault) (lba : ℕ) (block : List ℕ) → ((w : PortState) → f (after_begin w lba block) ≡ f w) → ((w : PortState) → f (after_end w lba block) ≡ f w) → (r : Result HomeStep Off) → HomeGives p old lba block r q new → f q ≡ f p
home_same f p q old new lba block begun ended (Ok home.Done) gives = ap f gives.0 ∙ (ended (after_begin p lba block) ∙ begun p)
home_same f p q old new lba block begun ended (Ok (home.Error status)) gives = ap f gives.1 ∙ begun p
home_same f p q old new lba block begun ended (Err off) gives = elim gives.0 [
  | inl e ↦ ap f e
  | inr e ↦ ap f e ∙ begun p
]

home_bound : (p q : PortState) (old new : List PortFault) (lba : ℕ) (block : List ℕ) (r : Result HomeStep Off) → HomeGives p old lba block r q new → IsBoundKept p q
home_bound p q old new lba block r gives = record {
  fuse = home_same (λ w. w.fuse) p q old new lba block (λ w. refl) (λ w. refl) r gives;
  fail = home_same (λ w. w.fail) p q old new lba block (λ w. refl) (λ w. refl) r gives;
}

-- ---- what a home write is refused for

-- it failed, or the power was off
refusal : (F : Cause → Type 0) (x : ℕ) (r : Result HomeStep Off) (c : Cause) → answer_of x r ≡ Err c → ((status : ℕ) → r ≡ Ok (home.Error status) → F (cause.FailedHome x status)) → ((off : Off) → r ≡ Err off → F cause.Off) → F c
refusal F x (Ok home.Done) c e failed off = cc
refusal F x (Ok (home.Error status)) c e failed off = let same : cause.FailedHome x status ≡ c = cc in subst F same (failed status refl)
refusal F x (Err w) c e failed off = let same : cause.Off ≡ c = cc in subst F same (off w refl)

ended_well : (x : ℕ) (r : Result HomeStep Off) → answer_of x r ≡ Ok tt → r ≡ Ok home.Done
ended_well x (Ok home.Done) e = refl
ended_well x (Ok (home.Error status)) e = cc
ended_well x (Err w) e = cc

pub home_of_root : (x : ℕ) (r : Result HomeStep Off) (c : Cause) → answer_of x r ≡ Err c → IsOfRoot (report_of c)
home_of_root x r c e = refusal (λ y. IsOfRoot (report_of y)) x r c e (λ status is. tt) (λ off is. tt)

home_rises : (p q : PortState) (old new : List PortFault) (lba : ℕ) (block : List ℕ) (kept : Option (ℕ × Why)) (x : ℕ) (r : Result HomeStep Off) (c : Cause) → answer_of x r ≡ Err c → HomeGives p old lba block r q new → IsCauseOf c kept old new
home_rises p q old new lba block kept x r c e gives =
    refusal (λ y. IsCauseOf y kept old new) x r c e
    (λ status is. gains_rises (HomeError lba status) old new (subst (λ z. HomeGives p old lba block z q new) is gives).2)
    (λ off is. gains_rises PowerOff old new (subst (λ z. HomeGives p old lba block z q new) is gives).1)

-- an error of a home write stands behind its report
home_backed : (g : Geometry) (x status : ℕ) (first old new : List PortFault) → AreMore first old → Gains (HomeError (home_lba g x) status) old new → (2 ^ 64 - 1 ≤ length new) ⊎ IsBacked g (report.FailedHome x status) first old new
home_backed g x status first old new since (inl one) = inr (record {
  more = λ f. let a = one_more (HomeError (home_lba g x) status) old new f one in omega arith;
  kind = λ f. let a = one_more (HomeError (home_lba g x) status) old new (of_kind f) one in omega arith;
  named = λ f is. let a = one_more (HomeError (home_lba g x) status) old new f one in let b = since f in let c : cond {A = ℕ} (f (HomeError (home_lba g x) status)) 1 0 ≡ 1 = ap (λ (t : Bool). cond {A = ℕ} t 1 0) is in omega arith;
})
home_backed g x status first old new since (inr full) = inl (let a = full.0 in let b : length new ≡ length old = ap length full.1 in omega arith)

-- a fault of this kind and no other stands behind the report
abbrev IsOf : Geometry → Report → PortFault → Type 0
IsOf g r x = (first old new : List PortFault) → AreMore first old → Gains x old new → (2 ^ 64 - 1 ≤ length new) ⊎ IsBacked g r first old new

-- and does so after all that was charged before
pub backed_by : (g : Geometry) (t : Turn) (cs : List Charge) (first old new : List PortFault) (r : Report) (x : PortFault) → IsOf g r x → Gains x old new → AreCharged g t cs first old → (2 ^ 64 - 1 ≤ length new) ⊎ IsBacked g r first old new
backed_by g t cs first old new r x of gains (inl full) = inl (let l = (gains_rises x old new gains).0 in omega arith)
backed_by g t cs first old new r x of gains (inr was) = of first old new was.more gains

-- and so does what a home write was refused for
home_charged : (g : Geometry) (t : Turn) (cs : List Charge) (first old new : List PortFault) (p q : PortState) (lba : ℕ) (block : List ℕ) (x : ℕ) → lba ≡ home_lba g x → (r : Result HomeStep Off) (c : Cause) → answer_of x r ≡ Err c → HomeGives p old lba block r q new → AreCharged g t cs first old → (2 ^ 64 - 1 ≤ length new) ⊎ IsBacked g (report_of c) first old new
home_charged g t cs first old new p q lba block x lba_is r c e gives was =
    refusal (λ y. (2 ^ 64 - 1 ≤ length new) ⊎ IsBacked g (report_of y) first old new) x r c e
    (λ status is. backed_by g t cs first old new (report.FailedHome x status) (HomeError (home_lba g x) status) (home_backed g x status) (subst (λ n. Gains (HomeError n status) old new) lba_is (subst (λ z. HomeGives p old lba block z q new) is gives).2) was)
    (λ off is. backed_by g t cs first old new report.Off PowerOff (off_backed g) (subst (λ z. HomeGives p old lba block z q new) is gives).1 was)

-- ---- a queue's side

module _ {P E : Type 0} {G : Ghosts P} (state : P → PortState) (faults : P → List PortFault) (group : GroupView E) (K : Shared P E G) (ok : IsOk (Numbers.values state faults group) group K) (x : ℕ) (c : PageCell) (block : List ℕ) where
  abbrev values : Values (QueueSide P E G) (Root P G) E
  values = Numbers.values state faults group

  abbrev μ : Meaning PageCell (QueueSide P E G) (Root P G) E
  μ = Numbers.machine state faults group

  abbrev k : KnownJournal
  k = Rule.core_of values group K

  abbrev g : Geometry
  g = Rule.geometry_of values group K

  module _ (bring : IsToBring k K.ended x c.version c.last_logged c.home_version) (inside : x < homes_of g) (lba : ℕ) (lba_is : lba ≡ home_lba g x) (r : Result HomeStep Off) where
    module _ (q : ℕ) (zone : zone_of g x ≡ Some q) (s u : QueueSide P E G) (is : IsSide values group q K s) (w : WritesBySide state faults lba block r s u) where
      abbrev us : List Tx
      us = Rule.own_of values group q K

      abbrev start : ℕ
      start = Rule.doorbell_of values group K.opening q

      abbrev first : List PortFault
      first = Rule.faults_of values group K.opening q

      abbrev old : PortState
      old = state s.pmr.port

      abbrev new : PortState
      new = state u.pmr.port

      qs : IsQueueSide k q us (side_state state faults s)
      qs = queue_side state faults group q K s is

      now : IsQueueSide k q us (side_state state faults u)
      now = w.stays q k us x ok.log (record { block = inside; zone = zone; lba_is = lba_is; last_is = logged_last k K.ended x c.version c.last_logged c.home_version ok.log bring }) qs

      same : {A : Type 0} (f : PortState → A) → ((p : PortState) → f (after_begin p lba block) ≡ f p) → ((p : PortState) → f (after_end p lba block) ≡ f p) → f new ≡ f old
      same f begun ended = home_same f old new (faults s.pmr.port) (faults u.pmr.port) lba block begun ended r w.gives

      doorbell : new.doorbell ≡ old.doorbell
      doorbell = same (λ p. p.doorbell) (λ p. refl) (λ p. refl)

      failed : new.failed ≡ old.failed
      failed = same (λ p. p.failed) (λ p. refl) (λ p. refl)

      rings : new.rings ≡ old.rings
      rings = same (λ p. p.rings) (λ p. refl) (λ p. refl)

      -- however the write ended, and before it is noted, the side is what the rule says
      side_wrote : IsSide values group q K u
      side_wrote = record {
        port = now.side;
        stored = ap (λ v. entries_in v.items) w.stored ∙ is.stored;
        says = record {
          is = (let old_is = is.says.is in record {
            geometry = w.own.0 ∙ old_is.geometry;
            queue = w.own.1 ∙ old_is.queue;
            passed = now.passed;
            rung = now.rung;
            last = now.last;
            done = now.done;
            kept = now.kept;
            told = w.told first old_is.told;
            few = w.counts (Rule.port_of values group K.opening q).events q k us ok.log qs old_is.few;
            rings = rings ∙ (old_is.rings ∙ ap (λ d. counted (Rule.port_of values group K.opening q).rings (rung_of start us d)) (sym doorbell));
            bound = bound_then (Rule.port_of values group K.opening q) old new old_is.bound (home_bound old new (faults s.pmr.port) (faults u.pmr.port) lba block r w.gives);
          });
          whole = λ none. doorbell ∙ is.says.whole (sym w.kept ∙ none);
          stored = subst (λ v. AreStored us v.items) (sym w.stored) is.says.stored;
          shows = subst (λ d. Each (Shows start us d new.failed u.kept) (reports_of (Side q) K.charges)) (sym doorbell)
              (subst (λ cs. Each (Shows start us old.doorbell cs u.kept) (reports_of (Side q) K.charges)) (sym failed)
              (subst (λ o. Each (Shows start us old.doorbell old.failed o) (reports_of (Side q) K.charges)) (sym w.kept) is.says.shows));
        };
        charged = charged_more g (Side q) K.charges first (faults s.pmr.port) (faults u.pmr.port) (home_more old new (faults s.pmr.port) (faults u.pmr.port) lba block r w.gives) is.charged;
      }

      -- where it ended with success, and is noted, the side is so too
      side_written : r ≡ Ok home.Done → IsPage values group x K c → c.content ≡ Some block → IsSide values group q (written (x, c.version) K) u
      side_written done page there =
          let begun = side_began k ok.log x block (logged_last k K.ended x c.version c.last_logged c.home_version ok.log bring) q us old is.port zone in
          let told = side_brought k K.ended x c.version c.last_logged c.home_version block q us (begin_home g x block old) ok.log bring (sym page.content ∙ there) begun zone in
          let ended : new ≡ after_end (after_begin old lba block) lba block = (subst (λ z. HomeGives old (faults s.pmr.port) lba block z new (faults u.pmr.port)) done w.gives).0 in
          let to : new ≡ end_home g x block (begin_home g x block old) = ended ∙ ap (λ (n : ℕ). after_end (after_begin old n block) n block) lba_is in
          record {
            port = subst (λ (p : PortState). SideOk (Rule.core_of values group (written (x, c.version) K)) q us p) (sym to) told;
            stored = side_wrote.stored;
            says = side_wrote.says;
            charged = side_wrote.charged;
          }

      -- where it was refused, and is reported, too
      side_refused : (c1 : Cause) → answer_of x r ≡ Err c1 → IsSide values group q (charged (charge_of (Side q) c1) K) u
      side_refused c1 e =
          side_reported state faults group q K s u (report_of c1) side_wrote (refusal (λ y. Shows start us new.doorbell new.failed u.kept (report_of y)) x r c1 e (λ status at. tt) (λ off at. tt)) is.charged
          (home_charged g (Side q) K.charges first (faults s.pmr.port) (faults u.pmr.port) old new lba block x lba_is r c1 e w.gives is.charged)

    -- ---- the root

    module _ (zone : zone_of g x ≡ None) (s u : Root P G) (is : IsRoot values group K s) (w : WritesByRoot state faults lba block r s u) where
      abbrev first_root : List PortFault
      first_root = faults K.opening.root.port

      abbrev root_old : PortState
      root_old = state s.port

      abbrev root_new : PortState
      root_new = state u.port

      root_same : (f : PortState → ℕ) → ((p : PortState) → f (after_begin p lba block) ≡ f p) → ((p : PortState) → f (after_end p lba block) ≡ f p) → f root_new ≡ f root_old
      root_same f begun ended = home_same f root_old root_new (faults s.port) (faults u.port) lba block begun ended r w.gives

      root_base : root_new.base ≡ root_old.base
      root_base = root_same (λ p. p.base) (λ p. refl) (λ p. refl)

      root_stored : root_new.stored_base ≡ root_old.stored_base
      root_stored = root_same (λ p. p.stored_base) (λ p. refl) (λ p. refl)

      root_wrote : IsRoot values group K u
      root_wrote = record {
        says = tt;
        port = record {
          port = w.stays k x ok.log (record { block = inside; zone = zone; lba_is = lba_is; last_is = logged_last k K.ended x c.version c.last_logged c.home_version ok.log bring }) is.port.port;
          flushed = subst (BaseOk k) (sym root_base) is.port.flushed;
          stored = subst (BaseOk k) (sym root_stored) is.port.stored;
        };
        bound = bound_then (state K.opening.root.port) root_old root_new is.bound (home_bound root_old root_new (faults s.port) (faults u.port) lba block r w.gives);
        charged = charged_more g turn.Root K.charges first_root (faults s.port) (faults u.port) (home_more root_old root_new (faults s.port) (faults u.port) lba block r w.gives) is.charged;
      }

      root_written : r ≡ Ok home.Done → IsPage values group x K c → c.content ≡ Some block → IsRoot values group (written (x, c.version) K) u
      root_written done page there =
          let begun = root_began k ok.log x block (logged_last k K.ended x c.version c.last_logged c.home_version ok.log bring) root_old is.port.port zone inside in
          let told = root_brought k K.ended x c.version c.last_logged c.home_version block (begin_home g x block root_old) ok.log bring (sym page.content ∙ there) begun zone inside in
          let ended : root_new ≡ after_end (after_begin root_old lba block) lba block = (subst (λ z. HomeGives root_old (faults s.port) lba block z root_new (faults u.port)) done w.gives).0 in
          let to : root_new ≡ end_home g x block (begin_home g x block root_old) = ended ∙ ap (λ (n : ℕ). after_end (after_begin root_old n block) n block) lba_is in
          let l : KnownJournal = Rule.core_of values group (written (x, c.version) K) in
          let log = log_brought k K.ended x c.version c.last_logged c.home_version ok.log bring in
          let grown = grown_brought k K.ended x c.version c.last_logged c.home_version bring in
          let wrote = root_wrote in
          record {
            says = tt;
            port = record {
              port = subst (λ (p : PortState). RootOk l p) (sym to) told;
              flushed = base_later k l root_new.base ok.log log grown wrote.port.flushed;
              stored = base_later k l root_new.stored_base ok.log log grown wrote.port.stored;
            };
            bound = wrote.bound;
            charged = wrote.charged;
          }

      root_refused : (c1 : Cause) → answer_of x r ≡ Err c1 → IsRoot values group (charged (charge_of turn.Root c1) K) u
      root_refused c1 e =
          root_charged values group (charge_of turn.Root c1) K s u refl root_wrote is.charged
          (home_charged g turn.Root K.charges first_root (faults s.port) (faults u.port) root_old root_new lba block x lba_is r c1 e w.gives is.charged)

    -- ---- the port of the block

    module _ {M : Type 0} where
      pub port_written : (z : Option ℕ) → zone_of g x ≡ z → (p u : Item M PageCell (QueueSide P E G) (Root P G) E) → Stands μ (port_of z) K p → WritesHome state faults lba block r p u → answer_of x r ≡ Ok tt → IsPage values group x K c → c.content ≡ Some block → Stands μ (port_of z) (written (x, c.version) K) u
      port_written (Some q) zone p u is (by_side s t w) e page there = side_written q zone s t is w (ended_well x r e) page there
      port_written None zone p u is (by_root s t w) e page there = root_written zone s t is w (ended_well x r e) page there
      port_written (Some q) zone p u is (by_root s t w) e page there = absurd is
      port_written None zone p u is (by_side s t w) e page there = absurd is

      pub port_refused : (z : Option ℕ) → zone_of g x ≡ z → (p u : Item M PageCell (QueueSide P E G) (Root P G) E) → Stands μ (port_of z) K p → WritesHome state faults lba block r p u → (c1 : Cause) → answer_of x r ≡ Err c1 → Stands μ (port_of z) (charged (charge_of (port_of z) c1) K) u
      port_refused (Some q) zone p u is (by_side s t w) c1 e = side_refused q zone s t is w c1 e
      port_refused None zone p u is (by_root s t w) c1 e = root_refused zone s t is w c1 e
      port_refused (Some q) zone p u is (by_root s t w) c1 e = absurd is
      port_refused None zone p u is (by_side s t w) c1 e = absurd is

module _ {P E : Type 0} {G : Ghosts P} (state : P → PortState) (faults : P → List PortFault) (group : GroupView E) (K : Shared P E G) where
  abbrev shape : Geometry
  shape = Rule.geometry_of (Numbers.values {P = P} {E = E} {G = G} state faults group) group K

  module _ {M : Type 0} where
    abbrev StandsAt : Option ℕ → Item M PageCell (QueueSide P E G) (Root P G) E → Type 0
    StandsAt z p = Stands (Numbers.machine state faults group) (port_of z) K p

    -- the block is one of the port
    pub port_home : (x : ℕ) (z : Option ℕ) → zone_of shape x ≡ z → (p : Item M PageCell (QueueSide P E G) (Root P G) E) → StandsAt z p → IsHomeOf state p (home_lba shape x)
    port_home x (Some q) zone (item.Side s) is = home_in_zone shape q x (state s.pmr.port) is.port.port zone
    port_home x None zone (item.Root s) is = home_in_meta shape x (state s.port) is.port.port.port (zone-none shape x zone)
    port_home x (Some q) zone (item.Page s) is = absurd is
    port_home x (Some q) zone (item.Root s) is = absurd is
    port_home x None zone (item.Page s) is = absurd is
    port_home x None zone (item.Side s) is = absurd is

    -- a refusal has its cause
    pub port_caused : (lba : ℕ) (block : List ℕ) (r : Result HomeStep Off) (z : Option ℕ) (p u : Item M PageCell (QueueSide P E G) (Root P G) E) → StandsAt z p → WritesHome state faults lba block r p u → (v : Seat P E G) → IsKnownFrom state faults group v K → (x : ℕ) (c : Cause) → answer_of x r ≡ Err c → IsCaused state faults group v (port_of z) c
    port_caused lba block r (Some q) p u is (by_side s t w) v known x c e = at_side K s t known is (home_rises (state s.pmr.port) (state t.pmr.port) (faults s.pmr.port) (faults t.pmr.port) lba block s.kept x r c e w.gives)
    port_caused lba block r None p u is (by_root s t w) v known x c e = at_root K s t (home_of_root x r c e) known is (home_rises (state s.port) (state t.port) (faults s.port) (faults t.port) lba block None x r c e w.gives)
    port_caused lba block r (Some q) p u is (by_root s t w) v known x c e = absurd is
    port_caused lba block r None p u is (by_side s t w) v known x c e = absurd is
