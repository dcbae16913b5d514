-- A side whose commit was sent, or whose send was cut.
use Rattle.std.proofs.Common.{◌≡◌, ◌⊎◌, ℕ, suc, ◌-◌, ◌≤◌, ◌^◌, Bool, cond, List, ◌∷◌, length, sym, refl, ap, subst, ◌∙◌, inl, inr, arith}
use Rattle.std.specs.Prelude.{None, Some}
use Rattle.std.proofs.lemmas.Bool.{lt-ltb, le-ltb}
use Rattle.mq_blocks.specs.Drive.{PortState, IsBoundKept, counted}
use Rattle.mq_blocks.specs.declared.geometry.Geometry.{Geometry}
use Rattle.mq_blocks.proofs.DriveSaturation.{counted-next}
use Rattle.mq_drive.specs.Faults.{AreMore, count_of}
use Rattle.mq_drive.specs.Steps.{PortFault, Gains, PowerOff}
use Rattle.mq_drive.specs.declared.port.Port.{Ghosts}
use Rattle.mq_ledger.specs.History.{IsAt}
use Rattle.mq_ledger.specs.Items.{end_of}
use Rattle.mq_ledger.specs.KnownJournal.{KnownJournal}
use Rattle.mq_ledger.specs.declared.tx.Tx.{Tx}
use Rattle.mq_pmr.specs.Runs.{Items}
use Rattle.mq_desk_laws.specs.Faults.{AreCharged, IsBacked, of_kind, reports_of}
use Rattle.mq_desk_laws.specs.Groups.{GroupView}
use Rattle.mq_desk_laws.specs.Rule
use Rattle.mq_desk_laws.specs.Rule.{IsOk, IsSide}
use Rattle.mq_desk_laws.specs.Values.{Values}
use Rattle.mq_desk_laws.proofs.Faults.{charged_more}
use Rattle.mq_queue_side.specs.Commits.{NumberedCommit}
use Rattle.mq_queue_side.specs.Counts.{SendCounts}
use Rattle.mq_queue_side.specs.Sent.{IsCutAt, RingsAll, Sends, after_send}
use Rattle.mq_queue_side.specs.Side.{IsQueueSide, SideState, side_state}
use Rattle.mq_queue_side.specs.Stored.{AreStored}
use Rattle.mq_queue_side.specs.Told.{KeepsTold}
use Rattle.mq_queue_side.specs.declared.answers.Why.TheVariants.{Off}
use Rattle.mq_queue_side.specs.declared.root.Root.{Root}
use Rattle.mq_queue_side.specs.declared.side.QueueSide.{QueueSide}
use Rattle.mq_queue_side.proofs.DrainedCompletes.{bound_then, gains_rises}
use Rattle.mq_queue_side.proofs.Told.{one_more}
use Rattle.mq_turns.specs.declared.rule.Report.{Report}
use Rattle.mq_turns.specs.declared.rule.Report.TheVariants as report
use Rattle.mq_turns.specs.declared.turn.Turn.TheVariants.{Side}
use Rattle.mq_journal.specs.Numbers
use Rattle.mq_journal.specs.Numbers.{HasNumbered, Shared}
use Rattle.mq_journal.specs.Values.{IsRecord, Shows, ShowsAll, entries_in, rung_of}
use Rattle.mq_journal.proofs.ValuesShowing.{shows_still}

-- the newest is not rung; and it is
before_newest : (start : ℕ) (t : Tx) (ts : List Tx) (doorbell : ℕ) → doorbell ≡ end_of start ts → rung_of start (t ∷ ts) doorbell ≡ length ts
before_newest start t ts doorbell at = rw (lt-ltb doorbell (end_of start (t ∷ ts)) (omega arith)) refl

after_newest : (start : ℕ) (t : Tx) (ts : List Tx) (doorbell : ℕ) → doorbell ≡ end_of start (t ∷ ts) → rung_of start (t ∷ ts) doorbell ≡ suc (length ts)
after_newest start t ts doorbell at = rw (le-ltb doorbell (end_of start (t ∷ ts)) (omega arith)) refl

-- a port that gained an `Off` stands behind a refusal for it
pub off_backed : (g : Geometry) (first old new : List PortFault) → AreMore first old → Gains PowerOff old new → (2 ^ 64 - 1 ≤ length new) ⊎ IsBacked g report.Off first old new
off_backed g first old new since (inl one) = inr (record {
  more = λ f. let a = one_more PowerOff old new f one in omega arith;
  kind = λ f. let a = one_more PowerOff old new (of_kind f) one in omega arith;
  named = λ f is. let a = one_more PowerOff old new f one in let b = since f in let c : cond {A = ℕ} (f PowerOff) 1 0 ≡ 1 = ap (λ (t : Bool). cond {A = ℕ} t 1 0) is in omega arith;
})
off_backed g first old new since (inr full) = inl (let a = full.0 in let b : length new ≡ length old = ap length full.1 in omega arith)

pub gained_more : (old new : List PortFault) (x : PortFault) → Gains x old new → AreMore old new
gained_more old new x (inl one) f = let a = one_more x old new f one in omega arith
gained_more old new x (inr full) f = let b : count_of f new ≡ count_of f old = ap (count_of f) full.1 in omega arith

pub gained_longer : (old new : List PortFault) → Gains PowerOff old new → length old ≤ length new
gained_longer old new gains = (gains_rises PowerOff old new gains).0

module _ {P E : Type 0} {G : Ghosts P} (state : P → PortState) (faults : P → List PortFault) (group : GroupView E) (q : ℕ) (K : Shared P E G) (s u : QueueSide P E G) (n : NumberedCommit) (ok : IsOk (Numbers.values state faults group) group K) (has : HasNumbered state faults group q K s n) where
  abbrev values : Values (QueueSide P E G) (Root P G) E
  values = Numbers.values state faults group

  abbrev k : KnownJournal
  k = Rule.core_of values group K

  abbrev us : List Tx
  us = Rule.own_of values group q K

  abbrev ss : SideState
  ss = side_state state faults s

  abbrev uu : SideState
  uu = side_state state faults u

  -- the side, as the contracts of its calls see it
  qs : IsQueueSide k q us ss
  qs = let r = has.says.is in record {
    geometry = r.geometry;
    queue = r.queue;
    entries = refl;
    side = has.port;
    passed = r.passed;
    rung = r.rung;
    last = r.last;
    done = r.done;
    kept = r.kept;
  }

  module _ (stays : Sends ss n uu) (counts : SendCounts ss n uu) (told : KeepsTold ss uu) (stored : u.stored ≡ s.stored) (own : (u.pmr.geometry ≡ s.pmr.geometry) × (u.pmr.queue ≡ s.pmr.queue)) where
    now : IsQueueSide k q us uu
    now = stays q k us ok.log has.says.ready qs

    record_with : uu.port.rings ≡ counted (Rule.port_of values group K.opening q).rings (rung_of (Rule.doorbell_of values group K.opening q) us uu.port.doorbell) → IsBoundKept ss.port uu.port → IsRecord (Rule.part_of values group q K) uu
    record_with rings bound = let r = has.says.is in record {
      geometry = own.0 ∙ r.geometry;
      queue = own.1 ∙ r.queue;
      passed = now.passed;
      rung = now.rung;
      last = now.last;
      done = now.done;
      kept = now.kept;
      told = told (Rule.faults_of values group K.opening q) r.told;
      few = counts (Rule.port_of values group K.opening q).events q k us ok.log has.says.ready qs r.few;
      rings = rings;
      bound = bound_then (Rule.port_of values group K.opening q) ss.port uu.port r.bound bound;
    }

    abbrev start : ℕ
    start = Rule.doorbell_of values group K.opening q

    abbrev reports : List Report
    reports = reports_of (Side q) K.charges

    -- No failure was kept, so that nothing stays undone.
    shows_with : ss.port.doorbell ≤ uu.port.doorbell → ShowsAll start us uu reports
    shows_with up = shows_still start us us (λ t ts at. at) ss.port.doorbell uu.port.doorbell ss.port.failed uu.port.failed ss.kept uu.kept up (λ some. absurd (some has.says.ready.none)) reports has.says.shows

    side_with : ss.port.doorbell ≤ uu.port.doorbell → uu.port.rings ≡ counted (Rule.port_of values group K.opening q).rings (rung_of (Rule.doorbell_of values group K.opening q) us uu.port.doorbell) → (u.kept ≡ None → uu.port.doorbell ≡ end_of (k.from q) us) → AreMore (faults s.pmr.port) (faults u.pmr.port) → IsBoundKept ss.port uu.port → IsSide values group q K u
    side_with up rings whole more bound = record {
      port = now.side;
      stored = ap (λ v. entries_in v.items) stored ∙ has.stored;
      says = record { is = record_with rings bound; whole = whole; stored = subst (λ v. AreStored us v.items) (sym stored) has.says.stored; shows = shows_with up };
      charged = charged_more (Rule.geometry_of values group K) (Side q) K.charges (Rule.faults_of values group K.opening q) (faults s.pmr.port) (faults u.pmr.port) more has.charged;
    }

    -- the numbers of rings before the send
    rings_before : ss.port.rings ≡ counted (Rule.port_of values group K.opening q).rings (length has.says.ready.ts)
    rings_before =
        let start = Rule.doorbell_of values group K.opening q in
        let r = has.says.ready in
        has.says.is.rings ∙ ap (counted (Rule.port_of values group K.opening q).rings) (ap (λ l. rung_of start l ss.port.doorbell) r.newest ∙ before_newest start r.t r.ts ss.port.doorbell r.rung)

    -- it was sent
    pub sent_side : (items : Items) → RingsAll ss n uu → uu.port ≡ after_send ss.port n.number items → faults u.pmr.port ≡ faults s.pmr.port → IsSide values group q K u
    sent_side items whole is same =
        let opened = (Rule.port_of values group K.opening q).rings in
        let r = has.says.ready in
        let rung = whole q k us ok.log r qs in
        let at : uu.port.doorbell ≡ end_of start (r.t ∷ r.ts) = rung ∙ ap (end_of start) r.newest in
        let many : rung_of start us uu.port.doorbell ≡ suc (length r.ts) = ap (λ l. rung_of start l uu.port.doorbell) r.newest ∙ after_newest start r.t r.ts uu.port.doorbell at in
        side_with (let a = r.rung in omega arith) (ap (λ (p : PortState). p.rings) is ∙ (ap (λ m. counted m 1) rings_before ∙ (sym (counted-next opened (length r.ts)) ∙ ap (counted opened) (sym many)))) (λ none. rung) (λ f. let e : count_of f (faults u.pmr.port) ≡ count_of f (faults s.pmr.port) = ap (count_of f) same in omega arith)
        (record { fuse = ap (λ (p : PortState). p.fuse) is; fail = ap (λ (p : PortState). p.fail) is })

    -- it was cut
    cut_rings : (items : Items) → IsCutAt ss.port n.number items uu.port → (uu.port.rings ≡ ss.port.rings) × (uu.port.doorbell ≡ ss.port.doorbell)
    cut_rings items (inl part) = let is = part.2 in (ap (λ (p : PortState). p.rings) is, ap (λ (p : PortState). p.doorbell) is)
    cut_rings items (inr (inl all)) = (ap (λ (p : PortState). p.rings) all, ap (λ (p : PortState). p.doorbell) all)
    cut_rings items (inr (inr all)) = (ap (λ (p : PortState). p.rings) all, ap (λ (p : PortState). p.doorbell) all)

    cut_bound : (items : Items) → IsCutAt ss.port n.number items uu.port → IsBoundKept ss.port uu.port
    cut_bound items (inl part) = let is = part.2 in record { fuse = ap (λ (p : PortState). p.fuse) is; fail = ap (λ (p : PortState). p.fail) is }
    cut_bound items (inr (inl all)) = record { fuse = ap (λ (p : PortState). p.fuse) all; fail = ap (λ (p : PortState). p.fail) all }
    cut_bound items (inr (inr all)) = record { fuse = ap (λ (p : PortState). p.fuse) all; fail = ap (λ (p : PortState). p.fail) all }

    pub cut_side : (items : Items) → IsCutAt ss.port n.number items uu.port → u.kept ≡ Some (n.number, Off) → Gains PowerOff (faults s.pmr.port) (faults u.pmr.port) → IsSide values group q K u
    cut_side items cut kept gains =
        let same = cut_rings items cut in
        side_with (let a = same.1 in omega arith) (same.0 ∙ (has.says.is.rings ∙ ap (λ d. counted (Rule.port_of values group K.opening q).rings (rung_of start us d)) (sym same.1))) (λ none. absurd (some_none (sym kept ∙ none))) (gained_more (faults s.pmr.port) (faults u.pmr.port) PowerOff gains) (cut_bound items cut)
      where
        some_none : {A : Type 0} {x : A} → Some x ≡ None → ⊥
        some_none e = cc

    -- it shows that it was rung
    pub sent_shows : RingsAll ss n uu → Shows start us uu.port.doorbell uu.port.failed uu.kept (report.Sent n.number)
    sent_shows whole =
        let r = has.says.ready in
        let rung = whole q k us ok.log r qs in
        record {
          t = r.t;
          ts = r.ts;
          at = subst (λ l. IsAt r.t r.ts l) (sym r.newest) (inl (refl, refl));
          number = ap (λ (c : NumberedCommit). c.number) r.commit;
          below = let a : end_of start us ≡ end_of start (r.t ∷ r.ts) = ap (end_of start) r.newest in omega arith;
        }

    -- no fault is charged for it
    pub sent_backed : faults u.pmr.port ≡ faults s.pmr.port → (2 ^ 64 - 1 ≤ length (faults u.pmr.port)) ⊎ IsBacked (Rule.geometry_of values group K) (report.Sent n.number) (Rule.faults_of values group K.opening q) (faults s.pmr.port) (faults u.pmr.port)
    sent_backed same = inr (record {
      more = λ f. let e : count_of f (faults u.pmr.port) ≡ count_of f (faults s.pmr.port) = ap (count_of f) same in omega arith;
      kind = λ f. let e : count_of (of_kind f) (faults u.pmr.port) ≡ count_of (of_kind f) (faults s.pmr.port) = ap (count_of (of_kind f)) same in omega arith;
      named = tt;
    })

    -- and its port stands behind the refusal
    pub cut_backed : Gains PowerOff (faults s.pmr.port) (faults u.pmr.port) → (2 ^ 64 - 1 ≤ length (faults u.pmr.port)) ⊎ IsBacked (Rule.geometry_of values group K) report.Off (Rule.faults_of values group K.opening q) (faults s.pmr.port) (faults u.pmr.port)
    cut_backed gains = backed has.charged
      where
        backed : AreCharged (Rule.geometry_of values group K) (Side q) K.charges (Rule.faults_of values group K.opening q) (faults s.pmr.port) → (2 ^ 64 - 1 ≤ length (faults u.pmr.port)) ⊎ IsBacked (Rule.geometry_of values group K) report.Off (Rule.faults_of values group K.opening q) (faults s.pmr.port) (faults u.pmr.port)
        backed (inl full) = inl (let l = gained_longer (faults s.pmr.port) (faults u.pmr.port) gains in omega arith)
        backed (inr was) = off_backed (Rule.geometry_of values group K) (Rule.faults_of values group K.opening q) (faults s.pmr.port) (faults u.pmr.port) was.more gains
