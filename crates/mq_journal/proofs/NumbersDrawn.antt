-- A side on which a number was drawn.
use Rattle.std.proofs.Common.{◌≡◌, ℕ, suc, ◌+◌, ◌-◌, ◌≤◌, false, List, [], ◌∷◌, ◌++◌, length, map, reverse, sym, refl, ap, subst, ◌∙◌, inr, arith}
use Rattle.std.specs.Prelude.{None}
use Rattle.std.proofs.lemmas.Bool.{eq-eqb, lt-ltb, le-ltb}
use Rattle.std.proofs.lemmas.List.{map-append, reverse-append}
use lib.ListN.{length-map}
use Rattle.mq_blocks.specs.Descriptor.{further_for, journal_form}
use Rattle.mq_blocks.specs.Drive.{PortState, counted, staged_end}
use Rattle.mq_blocks.specs.Limits.{usable_depth}
use Rattle.mq_blocks.specs.Geometry.{area_of}
use Rattle.mq_blocks.specs.Journal.{number_limit}
use Rattle.mq_blocks.specs.declared.geometry.Geometry.{Geometry}
use Rattle.mq_drive.specs.Steps.{PortFault}
use Rattle.mq_drive.specs.declared.port.Port.{Ghosts}
use Rattle.mq_ledger.specs.Items.{end_of}
use Rattle.mq_ledger.specs.KnownJournal.{KnownJournal, draw_known}
use Rattle.mq_ledger.specs.Sides.{SideOk}
use Rattle.mq_ledger.specs.declared.tx.Tx.{Tx}
use Rattle.mq_ledger.proofs.Items.{of_queue-own}
use Rattle.mq_core.specs.Events.{HasRoom}
use Rattle.mq_revoke.specs.Guard.{placed_of}
use Rattle.mq_desk_laws.specs.Faults.{AreCharged, reports_of}
use Rattle.mq_desk_laws.specs.Groups.{GroupView}
use Rattle.mq_desk_laws.specs.Rule
use Rattle.mq_desk_laws.specs.Rule.{IsOk, IsSide, May}
use Rattle.mq_desk_laws.specs.Values.{Part, Values}
use Rattle.mq_desk_laws.proofs.FaultsAdded.{unclaimed}
use Rattle.mq_queue_side.specs.Commits.{NumberedCommit, commit_of, commit_of_tx, descriptor_size, size_of}
use Rattle.mq_queue_side.specs.Sent.{AreInZone}
use Rattle.mq_queue_side.specs.Side.{IsQueueSide, IsRung, SideState, side_state}
use Rattle.mq_queue_side.specs.Stored.{AreStored, FitIs, IsBounded, Row, next_in, numbered_in, rows_for, rows_of, slots_in}
use Rattle.mq_queue_side.specs.declared.answers.Fit.TheVariants.{Yes}
use Rattle.mq_queue_side.specs.declared.drawn.Drawn.{Drawn}
use Rattle.mq_queue_side.specs.declared.root.Root.{Root}
use Rattle.mq_queue_side.specs.declared.side.QueueSide.{QueueSide}
use Rattle.mq_queue_side.proofs.CountsSides.{drawn_counts}
use Rattle.mq_queue_side.proofs.SideDraws.{drawn as side_drawn, fits_ring, fitting, next_is}
use Rattle.mq_queue_side.proofs.Stored.{numbering, stored_more}
use Rattle.mq_turns.specs.Meaning.{drawn, newest}
use Rattle.mq_turns.specs.declared.turn.Turn.TheVariants.{Side}
use Rattle.mq_journal.specs.Numbers
use Rattle.mq_journal.specs.Numbers.{HasNumbered, MaySend, Shared}
use Rattle.mq_journal.specs.Values.{IsRecord, ShowsAll, entries_in, rung_of}
use Rattle.mq_journal.proofs.ValuesShowing.{shows_still}
use Rattle.mq_journal.proofs.ValuesSides.{queue_side}

-- as many were rung as stand before it
rung_same : (start doorbell : ℕ) (t : Tx) (us : List Tx) → doorbell ≡ end_of start us → rung_of start us doorbell ≡ rung_of start (t ∷ us) doorbell
rung_same start doorbell t [] at = rw (lt-ltb doorbell (end_of start (t ∷ [])) (omega arith)) refl
rung_same start doorbell t (u ∷ ws) at = rw (le-ltb doorbell (end_of start (u ∷ ws)) (omega arith), lt-ltb doorbell (end_of start (t ∷ u ∷ ws)) (omega arith)) (let e : suc (length ws) ≡ length (u ∷ ws) = omega arith in e)

-- the newest of what is stored
entries_more : {E : Type 0} (stored : List (Drawn E)) (d : Drawn E) → entries_in (stored ++ d ∷ []) ≡ (d.number, d.entry) ∷ entries_in stored
entries_more {E} stored d =
    let pair : Drawn E → ℕ × E = λ x. (x.number, x.entry) in
    ap reverse (map-append pair stored (d ∷ [])) ∙ reverse-append (map pair stored) (pair d ∷ [])

module _ {P E : Type 0} {G : Ghosts P} (state : P → PortState) (faults : P → List PortFault) (group : GroupView E) where
  abbrev values : Values (QueueSide P E G) (Root P G) E
  values = Numbers.values state faults group

  module _ (e : E) (K : Shared P E G) (s : QueueSide P E G) (base number : ℕ) (n : NumberedCommit) (is : IsSide values group (group.tx e).queue K s) (none : s.kept ≡ None) (ok : IsOk values group K) (may : May values group e K)
      (low : base ≤ K.word) (fits : FitIs (area_of s.pmr.geometry) base (rows_of s.stored.items) (state s.pmr.port) (placed_of (group.tx e)) Yes) (bounds : IsBounded (rows_of s.stored.items) (state s.pmr.port) (placed_of (group.tx e)))
      (number_is : number ≡ suc (newest K)) (numbered : n ≡ numbered_in journal_form s.pmr.queue number (rows_of s.stored.items) (commit_of_tx (group.tx e))) where
    abbrev q : ℕ
    q = (group.tx e).queue

    abbrev k : KnownJournal
    k = Rule.core_of values group K

    abbrev t : Tx
    t = Rule.next_tx values group e K

    abbrev us : List Tx
    us = Rule.own_of values group q K

    abbrev ss : SideState
    ss = side_state state faults s

    abbrev L : Shared P E G
    L = drawn e K

    number_next : number ≡ t.number
    number_next = omega arith

    qs : IsQueueSide k q us ss
    qs = queue_side state faults group q K s is

    rung : IsRung k q us ss
    rung = is.says.whole none

    geometry_is : s.pmr.geometry ≡ k.geometry
    geometry_is = is.says.is.geometry

    rows : rows_of s.stored.items ≡ rows_for us
    rows = is.says.stored

    logged : length (placed_of t).logged ≡ length t.logged
    logged = length-map t.logged (λ (w : ℕ × List ℕ). w.0)

    direct : length (placed_of t).direct ≡ length t.direct
    direct = length-map t.direct (λ (w : ℕ × List ℕ). w.0)

    -- its descriptor has as many blocks as that of what is placed so
    further : further_for (length (placed_of t).logged + length t.revoked) ≡ further_for (length t.logged + length t.revoked)
    further = ap (λ (n : ℕ). further_for (n + length t.revoked)) logged

    fits_there : FitIs k.geometry.area base (rows_for us) ss.port (placed_of t) Yes
    fits_there = subst (λ (z : Geometry × List Row). FitIs (area_of z.0) base z.1 ss.port (placed_of t) Yes) (λ i. (geometry_is i, rows i)) fits

    room : HasRoom k.geometry (k.from t.queue) k.word us t ss.port
    room = fitting k t us ss base qs none rung low fits_there
        (let a = bounds.places in let b : next_in (rows_of s.stored.items) ≡ next_in (rows_for us) = ap next_in rows in let c = next_is us in let d = logged in let f = further in omega arith)
        (let a = bounds.end in let b = logged in let c = direct in let f = further in omega arith)

    undone : k.done t k.history ≡ false
    undone = unclaimed (newest K) K.claims t.queue t.number ok.claims (omega arith)

    now : IsQueueSide (draw_known t k) q (t ∷ us) ss
    now = side_drawn k t ss ok.log may.draw undone none room qs

    own_is : Rule.own_of values group q L ≡ t ∷ us
    own_is = of_queue-own q t (Rule.history_of values group K) refl

    part_with : List Tx → Part
    part_with txs = record {
      geometry = Rule.geometry_of values group K;
      queue = q;
      start = Rule.doorbell_of values group K.opening q;
      opened = Rule.port_of values group K.opening q;
      first = Rule.faults_of values group K.opening q;
      word = K.word;
      txs = txs;
      reports = reports_of (Side q) K.charges;
    }

    abbrev from : ℕ
    from = Rule.doorbell_of values group K.opening q

    shows_now : ShowsAll from (t ∷ us) ss (reports_of (Side q) K.charges)
    shows_now = shows_still from us (t ∷ us) (λ u ts at. inr at) ss.port.doorbell ss.port.doorbell ss.port.failed ss.port.failed ss.kept ss.kept (omega arith) (λ some. (some, refl, λ m has. has)) (reports_of (Side q) K.charges) is.says.shows

    record_now : IsRecord (part_with (t ∷ us)) ss
    unfolding part_with
    record_now = let r = is.says.is in record {
      geometry = r.geometry;
      queue = r.queue;
      passed = now.passed;
      rung = now.rung;
      last = now.last;
      done = now.done;
      kept = now.kept;
      told = r.told;
      few = drawn_counts (Rule.port_of values group K.opening q).events k q t us ss qs rung r.few;
      rings = r.rings ∙ ap (counted (Rule.port_of values group K.opening q).rings) (rung_same (Rule.doorbell_of values group K.opening q) ss.port.doorbell t us rung);
      bound = r.bound;
    }

    commit_is : n ≡ commit_of journal_form t us
    commit_is = numbered ∙ ((λ i. numbered_in journal_form (is.says.is.queue i) (number_next i) (rows i) (commit_of_tx (group.tx e))) ∙ numbering journal_form t us)

    -- whatever room it has for more
    module _ (u : QueueSide P E G) (pmr : u.pmr ≡ s.pmr) (done : u.done ≡ s.done) (kept : u.kept ≡ s.kept) (stored : u.stored.items ≡ s.stored.items ++ record { number = number; next = next_in (rows_of s.stored.items) + (length (group.tx e).logged + descriptor_size (length (group.tx e).logged) (length (group.tx e).revoked)); entry = e } ∷ []) where
      same : ss ≡ side_state state faults u
      same = λ i. record {
        geometry = (sym pmr i).geometry;
        queue = (sym pmr i).queue;
        port = state (sym pmr i).port;
        faults = faults (sym pmr i).port;
        passed = (sym pmr i).done;
        rung = (sym pmr i).rung.items;
        done = sym done i;
        kept = sym kept i;
      }

      port_same : state s.pmr.port ≡ state u.pmr.port
      port_same = ap (λ (x : SideState). x.port) same

      faults_same : faults s.pmr.port ≡ faults u.pmr.port
      faults_same = ap (λ (x : SideState). x.faults) same

      entries : entries_in u.stored.items ≡ (t.number, e) ∷ Rule.entries_of values group q K.opening.base K.log
      entries = ap entries_in stored ∙ (entries_more s.stored.items _ ∙ (λ i. (number_next i, e) ∷ is.stored i))

      stored_now : AreStored (t ∷ us) u.stored.items
      stored_now =
          let with : ℕ → List (Drawn E) = λ m. s.stored.items ++ record { number = m; next = next_in (rows_of s.stored.items) + (length (group.tx e).logged + descriptor_size (length (group.tx e).logged) (length (group.tx e).revoked)); entry = e } ∷ [] in
          subst (λ l. AreStored (t ∷ us) l) (ap with (sym number_next) ∙ sym stored) (stored_more t us s.stored.items e is.says.stored)

      pub has_numbered : HasNumbered state faults group q L u n
      unfolding part_with
      has_numbered = record {
        port = subst (λ (z : List Tx × PortState). SideOk (draw_known t k) q z.0 z.1) (λ i. (sym own_is i, port_same i)) now.side;
        stored = entries ∙ (let there = eq-eqb q q refl in rw there refl);
        says = record {
          is = subst (λ (z : List Tx × SideState). IsRecord (part_with z.0) z.1) (λ i. (sym own_is i, same i)) record_now;
          stored = subst (λ txs. AreStored txs u.stored.items) (sym own_is) (stored_now);
          shows = subst (λ (z : List Tx × SideState). ShowsAll from z.0 z.1 (reports_of (Side q) K.charges)) (λ i. (sym own_is i, same i)) shows_now;
          ready = record { t = t; ts = us; newest = own_is; commit = commit_is; rung = subst (λ (p : PortState). p.doorbell ≡ end_of (k.from q) us) port_same rung; none = ap (λ (x : SideState). x.kept) (sym same) ∙ none };
        };
        charged = subst (λ fs. AreCharged (Rule.geometry_of values group K) (Side q) K.charges (Rule.faults_of values group K.opening q) fs) faults_same is.charged;
      }

      pub may_send : MaySend state faults group u n
      may_send =
          let plan = placed_of (group.tx e) in
          let size : size_of n ≡ slots_in plan = ap size_of numbered ∙ (let a = logged in let b = direct in let f = further in let z : length (group.tx e).logged + length (group.tx e).direct + descriptor_size (length (group.tx e).logged) (length (group.tx e).revoked) ≡ slots_in plan = omega arith in z) in
          record {
            number = let a : n.number ≡ number = ap (λ (x : NumberedCommit). x.number) numbered in omega arith;
            room = subst (λ (p : PortState). size_of n ≤ usable_depth - (staged_end p - p.head)) port_same (let r = fits_ring (area_of s.pmr.geometry) base (rows_of s.stored.items) (state s.pmr.port) plan fits in omega arith);
            end = subst (λ (p : PortState). staged_end p + size_of n ≤ number_limit) port_same (let r = bounds.end in omega arith);
            direct = subst (λ (z : Geometry × NumberedCommit). AreInZone z.0 z.1.queue z.1.commit.direct) (λ i. ((sym geometry_is ∙ ap (λ (x : SideState). x.geometry) same) i, sym commit_is i)) may.draw.form.zoned;
          }
