-- A side that was drained.
use Rattle.std.proofs.Common.{◌≡◌, ◌≢◌, ◌⊎◌, ℕ, ◌+◌, ◌-◌, ◌<◌, ◌≤◌, ◌^◌, Bool, cond, List, [], ◌∷◌, length, map, Option, nat_le, sym, refl, ap, subst, ◌∙◌, inl, inr, arith}
use Rattle.std.specs.Prelude.{None, Some, Result, Ok, Err}
use Rattle.std.proofs.lemmas.Bool.{cases_Bool}
use Rattle.mq_blocks.specs.Drive.{PortState, counted}
use Rattle.mq_blocks.specs.declared.geometry.Geometry.{Geometry}
use Rattle.mq_drive.specs.Faults.{AreMore, count_of}
use Rattle.mq_drive.specs.Steps.{PortFault, CommandError, PowerOff}
use Rattle.mq_drive.specs.declared.port.Port.{Ghosts}
use Rattle.mq_blocks.specs.declared.command.Command.{Command}
use Rattle.mq_ledger.specs.History.{AreNumbered, IsAt, of_queue, writes}
use Rattle.mq_ledger.specs.Items.{descriptor_blocks, end_of}
use Rattle.mq_ledger.specs.KnownJournal.{KnownJournal}
use Rattle.mq_ledger.specs.declared.tx.Tx.{Tx}
use Rattle.mq_ledger.proofs.HistoryQueues.{FromQueue-of, at_end, at_own}
use Rattle.mq_ledger.proofs.History.{at_numbered}
use Rattle.mq_desk_laws.specs.Faults.{AreCharged, IsBacked, of_kind, reports_of}
use Rattle.mq_desk_laws.specs.Groups.{GroupView}
use Rattle.mq_desk_laws.specs.Rule
use Rattle.mq_desk_laws.specs.Rule.{IsOk, IsSide}
use Rattle.mq_desk_laws.specs.Values.{Values}
use Rattle.mq_desk_laws.proofs.Faults.{charged_more}
use Rattle.mq_queue_side.specs.Counts.{KeepsCount}
use Rattle.mq_queue_side.specs.Drained.{AreGained, Drains, DrainsTo, Failures, IsWhole, kept_after, kept_with}
use Rattle.mq_queue_side.specs.Laws.{NamesTransaction}
use Rattle.mq_queue_side.specs.Side.{IsKept, IsKeptBy, IsQueueSide, NewestBegins, SideState, side_state}
use Rattle.mq_queue_side.specs.Staying.{Stays}
use Rattle.mq_queue_side.specs.Stored.{AreStored}
use Rattle.mq_queue_side.specs.Told.{IsTold, KeepsTold}
use Rattle.mq_queue_side.specs.declared.answers.Cause.{Cause}
use Rattle.mq_queue_side.specs.declared.answers.Cause.TheVariants.{Failed, FailedHome, Stopped}
use Rattle.mq_queue_side.specs.declared.answers.Cause.TheVariants as cause
use Rattle.mq_queue_side.specs.declared.answers.Why.{Why}
use Rattle.mq_queue_side.specs.declared.answers.Why.TheVariants.{Off, Status}
use Rattle.mq_queue_side.specs.declared.root.Root.{Root}
use Rattle.mq_queue_side.specs.declared.side.QueueSide.{QueueSide}
use Rattle.mq_queue_side.proofs.DrainedCompletes.{bound_then, gained_up}
use Rattle.mq_queue_side.proofs.DrainedReaching.{below_head, done_before}
use Rattle.mq_queue_side.proofs.Told.{one_more}
use Rattle.mq_turns.specs.declared.rule.Report.TheVariants as report
use Rattle.mq_turns.specs.declared.turn.Turn.TheVariants.{Side}
use Rattle.mq_journal.specs.Numbers
use Rattle.mq_journal.specs.Numbers.{Shared}
use Rattle.mq_journal.specs.Values.{entries_in, rung_of}
use Rattle.mq_journal.proofs.ValuesShowing.{failed_more, shows_still}
use Rattle.mq_journal.proofs.Sent.{gained_longer, gained_more, off_backed}
use Rattle.mq_journal.proofs.ValuesSides.{queue_side}

-- ---- what was kept before

some_kept : (kept : Option (ℕ × Why)) (tx status : ℕ) → kept_with kept tx status ≡ None → ⊥
some_kept None tx status e = absurd cc
some_kept (Some (n, Off)) tx status e = absurd cc
some_kept (Some (n, Status s)) tx status e = elim (cases_Bool (nat_le n tx)) [
  | inl less ↦ absurd (let k = rw less at e in cc)
  | inr more ↦ absurd (let k = rw more at e in cc)
]

pub none_before : (kept : Option (ℕ × Why)) (fs : Failures) → kept_after kept fs ≡ None → kept ≡ None
none_before kept [] e = e
none_before kept (f ∷ fs) e = absurd (some_kept kept f.0 f.1 (none_before (kept_with kept f.0 f.1) fs e))

-- ---- faults

pub all_more : (fs : Failures) (old new : List PortFault) → AreGained fs old new → AreMore old new
all_more [] old new same f = let e : count_of f new ≡ count_of f old = ap (count_of f) same in omega arith
all_more (x ∷ xs) old new (mid, first, rest) f = let a = gained_more old mid (CommandError x.0 x.1) first f in let b = all_more xs mid new rest f in omega arith

-- one failed at least: there is one error of a command more
kind_more : (f : ℕ × ℕ) (fs : Failures) (old new : List PortFault) → AreGained (f ∷ fs) old new → (2 ^ 64 - 1 ≤ length old) ⊎ ((g : PortFault → Bool) → count_of (of_kind g) old + cond {A = ℕ} (g (CommandError 0 0)) 1 0 ≤ count_of (of_kind g) new)
kind_more f fs old new (mid, inl one, rest) = inr (λ g. let a = one_more (CommandError f.0 f.1) old mid (of_kind g) one in let b = all_more fs mid new rest (of_kind g) in omega arith)
kind_more f fs old new (mid, inr full, rest) = inl full.0

pub ended_more : (old : SideState) (fs : Failures) (mid : List PortFault) (r : Result ℕ Cause) (new : SideState) → DrainsTo old fs mid r new → AreMore mid new.faults
ended_more old fs mid (Ok n) new ends f = let e : count_of f new.faults ≡ count_of f mid = ap (count_of f) ends.3 in omega arith
ended_more old fs mid (Err (Failed tx status)) new ends f = let e : count_of f new.faults ≡ count_of f mid = ap (count_of f) ends.2 in omega arith
ended_more old fs mid (Err (Stopped tx w)) new ends f = let e : count_of f new.faults ≡ count_of f mid = ap (count_of f) ends.2 in omega arith
ended_more old fs mid (Err cause.Off) new ends f = gained_more mid new.faults PowerOff ends.0 f
ended_more old fs mid (Err (FailedHome block status)) new ends f = absurd ends

-- ---- numbers

own_number : (base q : ℕ) (h : List Tx) (t : Tx) (ts : List Tx) → AreNumbered base h → IsAt t ts (of_queue q h) → 1 ≤ t.number
own_number base q h t ts numbers at = let r = FromQueue-of q t ts h at in let n = (at_numbered base t r.ts h numbers r.at).0 in omega arith

newest_number : (base q from : ℕ) (h us : List Tx) (count n : ℕ) → us ≡ of_queue q h → AreNumbered base h → NewestBegins from us count n → 1 ≤ n
newest_number base q from h [] count n own numbers begins = absurd begins
newest_number base q from h (t ∷ ts) count n own numbers begins = let l = own_number base q h t ts numbers (subst (λ z. IsAt t ts z) own (inl (refl, refl))) in let e = begins.0 in omega arith

kept_number : (base q from : ℕ) (h : List Tx) (failed : List Command) (doorbell n : ℕ) (w : Why) → AreNumbered base h → IsKeptBy from (of_queue q h) failed doorbell n w → 1 ≤ n
kept_number base q from h failed doorbell n Off numbers kept = newest_number base q from h (of_queue q h) doorbell n refl numbers kept.1
kept_number base q from h failed doorbell n (Status s) numbers kept = let b = kept.3 in let l = own_number base q h b.t b.ts numbers b.at in let e = b.number in omega arith

module _ {P E : Type 0} {G : Ghosts P} (state : P → PortState) (faults : P → List PortFault) (group : GroupView E) (q : ℕ) (K : Shared P E G) (s u : QueueSide P E G) (ok : IsOk (Numbers.values state faults group) group K) (is : IsSide (Numbers.values state faults group) group q K s) where
  abbrev values : Values (QueueSide P E G) (Root P G) E
  values = Numbers.values state faults group

  abbrev k : KnownJournal
  k = Rule.core_of values group K

  abbrev h : List Tx
  h = Rule.history_of values group K

  abbrev us : List Tx
  us = Rule.own_of values group q K

  abbrev ss : SideState
  ss = side_state state faults s

  abbrev uu : SideState
  uu = side_state state faults u

  abbrev g : Geometry
  g = Rule.geometry_of values group K

  abbrev first : List PortFault
  first = Rule.faults_of values group K.opening q

  abbrev start : ℕ
  start = Rule.doorbell_of values group K.opening q

  qs : IsQueueSide k q us ss
  qs = queue_side state faults group q K s is

  module _ (r : Result ℕ Cause) (drains : Drains ss r uu) (stays : Stays ss uu) where
    now : IsQueueSide k q us uu
    now = stays q k us ok.log qs

    -- where none is kept, none was
    quiet_before : u.kept ≡ None → s.kept ≡ None
    quiet_before none = none_before s.kept drains.failures (sym drains.takes.kept ∙ none)

    more : AreMore (faults s.pmr.port) (faults u.pmr.port)
    more f = let a = all_more drains.failures ss.faults drains.faults drains.takes.gained f in let b = ended_more ss drains.failures drains.faults r uu drains.ends f in omega arith

    pub drained_side : KeepsCount ss uu → KeepsTold ss uu → u.stored ≡ s.stored → IsSide values group q K u
    drained_side counts told stored = record {
      port = now.side;
      stored = ap (λ v. entries_in v.items) stored ∙ is.stored;
      says = record {
        is = (let r = is.says.is in record {
          geometry = drains.geometry ∙ r.geometry;
          queue = drains.queue ∙ r.queue;
          passed = now.passed;
          rung = now.rung;
          last = now.last;
          done = now.done;
          kept = now.kept;
          told = told first r.told;
          few = counts (Rule.port_of values group K.opening q).events q k us ok.log qs r.few;
          rings = drains.rings ∙ (r.rings ∙ ap (λ d. counted (Rule.port_of values group K.opening q).rings (rung_of start us d)) (sym drains.doorbell));
          bound = bound_then (Rule.port_of values group K.opening q) ss.port uu.port r.bound drains.bound;
        });
        whole = λ none. drains.doorbell ∙ is.says.whole (quiet_before none);
        stored = subst (λ v. AreStored us v.items) (sym stored) is.says.stored;
        shows = shows_still start us us (λ t ts at. at) ss.port.doorbell uu.port.doorbell ss.port.failed uu.port.failed ss.kept uu.kept (let a = drains.doorbell in omega arith) (λ some. ((λ none. some (quiet_before none)), drains.doorbell, λ m has. failed_more m ss.port.failed uu.port.failed (map (λ f. f.0) drains.failures) drains.takes.failed has)) (reports_of (Side q) K.charges) is.says.shows;
      };
      charged = charged_more g (Side q) K.charges first (faults s.pmr.port) (faults u.pmr.port) more is.charged;
    }

  -- ---- what may be claimed then

  pub all_below : (n : ℕ) → Drains ss (Ok n) uu → IsWhole ss uu → (t : Tx) (ts : List Tx) → IsAt t ts h → t.queue ≡ q → end_of start (of_queue q ts) + (writes t + descriptor_blocks t) ≤ uu.port.head
  all_below n drains whole t ts at mine =
      let rung = is.says.whole (none_before s.kept drains.failures (sym drains.takes.kept ∙ drains.ends.1)) in
      let head = whole q k us ok.log qs in
      let bell = drains.doorbell in
      let a = at_end start t (of_queue q ts) us (at_own q t ts h at mine) in
      omega arith

  pub below_named : (c : Cause) (n : ℕ) → Drains ss (Err c) uu → Stays ss uu → NamesTransaction c n → (t : Tx) (ts : List Tx) → IsAt t ts h → t.queue ≡ q → t.number < n → end_of start (of_queue q ts) + (writes t + descriptor_blocks t) ≤ uu.port.head
  below_named c n drains stays names t ts at mine less =
      let own = at_own q t ts h at mine in
      let done = done_before k q us ss uu c n ok.log qs drains stays names t (of_queue q ts) own less in
      let low = below_head k q us uu ok.log (stays q k us ok.log qs) t (of_queue q ts) own done in
      omega arith

  pub positive : (n : ℕ) (w : Why) → Stays ss uu → u.kept ≡ Some (n, w) → 1 ≤ n
  positive n w stays kept =
      let now = stays q k us ok.log qs in
      kept_number K.opening.base q start h uu.port.failed uu.port.doorbell n w ok.log.numbers (subst (λ o. IsKept start us uu.port.failed uu.port.pending uu.port.doorbell o) kept now.kept)

  -- ---- what stands behind the refusal

  pub failed_backed : (tx status : ℕ) → Drains ss (Err (Failed tx status)) uu → KeepsTold ss uu → (2 ^ 64 - 1 ≤ length uu.faults) ⊎ IsBacked g (report.Failed tx status) first ss.faults uu.faults
  failed_backed tx status drains told = go drains.failures drains.takes.gained drains.ends.0 (subst (λ o. IsTold first uu.faults o) drains.ends.1 (told first is.says.is.told))
    where
      last : (f : PortFault → Bool) → count_of f uu.faults ≡ count_of f drains.faults
      last f = ap (count_of f) drains.ends.2

      go : (fs : Failures) → AreGained fs ss.faults drains.faults → fs ≢ [] → IsTold first uu.faults (Some (tx, Status status)) → (2 ^ 64 - 1 ≤ length uu.faults) ⊎ IsBacked g (report.Failed tx status) first ss.faults uu.faults
      go fs gained some (inl full) = inl full
      go [] gained some (inr t) = absurd (some refl)
      go (f ∷ fs) gained some (inr t) = elim (kind_more f fs ss.faults drains.faults gained) [
        | inl full ↦ inl (let l = gained_up (f ∷ fs) ss.faults drains.faults gained in let e : length uu.faults ≡ length drains.faults = ap length drains.ends.2 in omega arith)
        | inr kind ↦ inr (record {
          more = λ x. let a = all_more (f ∷ fs) ss.faults drains.faults gained x in let b = last x in omega arith;
          kind = λ x. let a = kind x in let b = last (of_kind x) in omega arith;
          named = t.added;
        })
      ]

  pub off_backed_too : Drains ss (Err cause.Off) uu → (2 ^ 64 - 1 ≤ length uu.faults) ⊎ IsBacked g report.Off first ss.faults uu.faults
  off_backed_too drains = go is.charged
    where
      before : AreMore ss.faults drains.faults
      before = all_more drains.failures ss.faults drains.faults drains.takes.gained

      onward : IsBacked g report.Off first drains.faults uu.faults → IsBacked g report.Off first ss.faults uu.faults
      onward b = record { more = λ x. let a = before x in let c = b.more x in omega arith; kind = λ x. let a = before (of_kind x) in let c = b.kind x in omega arith; named = b.named }

      go : AreCharged g (Side q) K.charges first ss.faults → (2 ^ 64 - 1 ≤ length uu.faults) ⊎ IsBacked g report.Off first ss.faults uu.faults
      go (inl full) = inl (let l = gained_up drains.failures ss.faults drains.faults drains.takes.gained in let m = gained_longer drains.faults uu.faults drains.ends.0 in omega arith)
      go (inr was) = elim (off_backed g first drains.faults uu.faults (λ x. let a = was.more x in let b = before x in omega arith) drains.ends.0) [
        | inl full ↦ inl full
        | inr b ↦ inr (onward b)
      ]
