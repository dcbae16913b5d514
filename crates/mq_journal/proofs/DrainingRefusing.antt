-- A side that is taken, drained and given back.
use Rattle.std.proofs.Common.{◌≡◌, ◌≢◌, ◌⊎◌, ℕ, ◌+◌, ◌-◌, ◌<◌, ◌≤◌, ◌^◌, ◌==◌, min, nat_le, Bool, true, cond, List, [], ◌∷◌, length, sym, refl, ap, subst, ◌∙◌, inl, inr, arith, if◌then◌else◌}
use Rattle.std.specs.Prelude.{None, Some, Result, Ok, Err, OnOk}
use Rattle.std.proofs.lemmas.Bool.{cases_Bool, cases_lt, eq-eqb, false≢true, le-leb, lt-leb, ne_eqb}
use Rattle.mq_blocks.specs.Drive.{PortState}
use Rattle.mq_blocks.specs.declared.geometry.Geometry.{Geometry}
use Rattle.mq_drive.specs.Faults.{count_of}
use Rattle.mq_drive.specs.Steps.{PortFault}
use Rattle.mq_drive.specs.declared.port.Port.{Ghosts}
use Rattle.mq_ledger.specs.History.{IsAt, of_queue, writes}
use Rattle.mq_ledger.specs.Items.{descriptor_blocks, end_of}
use Rattle.mq_ledger.specs.declared.tx.Tx.{Tx}
use Rattle.mq_pages.specs.declared.page.PageCell.{PageCell}
use Rattle.mq_desk_laws.specs.Faults.{IsBacked, of_kind}
use Rattle.mq_desk_laws.specs.Groups.{GroupView}
use Rattle.mq_desk_laws.specs.Rule
use Rattle.mq_desk_laws.specs.Rule.{IsOk, IsSide}
use Rattle.mq_desk_laws.specs.Values.{Values}
use Rattle.mq_desk_laws.proofs.RuleTelling.{side_claimed}
use Rattle.mq_queue_side.specs.Counts.{KeepsCount}
use Rattle.mq_queue_side.specs.Drained.{Drains, IsWhole}
use Rattle.mq_queue_side.specs.Side.{IsKept, NewestBegins, SideState, side_state}
use Rattle.mq_queue_side.specs.Staying.{Stays}
use Rattle.mq_queue_side.specs.Told.{IsTold, KeepsTold}
use Rattle.mq_queue_side.specs.declared.answers.Cause.{Cause}
use Rattle.mq_queue_side.specs.declared.answers.Cause.TheVariants as cause
use Rattle.mq_queue_side.specs.declared.answers.Why.{Why}
use Rattle.mq_queue_side.specs.declared.answers.Why.TheVariants as why
use Rattle.mq_queue_side.specs.declared.root.Root.{Root}
use Rattle.mq_queue_side.specs.declared.side.QueueSide.{QueueSide}
use Rattle.mq_turns.specs.Chairs.{giving, holding}
use Rattle.mq_turns.specs.Desk.{IsTurn, Sees, refreshed, slot_of, turn_at}
use Rattle.mq_turns.specs.Lists.{Each, without}
use Rattle.mq_turns.specs.Marks.{claim_of, queues_of, shown}
use Rattle.mq_turns.specs.Meaning.{Meaning, charged, claimed, newest}
use Rattle.mq_turns.specs.Words.{after_clear, after_notice, same_turn}
use Rattle.mq_turns.specs.declared.rule.Known.{Known}
use Rattle.mq_turns.specs.declared.rule.Notice.TheVariants as notice
use Rattle.mq_turns.specs.declared.rule.Report.TheVariants as report
use Rattle.mq_turns.specs.declared.turn.Turn.TheVariants.{Side}
use Rattle.mq_turns.proofs.Lists.{each_map}
use Rattle.mq_turns.proofs.Meaning.{stays_now}
use Rattle.mq_turns.proofs.DeskSeen.{opening_seen, sees_before}
use Rattle.mq_journal.specs.Draining.{IsPassed, Passes, RefusesDrain, answer_upto, mark_after, named_above, report_of, status_of}
use Rattle.mq_journal.specs.Numbers
use Rattle.mq_journal.specs.Numbers.{HoldsSide, IsReported, Seat, Shared, ShowsReport, Start, reported}
use Rattle.mq_journal.specs.Values.{IsUnrung, Shows, StaysCut, StaysFailed}
use Rattle.mq_journal.proofs.Drained.{all_below, all_more, below_named, drained_side, failed_backed, off_backed_too, positive}
use Rattle.mq_journal.proofs.NumbersMarking.{side_alone}
use Rattle.mq_journal.proofs.NumbersReports.{side_reported}
use Rattle.mq_journal.proofs.ValuesSides.{queue_side}

-- ---- what is answered

pub on_ok_both : {T E : Type 0} (r : Result T E) {A B C : Type 0} → (A → B → C) → OnOk r A → OnOk r B → OnOk r C
on_ok_both (Ok x) f a b = f a b
on_ok_both (Err e) f a b = tt

-- what a failure of a greater number names
abbrev Named : Cause → ℕ → Type 0
Named cause.Off n = ⊥
Named (cause.Failed tx status) n = tx ≡ n
Named (cause.FailedHome block status) n = ⊥
Named (cause.Stopped tx w) n = tx ≡ n

greater : (at tx n : ℕ) → (if nat_le tx at then None else Some tx) ≡ Some n → (tx ≡ n) × (at < tx)
greater at tx n e = elim (cases_Bool (nat_le tx at)) [
  | inl low ↦ absurd (let k : None ≡ Some n = rw low at e in cc)
  | inr high ↦ (let k : Some tx ≡ Some n = rw high at e in cc, elim (cases_lt at tx) [ inl above ↦ above | inr under ↦ absurd (false≢true (sym high ∙ le-leb tx at under)) ])
]

named_is : (at n : ℕ) (c : Cause) → named_above at c ≡ Some n → Named c n × (at < n)
named_is at n cause.Off e = absurd cc
named_is at n (cause.Failed tx status) e = let g = greater at tx n e in (g.0, let a = g.0 in let b = g.1 in omega arith)
named_is at n (cause.FailedHome block status) e = absurd cc
named_is at n (cause.Stopped tx w) e = let g = greater at tx n e in (g.0, let a = g.0 in let b = g.1 in omega arith)

pub mark_named : (at n : ℕ) (c : Cause) → named_above at c ≡ Some n → n ≡ mark_after (Err c)
mark_named at n cause.Off e = absurd cc
mark_named at n (cause.Failed tx status) e = sym (greater at tx n e).0
mark_named at n (cause.FailedHome block status) e = absurd cc
mark_named at n (cause.Stopped tx w) e = sym (greater at tx n e).0

pub above_at : (at n : ℕ) (c : Cause) → named_above at c ≡ Some n → at < n
above_at at n c e = (named_is at n c e).1

-- a failure of a greater number is not answered, and any other refusal is
pub unanswered : (at n : ℕ) (c : Cause) → named_above at c ≡ Some n → answer_upto at (Err c) ≡ Ok tt
unanswered at n cause.Off e = absurd cc
unanswered at n (cause.Failed tx status) e = rw (lt-leb tx at (greater at tx n e).1) refl
unanswered at n (cause.FailedHome block status) e = absurd cc
unanswered at n (cause.Stopped tx w) e = rw (lt-leb tx at (greater at tx n e).1) refl

lesser : (at tx : ℕ) → (if nat_le tx at then None else Some tx) ≡ None → nat_le tx at ≡ true
lesser at tx e = elim (cases_Bool (nat_le tx at)) [
  | inl low ↦ low
  | inr high ↦ absurd (let k : Some tx ≡ None = rw high at e in cc)
]

pub answered : (at : ℕ) (c : Cause) → named_above at c ≡ None → answer_upto at (Err c) ≡ Err c
answered at cause.Off e = refl
answered at (cause.Failed tx status) e = rw (lesser at tx e) refl
answered at (cause.FailedHome block status) e = refl
answered at (cause.Stopped tx w) e = rw (lesser at tx e) refl

-- ---- a transaction whose send was cut

pub some_none : {A : Type 0} {x : A} → Some x ≡ None → ⊥
some_none e = cc

pub unrung_of : (from : ℕ) (ts : List Tx) (d n : ℕ) → NewestBegins from ts d n → IsUnrung from ts d n
unrung_of from [] d n begins = absurd begins
unrung_of from (t ∷ ts) d n begins = record { t = t; ts = ts; at = inl (refl, refl); number = sym begins.0; above = let e = begins.1 in omega arith }

-- ---- what is held

module _ {A B C D : Type 0} where
  left_alone : (about : ℕ → Bool) (L : Known A B C D) (slot : ℕ) (l : List (ℕ × Known A B C D)) → ((k : ℕ) → about k ≡ true → k ≡ slot) → Each (λ h. h.0 < slot) l → without slot (refreshed about L l) ≡ l
  left_alone about L slot [] alone above = refl
  left_alone about L slot (h ∷ hs) alone above =
      let other : h.0 ≢ slot = λ e. let a = above.0 in absurd (omega arith) in
      let rest = left_alone about L slot hs alone above.1 in
      elim (cases_Bool (about h.0)) [
        | inl found ↦ absurd (other (alone h.0 found))
        | inr apart ↦ ap (λ b. cond b (without slot (refreshed about L hs)) ((h.0, cond (about h.0) L h.1) ∷ without slot (refreshed about L hs))) (ne_eqb h.0 slot other)
            ∙ (ap (λ b. (h.0, cond b L h.1) ∷ without slot (refreshed about L hs)) apart ∙ ap (λ t. h ∷ t) rest)
      ]

  -- the slot that was taken last is given back
  pub taken_back : (about : ℕ → Bool) (L K : Known A B C D) (slot : ℕ) (l : List (ℕ × Known A B C D)) → ((k : ℕ) → about k ≡ true → k ≡ slot) → Each (λ h. h.0 < slot) l → without slot (refreshed about L ((slot, K) ∷ l)) ≡ l
  taken_back about L K slot l alone above =
      ap (λ b. cond b (without slot (refreshed about L l)) ((slot, cond (about slot) L K) ∷ without slot (refreshed about L l))) (eq-eqb slot slot refl)
      ∙ left_alone about L slot l alone above

module _ {P E : Type 0} {G : Ghosts P} (state : P → PortState) (faults : P → List PortFault) (group : GroupView E) where
  abbrev values : Values (QueueSide P E G) (Root P G) E
  values = Numbers.values state faults group

  abbrev μ : Meaning PageCell (QueueSide P E G) (Root P G) E
  μ = Numbers.machine state faults group

  -- ---- a side that was taken

  pub taken_seen : (slot : ℕ) (K : Shared P E G) (v : Seat P E G) → Sees μ v K → Sees μ (holding slot K v) K
  taken_seen slot K v s = record { opening = s.opening; ok = s.ok; few = s.few; held = ((s.ok, stays_now _ _ _ K), s.held); seen = s.seen; drew = s.drew; marked = s.marked; reader = s.reader; own = s.own }

  pub taken_holds : (o : Start P E G) (q : ℕ) (s : QueueSide P E G) (K : Shared P E G) (v : Seat P E G) → IsTurn o (Side q) → Each (λ h. h.0 < slot_of o (Side q)) v.held → IsSide values group q K s → HoldsSide state faults group o q s (holding (slot_of o (Side q)) K v)
  taken_holds o q s K v turn above is = record {
    turn = turn;
    holds = let slot = slot_of o (Side q) in let one : cond {A = ℕ} (slot == slot) 1 0 ≡ 1 = ap (λ (b : Bool). cond {A = ℕ} b 1 0) (eq-eqb slot slot refl) in omega arith;
    is = ((λ e. is), each_map _ _ (λ h low same. absurd (omega (arith, low, same))) v.held above);
  }

  -- ---- its drain

  module _ (q : ℕ) (K : Shared P E G) (s u : QueueSide P E G) (ok : IsOk values group K) (is : IsSide values group q K s)
      (stays : Stays (side_state state faults s) (side_state state faults u)) (counts : KeepsCount (side_state state faults s) (side_state state faults u)) (told : KeepsTold (side_state state faults s) (side_state state faults u)) (stored : u.stored ≡ s.stored) where
    abbrev us : List Tx
    us = Rule.own_of values group q K

    abbrev from : ℕ
    from = Rule.doorbell_of values group K.opening q

    abbrev ss : SideState
    ss = side_state state faults s

    abbrev uu : SideState
    uu = side_state state faults u

    abbrev first : List PortFault
    first = Rule.faults_of values group K.opening q

    abbrev g : Geometry
    g = Rule.geometry_of values group K

    side_then : (r : Result ℕ Cause) → Drains ss r uu → IsSide values group q K u
    side_then r drains = drained_side state faults group q K s u ok is r drains stays counts told stored

    -- after a drain all of the queue is done
    pub shows_all : (n low : ℕ) → Drains ss (Ok n) uu → IsWhole ss uu → IsSide values group q (claimed (claim_of q low (newest K)) K) u
    shows_all n low drains whole = side_claimed values group (claim_of q low (newest K)) K u ok (side_then (Ok n) drains) (λ t ts at mine le. all_below state faults group q K s u ok is n drains whole t ts at mine)

    -- and before a failure all below its number
    number_low : (c : Cause) (n : ℕ) → Drains ss (Err c) uu → Named c n → 1 ≤ n
    number_low cause.Off n drains named = absurd named
    number_low (cause.Failed m status) n drains named = let a = positive state faults group q K s u ok is m (why.Status status) stays drains.ends.1 in omega arith
    number_low (cause.FailedHome block status) n drains named = absurd named
    number_low (cause.Stopped m w) n drains named = let a = positive state faults group q K s u ok is m w stays drains.ends.1 in omega arith

    pub low_of : (at n : ℕ) (c : Cause) → Drains ss (Err c) uu → named_above at c ≡ Some n → 1 ≤ n
    low_of at n c drains named = number_low c n drains (named_is at n c named).0

    below : (c : Cause) (n : ℕ) → Drains ss (Err c) uu → Named c n → (t : Tx) (ts : List Tx) → IsAt t ts (Rule.history_of values group K) → t.queue ≡ q → t.number < n → end_of from (of_queue q ts) + (writes t + descriptor_blocks t) ≤ uu.port.head
    below cause.Off n drains named t ts at mine less = absurd named
    below (cause.Failed m status) n drains named t ts at mine less = below_named state faults group q K s u ok is (cause.Failed m status) n drains stays named t ts at mine less
    below (cause.FailedHome block status) n drains named t ts at mine less = absurd named
    below (cause.Stopped m w) n drains named t ts at mine less = below_named state faults group q K s u ok is (cause.Stopped m w) n drains stays named t ts at mine less

    pub shows_below : (at n : ℕ) (c : Cause) → Drains ss (Err c) uu → named_above at c ≡ Some n → IsSide values group q (claimed (claim_of q n (newest K)) K) u
    shows_below at n c drains named =
        let names = (named_is at n c named).0 in
        side_claimed values group (claim_of q n (newest K)) K u ok (side_then (Err c) drains) (λ t ts there mine le. below c n drains names t ts there mine (let low = number_low c n drains names in omega arith))

    -- ---- its refusal

    kept_now : (w : ℕ × Why) → u.kept ≡ Some w → IsKept from us uu.port.failed uu.port.pending uu.port.doorbell (Some w)
    kept_now w kept = subst (λ o. IsKept from us uu.port.failed uu.port.pending uu.port.doorbell o) kept (stays q (Rule.core_of values group K) us ok.log (queue_side state faults group q K s is)).kept

    stays_failed : (n status : ℕ) → u.kept ≡ Some (n, why.Status status) → StaysFailed from us uu.port.doorbell uu.port.failed u.kept n
    stays_failed n status kept = let by = kept_now (n, why.Status status) kept in ((λ none. some_none (sym kept ∙ none)), by.1, by.3)

    stays_cut : (n : ℕ) → u.kept ≡ Some (n, why.Off) → StaysCut from us uu.port.doorbell u.kept n
    stays_cut n kept = ((λ none. some_none (sym kept ∙ none)), unrung_of from us uu.port.doorbell n (kept_now (n, why.Off) kept).1)

    shows_it : (c : Cause) → Drains ss (Err c) uu → Shows from us uu.port.doorbell uu.port.failed u.kept (report_of c)
    shows_it cause.Off drains = tt
    shows_it (cause.Failed n status) drains = stays_failed n status drains.ends.1
    shows_it (cause.FailedHome block status) drains = tt
    shows_it (cause.Stopped n why.Off) drains = stays_cut n drains.ends.1
    shows_it (cause.Stopped n (why.Status status)) drains = stays_failed n status drains.ends.1

    -- a failure that was kept is named by a fault since the opening, and charges none
    stopped_backed : (n : ℕ) (w : Why) → Drains ss (Err (cause.Stopped n w)) uu → (2 ^ 64 - 1 ≤ length uu.faults) ⊎ IsBacked g (report.Stopped n (status_of w)) first ss.faults uu.faults
    stopped_backed n w drains = go w (subst (λ o. IsTold first uu.faults o) drains.ends.1 (told first is.says.is.told))
      where
        more : (f : PortFault → Bool) → count_of f ss.faults ≤ count_of f uu.faults
        more f = let a = all_more drains.failures ss.faults drains.faults drains.takes.gained f in let b : count_of f uu.faults ≡ count_of f drains.faults = ap (count_of f) drains.ends.2 in omega arith

        go : (v : Why) → IsTold first uu.faults (Some (n, v)) → (2 ^ 64 - 1 ≤ length uu.faults) ⊎ IsBacked g (report.Stopped n (status_of v)) first ss.faults uu.faults
        go v (inl full) = inl full
        go why.Off (inr t) = inr (record { more = more; kind = λ f. let a = more (of_kind f) in omega arith; named = t.added })
        go (why.Status status) (inr t) = inr (record { more = more; kind = λ f. let a = more (of_kind f) in omega arith; named = t.added })

    backed : (c : Cause) → Drains ss (Err c) uu → (2 ^ 64 - 1 ≤ length uu.faults) ⊎ IsBacked g (report_of c) first ss.faults uu.faults
    backed cause.Off drains = off_backed_too state faults group q K s u ok is drains
    backed (cause.Failed n status) drains = failed_backed state faults group q K s u ok is n status drains told
    backed (cause.FailedHome block status) drains = absurd drains.ends
    backed (cause.Stopped n w) drains = stopped_backed n w drains

    -- with its report the side is what the rule says
    pub shows_refusal : (c : Cause) → Drains ss (Err c) uu → IsSide values group q (charged (reported q (report_of c)) K) u
    shows_refusal c drains = side_reported state faults group q K s u (report_of c) (side_then (Err c) drains) (shows_it c drains) is.charged (backed c drains)

  -- ---- what the session knows then

  abbrev about : Start P E G → ℕ → ℕ → Bool
  about o q k = same_turn (Side q) (turn_at o k)

  pub passes : (o : Start P E G) (q at mark : ℕ) (v w new : Seat P E G) (K1 : Shared P E G) → v.opening ≡ Some o → Each (λ h. h.0 < slot_of o (Side q)) v.held → at ≤ v.seen → at < mark → w ≡ holding (slot_of o (Side q)) K1 v → IsPassed state faults group o q mark w new → Passes state faults group q at mark v new
  passes o q at mark v w new K1 opening above seen less held p =
      let K = p.known in
      let start : K.opening ≡ o = opening_seen μ o K w (ap (λ (z : Seat P E G). z.opening) held ∙ opening) p.sees in
      let top : w.seen ≡ v.seen = ap (λ (z : Seat P E G). z.seen) held in
      let reach : at ≤ min (mark - 1) (newest K) = let a = p.sees.seen in omega arith in
      let L = claimed (claim_of q mark (newest K)) K in
      let back : without (slot_of o (Side q)) (refreshed (about K.opening q) L ((slot_of o (Side q), K1) ∷ v.held)) ≡ v.held = taken_back (about K.opening q) L K1 (slot_of o (Side q)) v.held (λ k found. side_alone o q k (subst (λ z. about z q k ≡ true) start found)) above in
      record {
        known = K;
        sees = sees_before μ (slot_of o (Side q)) K1 K v (subst (λ (z : Seat P E G). Sees μ z K) held p.sees);
        reach = reach;
        is = p.is ∙ (ap (λ (z : Seat P E G). giving (slot_of o (Side q)) (after_clear q mark K z)) held ∙ ap (λ l. record v { hand = 0; held = l; reading = shown (queues_of v.opening) q (min (mark - 1) (newest K)) v.reading }) back);
      }

  pub refuses : (o : Start P E G) (q : ℕ) (c : Cause) (v w new : Seat P E G) (K1 : Shared P E G) → v.opening ≡ Some o → Each (λ h. h.0 < slot_of o (Side q)) v.held → w ≡ holding (slot_of o (Side q)) K1 v → IsReported state faults group o q (report_of c) w new → RefusesDrain q c v new
  refuses o q c v w new K1 opening above held p =
      let K = p.known in
      let start : K.opening ≡ o = opening_seen μ o K w (ap (λ (z : Seat P E G). z.opening) held ∙ opening) p.sees in
      let r = reported q (report_of c) in
      let L = charged r K in
      let back : without (slot_of o (Side q)) (refreshed (about K.opening q) L ((slot_of o (Side q), K1) ∷ v.held)) ≡ v.held = taken_back (about K.opening q) L K1 (slot_of o (Side q)) v.held (λ k found. side_alone o q k (subst (λ z. about z q k ≡ true) start found)) above in
      p.is ∙ (ap (λ (z : Seat P E G). giving (slot_of o (Side q)) (after_notice μ (notice.Charge r) K z)) held ∙ ap (λ l. record v { hand = 0; held = l; reading = record v.reading { charged = r ∷ v.reading.charged } }) back)
