-- The sides of the queues are drained one after another.
use Rattle.std.proofs.Common.{◌≡◌, ℕ, suc, ◌+◌, ◌-◌, ◌<◌, ◌≤◌, min, nat_le, List, ◌∷◌, length, sym, refl, ap, subst, ◌∙◌, inl, inr, arith, if◌then◌else◌}
use Rattle.std.specs.Prelude.{Some, Result, Ok, Err}
use Rattle.std.proofs.lemmas.Bool.{cases_Bool, leb-true}
use Rattle.mq_blocks.specs.Drive.{PortState}
use Rattle.mq_drive.specs.Steps.{PortFault}
use Rattle.mq_drive.specs.declared.port.Port.{Ghosts}
use Rattle.mq_pages.specs.declared.page.PageCell.{PageCell}
use Rattle.mq_desk_laws.specs.Groups.{GroupView}
use Rattle.mq_queue_side.specs.declared.answers.Cause.{Cause}
use Rattle.mq_queue_side.specs.declared.answers.Cause.TheVariants as cause
use Rattle.mq_queue_side.specs.declared.root.Root.{Root}
use Rattle.mq_queue_side.specs.declared.side.QueueSide.{QueueSide}
use Rattle.mq_turns.specs.Lists.{Each}
use Rattle.mq_turns.specs.Marks.{queues_of, shown}
use Rattle.mq_turns.specs.Meaning.{newest}
use Rattle.mq_turns.specs.declared.rule.Reading.{Reading}
use Rattle.mq_turns.proofs.Lists.{each_map}
use Rattle.mq_turns.proofs.Swept.{Passing, none_passed, shows_next}
use Rattle.mq_journal.specs.Draining.{Passes, RefusesDrain, WasDrained, answer_upto, report_of}
use Rattle.mq_journal.specs.Numbers.{Seat, Shared, Start, reported}
use Rattle.mq_journal.specs.Sweeping.{HasDrained, HasSwept, NamesUpto, WasRefused}

-- ---- what is answered

-- a failure that is answered by its number names one up to this
low : (at tx : ℕ) (a c : Cause) (r : Result (Unit {0}) Cause) → Err c ≡ r → r ≡ (if nat_le tx at then Err a else Ok tt) → (c ≡ a) × (tx ≤ at)
low at tx a c r is e = elim (cases_Bool (nat_le tx at)) [
  | inl under ↦ (let k : r ≡ Err a = rw under at e in cc, leb-true tx at under)
  | inr above ↦ absurd (let k : r ≡ Ok tt = rw above at e in cc)
]

names : (at : ℕ) (c : Cause) (r : Result ℕ Cause) → Err c ≡ answer_upto at r → NamesUpto at c
names at c (Ok n) e = absurd cc
names at c (Err cause.Off) e = let k : c ≡ cause.Off = cc in subst (NamesUpto at) (sym k) tt
names at c (Err (cause.Failed tx status)) e = let l = low at tx (cause.Failed tx status) c _ e refl in subst (NamesUpto at) (sym l.0) l.1
names at c (Err (cause.FailedHome block status)) e = let k : c ≡ cause.FailedHome block status = cc in subst (NamesUpto at) (sym k) tt
names at c (Err (cause.Stopped tx why)) e = let l = low at tx (cause.Stopped tx why) c _ e refl in subst (NamesUpto at) (sym l.0) l.1

module _ {P E : Type 0} {G : Ghosts P} (state : P → PortState) (faults : P → List PortFault) (group : GroupView E) where
  -- ---- what changes

  changed : (u w : Seat P E G) (h : ℕ) (r : Reading PageCell (QueueSide P E G) (Root P G) E) → w ≡ record u { hand = h; reading = r } → w ≡ record u { hand = h; reading = w.reading }
  changed u w h r is = subst (λ (z : Seat P E G). z ≡ record u { hand = h; reading = z.reading }) (sym is) refl

  changed_both : (u w : Seat P E G) (h : ℕ) (r : Reading PageCell (QueueSide P E G) (Root P G) E) → w ≡ record u { hand = h; reading = r } → w ≡ record u { hand = w.hand; reading = w.reading }
  changed_both u w h r is = subst (λ (z : Seat P E G). z ≡ record u { hand = z.hand; reading = z.reading }) (sym is) refl

  along : (v u w : Seat P E G) (n : ℕ) → u ≡ record v { hand = u.hand; reading = u.reading } → w ≡ record u { hand = n; reading = w.reading } → w ≡ record v { hand = n; reading = w.reading }
  along v u w n first is = is ∙ ap (λ (z : Seat P E G). record z { hand = n; reading = w.reading }) first

  -- ---- queue by queue

  pub drained_none : (queues at : ℕ) (v : Seat P E G) → HasDrained state faults group queues 0 at v v
  drained_none queues at v = record {
    is = refl;
    reading = record { done = omega arith; base = refl; pages = refl; answers = refl; charged = refl };
    passed = none_passed queues at v.reading;
  }

  -- the session still knows of the number, and holds what it held
  pub drained_seen : (queues q at : ℕ) (v u : Seat P E G) → HasDrained state faults group queues q at v u → at ≤ v.seen → at ≤ u.seen
  drained_seen queues q at v u h le = let same = ap (λ (z : Seat P E G). z.seen) h.is in omega arith

  drained_held : (queues q at : ℕ) (v u : Seat P E G) → HasDrained state faults group queues q at v u → u.held ≡ v.held
  drained_held queues q at v u h = ap (λ (z : Seat P E G). z.held) h.is

  pub drained_above : (pages queues q at : ℕ) (v u : Seat P E G) → HasDrained state faults group queues q at v u → Each (λ (h : ℕ × Shared P E G). h.0 < pages) v.held → Each (λ (h : ℕ × Shared P E G). h.0 < pages + q) u.held
  drained_above pages queues q at v u h low = subst (Each (λ (x : ℕ × Shared P E G). x.0 < pages + q)) (sym (drained_held queues q at v u h)) (each_map _ _ (λ x lt. omega arith) v.held low)

  pub drained_next : (o : Start P E G) (queues q at mark : ℕ) (v u w : Seat P E G) → u.opening ≡ Some o → queues ≡ length o.sides → HasDrained state faults group queues q at v u → Passes state faults group q at mark u w → HasDrained state faults group queues (q + 1) at v w
  drained_next o queues q at mark v u w opening sides h p =
      let n = newest p.known in
      let reach = p.reach in
      let many : queues_of u.opening ≡ queues = ap queues_of opening ∙ sym sides in
      let read : w.reading ≡ shown queues q (min (mark - 1) n) u.reading = ap (λ (z : Seat P E G). z.reading) p.is ∙ ap (λ m. shown m q (min (mark - 1) n) u.reading) many in
      let s : Passing queues q at (mark - 1) u.reading w.reading = subst (Passing queues q at (mark - 1) u.reading) (sym read) (shows_next queues q at (mark - 1) n u.reading (omega arith) h.passed.passed) in
      let kept = s.kept in
      let was = h.reading in
      let before = was.done in
      let next : suc q ≡ q + 1 = omega arith in
      record {
        is = along v u w w.hand h.is (changed_both u w _ _ p.is);
        reading = record { done = omega arith; base = kept.1 ∙ was.base; pages = kept.2 ∙ was.pages; answers = kept.3 ∙ was.answers; charged = kept.4 ∙ was.charged };
        passed = record { passed = λ lt. (s.swept ∙ next, omega arith); ended = λ lt all. let e = s.ended (omega arith) in omega arith };
      }

  pub passes_hand : (q at mark : ℕ) (u w : Seat P E G) → Passes state faults group q at mark u w → w.hand ≡ 0
  passes_hand q at mark u w p = ap (λ (z : Seat P E G). z.hand) p.is

  -- ---- what is left

  pub all_drained : (queues q at : ℕ) (v w : Seat P E G) → w.hand ≡ 0 → HasDrained state faults group queues q at v w → HasSwept state faults group v w
  all_drained queues q at v w none h = record {
    is = h.is ∙ ap (λ n. record v { hand = n; reading = w.reading }) none;
    reading = h.reading;
  }

  pub refused : (queues q at : ℕ) (c : Cause) (v u w : Seat P E G) → q < queues → HasDrained state faults group queues q at v u → WasDrained state faults group q at u w (Err c) → RefusesDrain q c u w → WasRefused state faults group queues at c v w
  refused queues q at c v u w below h drained is =
      let was = h.reading in
      let before = was.done in
      let same = ap (λ (z : Seat P E G). z.reading.done) is in
      record {
        queue = q;
        below = below;
        before = u;
        first = h;
        drained = drained;
        is = along v u w 0 h.is (changed u w _ _ is);
        done = omega arith;
        base = ap (λ (z : Seat P E G). z.reading.base) is ∙ was.base;
        pages = ap (λ (z : Seat P E G). z.reading.pages) is ∙ was.pages;
        answers = ap (λ (z : Seat P E G). z.reading.answers) is ∙ was.answers;
        charged = ap (λ (z : Seat P E G). z.reading.charged) is ∙ ap (λ l. reported q (report_of c) ∷ l) was.charged;
      }

  pub names_upto : (q at : ℕ) (c : Cause) (u w : Seat P E G) → WasDrained state faults group q at u w (Err c) → NamesUpto at c
  names_upto q at c u w drained = names at c drained.result drained.is
