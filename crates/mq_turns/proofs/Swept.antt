-- A sweep over the marks, queue by queue.
use Rattle.std.proofs.Common.{◌≡◌, ℕ, suc, ◌-◌, ◌<◌, ◌≤◌, eqb, min, nat_le, List, [], ◌∷◌, length, sym, refl, ap, ◌∙◌, subst, arith, inl, inr, Some}
use Rattle.std.proofs.lemmas.Bool.{cases_Bool, eq-eqb, eqb-true, eqb-false, leb-false}
use Rattle.mq_turns.specs.Lists.{Each}
use Rattle.mq_turns.specs.Meaning.{Meaning, Grows, newest}
use Rattle.mq_turns.specs.Marks.{mark_of, queues_of, passed, shown, DoneTo, Reader}
use Rattle.mq_turns.specs.Words.{after_peek, after_clear, after_notice}
use Rattle.mq_turns.specs.Desk.{Sees, Below}
use Rattle.mq_turns.specs.Swept.{after_count, least_below, HasPassed, Sweeping, AfterFront, AfterMarks}
use Rattle.mq_turns.specs.declared.rule.MarkAnswer.TheVariants.{Front}
use Rattle.mq_turns.specs.declared.rule.Notice.TheVariants as notice
use Rattle.mq_turns.specs.declared.rule.Opening.{Opening}
use Rattle.mq_turns.specs.declared.rule.Known.{Known}
use Rattle.mq_turns.specs.declared.rule.Reading.{Reading}
use Rattle.mq_turns.specs.declared.rule.ChairView.{ChairView}
use Rattle.mq_turns.proofs.DeskSeen.{opening_seen}

module _ {P Q R E : Type 0} where
  pub record Passing (queues q low n : ℕ) (r t : Reading P Q R E) : Type 0 where
    pub kept : (r.done ≤ t.done) × (t.base ≡ r.base) × (t.pages ≡ r.pages) × (t.answers ≡ r.answers) × (t.charged ≡ r.charged)
    pub swept : t.swept ≡ suc q
    pub low_is : min low n ≤ t.low
    pub ended : queues ≤ suc q → min low n ≤ t.done

  passing : (queues q low m n : ℕ) (r : Reading P Q R E) → min low n ≤ m → Passing queues q low n r (passed queues (suc q) m r)
  passing queues q low m n r le = elim (cases_Bool (nat_le queues (suc q))) [
    | inl all ↦ record { kept = rw all (omega arith, refl, refl, refl, refl); swept = refl; low_is = le; ended = λ lt. rw all (omega arith) }
    | inr some_left ↦ let more = leb-false queues (suc q) some_left in record { kept = rw some_left (omega arith, refl, refl, refl, refl); swept = refl; low_is = le; ended = λ lt. absurd (omega arith) }
  ]

  pub shows_next : (queues q low n m : ℕ) (r : Reading P Q R E) → low ≤ m → (0 < q → (r.swept ≡ q) × (low ≤ r.low)) → Passing queues q low n r (shown queues q (min n m) r)
  shows_next queues q low n m r le before = elim (cases_Bool (eqb q 0)) [
    | inl first ↦ let z = eqb-true q 0 first in rw first (subst (λ i. Passing queues i low n r (passed queues 1 (min n m) r)) (sym z) (passing queues 0 low (min n m) n r (omega arith)))
    | inr later ↦
        let b = before (let ne = eqb-false q 0 later in omega arith) in
        let own = b.1 in
        rw (later, eq-eqb q r.swept (sym b.0)) (passing queues q low (min r.low (min n m)) n r (omega arith))
  ]

pub none_passed : {P Q R E : Type 0} (queues n : ℕ) (r : Reading P Q R E) → HasPassed queues 0 n r
none_passed queues n r = record { passed = λ lt. absurd (omega arith); ended = λ lt. absurd (omega arith) }

pub least_le : (n : ℕ) (ms : List ℕ) → least_below n ms ≤ n
least_le n [] = omega arith
least_le n (m ∷ ms) = let ih = least_le n ms in omega arith

module _ {P Q R E : Type 0} (μ : Meaning P Q R E) where
  -- the counter is read
  pub sweep_begins : (queues n : ℕ) (v w : ChairView P Q R E) → w ≡ record v { seen = n } → (K : Known P Q R E) × (newest K ≡ n) × Sees μ v K → Below n v → Sweeping μ queues 0 n v w
  sweep_begins queues n v w is known below = record {
    counter = n;
    marks = [];
    reading = v.reading;
    is = is;
    counted = known;
    below = below;
    read = (refl, tt);
    low_is = refl;
    kept = (omega arith, refl, refl, refl, refl);
    passes = none_passed queues n v.reading;
  }

  -- all queues are passed
  pub passed_done : (o : Opening P Q R) (n : ℕ) (v : ChairView P Q R E) → v.opening ≡ Some o → HasPassed (length o.sides) (length o.sides) n v.reading → (K : Known P Q R E) → Sees μ v K → DoneTo μ n K
  passed_done o n v start z K s m e at le =
      let own = s.marked.own m e at in
      let same : K.opening ≡ o = opening_seen μ o K v start s in
      let sides : length K.opening.sides ≡ length o.sides = ap (λ p. length p.sides) same in
      let high = z.ended (omega arith) (omega arith) in
      s.reader.done m e at (omega arith)

  -- what the chair sees at a mark is to be seen by what it was before, except for its sweep
  before_sweep : (queues q low : ℕ) (K : Known P Q R E) (v w : ChairView P Q R E) → Sees μ w K → (z : Sweeping μ queues q low v w) → Sees μ (after_count z.counter v) K
  before_sweep queues q low K v w sees z =
      let s : Sees μ (record v { seen = z.counter; reading = z.reading }) K = subst (λ u. Sees μ u K) z.is sees in
      let r : Reader μ K z.reading = s.reader in
      let kept = z.kept in
      let later : z.reading.done ≤ newest K = r.last in
      let base : z.reading.base ≤ K.word = r.base in
      record {
        opening = s.opening;
        ok = s.ok;
        few = s.few;
        held = s.held;
        seen = s.seen;
        drew = s.drew;
        marked = s.marked;
        reader = record {
          low = omega arith;
          swept = λ m e at le lt. absurd (omega arith);
          last = omega arith;
          done = λ m e at le. r.done m e at (omega arith);
          base = omega arith;
          pages = subst (Each (λ g. μ.ok g.2 × Grows g.2 K × μ.page g.0 g.2 g.1)) kept.2 r.pages;
        };
        own = s.own;
      }

  -- one mark more is read
  pub sweep_next : (o : Opening P Q R) (q low mark : ℕ) (K : Known P Q R E) (v w x : ChairView P Q R E) → v.opening ≡ Some o → x ≡ after_peek q mark K w → mark_of q K.claims ≡ mark → Sees μ w K → Sweeping μ (length o.sides) q low v w
      → Sweeping μ (length o.sides) (suc q) (min low (mark - 1)) v x
  sweep_next o q low mark K v w x start is read s z =
      let r : Reading P Q R E = z.reading in
      let high : z.counter ≤ newest K = let a = s.seen in let b = ap (λ (u : ChairView P Q R E). u.seen) z.is in omega arith in
      let least = z.low_is in
      let le = least_le z.counter z.marks in
      let p = shows_next (length o.sides) q low (mark - 1) (newest K) r (omega arith) z.passes.passed in
      let kept = p.kept in
      let was = z.kept in
      let many : length z.marks ≡ q = z.read.0 in
      record {
        counter = z.counter;
        marks = mark ∷ z.marks;
        reading = shown (length o.sides) q (min (mark - 1) (newest K)) r;
        is = is ∙ (ap (after_peek q mark K) z.is ∙ ap (λ c. record v { seen = z.counter; reading = shown (queues_of c) q (min (mark - 1) (newest K)) r }) start);
        counted = z.counted;
        below = z.below;
        read = (ap suc many, ((K, ap (λ i. mark_of i K.claims) many ∙ read, before_sweep (length o.sides) q low K v w s z), z.read.1));
        low_is = ap (λ m. min m (mark - 1)) least;
        kept = (omega arith, kept.1 ∙ was.1, kept.2 ∙ was.2, kept.3 ∙ was.3, kept.4 ∙ was.4);
        passes = record { passed = λ lt. (p.swept, p.low_is); ended = λ lt all. p.ended all };
      }

  -- all marks are read
  pub sweep_ends : (o : Opening P Q R) (low : ℕ) (v w : ChairView P Q R E) → v.opening ≡ Some o → Sweeping μ (length o.sides) (length o.sides) low v w → AfterMarks μ o low v w
  sweep_ends o low v w start z = record {
    sweep = z;
    done = passed_done o low w (ap (λ (u : ChairView P Q R E). u.opening) z.is ∙ start) (subst (λ (u : ChairView P Q R E). HasPassed (length o.sides) (length o.sides) low u.reading) (sym z.is) z.passes);
  }

  -- what is seen once the front is kept was to be seen before
  before_kept : (n : ℕ) (K : Known P Q R E) (v : ChairView P Q R E) → Sees μ (record v { reading = record v.reading { answers = Front n ∷ v.reading.answers } }) K → Sees μ v K
  before_kept n K v s = record {
    opening = s.opening;
    ok = s.ok;
    few = s.few;
    held = s.held;
    seen = s.seen;
    drew = s.drew;
    marked = s.marked;
    reader = let r = s.reader in record { low = r.low; swept = r.swept; last = r.last; done = r.done; base = r.base; pages = r.pages };
    own = s.own;
  }

  -- the front is kept
  pub keeps_front : (o : Opening P Q R) (front : ℕ) (v w x : ChairView P Q R E) (K : Known P Q R E) → AfterMarks μ o front v w → x ≡ after_notice μ (notice.Front front) K w → AfterFront μ o front v x
  keeps_front o front v w x K marks is = record {
    swept = w;
    marks = marks;
    is = is;
    done = λ L sees. marks.done L (before_kept front L w (subst (λ (u : ChairView P Q R E). Sees μ u L) is sees));
  }

  -- one queue more is cleared, with a mark above n, by a chair that has seen n
  pub clear_passes : (o : Opening P Q R) (q low n : ℕ) (K : Known P Q R E) (v w : ChairView P Q R E) → v.opening ≡ Some o → w ≡ after_clear q low K v → Sees μ v K → n < low → n ≤ v.seen → HasPassed (length o.sides) q n v.reading
      → HasPassed (length o.sides) (suc q) n w.reading
  clear_passes o q low n K v w start is s above high z =
      let last = s.seen in
      let p = shows_next (length o.sides) q n (low - 1) (newest K) v.reading (omega arith) z.passed in
      let most = p.low_is in
      subst (HasPassed (length o.sides) (suc q) n) (sym (ap (λ (u : ChairView P Q R E). u.reading) is ∙ ap (λ c. shown (queues_of c) q (min (low - 1) (newest K)) v.reading) start)) record {
        passed = λ lt. (p.swept, omega arith);
        ended = λ lt all. let e = p.ended all in omega arith;
      }
