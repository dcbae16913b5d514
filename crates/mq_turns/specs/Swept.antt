-- What a read of the counter and then of each mark shows and leaves.
use Rattle.std.specs.Prelude.{◌≡◌, ℕ, ◌-◌, ◌<◌, ◌≤◌, min, List, [], ◌∷◌, length}
use Rattle.mq_turns.specs.Meaning.{Meaning, newest}
use Rattle.mq_turns.specs.Marks.{mark_of, DoneTo}
use Rattle.mq_turns.specs.Desk.{Sees, Below}
use Rattle.mq_turns.specs.declared.rule.MarkAnswer.TheVariants.{Front}
use Rattle.mq_turns.specs.declared.rule.Opening.{Opening}
use Rattle.mq_turns.specs.declared.rule.Known.{Known}
use Rattle.mq_turns.specs.declared.rule.Reading.{Reading}
use Rattle.mq_turns.specs.declared.rule.ChairView.{ChairView}

-- the least of n and of the numbers just below the marks
abbrev pub least_below : ℕ → List ℕ → ℕ
least_below n [] = n
least_below n (m ∷ ms) = min (least_below n ms) (m - 1)

module _ {P Q R E : Type 0} where
  -- the chair after a read of the counter, except for its sweep over the marks
  abbrev pub after_count : ℕ → ChairView P Q R E → ChairView P Q R E
  after_count n v = record v { seen = n; reading = record v.reading { swept = 0; low = 0 } }

  -- a sweep over `queues` queues has passed the first q of them, whose numbers up to n are done; behind the
  -- last queue all numbers up to n are
  pub record HasPassed (queues q n : ℕ) (r : Reading P Q R E) : Type 0 where
    pub passed : 0 < q → (r.swept ≡ q) × (n ≤ r.low)
    pub ended : 0 < q → queues ≤ q → n ≤ r.done

module _ {P Q R E : Type 0} (μ : Meaning P Q R E) where
  -- these are marks of the first queues, the last one's first, as each was at some time after the chair had
  -- read n
  abbrev pub AreMarks : ℕ → ChairView P Q R E → List ℕ → Type 0
  AreMarks n v [] = Unit {0}
  AreMarks n v (m ∷ ms) =
      ((K : Known P Q R E) × (mark_of (length ms) K.claims ≡ m) × Sees μ (after_count n v) K)
      × AreMarks n v ms

  -- The chair has read the counter, and then the marks of the first q of `queues` queues. `low` is the
  -- least of the counter and the numbers just below these marks, and all numbers of these queues up to it
  -- are done. Nothing else has changed.
  pub record Sweeping (queues q low : ℕ) (v w : ChairView P Q R E) : Type 0 where
    pub counter : ℕ
    pub marks : List ℕ
    pub reading : Reading P Q R E
    pub is : w ≡ record v { seen = counter; reading = reading }
    pub counted : (K : Known P Q R E) × (newest K ≡ counter) × Sees μ v K
    pub below : Below counter v
    pub read : (length marks ≡ q) × AreMarks counter v marks
    pub low_is : low ≡ least_below counter marks
    pub kept : (v.reading.done ≤ reading.done) × (reading.base ≡ v.reading.base)
        × (reading.pages ≡ v.reading.pages) × (reading.answers ≡ v.reading.answers)
        × (reading.charged ≡ v.reading.charged)
    pub passes : HasPassed queues q low reading

  -- The chair has read the counter and then each mark. The front is the least of the counter and the
  -- numbers just below the marks, and the chair knows that all numbers up to it are done. Nothing else has
  -- changed.
  pub record AfterMarks (o : Opening P Q R) (front : ℕ) (v w : ChairView P Q R E) : Type 0 where
    pub sweep : Sweeping (length o.sides) (length o.sides) front v w
    pub done : (K : Known P Q R E) → Sees μ w K → DoneTo μ front K

  -- So it has, and keeps the front as its newest answer.
  pub record AfterFront (o : Opening P Q R) (front : ℕ) (v w : ChairView P Q R E) : Type 0 where
    pub swept : ChairView P Q R E
    pub marks : AfterMarks o front v swept
    pub is : w
        ≡ record swept
        { reading = record swept.reading { answers = Front front ∷ swept.reading.answers } }
    pub done : (K : Known P Q R E) → Sees μ w K → DoneTo μ front K
