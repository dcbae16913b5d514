-- Words on desks and chairs.
use Rattle.std.specs.Prelude.{◌≡◌, ℕ, ◌<◌, ◌≤◌, Bool, List, ◌∷◌, length, slice_get, Some}
use Rattle.mq_turns.specs.Lists.{Each, tally, times, without}
use Rattle.mq_turns.specs.Marks.{Marked, DoneTo}
use Rattle.mq_turns.specs.Meaning.{Meaning, Grows, opened, newest, HasNumberAt}
use Rattle.mq_turns.specs.Desk.{drawn_of, read_of, charged_of, IsInOrder}
use Rattle.mq_turns.specs.declared.rule.Charge.{Charge}
use Rattle.mq_turns.specs.declared.rule.Opening.{Opening}
use Rattle.mq_turns.specs.declared.rule.Known.{Known}
use Rattle.mq_turns.specs.declared.rule.ChairView.{ChairView}

module _ {P Q R E : Type 0} where
  -- the chair takes the turn of the slot k, and gives it back
  abbrev pub holding : ℕ → Known P Q R E → ChairView P Q R E → ChairView P Q R E
  holding k K v = record v { hand = 0; held = (k, K) ∷ v.held }

  abbrev pub giving : ℕ → ChairView P Q R E → ChairView P Q R E
  giving k v = record v { hand = 0; held = without k v.held }

module _ {P Q R E : Type 0} (μ : Meaning P Q R E) where
  -- the values that a desk is opened with stand for the start
  pub record Starts (o : Opening P Q R) : Type 0 where
    pub ok : μ.ok (opened o)
    pub pages : (b : ℕ) (x : P) → slice_get o.pages b ≡ Some x → μ.page b (opened o) x
    pub sides : (q : ℕ) (x : Q) → slice_get o.sides q ≡ Some x → μ.side q (opened o) x
    pub root : μ.root (opened o) o.root

  -- What a desk that has ended shows: there is one history, which is legal. The values are what it says,
  -- each number is one draw of a chair, what the chairs read was the machine's at its number, and along
  -- each chair's groups the numbers are in order.
  pub record DeskEnded (o : Opening P Q R) (views : List (ChairView P Q R E)) (pages : List P)
      (sides : List Q) (root : R) (next base : ℕ) : Type 0 where
    pub known : Known P Q R E
    pub opening : known.opening ≡ o
    pub ok : μ.ok known
    pub next_is : next ≡ newest known
    pub base_is : base ≡ known.word
    pub all_pages : length pages ≡ length o.pages
    pub pages_stand : (b : ℕ) (x : P) → slice_get pages b ≡ Some x → μ.page b known x
    pub all_sides : length sides ≡ length o.sides
    pub sides_stand : (q : ℕ) (x : Q) → slice_get sides q ≡ Some x → μ.side q known x
    pub root_stands : μ.root known root
    pub drew : Each (λ d. HasNumberAt known.opening.base known.log d.0 d.1) (drawn_of views)
    pub once : (n : ℕ) → o.base < n → n ≤ next → times n (drawn_of views) ≡ 1
    pub read : Each (λ r. μ.ok r.1 × Grows r.1 known × μ.fits r.0 r.1) (read_of views)
    pub ordered : Each (IsInOrder μ) views
    -- each number that isn't done is at or above its queue's mark, and those up to which a chair knew all
    -- to be done are
    pub marked : Marked μ known
    pub done : Each (λ v. DoneTo μ v.reading.done known) views
    -- no chair knew of a greater base
    pub based : Each (λ v. v.reading.base ≤ known.word) views
    -- nor had one seen a greater number
    pub seen : Each (λ v. v.seen ≤ newest known) views
    -- each charge was made once
    pub charges : (f : Charge → Bool) → tally f (charged_of views) ≡ tally f known.charges
