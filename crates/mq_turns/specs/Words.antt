-- The steps on marks and base, and what a chair notes: what each asks and shows.
use Rattle.std.specs.Prelude.{◌≡◌, ℕ, suc, ◌-◌, ◌<◌, ◌≤◌, nat_eq, min, Bool, true, false, ◌∷◌}
use Rattle.mq_turns.specs.Lists.{times}
use Rattle.mq_turns.specs.Meaning.{Meaning, newest, claimed, written, raised, charged}
use Rattle.mq_turns.specs.Marks.{mark_of, claim_of, queues_of, shown, DoneTo}
use Rattle.mq_turns.specs.Desk.{IsTurn, slot_of, turn_at, refreshed, Sat, At, Sees}
use Rattle.mq_turns.specs.declared.rule.MarkAnswer.TheVariants.{Front, Base}
use Rattle.mq_turns.specs.declared.rule.Known.{Known}
use Rattle.mq_turns.specs.declared.rule.ChairView.{ChairView}
use Rattle.mq_turns.specs.declared.rule.Notice.{Notice}
use Rattle.mq_turns.specs.declared.rule.Notice.TheVariants as notice
use Rattle.mq_turns.specs.declared.turn.Turn.{Turn}
use Rattle.mq_turns.specs.declared.turn.Turn.TheVariants.{Page, Side, Root}

abbrev pub same_turn : Turn → Turn → Bool
same_turn (Page a) (Page b) = nat_eq a b
same_turn (Page a) (Side b) = false
same_turn (Page a) Root = false
same_turn (Side a) (Page b) = false
same_turn (Side a) (Side b) = nat_eq a b
same_turn (Side a) Root = false
same_turn Root (Page b) = false
same_turn Root (Side b) = false
same_turn Root Root = true

module _ {P Q R E : Type 0} where
  -- the turns that a step is about are known of anew
  abbrev pub renewed : (Turn → Bool) → Known P Q R E → ChairView P Q R E → ChairView P Q R E
  renewed about L v = record v { held = refreshed (λ k. about (turn_at L.opening k)) L v.held }

  -- the mark of the queue is read; stored; the base is read; stored
  abbrev pub after_peek : ℕ → ℕ → Known P Q R E → ChairView P Q R E → ChairView P Q R E
  after_peek q mark K v =
      record v { reading = shown (queues_of v.opening) q (min (mark - 1) (newest K)) v.reading }

  abbrev pub after_clear : ℕ → ℕ → Known P Q R E → ChairView P Q R E → ChairView P Q R E
  after_clear q low K v =
      record (renewed (same_turn (Side q)) (claimed (claim_of q low (newest K)) K) v)
      { reading = shown (queues_of v.opening) q (min (low - 1) (newest K)) v.reading }

  abbrev pub after_base : ℕ → ChairView P Q R E → ChairView P Q R E
  after_base b v =
      record v { reading = record v.reading { base = b; answers = Base b ∷ v.reading.answers } }

  abbrev pub after_raise : ℕ → Known P Q R E → ChairView P Q R E → ChairView P Q R E
  after_raise b K v =
      record (renewed (same_turn Root) (raised b K) v) { reading = record v.reading { base = b } }

module _ {P Q R E : Type 0} (μ : Meaning P Q R E) where
  -- what a store of a mark asks, of the numbers below it; and a store of the base
  abbrev pub MayClear : ℕ → ℕ → ChairView P Q R E → Type 0
  MayClear q low v = (K : Known P Q R E) → Sees μ v K → μ.ok (claimed (claim_of q low (newest K)) K)

  abbrev pub MayRaise : ℕ → ChairView P Q R E → Type 0
  MayRaise b v = (K : Known P Q R E) → Sees μ v K → (K.word ≤ b) × μ.ok (raised b K)

  -- what is known once a notice is given, and what it is about
  abbrev pub known_by : Notice P → Known P Q R E → Known P Q R E
  known_by (notice.Home b n) K = written (b, n) K
  known_by (notice.Page b p) K = K
  known_by (notice.Charge c) K = charged c K
  known_by (notice.Front n) K = K

  abbrev pub is_about : Notice P → Known P Q R E → Turn → Bool
  is_about (notice.Home b n) K t = μ.lies K.opening (b, n) t
  is_about (notice.Page b p) K t = false
  is_about (notice.Charge c) K t = same_turn c.port t
  is_about (notice.Front n) K t = false

  abbrev pub after_notice : Notice P → Known P Q R E → ChairView P Q R E → ChairView P Q R E
  after_notice (notice.Home b n) K v = renewed (is_about (notice.Home b n) K) (written (b, n) K) v
  after_notice (notice.Page b p) K v =
      record v { reading = record v.reading { pages = (b, p, K) ∷ v.reading.pages } }
  after_notice (notice.Charge c) K v =
      record (renewed (is_about (notice.Charge c) K) (charged c K) v)
      { reading = record v.reading { charged = c ∷ v.reading.charged } }
  after_notice (notice.Front n) K v =
      record v { reading = record v.reading { answers = Front n ∷ v.reading.answers } }

  -- what a notice asks: the chair holds what it is about, and it fits all that is known
  abbrev pub MayNote : Notice P → ChairView P Q R E → Type 0
  MayNote (notice.Home b n) v =
      (K : Known P Q R E) → Sees μ v K
      → μ.ok (written (b, n) K)
      × ((t : Turn) → IsTurn K.opening t → μ.lies K.opening (b, n) t ≡ true
      → 0 < times (slot_of K.opening t) v.held)
  MayNote (notice.Page b p) v = (K : Known P Q R E) → Sees μ v K → μ.page b K p
  MayNote (notice.Charge c) v =
      (K : Known P Q R E) → Sees μ v K
      → μ.ok (charged c K) × (0 < times (slot_of K.opening c.port) v.held)
  MayNote (notice.Front n) v = (K : Known P Q R E) → Sees μ v K → DoneTo μ n K

  -- ---- what each step shows

  module _ {M : Type 0} where
    abbrev pub peeked : At M P Q R E → Sat M P Q R E → ℕ → Sat M P Q R E → Type 0
    peeked st me n me' =
        (K : Known P Q R E) × (me' ≡ (after_peek (st.word - suc st.slots) n K me.0, me.1))
        × (mark_of (st.word - suc st.slots) K.claims ≡ n) × Sees μ me.0 K

    abbrev pub cleared : At M P Q R E → Sat M P Q R E → ℕ → Sat M P Q R E → Type 0
    cleared st me n me' =
        (K : Known P Q R E) × (me' ≡ (after_clear (st.word - suc st.slots) n K me.0, me.1))
        × Sees μ me.0 K

    abbrev pub based : At M P Q R E → Sat M P Q R E → ℕ → Sat M P Q R E → Type 0
    based st me n me' =
        (K : Known P Q R E) × (me' ≡ (after_base n me.0, me.1)) × (K.word ≡ n) × Sees μ me.0 K

    abbrev pub raised_to : At M P Q R E → Sat M P Q R E → ℕ → Sat M P Q R E → Type 0
    raised_to st me n me' = (K : Known P Q R E) × (me' ≡ (after_raise n K me.0, me.1)) × Sees μ me.0 K

    abbrev pub noticed : Notice P → At M P Q R E → Sat M P Q R E → ℕ → Sat M P Q R E → Type 0
    noticed x st me n me' = (K : Known P Q R E) × (me' ≡ (after_notice x K me.0, me.1)) × Sees μ me.0 K
