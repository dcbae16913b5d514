-- What is known done stays so, and the marks are right after each kind of step.
use Rattle.std.proofs.Common.{◌≡◌, ◌≢◌, ℕ, suc, ◌-◌, ◌<◌, ◌≤◌, ◌&&◌, eqb, max, min, nat_le, Bool, true, false, List, [], ◌∷◌, ◌++◌, length, sym, refl, ap, ◌∙◌, arith, inl, inr}
use Rattle.std.proofs.lemmas.Bool.{cases_Bool, false≢true, eq-eqb, eqb-true, ne_eqb, leb-true, leb-false, le-leb, or_left, or_right}
use Rattle.mq_turns.specs.Lists.{Each}
use Rattle.mq_turns.specs.Meaning.{Meaning, Grows, newest, drawn, claimed, HasNumberAt}
use Rattle.mq_turns.specs.Marks.{is_claimed, mark_of, claim_of, passed, shown, unread, read_first, read_both, DoneBelow, DoneTo, Marked, Reader}
use Rattle.mq_turns.specs.declared.rule.Claim.{Claim}
use Rattle.mq_turns.specs.declared.rule.Known.{Known}
use Rattle.mq_turns.specs.declared.rule.Reading.{Reading}
use Rattle.mq_turns.specs.declared.turn.Turn.TheVariants.{Side}
use Rattle.mq_turns.proofs.Lists.{each_map}
use Rattle.mq_turns.proofs.Meaning.{at_bounds, at_back, newest_grows, grows_on}

pub claimed_more : (q n : ℕ) (newer cs : List Claim) → is_claimed q n cs ≡ true → is_claimed q n (newer ++ cs) ≡ true
claimed_more q n [] cs e = e
claimed_more q n (c ∷ ns) cs e = or_right (eqb c.queue q && nat_le n c.up_to) (is_claimed q n (ns ++ cs)) (claimed_more q n ns cs e)

-- a mark stays where no newer claim is of the queue
pub mark_apart : (q : ℕ) (newer cs : List Claim) → Each (λ c. Side c.queue ≢ Side q) newer → mark_of q (newer ++ cs) ≡ mark_of q cs
mark_apart q [] cs a = refl
mark_apart q (c ∷ ns) cs a = rw (ne_eqb c.queue q (λ e. a.0 (ap Side e))) (mark_apart q ns cs a.1)

not_both : (b : Bool) → b ≡ true → b ≡ false → ⊥
not_both b t f = false≢true (sym f ∙ t)

-- a number that a new claim leaves out is above it, or of another queue
left_out : (c : Claim) (q n : ℕ) (cs : List Claim) → is_claimed q n (c ∷ cs) ≡ false → (c.queue ≡ q → c.up_to < n) × (is_claimed q n cs ≡ false)
left_out c q n cs none = (
  (λ own. elim (cases_Bool (nat_le n c.up_to)) [
    | inl low ↦ absurd (not_both (is_claimed q n (c ∷ cs)) (or_left (eqb c.queue q && nat_le n c.up_to) (is_claimed q n cs) (rw (eq-eqb c.queue q own, low) refl)) none)
    | inr high ↦ leb-false n c.up_to high
  ]),
  (elim (cases_Bool (is_claimed q n cs)) [
    | inl before ↦ absurd (not_both (is_claimed q n (c ∷ cs)) (or_right (eqb c.queue q && nat_le n c.up_to) (is_claimed q n cs) before) none)
    | inr not_yet ↦ not_yet
  ]),
)

module _ {P Q R E : Type 0} (μ : Meaning P Q R E) where
  pub done_grows : (queues n : ℕ) (K L : Known P Q R E) → Grows K L → n ≤ newest K → DoneBelow μ queues n K → DoneBelow μ queues n L
  done_grows queues n K L g low d m e at le lt =
      ap (is_claimed (μ.queue e) m) g.claims ∙ claimed_more (μ.queue e) m g.claimed K.claims (d m e (at_back K L m e g at (omega arith)) le lt)

  pub done_to_grows : (n : ℕ) (K L : Known P Q R E) → Grows K L → n ≤ newest K → DoneTo μ n K → DoneTo μ n L
  done_to_grows n K L g low d m e at le =
      ap (is_claimed (μ.queue e) m) g.claims ∙ claimed_more (μ.queue e) m g.claimed K.claims (d m e (at_back K L m e g at (omega arith)) le)

  pub reader_grows : (K L : Known P Q R E) (r : Reading P Q R E) → Grows K L → Reader μ K r → Reader μ L r
  reader_grows K L r g d =
      let more = newest_grows K L g in
      record {
        low = let a = d.low in omega arith;
        swept = done_grows r.swept r.low K L g d.low d.swept;
        last = let a = d.last in omega arith;
        done = done_to_grows r.done K L g d.last d.done;
        base = let a = d.base in let b = g.word in omega arith;
        pages = each_map _ _ (λ x a. (a.0, grows_on x.2 K L a.1 g, a.2)) r.pages d.pages;
      }

  none_below : (n : ℕ) (K : Known P Q R E) → n ≤ K.opening.base → DoneTo μ n K
  none_below n K low m e at le = let b = at_bounds K.opening.base K.log m e at in absurd (omega arith)

  pub reader_none : (K : Known P Q R E) → Reader μ K unread
  reader_none K = record { low = omega arith; swept = λ m e at le lt. absurd (omega arith); last = omega arith; done = none_below 0 K (omega arith); base = omega arith; pages = tt }

  pub reader_first : (K : Known P Q R E) (base : ℕ) → base ≡ K.opening.base → K.opening.base ≤ K.word → Reader μ K (read_first base)
  reader_first K base is low = record { low = omega arith; swept = λ m e at le lt. absurd (omega arith); last = omega arith; done = none_below base K (omega arith); base = omega arith; pages = tt }

  done_max : (a b : ℕ) (K : Known P Q R E) → DoneTo μ a K → DoneTo μ b K → DoneTo μ (max a b) K
  done_max a b K x y m e at le = elim (cases_Bool (nat_le m a)) [
    | inl low ↦ x m e at (leb-true m a low)
    | inr high ↦ let above = leb-false m a high in y m e at (omega arith)
  ]

  pub reader_both : (K : Known P Q R E) (r t : Reading P Q R E) → Reader μ K r → Reader μ K t → Reader μ K (read_both r t)
  reader_both K r t a b = record {
    low = omega arith;
    swept = λ m e at le lt. absurd (omega arith);
    last = let x = a.last in let y = b.last in omega arith;
    done = done_max r.done t.done K a.done b.done;
    base = let x = a.base in let y = b.base in omega arith;
    pages = tt;
  }

  -- a sweep that has passed all queues
  all_passed : (queues n low : ℕ) (K : Known P Q R E) → Marked μ K → queues ≡ length K.opening.sides → queues ≤ n → DoneBelow μ n low K → DoneTo μ low K
  all_passed queues n low K k is all d m e at le = let own = k.own m e at in d m e at le (omega arith)

  reader_passed : (queues n low : ℕ) (K : Known P Q R E) (r : Reading P Q R E) → Marked μ K → queues ≡ length K.opening.sides → Reader μ K r → low ≤ newest K → DoneBelow μ n low K → Reader μ K (passed queues n low r)
  reader_passed queues n low K r k is d few done = elim (cases_Bool (nat_le queues n)) [
    | inl all ↦ record {
      low = few;
      swept = done;
      last = rw all (let a = d.last in omega arith);
      done = rw all (done_max r.done low K d.done (all_passed queues n low K k is (leb-true queues n all) done));
      base = d.base;
      pages = d.pages;
    }
    | inr some_left ↦ record { low = few; swept = done; last = rw some_left d.last; done = rw some_left d.done; base = d.base; pages = d.pages }
  ]

  -- all numbers of a queue up to n are done
  pub reader_shown : (queues q n : ℕ) (K : Known P Q R E) (r : Reading P Q R E) → Marked μ K → queues ≡ length K.opening.sides → Reader μ K r → n ≤ newest K
      → ((m : ℕ) (e : E) → HasNumberAt K.opening.base K.log m e → m ≤ n → μ.queue e ≡ q → is_claimed (μ.queue e) m K.claims ≡ true) → Reader μ K (shown queues q n r)
  reader_shown queues q n K r k is d few done = elim (cases_Bool (eqb q 0)) [
    | inl first ↦ rw first (reader_passed queues 1 n K r k is d few (λ m e at le lt. done m e at le (let z = eqb-true q 0 first in omega arith)))
    | inr later ↦ elim (cases_Bool (eqb q r.swept)) [
      | inl next ↦ let same = eqb-true q r.swept next in rw (later, next) (reader_passed queues (suc q) (min r.low n) K r k is d (omega arith) (λ m e at le lt. elim (cases_Bool (nat_le q (μ.queue e))) [
        | inl here ↦ done m e at (omega arith) (let z = leb-true q (μ.queue e) here in omega arith)
        | inr before ↦ let lower = leb-false q (μ.queue e) before in d.swept m e at (omega arith) (omega arith)
      ]))
      | inr other ↦ rw (later, other) d
    ]
  ]

  -- what a mark shows
  pub mark_shows : (q n : ℕ) (K : Known P Q R E) → Marked μ K → n < mark_of q K.claims → (m : ℕ) (e : E) → HasNumberAt K.opening.base K.log m e → m ≤ n → μ.queue e ≡ q → is_claimed (μ.queue e) m K.claims ≡ true
  mark_shows q n K k low m e at le own = elim (cases_Bool (is_claimed (μ.queue e) m K.claims)) [
    | inl done ↦ done
    | inr not_yet ↦ let above = k.undone m e at not_yet in let same = ap (λ p. mark_of p K.claims) own in absurd (omega arith)
  ]

  -- what a claim shows
  pub claim_shows : (q low : ℕ) (K : Known P Q R E) (m : ℕ) (e : E) → m ≤ min (low - 1) (newest K) → μ.queue e ≡ q → is_claimed (μ.queue e) m (claim_of q low (newest K) ∷ K.claims) ≡ true
  claim_shows q low K m e le own = or_left (eqb q (μ.queue e) && nat_le m (min (low - 1) (newest K))) (is_claimed (μ.queue e) m K.claims) (rw (eq-eqb q (μ.queue e) (sym own), le-leb m (min (low - 1) (newest K)) le) refl)

  -- ---- each kind of growth

  pub marked_drawn : (e : E) (K : Known P Q R E) → Marked μ K → μ.queue e < length K.opening.sides → mark_of (μ.queue e) K.claims ≤ suc (newest K) → Marked μ (drawn e K)
  marked_drawn e K k side low = record { own = owns; undone = undone; above = k.above; word = k.word }
    where
      owns : (n : ℕ) (d : E) → HasNumberAt K.opening.base (e ∷ K.log) n d → μ.queue d < length K.opening.sides
      owns n d (inl new) = let same = ap μ.queue new.1 in omega arith
      owns n d (inr old) = k.own n d old

      undone : (n : ℕ) (d : E) → HasNumberAt K.opening.base (e ∷ K.log) n d → is_claimed (μ.queue d) n K.claims ≡ false → mark_of (μ.queue d) K.claims ≤ n
      undone n d (inl new) none = let same = ap (λ x. mark_of (μ.queue x) K.claims) new.1 in let is = new.0 in omega arith
      undone n d (inr old) none = k.undone n d old none

  pub marked_claimed : (q low : ℕ) (K : Known P Q R E) → Marked μ K → 1 ≤ low → Marked μ (claimed (claim_of q low (newest K)) K)
  marked_claimed q low K k positive = record {
    own = k.own;
    undone = λ n e at none.
        let out = left_out (claim_of q low (newest K)) (μ.queue e) n K.claims none in
        let b = at_bounds K.opening.base K.log n e at in
        elim (cases_Bool (eqb q (μ.queue e))) [
          | inl own ↦ rw own (let above = out.0 (eqb-true q (μ.queue e) own) in omega arith)
          | inr other ↦ rw other (k.undone n e at out.1)
        ];
    above = λ p. elim (cases_Bool (eqb q p)) [
      | inl own ↦ rw own positive
      | inr other ↦ rw other (k.above p)
    ];
    word = k.word;
  }
