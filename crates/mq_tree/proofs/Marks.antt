-- The least bitmap that is not as it should be.
use Rattle.std.proofs.Common.{◌≡◌, ℕ, ◌+◌, ◌<◌, List, Bool, true, false, refl, sym, ap, subst, ◌∙◌, arith, inl, inr}
use Rattle.std.specs.Prelude.{Option, Some, None, MatchOption, if◌then◌else◌}
use Rattle.std.proofs.lemmas.Bool.{cases_lt}
use Rattle.mq_layout.specs.Bits.{bit_of}
use Rattle.mq_tree.specs.Marks.{AreRight, HasMore, IsMarkCause, clear, more}
use Rattle.mq_tree.specs.declared.corrupt.CorruptCause.{CorruptCause}
use Rattle.mq_tree.specs.declared.corrupt.CorruptCause.TheVariants.{Unmarked, Unreached}

-- ---- bit by bit

-- the cause so far, which is none or that of a bit that is set
abbrev pub HasCause : List ℕ → (is_used : ℕ → Bool) → (count : ℕ) → Option CorruptCause → Type 0
HasCause block is_used count found = MatchOption found (AreRight block is_used count) (λ cause. (cause ≡ Unreached) × HasMore block is_used count)

-- all bits so far are set that are to be
so-far : (block : List ℕ) (is_used : ℕ → Bool) (k : ℕ) (found : Option CorruptCause) → HasCause block is_used k found → (j : ℕ) → j < k → is_used j ≡ true → bit_of block j ≡ 1
so-far block is_used k None h j low t = h j low ∙ ap (λ (c : Bool). if c then 1 else 0) t
so-far block is_used k (Some cause) h j low t = h.1.all j low t

-- a further bit is as it should be
pub bit-right : (block : List ℕ) (is_used : ℕ → Bool) (k : ℕ) (found : Option CorruptCause) (bit : Bool) → HasCause block is_used k found → (if bit then 1 else 0) ≡ bit_of block k → bit ≡ is_used k → HasCause block is_used (k + 1) found
bit-right block is_used k found bit h is same = by found h
  where
    right : bit_of block k ≡ (if is_used k then 1 else 0)
    right = sym is ∙ ap (λ (c : Bool). if c then 1 else 0) same

    by : (found : Option CorruptCause) → HasCause block is_used k found → HasCause block is_used (k + 1) found
    by None h = λ j low. elim (cases_lt j k) [
      | inl before ↦ h j before
      | inr last ↦ let e : k ≡ j = omega arith in subst (λ i. bit_of block i ≡ (if is_used i then 1 else 0)) e right
    ]
    by (Some cause) h = (
      h.0,
      record {
        all = λ j low t. elim (cases_lt j k) [
          | inl before ↦ h.1.all j before t
          | inr last ↦ let e : k ≡ j = omega arith in subst (λ i. is_used i ≡ true → bit_of block i ≡ 1) e (λ u. right ∙ ap (λ (c : Bool). if c then 1 else 0) u) t
        ];
        more = h.1.more;
        inside = let l = h.1.inside in omega arith;
        not_used = h.1.not_used;
        set = h.1.set;
      },
    )

-- a further bit is set, and is not to be
pub bit-more : (block : List ℕ) (is_used : ℕ → Bool) (k : ℕ) (found : Option CorruptCause) (bit : Bool) → HasCause block is_used k found → (if bit then 1 else 0) ≡ bit_of block k → (bit ≡ is_used k → ⊥) → is_used k ≡ false → HasCause block is_used (k + 1) (Some Unreached)
bit-more block is_used k found false h is other free = absurd (other (sym free))
bit-more block is_used k found true h is other free = (
  refl,
  record {
    all = λ j low t. elim (cases_lt j k) [
      | inl before ↦ so-far block is_used k found h j before t
      | inr last ↦ let e : k ≡ j = omega arith in subst (λ i. is_used i ≡ true → bit_of block i ≡ 1) e (λ u. sym is) t
    ];
    more = k;
    inside = omega arith;
    not_used = free;
    set = sym is;
  },
)

-- a further bit is clear, and is not to be
pub bit-clear : (block : List ℕ) (is_used : ℕ → Bool) (count k : ℕ) (bit : Bool) → k < count → (if bit then 1 else 0) ≡ bit_of block k → (bit ≡ is_used k → ⊥) → is_used k ≡ true → IsMarkCause block is_used count Unmarked
bit-clear block is_used count k true inside is other used = absurd (other (sym used))
bit-clear block is_used count k false inside is other used = clear k refl inside used (sym is)

-- all bits were looked at
pub bits-all : (block : List ℕ) (is_used : ℕ → Bool) (k count : ℕ) (found : Option CorruptCause) → k ≡ count → HasCause block is_used k found → MatchOption found (AreRight block is_used count) (IsMarkCause block is_used count)
bits-all block is_used k count None e h = subst (λ n. AreRight block is_used n) e h
bits-all block is_used k count (Some cause) e h = more h.0 (subst (λ n. HasMore block is_used n) e h.1)
