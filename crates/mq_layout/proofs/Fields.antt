-- Fields, one by one, and the numbers in them.
use Rattle.std.proofs.Common.{get_or, ◌≡◌, ℕ, ◌+◌, ◌<◌, ◌≤◌, List, [], ◌∷◌, length, Bool, true, false, refl, sym, ap, ◌∙◌, arith}
use Rattle.std.specs.Prelude.{Option, Some, None, Result, Ok, Err, IfOk, IsOk}
use Rattle.std.specs.Int.{to_le_bytes, w16, w32, w64}
use Rattle.mq_blocks.specs.Windows.{number_at, Shows}
use Rattle.mq_blocks.proofs.WindowsReadings.{bytes-number_at_2, bytes-number_at_4, bytes-number_at_8}
use Rattle.mq_blocks.proofs.Windows.{shows-all}
use Rattle.mq_layout.specs.Fields.{Finds, field, first}
use Rattle.mq_layout.specs.declared.refusal.LayoutCause.{LayoutCause}
use Rattle.mq_layout.specs.declared.refusal.LayoutRefusal.{LayoutRefusal}

-- where none is refused, the first is not, and none of the others
pub none-first : (x : Option LayoutRefusal) (fs : List (Option LayoutRefusal)) → first (x ∷ fs) ≡ None → (x ≡ None) × (first fs ≡ None)
unfolding first
none-first None fs h = (refl, h)
none-first (Some e) fs h = absurd (cc)

pub right-field : (c : LayoutCause) (o : ℕ) (t : Bool) → field c o t ≡ None → t ≡ true
right-field c o true h = refl
right-field c o false h = absurd (cc)

pub field-first : (c : LayoutCause) (o : ℕ) (t : Bool) (fs : List (Option LayoutRefusal)) → first (field c o t ∷ fs) ≡ None → (t ≡ true) × (first fs ≡ None)
field-first c o t fs h = let s = none-first (field c o t) fs h in (right-field c o t s.0, s.1)

pub pass : (x : Option LayoutRefusal) (fs : List (Option LayoutRefusal)) → x ≡ None → first fs ≡ None → first (x ∷ fs) ≡ None
unfolding first
pass None fs e f = f
pass (Some r) fs e f = absurd (cc)

pub pass-field : (c : LayoutCause) (o : ℕ) (t : Bool) (fs : List (Option LayoutRefusal)) → t ≡ true → first fs ≡ None → first (field c o t ∷ fs) ≡ None
pass-field c o true fs e f = pass None fs refl f
pass-field c o false fs e f = absurd (cc)

pub pass-none : first [] ≡ None
unfolding first
pass-none = refl

-- ---- what was read stands there

pub byte-shows : (b : List ℕ) (p x : ℕ) → p + 1 ≤ length b → get_or b p 0 ≡ x → Shows b p (x ∷ [])
byte-shows b p x h e = shows-all b p (x ∷ []) h (λ k l. let z : k ≡ 0 = omega arith in let q : p + k ≡ p = omega arith in ap (λ (j : ℕ). get_or b j 0) q ∙ e ∙ sym (ap (λ (j : ℕ). get_or (x ∷ []) j 0) z))

pub number-shows-2 : (b : List ℕ) (p x : ℕ) → p + 2 ≤ length b → ((k : ℕ) → get_or b k 0 < 256) → number_at 2 p b ≡ x → Shows b p (to_le_bytes w16 x)
number-shows-2 b p x h small e = sym (bytes-number_at_2 p b h small) ∙ ap (λ (n : ℕ). to_le_bytes w16 n) e

pub number-shows-4 : (b : List ℕ) (p x : ℕ) → p + 4 ≤ length b → ((k : ℕ) → get_or b k 0 < 256) → number_at 4 p b ≡ x → Shows b p (to_le_bytes w32 x)
number-shows-4 b p x h small e = sym (bytes-number_at_4 p b h small) ∙ ap (λ (n : ℕ). to_le_bytes w32 n) e

pub number-shows-8 : (b : List ℕ) (p x : ℕ) → p + 8 ≤ length b → ((k : ℕ) → get_or b k 0 < 256) → number_at 8 p b ≡ x → Shows b p (to_le_bytes w64 x)
number-shows-8 b p x h small e = sym (bytes-number_at_8 p b h small) ∙ ap (λ (n : ℕ). to_le_bytes w64 n) e

-- ---- what a reading that finds the first wrong field gives

pub sound-of : {X : Type 0} (w : Option LayoutRefusal) (r : Result X LayoutRefusal) (P : Type 0) → (w ≡ None → P) → Finds w r → IfOk r (λ _. P)
sound-of w (Ok x) P f h = f h
sound-of w (Err e) P f h = tt

pub accepts-of : {X : Type 0} (w : Option LayoutRefusal) (r : Result X LayoutRefusal) → w ≡ None → Finds w r → IsOk r
accepts-of w (Ok x) n h = refl
accepts-of w (Err e) n h = absurd (cc)

pub not-refused : {R : Type 0} (w : Option LayoutRefusal) (e : LayoutRefusal) → w ≡ None → w ≡ Some e → R
not-refused w e n s = absurd (cc)
