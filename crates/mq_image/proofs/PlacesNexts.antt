-- The next block of the namespace, read from the records that are left.
use Rattle.std.proofs.Common.{get_or, inl, inr, subst, ◌≡◌, ℕ, zero, suc, ◌+◌, ◌-◌, ◌*◌, ◌<◌, ◌≤◌, List, ◌++◌, length, take, drop, true, false, refl, sym, ap, ◌∙◌, arith, length-drop}
use Rattle.std.specs.Prelude.{Option, Some, None, nat_lt, nat_le, ◌||◌}
use Rattle.std.specs.Int.{to_le_bytes, w32}
use Rattle.std.proofs.lemmas.Bool.{cases_lt, le-ltb, lt-leb, lt-ltb, le-leb, or_from, or_left, or_right}
use Rattle.std.proofs.lemmas.List.{length-take-le}
use Rattle.mq_blocks.specs.Windows.{number_at, window}
use Rattle.mq_blocks.proofs.WindowsReadings.{bytes-number_at_4, window-add}
use Rattle.mq_image.specs.Faults.{Refuses, record_fault}
use Rattle.mq_image.specs.File.{is_blank}
use Rattle.mq_image.specs.Places.{IsInside, IsNext, fault_left}
use Rattle.mq_image.specs.declared.fault.FileFault.{FileFault}
use Rattle.mq_image.specs.declared.fault.FileFault.TheVariants.{Order, Zero}
use Rattle.mq_image.specs.declared.place.Place.{Place}

-- ---- the first fault of the records that are left, by the next

order-first : (size left index low at : ℕ) (file : List ℕ) → 0 < left → (nat_lt (number_at 4 at file) low || nat_le size (number_at 4 at file)) ≡ true
    → record_fault size left index low at file ≡ Some (Order index)
unfolding record_fault
order-first size zero index low at file more bad = absurd (omega arith)
order-first size (suc left) index low at file more bad = rw bad refl

zero-first : (size left index low at : ℕ) (file : List ℕ) → 0 < left → (nat_lt (number_at 4 at file) low || nat_le size (number_at 4 at file)) ≡ false
    → is_blank (window file (at + 4) 4096) ≡ true → record_fault size left index low at file ≡ Some (Zero (number_at 4 at file))
unfolding record_fault
zero-first size zero index low at file more good blank = absurd (omega arith)
zero-first size (suc left) index low at file more good blank = rw (good, blank) refl

pub step-first : (size left rest index low at : ℕ) (file : List ℕ) → left ≡ rest + 1 → (nat_lt (number_at 4 at file) low || nat_le size (number_at 4 at file)) ≡ false
    → is_blank (window file (at + 4) 4096) ≡ false → record_fault size left index low at file ≡ record_fault size rest (index + 1) (number_at 4 at file + 1) (at + 4100) file
unfolding record_fault
step-first size zero rest index low at file e good full = absurd (omega arith)
step-first size (suc left) rest index low at file e good full =
    let f : left ≡ rest = omega arith in
    rw (good, full) (ap (λ (n : ℕ). record_fault size n (index + 1) (number_at 4 at file + 1) (at + 4100) file) f)

low-first : (size left index low at : ℕ) (file : List ℕ) → (0 < left → low < number_at 4 at file) → record_fault size left index (low + 1) at file ≡ record_fault size left index low at file
unfolding record_fault
low-first size zero index low at file above = refl
low-first size (suc left) index low at file above =
    let h : low < number_at 4 at file = above (omega arith) in
    let a : nat_lt (number_at 4 at file) (low + 1) ≡ false = le-ltb _ _ (omega arith) in
    let b : nat_lt (number_at 4 at file) low ≡ false = le-ltb _ _ (omega arith) in
    rw (a, b) refl

pub below-refused : (p : Place) (file : List ℕ) → 0 < p.left → number_at 4 p.at file < p.lba → fault_left p file ≡ Some (Order p.index)
below-refused p file more low = order-first _ _ _ _ _ _ more (or_left _ _ (lt-ltb _ _ low))

pub above-refused : (p : Place) (file : List ℕ) → 0 < p.left → p.size ≤ number_at 4 p.at file → fault_left p file ≡ Some (Order p.index)
above-refused p file more high = order-first _ _ _ _ _ _ more (or_right _ _ (le-leb _ _ high))

good-lba : (p : Place) (file : List ℕ) → p.lba ≤ number_at 4 p.at file → number_at 4 p.at file < p.size → (nat_lt (number_at 4 p.at file) p.lba || nat_le p.size (number_at 4 p.at file)) ≡ false
good-lba p file low high = or_from _ _ (le-ltb _ _ low) (lt-leb _ _ high)

pub blank-refused : (p : Place) (file bytes : List ℕ) → 0 < p.left → p.lba ≤ number_at 4 p.at file → number_at 4 p.at file < p.size → bytes ≡ window file (p.at + 4) 4096 → is_blank bytes ≡ true
    → fault_left p file ≡ Some (Zero (number_at 4 p.at file))
blank-refused p file bytes more low high e blank = zero-first _ _ _ _ _ _ more (good-lba p file low high) (ap is_blank (sym e) ∙ blank)

-- at the end of the namespace no more is allowed
pub none-left : (p : Place) (file : List ℕ) → p.left ≡ 0 → fault_left p file ≡ None
unfolding record_fault
none-left p file e = rw e refl

pub end-refused : (p : Place) (file : List ℕ) → p.lba ≡ p.size → 0 < p.left → fault_left p file ≡ Some (Order p.index)
end-refused p file whole more = order-first _ _ _ _ _ _ more (ends (number_at 4 p.at file))
  where
    ends : (n : ℕ) → (nat_lt n p.lba || nat_le p.size n) ≡ true
    ends n = elim (cases_lt n p.size) [
      | inl low ↦ let l : n < p.lba = omega arith in or_left _ _ (lt-ltb n p.lba l)
      | inr high ↦ or_right _ _ (le-leb _ _ high)
    ]

pub refuses-along : (f g : Option FileFault) (e : FileFault) → f ≡ g → Refuses f e → Refuses g e
refuses-along f g e same h = subst (λ (x : Option FileFault). Refuses x e) same h

-- ---- one block

pub next-absent : (p new : Place) (file : List ℕ) → new ≡ record p { lba = p.lba + 1 } → IsInside p file → (0 < p.left → p.lba < number_at 4 p.at file) → IsNext file p new None
next-absent p new file e h above = rw e (record {
  size = refl;
  lba = refl;
  inside = record { room = h.room; index = h.index; size = h.size };
  fault = low-first _ _ _ _ _ _ above;
  rest = refl;
  end = refl;
  count = omega arith;
  kept_is = refl;
  bytes = tt;
})

-- the slice that is tested and copied
pub slice-window : (file : List ℕ) (at : ℕ) → take (at + 4100 - (at + 4)) (drop (at + 4) file) ≡ window file (at + 4) 4096
slice-window file at = let e : at + 4100 - (at + 4) ≡ 4096 = omega arith in ap (λ (n : ℕ). take n (drop (at + 4) file)) e

-- the bytes of a record
record-split : (file block : List ℕ) (at left rest n : ℕ) → at + 4100 * left ≤ length file → left ≡ rest + 1 → ((k : ℕ) → get_or file k 0 < 256) → n ≡ number_at 4 at file → block ≡ window file (at + 4) 4096
    → window file at (4100 * left) ≡ (to_le_bytes w32 n ++ block) ++ window file (at + 4100) (4100 * rest)
record-split file block at left rest n room e small f g =
    let m : 4100 * left ≡ 4100 + 4100 * rest = omega arith in
    let b : to_le_bytes w32 n ≡ window file at 4 = ap (to_le_bytes w32) f ∙ bytes-number_at_4 at file (omega arith) small in
    ap (λ (k : ℕ). window file at k) m ∙ window-add file at 4100 (4100 * rest)
    ∙ ap (λ (w : List ℕ). w ++ window file (at + 4100) (4100 * rest)) (window-add file at 4 4096 ∙ ap (λ (w : List ℕ). w ++ window file (at + 4) 4096) (sym b) ∙ ap (λ (w : List ℕ). to_le_bytes w32 n ++ w) (sym g))

pub next-present : (p new : Place) (file block : List ℕ) → ((k : ℕ) → get_or file k 0 < 256) → new.at ≡ p.at + 4100 → new.left + 1 ≡ p.left → new.index ≡ p.index + 1 → new.lba ≡ number_at 4 p.at file + 1 → new.size ≡ p.size
    → IsInside p file → p.lba ≡ number_at 4 p.at file → number_at 4 p.at file < p.size → block ≡ window file (p.at + 4) 4096 → is_blank block ≡ false → IsNext file p new (Some block)
next-present p new file block small a l i b s h here high e full =
    let room = h.room in
    let index = h.index in
    let size = h.size in
    let len : length (window file (p.at + 4) 4096) ≡ 4096 = length-take-le 4096 (drop (p.at + 4) file) (omega (arith, length-drop (p.at + 4) file)) in record {
      size = s;
      lba = omega arith;
      inside = record { room = omega arith; index = omega arith; size = omega arith };
      fault = same;
      rest = record-split file block p.at p.left new.left p.lba room (sym l) small here e ∙ ap (λ (k : ℕ). (to_le_bytes w32 p.lba ++ block) ++ window file k (4100 * new.left)) (sym a);
      end = omega arith;
      count = omega arith;
      kept_is = rw full refl;
      bytes = ap length e ∙ len;
    }
  where
    same : fault_left new file ≡ fault_left p file
    same =
        let low : p.lba ≤ number_at 4 p.at file = omega arith in
        sym (step-first p.size p.left new.left p.index p.lba p.at file (sym l) (good-lba p file low high) (ap is_blank (sym e) ∙ full) ∙ cc)
