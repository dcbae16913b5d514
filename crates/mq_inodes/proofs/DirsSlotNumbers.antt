-- The place of a slot, counted over the blocks of a directory.
use Rattle.std.proofs.Common.{get_or, ◌≡◌, ℕ, zero, suc, ◌+◌, ◌/◌, ◌<◌, Bool, cond, List, [], ◌∷◌, ◌++◌, length, drop, refl, sym, ap, ◌∙◌, arith, inl, inr}
use Rattle.std.specs.Prelude.{Option, Some, None}
use Rattle.std.specs.Str.{bytes_eq}
use Rattle.std.proofs.lemmas.Bool.{cases_Bool}
use Rattle.std.proofs.lemmas.Slice.Eq.{bytes_eq-Decides}
use Rattle.mq_layout.specs.Slots.{Entry}
use Rattle.mq_inodes.specs.Dirs.{earlier, later, slots_at, slots_in}
use Rattle.mq_inodes.specs.Pages.{Pages, content}
use Rattle.mq_inodes.proofs.Dirs.{length-slots_at, slots-drop}
use Rattle.mq_inodes.proofs.DirsEntries.{length-slots_in}
use Rattle.mq_tree.specs.Requests.{unused}
use Rattle.mq_tree.specs.Volume.{find, slot_number}

-- ---- the first unused slot

-- counted from another offset
unused-here : (n k j : ℕ) (xs ys : List (Option Entry)) → Some j ≡ unused k xs → unused (n + k) (xs ++ ys) ≡ Some (n + j)
unused-here n k j [] ys e = absurd (cc)
unused-here n k j (None ∷ xs) ys e = (let f : j ≡ k = cc in ap (λ (i : ℕ). Some (n + i)) (sym f))
unused-here n k j (Some x ∷ xs) ys e = (let f : suc (n + k) ≡ n + suc k = omega arith in ap (λ (i : ℕ). unused i (xs ++ ys)) f ∙ unused-here n (suc k) j xs ys e)

unused-beyond : (n k m : ℕ) (xs ys : List (Option Entry)) → m ≡ n + length xs → None ≡ unused k xs → unused n (xs ++ ys) ≡ unused m ys
unused-beyond n k m [] ys is e = (let f : n ≡ m = omega arith in ap (λ (i : ℕ). unused i ys) f)
unused-beyond n k m (None ∷ xs) ys is e = absurd (cc)
unused-beyond n k m (Some x ∷ xs) ys is e = unused-beyond (suc n) (suc k) m xs ys (omega arith) e

pub unused-found : (pages : Pages) (blocks : List ℕ) (k b : ℕ) (page : List ℕ) (n at : ℕ) → k < length blocks → b ≡ get_or blocks k b → page ≡ content (pages b) → Some at ≡ unused 0 (slots_in page)
    → unused n (slots_at pages (drop k blocks)) ≡ unused 0 (slots_at pages blocks) → Some (n + at) ≡ unused 0 (slots_at pages blocks)
unused-found pages blocks k b page n at l is same e h =
    let z : n ≡ n + 0 = omega arith in
    sym (ap (λ (i : ℕ). unused i (slots_in (content (pages b)) ++ slots_at pages (drop (k + 1) blocks))) z ∙ unused-here n 0 at (slots_in (content (pages b))) (slots_at pages (drop (k + 1) blocks)) (e ∙ ap (λ (p : List ℕ). unused 0 (slots_in p)) same))
    ∙ sym (ap (λ (s : List (Option Entry)). unused n s) (slots-drop pages blocks k b l is)) ∙ h

pub unused-passed : (pages : Pages) (blocks : List ℕ) (k b : ℕ) (page : List ℕ) (n : ℕ) → k < length blocks → b ≡ get_or blocks k b → page ≡ content (pages b) → None ≡ unused 0 (slots_in page)
    → unused n (slots_at pages (drop k blocks)) ≡ unused 0 (slots_at pages blocks) → unused (n + 15) (slots_at pages (drop (k + 1) blocks)) ≡ unused 0 (slots_at pages blocks)
unused-passed pages blocks k b page n l is same e h =
    let m = length-slots_in (content (pages b)) in
    sym (unused-beyond n 0 (n + 15) (slots_in (content (pages b))) (slots_at pages (drop (k + 1) blocks)) (omega arith) (e ∙ ap (λ (p : List ℕ). unused 0 (slots_in p)) same))
    ∙ sym (ap (λ (s : List (Option Entry)). unused n s) (slots-drop pages blocks k b l is)) ∙ h

-- the first of the blocks before, or of this block, is that of all, or it is behind
pub unused-after : (pages : Pages) (blocks : List ℕ) (k b : ℕ) (page : List ℕ) (n : ℕ) (old new : Option ℕ) → k < length blocks → b ≡ get_or blocks k b → page ≡ content (pages b) → new ≡ earlier old (later n (unused 0 (slots_in page)))
    → earlier old (unused n (slots_at pages (drop k blocks))) ≡ unused 0 (slots_at pages blocks) → earlier new (unused (n + 15) (slots_at pages (drop (k + 1) blocks))) ≡ unused 0 (slots_at pages blocks)
unused-after pages blocks k b page n (Some at) new l is same e h = ap (λ (o : Option ℕ). earlier o (unused (n + 15) (slots_at pages (drop (k + 1) blocks)))) e ∙ h
unused-after pages blocks k b page n None new l is same e h = go (unused 0 (slots_in page)) refl
  where
    rest : Option ℕ
    rest = unused (n + 15) (slots_at pages (drop (k + 1) blocks))

    go : (o : Option ℕ) → unused 0 (slots_in page) ≡ o → earlier new rest ≡ unused 0 (slots_at pages blocks)
    go None none = ap (λ (o : Option ℕ). earlier o rest) (e ∙ ap (λ (o : Option ℕ). later n o) none) ∙ unused-passed pages blocks k b page n l is same (sym none) h
    go (Some at) some = ap (λ (o : Option ℕ). earlier o rest) (e ∙ ap (λ (o : Option ℕ). later n o) some) ∙ unused-found pages blocks k b page n at l is same (sym some) h

pub unused-low : (k n : ℕ) (xs : List (Option Entry)) → Some n ≡ unused k xs → n < k + length xs
unused-low k n [] e = absurd (cc)
unused-low k n (None ∷ xs) e = (let f : n ≡ k = cc in omega arith)
unused-low k n (Some x ∷ xs) e = (let l = unused-low (suc k) n xs e in omega arith)

pub unused-inside : (pages : Pages) (blocks : List ℕ) (n : ℕ) → Some n ≡ unused 0 (slots_at pages blocks) → n / 15 < length blocks
unused-inside pages blocks n e =
    let l = unused-low 0 n (slots_at pages blocks) e in
    let m = length-slots_at pages blocks in
    omega arith

-- ---- the slot of a name

number-here : (n k j : ℕ) (name : List ℕ) (xs ys : List (Option Entry)) → Some j ≡ slot_number k name xs → slot_number (n + k) name (xs ++ ys) ≡ Some (n + j)
number-here n k j name [] ys e = absurd (cc)
number-here n k j name (None ∷ xs) ys e = (let f : n + k + 1 ≡ n + (k + 1) = omega arith in ap (λ (i : ℕ). slot_number i name (xs ++ ys)) f ∙ number-here n (k + 1) j name xs ys e)
number-here n k j name (Some x ∷ xs) ys e = elim (cases_Bool (bytes_eq x.name name)) [
  | inl y ↦
      let f : Some j ≡ Some k = e ∙ ap (λ (b : Bool). cond b (Some k) (slot_number (k + 1) name xs)) y in
      let same : j ≡ k = cc in
      ap (λ (b : Bool). cond b (Some (n + k)) (slot_number (n + k + 1) name (xs ++ ys))) y ∙ ap (λ (i : ℕ). Some (n + i)) (sym same)
  | inr other ↦
      let f : n + k + 1 ≡ n + (k + 1) = omega arith in
      ap (λ (b : Bool). cond b (Some (n + k)) (slot_number (n + k + 1) name (xs ++ ys))) other ∙ ap (λ (i : ℕ). slot_number i name (xs ++ ys)) f ∙ number-here n (k + 1) j name xs ys (e ∙ ap (λ (b : Bool). cond b (Some k) (slot_number (k + 1) name xs)) other)
]

number-beyond : (n k m : ℕ) (name : List ℕ) (xs ys : List (Option Entry)) → m ≡ n + length xs → None ≡ slot_number k name xs → slot_number n name (xs ++ ys) ≡ slot_number m name ys
number-beyond n k m name [] ys is e = (let f : n ≡ m = omega arith in ap (λ (i : ℕ). slot_number i name ys) f)
number-beyond n k m name (None ∷ xs) ys is e = number-beyond (n + 1) (k + 1) m name xs ys (omega arith) e
number-beyond n k m name (Some x ∷ xs) ys is e = elim (cases_Bool (bytes_eq x.name name)) [
  | inl y ↦ (let f : None ≡ Some k = e ∙ ap (λ (b : Bool). cond b (Some k) (slot_number (k + 1) name xs)) y in absurd (cc))
  | inr other ↦ ap (λ (b : Bool). cond b (Some n) (slot_number (n + 1) name (xs ++ ys))) other ∙ number-beyond (n + 1) (k + 1) m name xs ys (omega arith) (e ∙ ap (λ (b : Bool). cond b (Some k) (slot_number (k + 1) name xs)) other)
]

pub number-found : (pages : Pages) (name blocks : List ℕ) (k b : ℕ) (page : List ℕ) (n at : ℕ) → k < length blocks → b ≡ get_or blocks k b → page ≡ content (pages b) → Some at ≡ slot_number 0 name (slots_in page)
    → slot_number n name (slots_at pages (drop k blocks)) ≡ slot_number 0 name (slots_at pages blocks) → Some (n + at) ≡ slot_number 0 name (slots_at pages blocks)
number-found pages name blocks k b page n at l is same e h =
    let z : n ≡ n + 0 = omega arith in
    sym (ap (λ (i : ℕ). slot_number i name (slots_in (content (pages b)) ++ slots_at pages (drop (k + 1) blocks))) z ∙ number-here n 0 at name (slots_in (content (pages b))) (slots_at pages (drop (k + 1) blocks)) (e ∙ ap (λ (p : List ℕ). slot_number 0 name (slots_in p)) same))
    ∙ sym (ap (λ (s : List (Option Entry)). slot_number n name s) (slots-drop pages blocks k b l is)) ∙ h

pub number-passed : (pages : Pages) (name blocks : List ℕ) (k b : ℕ) (page : List ℕ) (n : ℕ) → k < length blocks → b ≡ get_or blocks k b → page ≡ content (pages b) → None ≡ slot_number 0 name (slots_in page)
    → slot_number n name (slots_at pages (drop k blocks)) ≡ slot_number 0 name (slots_at pages blocks) → slot_number (n + 15) name (slots_at pages (drop (k + 1) blocks)) ≡ slot_number 0 name (slots_at pages blocks)
number-passed pages name blocks k b page n l is same e h =
    let m = length-slots_in (content (pages b)) in
    sym (number-beyond n 0 (n + 15) name (slots_in (content (pages b))) (slots_at pages (drop (k + 1) blocks)) (omega arith) (e ∙ ap (λ (p : List ℕ). slot_number 0 name (slots_in p)) same))
    ∙ sym (ap (λ (s : List (Option Entry)). slot_number n name s) (slots-drop pages blocks k b l is)) ∙ h

-- where the slot is found
pub record IsNumbered (name : List ℕ) (xs : List (Option Entry)) (k n : ℕ) : Type 0 where
  pub place : ℕ
  pub entry : Entry
  pub is : n ≡ k + place
  pub there : get_or xs place None ≡ Some entry
  pub inside : place < length xs
  pub named : entry.name ≡ name
  pub finds : find name xs ≡ Some entry.inode

pub numbered : (k n : ℕ) (name : List ℕ) (xs : List (Option Entry)) → Some n ≡ slot_number k name xs → IsNumbered name xs k n
numbered k n name [] e = absurd (cc)
numbered k n name (None ∷ xs) e =
    let r = numbered (k + 1) n name xs e in
    let p = r.is in
    let l = r.inside in
    record { place = suc r.place; entry = r.entry; is = omega arith; there = r.there; inside = omega arith; named = r.named; finds = r.finds }
numbered k n name (Some x ∷ xs) e = elim (cases_Bool (bytes_eq x.name name)) [
  | inl y ↦
      let f : Some n ≡ Some k = e ∙ ap (λ (b : Bool). cond b (Some k) (slot_number (k + 1) name xs)) y in
      let same : n ≡ k = cc in
      record {
        place = zero;
        entry = x;
        is = omega arith;
        there = refl;
        inside = omega arith;
        named = (bytes_eq-Decides x.name name).0 y;
        finds = ap (λ (b : Bool). cond b (Some x.inode) (find name xs)) y;
      }
  | inr other ↦
      let r = numbered (k + 1) n name xs (e ∙ ap (λ (b : Bool). cond b (Some k) (slot_number (k + 1) name xs)) other) in
      let p = r.is in
      let l = r.inside in
      record { place = suc r.place; entry = r.entry; is = omega arith; there = r.there; inside = omega arith; named = r.named; finds = ap (λ (b : Bool). cond b (Some x.inode) (find name xs)) other ∙ r.finds }
]

pub number-none : (k : ℕ) (name : List ℕ) (xs : List (Option Entry)) → None ≡ slot_number k name xs → find name xs ≡ None
number-none k name [] e = refl
number-none k name (None ∷ xs) e = number-none (k + 1) name xs e
number-none k name (Some x ∷ xs) e = elim (cases_Bool (bytes_eq x.name name)) [
  | inl y ↦ (let f : None ≡ Some k = e ∙ ap (λ (b : Bool). cond b (Some k) (slot_number (k + 1) name xs)) y in absurd (cc))
  | inr other ↦ ap (λ (b : Bool). cond b (Some x.inode) (find name xs)) other ∙ number-none (k + 1) name xs (e ∙ ap (λ (b : Bool). cond b (Some k) (slot_number (k + 1) name xs)) other)
]

pub number-inside : (pages : Pages) (name blocks : List ℕ) (n : ℕ) → Some n ≡ slot_number 0 name (slots_at pages blocks) → n / 15 < length blocks
number-inside pages name blocks n e =
    let r = numbered 0 n name (slots_at pages blocks) e in
    let p = r.is in
    let l = r.inside in
    let m = length-slots_at pages blocks in
    omega arith
