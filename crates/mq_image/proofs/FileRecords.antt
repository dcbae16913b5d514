-- The blocks of a file, which its bytes determine.
use Rattle.std.proofs.Common.{◌≡◌, ◌⊎◌, inl, inr, ℕ, ◌+◌, ◌*◌, ◌^◌, ◌<◌, ◌≤◌, List, [], ◌∷◌, ◌++◌, length, map, Bool, true, false, refl, sym, ap, ◌∙◌, append_assoc, arith, length-append}
use Rattle.std.specs.Prelude.{Option, Some, None, if◌then◌else◌}
use Rattle.std.specs.Int.{to_le_bytes, w32}
use Rattle.std.specs.List.{All}
use Rattle.std.proofs.lemmas.Bool.{cases_Bool, le-ltb, lt-leb, or_from}
use Rattle.std.proofs.lemmas.List.Elements.{All-head, All-tail}
use Rattle.mq_blocks.specs.Windows.{Shows, number_at, window}
use Rattle.mq_blocks.proofs.WindowsReadings.{number_at-4}
use Rattle.mq_blocks.proofs.Windows.{number-shown, shows-left, shows-right}
use Rattle.mq_image.specs.Faults.{record_fault}
use Rattle.mq_image.specs.File.{IsBlockSized, is_blank, kept, one_of, record_bytes, record_count, records}
use Rattle.mq_image.proofs.Lists.{append_parts}
use Rattle.mq_image.proofs.PlacesNexts.{step-first}

-- ---- what is kept of a block

kept-sized : (b : Option (List ℕ)) → IsBlockSized b → IsBlockSized (kept b)
kept-sized None h = tt
kept-sized (Some block) h = elim (cases_Bool (is_blank block)) [
  | inl blank ↦ rw blank tt
  | inr full ↦ rw full h
]

kept-full : (b : Option (List ℕ)) (block : List ℕ) → kept b ≡ Some block → is_blank block ≡ false
kept-full None block e = absurd (no e) where
  no : ◌≡◌ {A = Option (List ℕ)} None (Some block) → ⊥
  no p = cc
kept-full (Some bytes) block e = full (is_blank bytes) refl e
  where
    full : (t : Bool) → is_blank bytes ≡ t → (if t then None else Some bytes) ≡ Some block → is_blank block ≡ false
    full true is p = absurd (no p) where
      no : ◌≡◌ {A = Option (List ℕ)} None (Some block) → ⊥
      no r = cc
    full false is p = ap is_blank (let s : block ≡ bytes = cc in s) ∙ is

pub kept-kept : (b : Option (List ℕ)) → kept (kept b) ≡ kept b
kept-kept None = refl
kept-kept (Some block) = elim (cases_Bool (is_blank block)) [
  | inl blank ↦ rw blank refl
  | inr full ↦ rw full (rw full refl)
]

-- ---- no block is refused

length-lba : (lba : ℕ) (block : List ℕ) → length (to_le_bytes w32 lba ++ block) ≡ 4 + length block
length-lba lba block = length-append (to_le_bytes w32 lba) block

one-fault :
    (size lba low index at : ℕ) (b : Option (List ℕ)) (bs : List (Option (List ℕ))) (file : List ℕ) → low ≤ lba → lba < size → size ≤ 2 ^ 32 → IsBlockSized b → ((block : List ℕ) → b ≡ Some block → is_blank block ≡ false)
    → Shows file at (record_bytes lba b ++ records (lba + 1) bs)
    → ((low index at : ℕ) → low ≤ lba + 1 → Shows file at (records (lba + 1) bs) → record_fault size (record_count bs) index low at file ≡ None)
    → record_fault size (one_of b + record_count bs) index low at file ≡ None
one-fault size lba low index at None bs file above below fits sized full s rest =
    let none : one_of None + record_count bs ≡ record_count bs = omega arith in
    ap (λ (n : ℕ). record_fault size n index low at file) none ∙ rest low index at (omega arith) s
one-fault size lba low index at (Some block) bs file above below fits sized full s rest =
    let whole : Shows file at (to_le_bytes w32 lba ++ block) = shows-left file at (to_le_bytes w32 lba ++ block) (records (lba + 1) bs) s in
    let number : number_at 4 at file ≡ lba = number-shown file at 4 lba (omega arith) (shows-left file at (to_le_bytes w32 lba) block whole) in
    let bytes : window file (at + 4) 4096 ≡ block = ap (λ (n : ℕ). window file (at + 4) n) (sym sized) ∙ shows-right file at (to_le_bytes w32 lba) (at + 4) block whole refl in
    let len = length-lba lba block in
    let later : Shows file (at + 4100) (records (lba + 1) bs) = shows-right file at (to_le_bytes w32 lba ++ block) (at + 4100) (records (lba + 1) bs) s (omega arith) in
    let high : low ≤ number_at 4 at file = omega arith in
    let inside : number_at 4 at file < size = omega arith in
    step-first size (1 + record_count bs) (record_count bs) index low at file (omega arith) (or_from _ _ (le-ltb _ _ high) (lt-leb _ _ inside)) (ap is_blank bytes ∙ full block refl)
    ∙ rest (number_at 4 at file + 1) (index + 1) (at + 4100) (omega arith) later

pub records-fault :
    (size lba : ℕ) (bs : List (Option (List ℕ))) (file : List ℕ) → lba + length bs ≤ size → size ≤ 2 ^ 32 → All IsBlockSized bs
    → (low index at : ℕ) → low ≤ lba → Shows file at (records lba bs) → record_fault size (record_count bs) index low at file ≡ None
unfolding records record_count record_fault
records-fault size lba [] file room fits sized low index at above s = refl
records-fault size lba (b ∷ bs) file room fits sized low index at above s =
    one-fault size lba low index at (kept b) bs file above (omega arith) fits (kept-sized b (All-head IsBlockSized b bs sized)) (kept-full b) s
    (λ l i a h t. records-fault size (lba + 1) bs file (omega arith) fits (All-tail IsBlockSized b bs sized) l i a h t)

length-record : (lba : ℕ) (b : Option (List ℕ)) → IsBlockSized b → length (record_bytes lba b) ≡ 4100 * one_of b
length-record lba None h = omega arith
length-record lba (Some block) h = omega (arith, length-lba lba block, h)

pub length-records : (lba : ℕ) (bs : List (Option (List ℕ))) → All IsBlockSized bs → length (records lba bs) ≡ 4100 * record_count bs
unfolding records record_count
length-records lba [] h = omega arith
length-records lba (b ∷ bs) h =
    let a = length-record lba (kept b) (kept-sized b (All-head IsBlockSized b bs h)) in
    let c = length-append (record_bytes lba (kept b)) (records (lba + 1) bs) in
    let i = length-records (lba + 1) bs (All-tail IsBlockSized b bs h) in
    omega arith

-- ---- what the bytes determine

-- there are no bytes, or the first Lba is above this one
abbrev IsAbove : ℕ → List ℕ → Type 0
IsAbove low bytes = (bytes ≡ []) ⊎ (low < number_at 4 0 bytes)

first-lba : (lba : ℕ) (block rest : List ℕ) → lba < 2 ^ 32 → number_at 4 0 ((to_le_bytes w32 lba ++ block) ++ rest) ≡ lba
first-lba lba block rest h = ap (number_at 4 0) (append_assoc (to_le_bytes w32 lba) block rest) ∙ number_at-4 lba (block ++ rest) h

above-one : (low lba : ℕ) (b : Option (List ℕ)) (rest : List ℕ) → low < lba → lba < 2 ^ 32 → IsAbove low rest → IsAbove low (record_bytes lba b ++ rest)
above-one low lba None rest l h above = above
above-one low lba (Some block) rest l h above = inr (omega (arith, first-lba lba block rest h))

records-above : (low lba : ℕ) (bs : List (Option (List ℕ))) → low < lba → lba + length bs ≤ 2 ^ 32 → IsAbove low (records lba bs)
unfolding records
records-above low lba [] l h = inl refl
records-above low lba (b ∷ bs) l h = above-one low lba (kept b) (records (lba + 1) bs) l (omega arith) (records-above low (lba + 1) bs (omega arith) (omega arith))

no-first : {R : Type 0} (lba : ℕ) (block rest bytes : List ℕ) → lba < 2 ^ 32 → IsAbove lba bytes → bytes ≡ (to_le_bytes w32 lba ++ block) ++ rest → R
no-first lba block rest bytes h (inl none) e =
    let a : 0 ≡ length ((to_le_bytes w32 lba ++ block) ++ rest) = ap length (sym none ∙ e) in
    let b = length-append (to_le_bytes w32 lba ++ block) rest in
    let c = length-lba lba block in
    absurd (omega arith)
no-first lba block rest bytes h (inr above) e =
    let a : number_at 4 0 bytes ≡ lba = ap (number_at 4 0) e ∙ first-lba lba block rest h in
    absurd (omega arith)

one-same :
    (lba : ℕ) (b c : Option (List ℕ)) (more rest : List ℕ) → lba < 2 ^ 32 → IsBlockSized b → IsBlockSized c → IsAbove lba more → IsAbove lba rest
    → record_bytes lba b ++ more ≡ record_bytes lba c ++ rest → (b ≡ c) × (more ≡ rest)
one-same lba None None more rest h p q above below e = (refl, e)
one-same lba None (Some c) more rest h p q above below e = no-first lba c rest more h above e
one-same lba (Some b) None more rest h p q above below e = no-first lba b more rest h below (sym e)
one-same lba (Some b) (Some c) more rest h p q above below e =
    let m = length-lba lba b in
    let n = length-lba lba c in
    let t = append_parts (to_le_bytes w32 lba ++ b) (to_le_bytes w32 lba ++ c) more rest (omega (arith, p, q)) e in
    (ap Some (append_parts (to_le_bytes w32 lba) (to_le_bytes w32 lba) b c refl t.0).1, t.1)

pub records-same :
    (lba : ℕ) (bs cs : List (Option (List ℕ))) → length bs ≡ length cs → lba + length bs ≤ 2 ^ 32 → All IsBlockSized bs → All IsBlockSized cs
    → records lba bs ≡ records lba cs → map kept bs ≡ map kept cs
unfolding records
records-same lba [] [] n h p q e = refl
records-same lba [] (c ∷ cs) n h p q e = absurd (omega arith)
records-same lba (b ∷ bs) [] n h p q e = absurd (omega arith)
records-same lba (b ∷ bs) (c ∷ cs) n h p q e =
    let t = one-same lba (kept b) (kept c) (records (lba + 1) bs) (records (lba + 1) cs) (omega arith) (kept-sized b (All-head IsBlockSized b bs p)) (kept-sized c (All-head IsBlockSized c cs q))
    (records-above lba (lba + 1) bs (omega arith) (omega arith)) (records-above lba (lba + 1) cs (omega arith) (omega arith)) e in
    let i = records-same (lba + 1) bs cs (omega arith) (omega arith) (All-tail IsBlockSized b bs p) (All-tail IsBlockSized c cs q) t.1 in
    ap (λ (x : Option (List ℕ)). x ∷ map kept bs) t.0 ∙ ap (λ (xs : List (Option (List ℕ))). kept c ∷ xs) i
