-- Free blocks: how many there are, and the first of them.
use Rattle.std.proofs.Common.{◌≡◌, ◌≢◌, ℕ, zero, suc, ◌+◌, ◌-◌, ◌*◌, ◌<◌, ◌≤◌, ◌⊎◌, inl, inr, List, [], ◌∷◌, ◌++◌, Bool, true, false, cond, refl, sym, ap, subst, ◌∙◌, arith}
use Rattle.std.specs.Prelude.{Some}
use Rattle.std.specs.List.{range_with_len}
use Rattle.std.proofs.lemmas.Bool.{cases_Bool, cases_eq, true≢false}
use Rattle.std.proofs.lemmas.Option.{none-some, same_Some}
use Rattle.mq_blocks.specs.Geometry.{homes_of, meta_of, queues_of, zone_size}
use Rattle.mq_blocks.specs.declared.geometry.Geometry.{Geometry}
use Rattle.mq_tree.specs.Free.{count_free, first_of, free_blocks, order, zone_blocks}
use Rattle.mq_tree.specs.Laid.{zone_block}
use Rattle.mq_tree.specs.Volume.{Volume, is_taken}

-- ---- how many there are

pub count-append : (v : Volume) (xs ys : List ℕ) → count_free v (xs ++ ys) ≡ count_free v xs + count_free v ys
count-append v [] ys = omega arith
count-append v (x ∷ xs) ys =
    let rest = count-append v xs ys in
    elim (cases_Bool (is_taken v x)) [
      | inl y ↦ rw y rest
      | inr n ↦ rw n (omega (arith, rest))
    ]

pub range-split : (a n m : ℕ) → range_with_len a (n + m) ≡ range_with_len a n ++ range_with_len (a + n) m
range-split a zero m =
    let e : zero + m ≡ m = omega arith in
    let f : a + zero ≡ a = omega arith in
    ap (λ (k : ℕ). range_with_len a k) e ∙ ap (λ (b : ℕ). range_with_len b m) (sym f)
range-split a (suc n) m =
    let e : suc n + m ≡ suc (n + m) = omega arith in
    let f : a + 1 + n ≡ a + suc n = omega arith in
    ap (λ (k : ℕ). range_with_len a k) e ∙ ap (λ (xs : List ℕ). a ∷ xs) (range-split (a + 1) n m)
    ∙ ap (λ (b : ℕ). range_with_len a (suc n) ++ range_with_len b m) f

count-split : (v : Volume) (a n m k b : ℕ) → k ≡ n + m → b ≡ a + n → count_free v (range_with_len a k) ≡ count_free v (range_with_len a n) + count_free v (range_with_len b m)
count-split v a n m k b e f =
    ap (λ (j : ℕ). count_free v (range_with_len a j)) e ∙ ap (λ (xs : List ℕ). count_free v xs) (range-split a n m)
    ∙ count-append v (range_with_len a n) (range_with_len (a + n) m)
    ∙ ap (λ (c : ℕ). count_free v (range_with_len a n) + count_free v (range_with_len c m)) (sym f)

pub zones-split : (k q z : ℕ) → q < k → k * z ≡ q * z + (z + (k - suc q) * z)
zones-split k q z low =
    let e : k ≡ q + 1 + (k - suc q) = omega arith in
    let f : (q + 1 + (k - suc q)) * z ≡ q * z + (z + (k - suc q) * z) = omega arith in
    ap (λ (x : ℕ). x * z) e ∙ f

-- in the order of a queue there are just the blocks of all zones
pub count-order : (g : Geometry) (q : ℕ) (v : Volume) → q < queues_of g → count_free v (order g q) ≡ free_blocks g v
count-order g q v low =
    let m = meta_of g in
    let z = zone_size g in
    let n = queues_of g - suc q in
    let all = zones-split (queues_of g) q z low in
    let own = zone_block g q 0 in
    let first = count-split v m (q * z) (z + n * z) (queues_of g * z) (m + q * z) all refl in
    let then = count-split v (m + q * z) z (n * z) (z + n * z) (zone_block g (suc q) 0) refl (omega arith) in
    let here : own ≡ m + q * z = omega arith in
    let zone = ap (λ (b : ℕ). count_free v (range_with_len b z)) here in
    let a = count-append v (zone_blocks g q ++ range_with_len m (q * z)) (range_with_len (zone_block g (suc q) 0) (n * z)) in
    let b = count-append v (zone_blocks g q) (range_with_len m (q * z)) in
    omega (arith, first, then, zone, a, b)

-- ---- the first of them

pub first-some : (v : Volume) (bs : List ℕ) → 1 ≤ count_free v bs → (b : ℕ) × (first_of v bs ≡ Some b)
first-some v [] l = absurd (omega arith)
first-some v (b ∷ bs) l = elim (cases_Bool (is_taken v b)) [
  | inl y ↦
      let r = first-some v bs (subst (λ (t : Bool). 1 ≤ cond t (count_free v bs) (suc (count_free v bs))) y l) in
      (r.0, ap (λ (t : Bool). cond t (first_of v bs) (Some b)) y ∙ r.1)
  | inr n ↦ (b, ap (λ (t : Bool). cond t (first_of v bs) (Some b)) n)
]

-- it is not taken, and is one of the blocks
record First (v : Volume) (x b : ℕ) (bs : List ℕ) : Type 0 where
  cases : ((x ≡ b) × (is_taken v x ≡ false)) ⊎ (first_of v bs ≡ Some b)

first-cases : (v : Volume) (x b : ℕ) (bs : List ℕ) → first_of v (x ∷ bs) ≡ Some b → First v x b bs
first-cases v x b bs e = elim (cases_Bool (is_taken v x)) [
  | inl y ↦ record { cases = inr (ap (λ (t : Bool). cond t (first_of v bs) (Some x)) (sym y) ∙ e) }
  | inr n ↦ record { cases = inl (same_Some x b (ap (λ (t : Bool). cond t (first_of v bs) (Some x)) (sym n) ∙ e), n) }
]

pub first-not_taken : (v : Volume) (bs : List ℕ) (b : ℕ) → first_of v bs ≡ Some b → is_taken v b ≡ false
first-not_taken v [] b e = absurd (none-some b e)
first-not_taken v (x ∷ bs) b e = elim (first-cases v x b bs e).cases [
  | inl h ↦ ap (λ (c : ℕ). is_taken v c) (sym h.0) ∙ h.1
  | inr f ↦ first-not_taken v bs b f
]

first-append : (v : Volume) (xs ys : List ℕ) (b : ℕ) → first_of v (xs ++ ys) ≡ Some b → (first_of v xs ≡ Some b) ⊎ (first_of v ys ≡ Some b)
first-append v [] ys b e = inr e
first-append v (x ∷ xs) ys b e = elim (first-cases v x b (xs ++ ys) e).cases [
  | inl h ↦ inl (ap (λ (t : Bool). cond t (first_of v xs) (Some x)) h.1 ∙ ap (λ (c : ℕ). Some c) h.0)
  | inr f ↦ elim (first-append v xs ys b f) [
    | inl l ↦ elim (cases_Bool (is_taken v x)) [
      | inl y ↦ inl (ap (λ (t : Bool). cond t (first_of v xs) (Some x)) y ∙ l)
      | inr n ↦ inl (ap (λ (t : Bool). cond t (first_of v xs) (Some x)) n ∙ ap (λ (t : Bool). cond t (first_of v (xs ++ ys)) (Some x)) (sym n) ∙ e)
    ]
    | inr r ↦ inr r
  ]
]

first-range : (v : Volume) (a n b : ℕ) → first_of v (range_with_len a n) ≡ Some b → (a ≤ b) × (b < a + n)
first-range v a zero b e = absurd (none-some b e)
first-range v a (suc n) b e = elim (first-cases v a b (range_with_len (a + 1) n) e).cases [
  | inl h ↦ let i = h.0 in (omega arith, omega arith)
  | inr f ↦ let r = first-range v (a + 1) n b f in let l = r.0 in let h = r.1 in (omega arith, omega arith)
]

pub first-zones : (g : Geometry) (q : ℕ) (v : Volume) (b : ℕ) → q < queues_of g → first_of v (order g q) ≡ Some b → (meta_of g ≤ b) × (b < homes_of g)
first-zones g q v b low e =
    let m = meta_of g in
    let z = zone_size g in
    let n = queues_of g - suc q in
    let within = zones-split (queues_of g) q z low in
    elim (first-append v (zone_blocks g q ++ range_with_len m (q * z)) (range_with_len (zone_block g (suc q) 0) (n * z)) b e) [
      | inl l ↦ elim (first-append v (zone_blocks g q) (range_with_len m (q * z)) b l) [
        | inl own ↦ let r = first-range v (zone_block g q 0) z b own in let h = r.0 in let i = r.1 in (omega arith, omega (arith, within))
        | inr before ↦ let r = first-range v m (q * z) b before in let h = r.0 in let i = r.1 in (omega arith, omega (arith, within))
      ]
      | inr after ↦ let r = first-range v (zone_block g (suc q) 0) (n * z) b after in let h = r.0 in let i = r.1 in (omega arith, omega (arith, within))
    ]

-- ---- fewer blocks are taken, or one more

pub count-more : (v w : Volume) (bs : List ℕ) → ((x : ℕ) → is_taken v x ≡ false → is_taken w x ≡ false) → count_free v bs ≤ count_free w bs
count-more v w [] h = omega arith
count-more v w (b ∷ bs) h =
    let rest = count-more v w bs h in
    elim (cases_Bool (is_taken v b)) [
      | inl y ↦ elim (cases_Bool (is_taken w b)) [
        | inl t ↦ rw (y, t) rest
        | inr n ↦ rw (y, n) (omega (arith, rest))
      ]
      | inr n ↦ let m = h b n in rw (n, m) (omega (arith, rest))
    ]

count-past : (v w : Volume) (b a n : ℕ) → b < a → ((x : ℕ) → x ≢ b → is_taken v x ≡ false → is_taken w x ≡ false) → count_free v (range_with_len a n) ≤ count_free w (range_with_len a n)
count-past v w b a zero l h = omega arith
count-past v w b a (suc n) l h =
    let rest = count-past v w b (a + 1) n (omega arith) h in
    elim (cases_Bool (is_taken v a)) [
      | inl y ↦ elim (cases_Bool (is_taken w a)) [
        | inl t ↦ rw (y, t) rest
        | inr u ↦ rw (y, u) (omega (arith, rest))
      ]
      | inr u ↦ let m = h a (λ e. omega arith) u in rw (u, m) (omega (arith, rest))
    ]

count-one : (v w : Volume) (b a n : ℕ) → ((x : ℕ) → x ≢ b → is_taken v x ≡ false → is_taken w x ≡ false) → count_free v (range_with_len a n) ≤ suc (count_free w (range_with_len a n))
count-one v w b a zero h = omega arith
count-one v w b a (suc n) h = elim (cases_eq a b) [
  | inl e ↦ either (is_taken v a) (is_taken w a) _ _ (count-past v w b (a + 1) n (omega arith) h)
  | inr other ↦ same (is_taken v a) (is_taken w a) _ _ (h a other) (count-one v w b (a + 1) n h)
]
  where
    either : (s t : Bool) (x y : ℕ) → x ≤ y → cond s x (suc x) ≤ suc (cond t y (suc y))
    either true true x y l = omega arith
    either true false x y l = omega arith
    either false true x y l = omega arith
    either false false x y l = omega arith

    same : (s t : Bool) (x y : ℕ) → (s ≡ false → t ≡ false) → x ≤ suc y → cond s x (suc x) ≤ suc (cond t y (suc y))
    same true true x y f l = omega arith
    same true false x y f l = omega arith
    same false true x y f l = absurd (true≢false (f refl))
    same false false x y f l = omega arith

pub free-more : (g : Geometry) (v w : Volume) → ((x : ℕ) → is_taken v x ≡ false → is_taken w x ≡ false) → free_blocks g v ≤ free_blocks g w
free-more g v w h = count-more v w (range_with_len (meta_of g) (queues_of g * zone_size g)) h

pub free-one : (g : Geometry) (v w : Volume) (b : ℕ) → ((x : ℕ) → x ≢ b → is_taken v x ≡ false → is_taken w x ≡ false) → free_blocks g v ≤ suc (free_blocks g w)
free-one g v w b h = count-one v w b (meta_of g) (queues_of g * zone_size g) h
