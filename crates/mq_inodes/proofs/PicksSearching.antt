-- Free blocks that are picked zone by zone, up to a given number.
use Rattle.std.proofs.Common.{get_or, ◌≡◌, ℕ, zero, suc, ◌+◌, ◌-◌, ◌*◌, ◌<◌, ◌≤◌, inl, inr, List, [], ◌∷◌, ◌++◌, length, take, Bool, true, false, cond, refl, sym, ap, subst, ◌∙◌, arith, append_assoc}
use Rattle.std.specs.List.{All, range_with_len}
use Rattle.std.proofs.Math.Nat.{mul-le-mul_right}
use Rattle.std.proofs.lemmas.Bool.{cases_Bool, cases_lt}
use Rattle.std.proofs.lemmas.List.{append-nil}
use Rattle.std.proofs.lemmas.List.Elements.{All-append, All-cons, All-from_get_or, All-take}
use Rattle.std.proofs.lemmas.List.FromFn.{get_or-range_with_len, length-range_with_len}
use Rattle.mq_blocks.specs.Geometry.{queues_of, zone_size}
use Rattle.mq_blocks.specs.declared.geometry.Geometry.{Geometry}
use Rattle.mq_inodes.specs.Pages.{IsHeld, Pages}
use Rattle.mq_inodes.specs.Picks.{IsMarkable, free_of}
use Rattle.mq_inodes.proofs.Changes.{zone-of-block}
use Rattle.mq_layout.specs.Places.{zone_bitmap}
use Rattle.mq_tree.specs.Free.{zone_blocks}
use Rattle.mq_tree.specs.Laid.{zone_block}
use Rattle.mq_tree.specs.Volume.{Volume, is_taken}
use Rattle.mq_tree.proofs.Free.{range-split}

-- ---- the first items of a list, up to a given number

-- where they are fewer they are all
pub take-few : (n : ℕ) (xs : List ℕ) → length (take n xs) < n → take n xs ≡ xs
take-few zero xs l = absurd (omega arith)
take-few (suc n) [] l = refl
take-few (suc n) (x ∷ xs) l = ap (λ (ys : List ℕ). x ∷ ys) (take-few n xs (omega arith))

-- where they are enough no more are looked for
take-enough : (n : ℕ) (xs ys : List ℕ) → n ≤ length (take n xs) → take n (xs ++ ys) ≡ take n xs
take-enough zero xs ys l = refl
take-enough (suc n) [] ys l = absurd (omega arith)
take-enough (suc n) (x ∷ xs) ys l = ap (λ (zs : List ℕ). x ∷ zs) (take-enough n xs ys (omega arith))

pub take-again : (n : ℕ) (xs ys : List ℕ) → take n (take n xs ++ ys) ≡ take n (xs ++ ys)
take-again zero xs ys = refl
take-again (suc n) [] ys = refl
take-again (suc n) (x ∷ xs) ys = ap (λ (zs : List ℕ). x ∷ zs) (take-again n xs ys)

take-push : (n b : ℕ) (xs : List ℕ) → length xs < n → take n (xs ++ b ∷ []) ≡ xs ++ b ∷ []
take-push zero b xs l = absurd (omega arith)
take-push (suc n) b [] l = ap (λ (zs : List ℕ). b ∷ zs) (nothing n)
  where
    nothing : (k : ℕ) → take {A = ℕ} k [] ≡ []
    nothing zero = refl
    nothing (suc k) = refl
take-push (suc n) b (x ∷ xs) l = ap (λ (zs : List ℕ). x ∷ zs) (take-push n b xs (omega arith))

pub length-picks : (n : ℕ) (xs : List ℕ) → length (take n xs) ≤ n
length-picks zero xs = omega arith
length-picks (suc n) [] = omega arith
length-picks (suc n) (x ∷ xs) = let rest = length-picks n xs in omega arith

-- ---- bit by bit

range-push : (a n : ℕ) → range_with_len a (n + 1) ≡ range_with_len a n ++ (a + n) ∷ []
range-push a zero = let e : a + zero ≡ a = omega arith in ap (λ (x : ℕ). x ∷ []) (sym e)
range-push a (suc n) =
    let e : a + 1 + n ≡ a + suc n = omega arith in
    let s : suc n + 1 ≡ suc (n + 1) = omega arith in
    ap (λ (k : ℕ). range_with_len a k) s ∙ ap (λ (xs : List ℕ). a ∷ xs) (range-push (a + 1) n) ∙ ap (λ (x : ℕ). a ∷ (range_with_len (a + 1) n ++ x ∷ [])) e

pub free-append : (v : Volume) (xs ys : List ℕ) → free_of v (xs ++ ys) ≡ free_of v xs ++ free_of v ys
free-append v [] ys = refl
free-append v (x ∷ xs) ys =
    let rest = free-append v xs ys in
    elim (cases_Bool (is_taken v x)) [
      | inl y ↦ rw y rest
      | inr n ↦ rw n (ap (λ (zs : List ℕ). x ∷ zs) rest)
    ]

free-next : (v : Volume) (a k : ℕ) → free_of v (range_with_len a (k + 1)) ≡ free_of v (range_with_len a k) ++ cond (is_taken v (a + k)) [] ((a + k) ∷ [])
free-next v a k = ap (free_of v) (range-push a k) ∙ free-append v (range_with_len a k) ((a + k) ∷ [])

-- the picks of the blocks before, and of k blocks from a on
abbrev pub picked : Volume → (count : ℕ) → List ℕ → (a k : ℕ) → List ℕ
picked v n old a k = take n (old ++ free_of v (range_with_len a k))

picked-taken : (v : Volume) (n a k : ℕ) (old picks : List ℕ) → true ≡ is_taken v (a + k) → picks ≡ picked v n old a k → picks ≡ picked v n old a (k + 1)
picked-taken v n a k old picks t e =
    let none : free_of v (range_with_len a (k + 1)) ≡ free_of v (range_with_len a k) ++ [] = free-next v a k ∙ ap (λ (s : Bool). free_of v (range_with_len a k) ++ cond s [] ((a + k) ∷ [])) (sym t) in
    e ∙ ap (λ (xs : List ℕ). take n (old ++ xs)) (sym (none ∙ append-nil (free_of v (range_with_len a k))))

-- taken blocks are passed
pub picked-passed : (v : Volume) (n a k m : ℕ) (old picks : List ℕ) → k ≤ m → ((j : ℕ) → k ≤ j → j < m → true ≡ is_taken v (a + j)) → picks ≡ picked v n old a k → picks ≡ picked v n old a m
picked-passed v n a k zero old picks l taken e = let z : k ≡ zero = omega arith in e ∙ ap (picked v n old a) z
picked-passed v n a k (suc m) old picks l taken e = elim (cases_lt m k) [
  | inl last ↦ let z : k ≡ suc m = omega arith in e ∙ ap (picked v n old a) z
  | inr more ↦
      let rest = picked-passed v n a k m old picks more (λ j low high. taken j low (omega arith)) e in
      let z : m + 1 ≡ suc m = omega arith in
      picked-taken v n a m old picks (taken m more (omega arith)) rest ∙ ap (picked v n old a) z
]

pub picked-free : (v : Volume) (n a k : ℕ) (old picks : List ℕ) → false ≡ is_taken v (a + k) → length picks < n → picks ≡ picked v n old a k → picks ++ (a + k) ∷ [] ≡ picked v n old a (k + 1)
picked-free v n a k old picks f few e =
    let seen = old ++ free_of v (range_with_len a k) in
    let all : picks ≡ seen = e ∙ take-few n seen (subst (λ (xs : List ℕ). length xs < n) e few) in
    let next : free_of v (range_with_len a (k + 1)) ≡ free_of v (range_with_len a k) ++ (a + k) ∷ [] = free-next v a k ∙ ap (λ (s : Bool). free_of v (range_with_len a k) ++ cond s [] ((a + k) ∷ [])) (sym f) in
    sym (take-push n (a + k) picks few) ∙ ap (λ (xs : List ℕ). take n (xs ++ (a + k) ∷ [])) all
    ∙ ap (λ (xs : List ℕ). take n xs) (append_assoc old (free_of v (range_with_len a k)) ((a + k) ∷ [])) ∙ ap (λ (xs : List ℕ). take n (old ++ xs)) (sym next)

-- there are enough before the end
pub picked-enough : (v : Volume) (n a k m : ℕ) (old picks : List ℕ) → k ≤ m → n ≤ length picks → picks ≡ picked v n old a k → picks ≡ picked v n old a m
picked-enough v n a k m old picks l enough e =
    let seen = old ++ free_of v (range_with_len a k) in
    let rest = free_of v (range_with_len (a + k) (m - k)) in
    let long : m ≡ k + (m - k) = omega arith in
    let split : free_of v (range_with_len a m) ≡ free_of v (range_with_len a k) ++ rest = ap (λ (j : ℕ). free_of v (range_with_len a j)) long ∙ ap (free_of v) (range-split a k (m - k)) ∙ free-append v (range_with_len a k) (range_with_len (a + k) (m - k)) in
    e ∙ sym (take-enough n seen rest (subst (λ (xs : List ℕ). n ≤ length xs) e enough)) ∙ ap (λ (xs : List ℕ). take n xs) (append_assoc old (free_of v (range_with_len a k)) rest) ∙ ap (λ (xs : List ℕ). take n (old ++ xs)) (sym split)

-- ---- blocks whose bitmap is held

All-free : (v : Volume) (P : ℕ → Type 0) (xs : List ℕ) → All P xs → All P (free_of v xs)
All-free v P [] h = h
All-free v P (x ∷ xs) h =
    let rest = All-free v P xs (λ i d l. h (suc i) d (omega arith)) in
    elim (cases_Bool (is_taken v x)) [
      | inl y ↦ rw y rest
      | inr n ↦ rw n (All-cons P x (free_of v xs) (h zero x (omega arith)) rest)
    ]

zone-markable : (g : Geometry) (pages : Pages) (zone : ℕ) → zone < queues_of g → IsHeld pages (zone_bitmap zone) → All (IsMarkable g pages) (zone_blocks g zone)
zone-markable g pages zone low held = All-from_get_or (IsMarkable g pages) (zone_blocks g zone) 0 (λ k l. subst (λ b. IsMarkable g pages b) (sym (at k l)) (here k (inside k l)))
  where
    inside : (k : ℕ) → k < length (zone_blocks g zone) → k < zone_size g
    inside k l = let e = length-range_with_len (zone_block g zone 0) (zone_size g) in omega arith

    at : (k : ℕ) → k < length (zone_blocks g zone) → get_or (zone_blocks g zone) k 0 ≡ zone_block g zone k
    at k l = get_or-range_with_len (zone_block g zone 0) (zone_size g) k 0 (inside k l) ∙ (omega arith)

    here : (k : ℕ) → k < zone_size g → IsMarkable g pages (zone_block g zone k)
    here k l =
        let all : (zone + 1) * zone_size g ≤ queues_of g * zone_size g = mul-le-mul_right (zone_size g) (omega arith) in
        record {
          high = omega arith;
          home = omega arith;
          marks = subst (λ z. IsHeld pages (zone_bitmap z)) (sym (zone-of-block g zone k l)) held;
        }

pub more-markable : (g : Geometry) (pages : Pages) (v : Volume) (zone n : ℕ) (old picks : List ℕ) → zone < queues_of g → IsHeld pages (zone_bitmap zone) → picks ≡ take n (old ++ free_of v (zone_blocks g zone)) → All (IsMarkable g pages) old → All (IsMarkable g pages) picks
more-markable g pages v zone n old picks low held e all =
    let zone_all = All-free v (IsMarkable g pages) (zone_blocks g zone) (zone-markable g pages zone low held) in
    subst (λ (xs : List ℕ). All (IsMarkable g pages) xs) (sym e) (All-take (IsMarkable g pages) n (old ++ free_of v (zone_blocks g zone)) (All-append (IsMarkable g pages) old (free_of v (zone_blocks g zone)) all zone_all))
