-- Free blocks that are picked zone by zone: the queue's own zone, and then the others by rising zone.
use Rattle.std.proofs.Common.{◌≡◌, ◌≢◌, ℕ, suc, ◌+◌, ◌-◌, ◌*◌, ◌<◌, ◌≤◌, inl, inr, List, [], ◌++◌, length, take, Bool, sym, ap, subst, ◌∙◌, arith, append_assoc}
use Rattle.std.specs.Prelude.{min, if◌then◌else◌, nat_lt}
use Rattle.std.specs.List.{range_with_len}
use Rattle.std.proofs.lemmas.Bool.{cases_lt, le-ltb, lt-ltb, ne_eqb}
use Rattle.std.proofs.lemmas.List.{append-nil}
use Rattle.mq_blocks.specs.Geometry.{meta_of, queues_of, zone_size}
use Rattle.mq_blocks.specs.declared.geometry.Geometry.{Geometry}
use Rattle.mq_inodes.specs.Picks.{ArePicked, IsSearched, free_of}
use Rattle.mq_inodes.proofs.Picks.{length-free}
use Rattle.mq_inodes.proofs.PicksSearching.{free-append, length-picks, take-again, take-few}
use Rattle.mq_layout.specs.Places.{zone_bitmap}
use Rattle.mq_tree.specs.Free.{count_free, free_blocks, order, zone_blocks}
use Rattle.mq_tree.specs.Laid.{zone_block}
use Rattle.mq_tree.specs.Looks.{before}
use Rattle.mq_tree.specs.Volume.{Volume}
use Rattle.mq_tree.proofs.Free.{count-order, range-split}

-- ---- the blocks of zones

-- the queue's own zone, a zones from the first on, and b from that behind the queue's on
abbrev parts : Geometry → (q lower higher : ℕ) → List ℕ
parts g q a b = zone_blocks g q ++ range_with_len (meta_of g) (a * zone_size g) ++ range_with_len (zone_block g (suc q) 0) (b * zone_size g)

-- the blocks of the zones that were looked at before this one
abbrev pub reached : Geometry → (q zone : ℕ) → List ℕ
reached g q z = parts g q (min z q) (z - suc q)

parts-none : (g : Geometry) (q a : ℕ) → parts g q a 0 ≡ zone_blocks g q ++ range_with_len (meta_of g) (a * zone_size g)
parts-none g q a =
    let none : 0 * zone_size g ≡ 0 = omega arith in
    let own = zone_blocks g q ++ range_with_len (meta_of g) (a * zone_size g) in
    ap (λ (n : ℕ). own ++ range_with_len (zone_block g (suc q) 0) n) none ∙ append-nil own

range-zone : (a k size : ℕ) → range_with_len a ((k + 1) * size) ≡ range_with_len a (k * size) ++ range_with_len (a + k * size) size
range-zone a k size =
    let e : (k + 1) * size ≡ k * size + size = omega arith in
    ap (λ (n : ℕ). range_with_len a n) e ∙ range-split a (k * size) size

parts-lower : (g : Geometry) (q z : ℕ) → parts g q (z + 1) 0 ≡ parts g q z 0 ++ zone_blocks g z
parts-lower g q z =
    let own = zone_blocks g q in
    let lower = range_with_len (meta_of g) (z * zone_size g) in
    let at : meta_of g + z * zone_size g ≡ zone_block g z 0 = omega arith in
    parts-none g q (z + 1) ∙ ap (λ (xs : List ℕ). own ++ xs) (range-zone (meta_of g) z (zone_size g) ∙ ap (λ (b : ℕ). lower ++ range_with_len b (zone_size g)) at)
    ∙ sym (append_assoc own lower (zone_blocks g z)) ∙ ap (λ (xs : List ℕ). xs ++ zone_blocks g z) (sym (parts-none g q z))

parts-higher : (g : Geometry) (q k z : ℕ) → z ≡ q + 1 + k → parts g q q (k + 1) ≡ parts g q q k ++ zone_blocks g z
parts-higher g q k z e =
    let own = zone_blocks g q ++ range_with_len (meta_of g) (q * zone_size g) in
    let a = zone_block g (suc q) 0 in
    let higher = range_with_len a (k * zone_size g) in
    let product : z * zone_size g ≡ (q + 1 + k) * zone_size g = ap (λ (x : ℕ). x * zone_size g) e in
    let at : a + k * zone_size g ≡ zone_block g z 0 = omega arith in
    ap (λ (xs : List ℕ). own ++ xs) (range-zone a k (zone_size g) ∙ ap (λ (b : ℕ). higher ++ range_with_len b (zone_size g)) at) ∙ sym (append_assoc own higher (zone_blocks g z))

-- ---- those that were reached

reached-is : (g : Geometry) (q z a b : ℕ) → min z q ≡ a → z - suc q ≡ b → reached g q z ≡ parts g q a b
reached-is g q z a b e f = ap (λ (x : ℕ). parts g q x (z - suc q)) e ∙ ap (λ (x : ℕ). parts g q a x) f

-- the queue's own zone isn't looked at again
reached-own : (g : Geometry) (q : ℕ) → reached g q (q + 1) ≡ reached g q q
reached-own g q = reached-is g q (q + 1) q 0 (omega arith) (omega arith) ∙ sym (reached-is g q q q 0 (omega arith) (omega arith))

reached-next : (g : Geometry) (q z : ℕ) → z ≢ q → reached g q (z + 1) ≡ reached g q z ++ zone_blocks g z
reached-next g q z other = elim (cases_lt z q) [
  | inl low ↦ reached-is g q (z + 1) (z + 1) 0 (omega arith) (omega arith) ∙ parts-lower g q z ∙ ap (λ (xs : List ℕ). xs ++ zone_blocks g z) (sym (reached-is g q z z 0 (omega arith) (omega arith)))
  | inr high ↦
      let past : q < z = omega arith in
      reached-is g q (z + 1) q (z - suc q + 1) (omega arith) (omega arith) ∙ parts-higher g q (z - suc q) z (omega arith) ∙ ap (λ (xs : List ℕ). xs ++ zone_blocks g z) (sym (reached-is g q z q (z - suc q) (omega arith) (omega arith)))
]

reached-before : (g : Geometry) (q z : ℕ) → z ≢ q → before g q z ≡ reached g q z
reached-before g q z other =
    let low_part = zone_blocks g q ++ range_with_len (meta_of g) (z * zone_size g) in
    let high_part = parts g q q (z - suc q) in
    ap (λ (t : Bool). if t then [] else (if nat_lt z q then low_part else high_part)) (ne_eqb z q other) ∙ elim (cases_lt z q) [
      | inl low ↦ ap (λ (t : Bool). if t then low_part else high_part) (lt-ltb z q low) ∙ sym (parts-none g q z) ∙ sym (reached-is g q z z 0 (omega arith) (omega arith))
      | inr high ↦ ap (λ (t : Bool). if t then low_part else high_part) (le-ltb z q high) ∙ sym (reached-is g q z q (z - suc q) (omega arith) (omega arith))
    ]

-- ---- picks of them

abbrev pub picks_before : Geometry → (q : ℕ) → Volume → (count zone : ℕ) → List ℕ
picks_before g q v n z = take n (free_of v (reached g q z))

pub picks-own : (g : Geometry) (q n z : ℕ) (v : Volume) (picks : List ℕ) → z ≡ q → picks ≡ picks_before g q v n z → picks ≡ picks_before g q v n (z + 1)
picks-own g q n z v picks e h =
    h ∙ ap (λ (xs : List ℕ). take n (free_of v xs)) (ap (reached g q) e ∙ sym (reached-own g q) ∙ ap (λ (x : ℕ). reached g q (x + 1)) (sym e))

pub picks-next : (g : Geometry) (q n z : ℕ) (v : Volume) (old picks : List ℕ) → z ≢ q → picks ≡ take n (old ++ free_of v (zone_blocks g z)) → old ≡ picks_before g q v n z → picks ≡ picks_before g q v n (z + 1)
picks-next g q n z v old picks other e h =
    e ∙ ap (λ (xs : List ℕ). take n (xs ++ free_of v (zone_blocks g z))) h ∙ take-again n (free_of v (reached g q z)) (free_of v (zone_blocks g z))
    ∙ ap (take n) (sym (free-append v (reached g q z) (zone_blocks g z))) ∙ ap (λ (xs : List ℕ). take n (free_of v xs)) (sym (reached-next g q z other))

-- ---- where they do not suffice

few-free : (v : Volume) (n : ℕ) (xs picks : List ℕ) → picks ≡ take n (free_of v xs) → length picks < n → count_free v xs < n
few-free v n xs picks e few =
    let all : picks ≡ free_of v xs = e ∙ take-few n (free_of v xs) (subst (λ (ys : List ℕ). length ys < n) e few) in
    let m : length picks ≡ count_free v xs = ap (λ (ys : List ℕ). length ys) all ∙ length-free v xs in
    omega arith

pub searched-other : (g : Geometry) (q n z b : ℕ) (v : Volume) (old : List ℕ) → z ≢ q → z < queues_of g → old ≡ picks_before g q v n z → b ≡ zone_bitmap z → length old < n → IsSearched g q v n b
searched-other g q n z b v old other low h e few = record {
  zone = z;
  inside = low;
  few = subst (λ (xs : List ℕ). count_free v xs < n) (sym (reached-before g q z other)) (few-free v n (reached g q z) old h few);
  is = e;
}

pub picked-few : (g : Geometry) (q n : ℕ) (v : Volume) (picks : List ℕ) → q < queues_of g → picks ≡ take n (free_of v (order g q)) → length picks < n → free_blocks g v < n
picked-few g q n v picks low e few = subst (λ (k : ℕ). k < n) (count-order g q v low) (few-free v n (order g q) picks e few)

pub picked-all : (g : Geometry) (q n : ℕ) (v : Volume) (picks : List ℕ) → picks ≡ take n (free_of v (order g q)) → n ≤ length picks → ArePicked g q v n picks
picked-all g q n v picks e many =
    let few = length-picks n (free_of v (order g q)) in
    let m = ap (λ (xs : List ℕ). length xs) e in
    record { enough = omega arith; first = e }
