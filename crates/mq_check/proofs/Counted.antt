-- Counts over the inodes of a volume, and over the blocks of the zones.
use Rattle.std.proofs.Common.{◌≡◌, ℕ, zero, suc, ◌+◌, ◌-◌, ◌<◌, ◌≤◌, List, [], ◌∷◌, length, Bool, cond, inl, inr, ◌⊎◌, refl, sym, ap, subst, ◌∙◌, arith}
use Rattle.std.specs.Prelude.{Option, Some, None}
use Rattle.std.specs.List.{count_by, range_with_len}
use Rattle.std.proofs.lemmas.List.Sums.{sum_by-cons, count_by-le-length}
use Rattle.std.proofs.lemmas.List.FromFn.{length-range_with_len}
use Rattle.mq_blocks.specs.Geometry.{homes_of, meta_of}
use Rattle.mq_blocks.specs.declared.geometry.Geometry.{Geometry}
use Rattle.mq_check.specs.Totals.{HasTotals, all_blocks, blocks_of, dirs_of, files_of, is_dir, is_file}
use Rattle.mq_layout.specs.Slots.{Entry}
use Rattle.mq_tree.specs.declared.counts.TreeCounts.{TreeCounts}
use Rattle.mq_tree.specs.Counts.{counts_in, counts_of, counts_of_volume, sum_of}
use Rattle.mq_tree.specs.Decoded.{Stored}
use Rattle.mq_tree.specs.Laid.{IsLaid, IsTreeOf, ShowsRegion, ShowsZone, is_marked, map_of}
use Rattle.mq_tree.specs.Trees.{IsAlike}
use Rattle.mq_tree.specs.Volume.{Body, Free, File, Dir, Node, Volume, body, is_taken, tree}
use Rattle.mq_tree.proofs.CountsSums.{alike-counts, root-counted}
use Rattle.mq_tree.proofs.LaidMaps.{mapped, unmapped}
use Rattle.mq_tree.proofs.LaidRegions.{region-zone}
use Rattle.mq_tree.proofs.LaidUses.{use-taken}

-- ---- ranges

pub range-more : (p : ℕ → Bool) (a n : ℕ) → count_by p (range_with_len a (n + 1)) ≡ count_by p (range_with_len a n) + cond (p (a + n)) 1 0
range-more p a zero =
    let one = sum_by-cons (λ (k : ℕ). cond (p k) 1 0) a [] in
    let stay : a ≡ a + 0 = omega arith in
    let here : p a ≡ p (a + 0) = ap p stay in
    let same : ◌≡◌ {A = ℕ} (cond (p a) 1 0) (cond (p (a + 0)) 1 0) = ap (λ (b : Bool). cond b 1 0) here in
    omega (arith, one, same)
range-more p a (suc n) =
    let left = sum_by-cons (λ (k : ℕ). cond (p k) 1 0) a (range_with_len (a + 1) (n + 1)) in
    let right = sum_by-cons (λ (k : ℕ). cond (p k) 1 0) a (range_with_len (a + 1) n) in
    let rest = range-more p (a + 1) n in
    let place : a + 1 + n ≡ a + suc n = omega arith in
    let at : p (a + 1 + n) ≡ p (a + suc n) = ap p place in
    let same : ◌≡◌ {A = ℕ} (cond (p (a + 1 + n)) 1 0) (cond (p (a + suc n)) 1 0) = ap (λ (b : Bool). cond b 1 0) at in
    let next : suc n + 1 ≡ suc (n + 1) = omega arith in
    let on : count_by p (range_with_len a (suc n + 1)) ≡ count_by p (range_with_len a (suc (n + 1))) = ap (λ (k : ℕ). count_by p (range_with_len a k)) next in
    omega (arith, left, right, rest, same, on)

pub range-le : (p : ℕ → Bool) (a n : ℕ) → count_by p (range_with_len a n) ≤ n
range-le p a n = omega (arith, count_by-le-length p (range_with_len a n), length-range_with_len a n)

-- two tests that agree on a range
pub range-same : (p q : ℕ → Bool) (a n : ℕ) → ((k : ℕ) → a ≤ k → k < a + n → p k ≡ q k) → count_by p (range_with_len a n) ≡ count_by q (range_with_len a n)
range-same p q a zero same = refl
range-same p q a (suc n) same =
    let left = sum_by-cons (λ (k : ℕ). cond (p k) 1 0) a (range_with_len (a + 1) n) in
    let right = sum_by-cons (λ (k : ℕ). cond (q k) 1 0) a (range_with_len (a + 1) n) in
    let rest = range-same p q (a + 1) n (λ k low high. same k (omega arith) (omega arith)) in
    let here : ◌≡◌ {A = ℕ} (cond (p a) 1 0) (cond (q a) 1 0) = ap (λ (b : Bool). cond b 1 0) (same a (omega arith) (omega arith)) in
    omega (arith, left, right, rest, here)

-- ---- blocks

-- what a map has at a block
page-or-none : (o : Option (List ℕ)) → (o ≡ None) ⊎ ((page : List ℕ) × (o ≡ Some page))
page-or-none None = inl refl
page-or-none (Some page) = inr (page, refl)

-- the bit of a block of a zone is set exactly where the block is used
pub marked-taken : (g : Geometry) (s : Stored) (v : Volume) (b : ℕ) → IsLaid g (map_of g s) v → meta_of g ≤ b → b < homes_of g → is_marked g s b ≡ is_taken v b
marked-taken g s v b laid low high = elim (page-or-none (map_of g s b)) [
  | inl none ↦ (unmapped g s b none).1 high ∙ sym (laid.vacant b none).1
  | inr (page, there) ↦
      let shown = laid.shown b page there in
      let at : ShowsZone v b page = subst (λ r. ShowsRegion g v b r page) (region-zone g b low high) shown.1 in
      (mapped g s b page there).marked low ∙ sym (use-taken v at.purpose b at.is)
]

pub blocks-counted : (g : Geometry) (s : Stored) (v : Volume) → IsLaid g (map_of g s) v → count_by (is_marked g s) (all_blocks g) ≡ blocks_of g v
blocks-counted g s v laid = range-same (is_marked g s) (is_taken v) (meta_of g) (homes_of g - meta_of g) (λ b low high. marked-taken g s v b laid low (omega arith))

-- ---- inodes

-- what is counted by bodies is the sum of a number of each
counted : (p : Body → Bool) (f : Body → ℕ) → ((b : Body) → cond (p b) 1 0 ≡ f b) → (v : Volume) → count_by (λ (n : Node). p n.body) v ≡ sum_of f v
counted p f same [] = refl
counted p f same (n ∷ v) =
    let left = sum_by-cons (λ (m : Node). cond (p m.body) 1 0) n v in
    let right = sum_by-cons (λ (m : Node). f m.body) n v in
    let here = same n.body in
    let rest = counted p f same v in
    omega (arith, left, right, here, rest)

dir-one : (b : Body) → cond (is_dir b) 1 0 ≡ (counts_of b).directories
dir-one Free = refl
dir-one (File bytes) = refl
dir-one (Dir slots) = refl

file-one : (b : Body) → cond (is_file b) 1 0 ≡ (counts_of b).files
file-one Free = refl
file-one (File bytes) = refl
file-one (Dir slots) = refl

pub dirs-counted : (v : Volume) → dirs_of v ≡ (counts_of_volume v).directories
dirs-counted v = counted is_dir (λ b. (counts_of b).directories) dir-one v

pub files-counted : (v : Volume) → files_of v ≡ (counts_of_volume v).files
files-counted v = counted is_file (λ b. (counts_of b).files) file-one v

-- a volume whose root is a directory has one more than are counted without it
pub root-first : (v : Volume) (slots : List (Option Entry)) → body v 0 ≡ Dir slots → dirs_of v ≡ (counts_in v).directories + 1
root-first v slots is =
    let root : (counts_of (body v 0)).directories ≡ 1 = ap (λ (b : Body). (counts_of b).directories) is in
    let all = dirs-counted v in
    let least = root-counted v in
    omega (arith, root, all, least)

-- ---- all three

-- A tree that is alike has the totals of the volume on the blocks.
pub totals : (g : Geometry) (s : Stored) (t v : Volume) → IsLaid g (map_of g s) v → IsAlike t v → HasTotals g v ((counts_in t).directories + 1) (counts_in t).files (count_by (is_marked g s) (all_blocks g))
totals g s t v laid alike =
    let same = alike-counts t v alike in
    let root = root-first v laid.sound.root.0 laid.sound.root.1 in
    let dirs : (counts_in t).directories ≡ (counts_in v).directories = ap (λ (c : TreeCounts). c.directories) same in
    let files : (counts_in t).files ≡ (counts_in v).files = ap (λ (c : TreeCounts). c.files) same in
    record { directories = omega (arith, root, dirs); numbers = files ∙ sym (files-counted v); used = blocks-counted g s v laid }

-- what a volume has is no more than its inodes
pub few : (v : Volume) → (dirs_of v ≤ length v) × (files_of v ≤ length v)
few v = (count_by-le-length (λ (n : Node). is_dir n.body) v, count_by-le-length (λ (n : Node). is_file n.body) v)

-- so its totals fit
pub small : (g : Geometry) (s : Stored) (t : Volume) → IsTreeOf g (map_of g s) (tree t) → ((v : Volume) → IsLaid g (map_of g s) v → IsAlike t v) → ((counts_in t).directories + 1 ≤ 32768) × ((counts_in t).files ≤ 32768)
small g s t is alike =
    let v = is.laid.volume in
    let all = totals g s t v is.laid.laid (alike v is.laid.laid) in
    let dirs = all.directories in
    let files = all.numbers in
    let low = few v in
    let count = is.laid.laid.sound.count in
    (omega (arith, dirs, low, count), omega (arith, files, low, count))
