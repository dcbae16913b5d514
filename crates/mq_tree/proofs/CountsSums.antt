-- Sums over the inodes of a volume, and what a tree has.
use Rattle.std.proofs.Common.{get_or, ◌≡◌, ℕ, zero, suc, ◌+◌, ◌-◌, ◌*◌, ◌^◌, ◌≤◌, ◌<◌, List, [], ◌∷◌, length, take, refl, sym, ap, ◌∙◌, arith}
use Rattle.std.specs.Prelude.{Option, None}
use Rattle.std.specs.List.{sum_by}
use Rattle.std.proofs.lemmas.List.Sums.{sum_by-cons, sum_by_more, sum_by_more_le}
use Rattle.std.proofs.Math.Nat.{suc-mul}
use Rattle.std.proofs.Math.Seq.{take-length}
use Rattle.mq_blocks.specs.declared.geometry.Geometry.{Geometry}
use Rattle.mq_layout.specs.Slots.{Entry}
use Rattle.mq_tree.specs.Counts.{IsCountable, counts_in, counts_of, counts_of_volume, sum_of}
use Rattle.mq_tree.specs.Sound.{IsBody, IsSound}
use Rattle.mq_tree.specs.Trees.{IsAlike, body_kept, kept}
use Rattle.mq_tree.specs.Volume.{Body, Free, File, Dir, Node, Volume, body, thing}
use Rattle.mq_tree.specs.declared.contents.InodeContent.{InodeContent}
use Rattle.mq_tree.specs.declared.counts.TreeCounts.{TreeCounts}
use Rattle.mq_tree.proofs.VolumeAlike.{same-on}

abbrev three : ℕ → ℕ → ℕ → TreeCounts
three directories files bytes = record { directories = directories; files = files; bytes = bytes }

pub counts-are : (t : TreeCounts) (directories files bytes : ℕ) → t.directories ≡ directories → t.files ≡ files → t.bytes ≡ bytes → t ≡ record { directories = directories; files = files; bytes = bytes }
counts-are t directories files bytes d f b =
    ap (λ (n : ℕ). three n t.files t.bytes) d ∙ ap (λ (n : ℕ). three directories n t.bytes) f ∙ ap (three directories files) b

-- ---- volumes that are alike

same-sum : (f : Body → ℕ) → ((s t : List (Option Entry)) → f (Dir s) ≡ f (Dir t)) → (v w : Volume) → length v ≡ length w → ((i : ℕ) → thing (body v i) ≡ thing (body w i)) → sum_of f v ≡ sum_of f w
same-sum f dirs [] [] e h = refl
same-sum f dirs [] (m ∷ w) e h = absurd (omega arith)
same-sum f dirs (n ∷ v) [] e h = absurd (omega arith)
same-sum f dirs (n ∷ v) (m ∷ w) e h =
    let first : f n.body ≡ f m.body = same-on f dirs n.body m.body (h zero) in
    let rest = same-sum f dirs v w (omega arith) (λ i. h (suc i)) in
    let left = sum_by-cons (λ (k : Node). f k.body) n v in
    let right = sum_by-cons (λ (k : Node). f k.body) m w in
    omega (arith, first, rest, left, right)

pub alike-counts : (v w : Volume) → IsAlike v w → counts_in v ≡ counts_in w
alike-counts v w alike =
    let things : (i : ℕ) → thing (body v i) ≡ thing (body w i) = λ i. (alike.each i).0 in
    let root : (counts_of (body v 0)).directories ≡ (counts_of (body w 0)).directories = same-on (λ b. (counts_of b).directories) (λ s t. refl) (body v 0) (body w 0) (things 0) in
    let all = same-sum (λ b. (counts_of b).directories) (λ s t. refl) v w alike.count things in
    let directories : (counts_in v).directories ≡ (counts_in w).directories = omega (arith, root, all) in
    let files : (counts_in v).files ≡ (counts_in w).files = same-sum (λ b. (counts_of b).files) (λ s t. refl) v w alike.count things in
    let bytes : (counts_in v).bytes ≡ (counts_in w).bytes = same-sum (λ b. (counts_of b).bytes) (λ s t. refl) v w alike.count things in
    counts-are (counts_in v) (counts_in w).directories (counts_in w).files (counts_in w).bytes directories files bytes

-- ---- bounds

pub sum-le : (f : Body → ℕ) (limit : ℕ) (v : Volume) → ((i : ℕ) → f (body v i) ≤ limit) → sum_of f v ≤ length v * limit
sum-le f limit [] h = omega arith
sum-le f limit (n ∷ v) h =
    let first : f n.body ≤ limit = h zero in
    let rest = sum-le f limit v (λ i. h (suc i)) in
    let all = sum_by-cons (λ (k : Node). f k.body) n v in
    let more = suc-mul (length v) limit in
    omega (arith, first, rest, all, more)

file-below : (b : Body) (count : ℕ) → IsBody b count → (counts_of b).bytes ≤ 4243456
file-below Free count h = omega arith
file-below (File bytes) count h = h.0
file-below (Dir slots) count h = omega arith

-- what a sound volume has can be counted
pub sound-countable : (g : Geometry) (v : Volume) → IsSound g v → IsCountable v
sound-countable g v sound =
    let count = sound.count in
    let few : length v ≤ 32768 = omega (arith, count) in
    let below = sum-le (λ b. (counts_of b).bytes) 4243456 v (λ i. file-below (body v i) _ (sound.nodes i).body) in
    record { few = few; bytes = omega (arith, below, few) }

-- and so can what is alike
pub alike-countable : (v w : Volume) → IsAlike v w → IsCountable w → IsCountable v
alike-countable v w alike c =
    let bytes = same-sum (λ b. (counts_of b).bytes) (λ s t. refl) v w alike.count (λ i. (alike.each i).0) in
    let count = alike.count in
    let few = c.few in
    let below = c.bytes in
    record { few = omega (arith, count, few); bytes = omega (arith, bytes, below) }

-- ---- what is kept

-- a number of each of these contents, over all of them
abbrev pub sum_in : (Body → ℕ) → List InodeContent → ℕ
sum_in f cs = sum_by (λ c. f (body_kept c)) cs

sum-kept : (f : Body → ℕ) (cs : List InodeContent) → sum_in f cs ≡ sum_of f (kept cs)
sum-kept f [] = refl
sum-kept f (c ∷ cs) =
    let left = sum_by-cons (λ (d : InodeContent). f (body_kept d)) c cs in
    let right = sum_by-cons (λ (k : Node). f k.body) (record { body = body_kept c; blocks = []; indirect = None; links = 0 }) (kept cs) in
    let rest = sum-kept f cs in
    omega (arith, left, right, rest)

-- the sum of the first contents and one more is below the limit of the whole
pub more-below : (f : Body → ℕ) (limit : ℕ) (cs : List InodeContent) (i sum more : ℕ) (c : InodeContent) → sum_of f (kept cs) < limit → i < length cs → c ≡ get_or cs i c → sum ≡ sum_in f (take i cs) → more ≡ f (body_kept c) → sum + more < limit
more-below f limit cs i sum more c below low is so one =
    let g : InodeContent → ℕ = λ d. f (body_kept d) in
    let le = sum_by_more_le g cs i c low in
    let here : g c ≡ g (get_or cs i c) = ap g is in
    let whole = sum-kept f cs in
    omega (arith, below, le, here, whole, so, one)

pub sum-more : (f : Body → ℕ) (cs : List InodeContent) (i sum more : ℕ) (c : InodeContent) → i < length cs → c ≡ get_or cs i c → sum ≡ sum_in f (take i cs) → more ≡ f (body_kept c) → sum + more ≡ sum_in f (take (i + 1) cs)
sum-more f cs i sum more c low is so one =
    let g : InodeContent → ℕ = λ d. f (body_kept d) in
    let next = sum_by_more g cs i c low in
    let here : g c ≡ g (get_or cs i c) = ap g is in
    omega (arith, next, here, so, one)

pub sum-whole : (f : Body → ℕ) (cs : List InodeContent) (i sum : ℕ) → (i < length cs → ⊥) → i ≤ length cs → sum ≡ sum_in f (take i cs) → sum ≡ sum_of f (kept cs)
sum-whole f cs i sum past end so =
    let all : i ≡ length cs = omega arith in
    so ∙ ap (λ (k : ℕ). sum_in f (take k cs)) all ∙ ap (sum_in f) (take-length cs) ∙ sum-kept f cs

one-directory : (b : Body) → (counts_of b).directories ≤ 1
one-directory Free = omega arith
one-directory (File bytes) = omega arith
one-directory (Dir slots) = omega arith

one-file : (b : Body) → (counts_of b).files ≤ 1
one-file Free = omega arith
one-file (File bytes) = omega arith
one-file (Dir slots) = omega arith

pub few-directories : (v : Volume) → length v ≤ 32768 → sum_of (λ b. (counts_of b).directories) v < 2 ^ 64
few-directories v few = let le = sum-le (λ b. (counts_of b).directories) 1 v (λ i. one-directory (body v i)) in omega (arith, le, few)

pub few-files : (v : Volume) → length v ≤ 32768 → sum_of (λ b. (counts_of b).files) v < 2 ^ 64
few-files v few = let le = sum-le (λ b. (counts_of b).files) 1 v (λ i. one-file (body v i)) in omega (arith, le, few)

-- a tree whose root is a directory has one at least
pub root-counted : (v : Volume) → (counts_of (body v 0)).directories ≤ (counts_of_volume v).directories
root-counted [] = omega arith
root-counted (n ∷ v) = let all = sum_by-cons (λ (k : Node). (counts_of k.body).directories) n v in omega (arith, all)

-- the counts without the root
pub root-out : (v : Volume) (b : Body) (t : TreeCounts) → body v 0 ≡ b → t ≡ counts_of_volume v → three (t.directories - (counts_of b).directories) t.files t.bytes ≡ counts_in v
root-out v b t is all = ap (λ (c : Body). three (t.directories - (counts_of c).directories) t.files t.bytes) (sym is) ∙ ap (λ (u : TreeCounts). three (u.directories - (counts_of (body v 0)).directories) u.files u.bytes) all

pub root-none : (v : Volume) (t : TreeCounts) → (counts_of (body v 0)).directories ≡ 0 → t ≡ counts_of_volume v → t ≡ counts_in v
root-none v t none all =
    let same : t.directories ≡ t.directories - (counts_of (body v 0)).directories = omega (arith, none) in
    ap (λ (n : ℕ). three n t.files t.bytes) same ∙ root-out v (body v 0) t refl all
