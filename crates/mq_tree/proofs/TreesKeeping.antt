-- What is kept of the inodes, one by one.
use Rattle.std.proofs.Common.{get_or, ◌≡◌, ◌≢◌, ℕ, zero, suc, ◌+◌, ◌-◌, ◌*◌, ◌/◌, ◌%◌, ◌<◌, ◌≤◌, min, List, [], ◌∷◌, ◌++◌, length, length-take-le, take, refl, sym, ap, subst, ◌∙◌, arith, inl, inr, length-append, below_more}
use Rattle.std.specs.Prelude.{Option, Some, None, option_and_then}
use Rattle.std.proofs.lemmas.Bool.{cases_eq, cases_lt}
use Rattle.std.proofs.lemmas.List.{get_or_append_left, get_or-append_right, get_or-take, length_push}
use Rattle.std.proofs.lemmas.List.FromFn.{fill_by_all}
use Rattle.mq_blocks.specs.Blocks.{block_at}
use Rattle.mq_blocks.specs.declared.geometry.Geometry.{Geometry}
use Rattle.mq_layout.specs.Places.{inodes_of}
use Rattle.mq_layout.specs.Slots.{Entry}
use Rattle.mq_layout.specs.declared.inode.Inode.{Inode}
use Rattle.mq_tree.specs.Decoded.{Stored, body_of, byte_of, count_of, pointer_to, table_of, the_inode, volume_in}
use Rattle.mq_tree.specs.Directories.{AreSameNames, IsOnce}
use Rattle.mq_tree.specs.Trees.{IsAlike, IsSameBody, body_kept, kept}
use Rattle.mq_tree.specs.Volume.{Free, File, Dir, Node, Volume, Way, Path, body, find, inode_at, slots_of, thing, tree, way}
use Rattle.mq_tree.specs.declared.contents.InodeContent.{InodeContent}
use Rattle.mq_tree.proofs.Decoded.{body-dir, body-file, body-free, body-in, length-volume, node-past}

-- ---- bytes

-- the bytes before a block of a file
pub record ReadTo (s : Stored) (n : Inode) (place : ℕ) (bytes : List ℕ) : Type 0 where
  pub size : length bytes ≡ min (4096 * place) n.size
  pub is : (k : ℕ) → k < length bytes → get_or bytes k 0 ≡ byte_of s n k

pub read-start : (s : Stored) (n : Inode) (bytes : List ℕ) → bytes ≡ [] → ReadTo s n 0 bytes
read-start s n bytes e = record { size = (let z = ap length e in omega arith); is = λ k l. absurd (let z = ap length e in omega arith) }

pub read-more : (s : Stored) (n : Inode) (place b count : ℕ) (bytes more page part : List ℕ) → ReadTo s n place bytes → place < count_of n → b ≡ pointer_to s n place → page ≡ block_at s b → length page ≡ 4096 → count ≡ min (n.size - 4096 * place) 4096 → part ≡ take count page → more ≡ bytes ++ part
    → ReadTo s n (place + 1) more
read-more s n place b count bytes more page part r inside at is whole small e now =
    let z = r.size in
    let begun : 4096 * place < n.size = omega arith in
    let full : length bytes ≡ 4096 * place = omega arith in
    let fits : count ≤ length page = omega arith in
    let taken : length part ≡ count = ap length e ∙ length-take-le count page fits in
    let all : length more ≡ length bytes + count = ap length now ∙ length-append bytes part ∙ ap (λ (m : ℕ). length bytes + m) taken in
    record {
      size = omega arith;
      is = λ k l. elim (cases_lt k (length bytes)) [
        | inl low ↦ ap (λ (xs : List ℕ). get_or xs k 0) now ∙ get_or_append_left bytes part 0 k low ∙ r.is k low
        | inr high ↦
            let j = k - length bytes in
            let few : j < count = omega arith in
            let q : k / 4096 ≡ place = omega arith in
            let o : k % 4096 ≡ j = omega arith in
            let read : byte_of s n k ≡ get_or page j 0 = ap (λ (p : ℕ). get_or (block_at s (pointer_to s n p)) (k % 4096) 0) q ∙ ap (λ (c : ℕ). get_or (block_at s c) (k % 4096) 0) (sym at) ∙ ap (λ (xs : List ℕ). get_or xs (k % 4096) 0) (sym is) ∙ ap (λ (i : ℕ). get_or page i 0) o in
            ap (λ (xs : List ℕ). get_or xs k 0) now ∙ get_or-append_right bytes part (length bytes) k 0 refl high ∙ ap (λ (xs : List ℕ). get_or xs j 0) e ∙ get_or-take count page j 0 few ∙ sym read
      ];
    }

pub read-end : (s : Stored) (n : Inode) (place : ℕ) (bytes : List ℕ) → ReadTo s n place bytes → place ≡ count_of n → bytes ≡ table_of n.size (byte_of s n)
read-end s n place bytes r all =
    let z = r.size in
    let full : length bytes ≡ n.size = omega arith in
    fill_by_all (byte_of s n) bytes n.size 0 full (λ k l. r.is k (omega arith))

-- ---- what an inode is

same-names : {xs : List (Option Entry)} → AreSameNames xs xs
same-names = record { finds = λ q. refl; entries = refl }

pub content-file : (s : Stored) (n : Inode) (bytes : List ℕ) → n.kind ≡ 1 → bytes ≡ table_of n.size (byte_of s n) → IsSameBody (File bytes) (body_of s n)
content-file s n bytes one is = subst (λ x. IsSameBody (File bytes) x) (ap (λ (xs : List ℕ). File xs) is ∙ sym (body-file s n one)) (refl, same-names)

pub content-dir : (s : Stored) (n : Inode) (names : List (Option Entry)) → n.kind ≡ 2 → AreSameNames names (slots_of (body_of s n)) → IsSameBody (Dir names) (body_of s n)
content-dir s n names two alike = (sym (ap thing (body-dir s n two)), alike)

pub content-free : (s : Stored) (n : Inode) → n.kind ≤ 2 → n.kind ≢ 1 → n.kind ≢ 2 → IsSameBody Free (body_of s n)
content-free s n few one two = let zero : n.kind ≡ 0 = omega arith in subst (λ x. IsSameBody Free x) (sym (body-free s n zero)) (refl, same-names)

-- ---- all inodes

pub record KeptBelow (g : Geometry) (s : Stored) (i : ℕ) (cs : List InodeContent) : Type 0 where
  pub size : length cs ≡ i
  pub same : (j : ℕ) → j < i → IsSameBody (body (kept cs) j) (body_of s (the_inode g s j))
  pub once : (j : ℕ) → j < i → IsOnce s (the_inode g s j)

pub kept-start : (g : Geometry) (s : Stored) (cs : List InodeContent) → cs ≡ [] → KeptBelow g s 0 cs
kept-start g s cs e = record { size = ap length e; same = λ j low. absurd (omega arith); once = λ j low. absurd (omega arith) }

kept-push : (cs : List InodeContent) (c : InodeContent) (j : ℕ) → j < length cs → body (kept (cs ++ c ∷ [])) j ≡ body (kept cs) j
kept-push [] c j low = absurd (omega arith)
kept-push (d ∷ cs) c zero low = refl
kept-push (d ∷ cs) c (suc j) low = kept-push cs c j (omega arith)

pub length-kept : (cs : List InodeContent) → length (kept cs) ≡ length cs
length-kept [] = refl
length-kept (c ∷ cs) = ap suc (length-kept cs)

kept-last : (cs : List InodeContent) (c : InodeContent) → body (kept (cs ++ c ∷ [])) (length cs) ≡ body_kept c
kept-last [] c = refl
kept-last (d ∷ cs) c = kept-last cs c

pub kept-past : (cs : List InodeContent) (j : ℕ) → length cs ≤ j → body (kept cs) j ≡ Free
kept-past [] j past = refl
kept-past (d ∷ cs) zero past = absurd (omega arith)
kept-past (d ∷ cs) (suc j) past = kept-past cs j (omega arith)

pub kept-more : (g : Geometry) (s : Stored) (i : ℕ) (cs more : List InodeContent) (n : Inode) (c : InodeContent) → KeptBelow g s i cs → n ≡ the_inode g s i → IsSameBody (body_kept c) (body_of s n) → IsOnce s n → more ≡ cs ++ c ∷ [] → KeptBelow g s (i + 1) more
kept-more g s i cs more n c k e same once now = record {
  once = below_more (λ j. IsOnce s (the_inode g s j)) i k.once (subst (IsOnce s) e once);
  size = ap length now ∙ length_push cs c ∙ (let z = k.size in omega arith);
  same = λ j low. elim (cases_eq j i) [
    | inl y ↦
        let at : body (kept more) j ≡ body_kept c = ap (λ (xs : List InodeContent). body (kept xs) j) now ∙ ap (λ (m : ℕ). body (kept (cs ++ c ∷ [])) m) (y ∙ sym k.size) ∙ kept-last cs c in
        subst (λ b. IsSameBody b (body_of s (the_inode g s j))) (sym at) (subst (λ m. IsSameBody (body_kept c) (body_of s m)) (e ∙ ap (the_inode g s) (sym y)) same)
    | inr o ↦
        let at : body (kept more) j ≡ body (kept cs) j = ap (λ (xs : List InodeContent). body (kept xs) j) now ∙ kept-push cs c j (let z = k.size in omega arith) in
        subst (λ b. IsSameBody b (body_of s (the_inode g s j))) (sym at) (k.same j (omega arith))
  ];
}

pub kept-all : (g : Geometry) (s : Stored) (i : ℕ) (cs : List InodeContent) → KeptBelow g s i cs → i ≡ inodes_of g → IsAlike (kept cs) (volume_in g s)
kept-all g s i cs k e = record {
  count = length-kept cs ∙ k.size ∙ e ∙ sym (length-volume g s);
  each = λ j. elim (cases_lt j (inodes_of g)) [
    | inl low ↦ subst (λ b. IsSameBody (body (kept cs) j) b) (sym (body-in g s j low)) (k.same j (omega arith))
    | inr past ↦
        let at : body (kept cs) j ≡ Free = kept-past cs j (let z = k.size in omega arith) in
        let none : body (volume_in g s) j ≡ Free = ap (λ (n : Node). n.body) (node-past g s j past) in
        subst (λ b. IsSameBody b (body (volume_in g s) j)) (sym at) (subst (λ b. IsSameBody Free b) (sym none) (refl, same-names))
  ];
}

-- ---- the tree of volumes that are alike

pub same-way : (v w : Volume) → IsAlike v w → (way : Way) → inode_at v way ≡ inode_at w way
same-way v w alike [] = refl
same-way v w alike (name ∷ way) =
    ap (option_and_then (λ d. find name (slots_of (body v d)))) (same-way v w alike way) ∙ step (inode_at w way)
  where
    step : (o : Option ℕ) → option_and_then (λ d. find name (slots_of (body v d))) o ≡ option_and_then (λ d. find name (slots_of (body w d))) o
    step None = refl
    step (Some d) = (alike.each d).1.finds name

pub same-tree : (v w : Volume) → IsAlike v w → (path : Path) → tree v path ≡ tree w path
same-tree v w alike path = ap (option_and_then (λ i. thing (body v i))) (same-way v w alike (way path)) ∙ step (inode_at w (way path))
  where
    step : (o : Option ℕ) → option_and_then (λ i. thing (body v i)) o ≡ option_and_then (λ i. thing (body w i)) o
    step None = refl
    step (Some i) = (alike.each i).0
