-- Blocks that are claimed, use by use.
use Rattle.std.proofs.Common.{get_or, set, ◌≡◌, ◌≢◌, ℕ, ◌+◌, ◌<◌, ◌≤◌, ◌⊎◌, inl, inr, List, length, replicate, Bool, true, false, cond, refl, sym, ap, subst, ◌∙◌, arith, get_or-set_same, get_or-set_other, length-set}
use Rattle.std.specs.Prelude.{Option, Some, None, MatchOption}
use Rattle.std.proofs.lemmas.Bool.{cases_Bool, cases_eq, false_from_ne_true, true≢false}
use Rattle.std.proofs.lemmas.List.{length-replicate}
use Rattle.mq_blocks.specs.Geometry.{homes_of}
use Rattle.mq_blocks.specs.declared.geometry.Geometry.{Geometry}
use Rattle.mq_layout.specs.Places.{inodes_of}
use Rattle.mq_layout.specs.declared.inode.Inode.{Inode}
use Rattle.mq_tree.specs.Clean.{AreApart, ArePointers}
use Rattle.mq_tree.specs.Corrupt.{IsSharedBlock}
use Rattle.mq_tree.specs.Decoded.{Stored, count_of, pointer_to, the_inode, volume_in}
use Rattle.mq_tree.specs.Least.{IsLeast, IsLeastOf, lesser}
use Rattle.mq_tree.specs.Volume.{Use, Part, Pointers, block_in, is_taken}
use Rattle.mq_tree.proofs.Decoded.{indirect-found, indirect-is, part-found, part-is, taken-use}
use Rattle.mq_tree.proofs.LaidUses.{use-taken}
use Rattle.mq_tree.proofs.Least.{least-either, least-same}
use Rattle.mq_tree.proofs.Parts.{used-for}
use Rattle.mq_tree.proofs.Walks.{all-false}

-- the uses of the inodes below `i`, and of the first `k` blocks of inode `i`
abbrev pub IsDone : ℕ → ℕ → Use → Type 0
IsDone i k (Part j place) = (j < i) ⊎ ((j ≡ i) × (place < k))
IsDone i k (Pointers j) = j < i

-- two of them have the block
pub record IsTwice (g : Geometry) (s : Stored) (i k b : ℕ) : Type 0 where
  pub u : Use
  pub w : Use
  pub first : IsDone i k u
  pub second : IsDone i k w
  pub block : block_in (volume_in g s) u ≡ Some b
  pub too : block_in (volume_in g s) w ≡ Some b
  pub apart : u ≢ w

-- just their blocks are seen, and the least that two of them have is found
pub record Claims (g : Geometry) (s : Stored) (seen : List Bool) (twice : Option ℕ) (i k : ℕ) : Type 0 where
  pub size : length seen ≡ homes_of g
  pub used : (b : ℕ) → get_or seen b false ≡ true → (u : Use) × IsDone i k u × (block_in (volume_in g s) u ≡ Some b)
  pub marked : (u : Use) (b : ℕ) → IsDone i k u → block_in (volume_in g s) u ≡ Some b → get_or seen b false ≡ true
  pub least : IsLeastOf (IsTwice g s i k) twice

-- the least such block after one more is claimed
abbrev pub twice_after : List Bool → Option ℕ → ℕ → Option ℕ
twice_after seen twice b = cond (get_or seen b false) (lesser twice (Some b)) twice

-- the use `u` is new, and what is done later was done, is that use, or has no block
record Adds (g : Geometry) (s : Stored) (i k i' k' : ℕ) (u : Use) : Type 0 where
  fresh : IsDone i k u → ⊥
  here : IsDone i' k' u
  kept : (w : Use) → IsDone i k w → IsDone i' k' w
  only : (w : Use) (b : ℕ) → IsDone i' k' w → block_in (volume_in g s) w ≡ Some b → IsDone i k w ⊎ (w ≡ u)

same-block : (o : Option ℕ) (b c : ℕ) → o ≡ Some b → o ≡ Some c → b ≡ c
same-block o b c e f = let h = sym e ∙ f in cc

-- the new use has this block alone
adds-block : (g : Geometry) (s : Stored) (u w : Use) (b x : ℕ) → block_in (volume_in g s) u ≡ Some b → w ≡ u → block_in (volume_in g s) w ≡ Some x → x ≡ b
adds-block g s u w b x is same e = same-block (block_in (volume_in g s) u) x b (ap (λ (y : Use). block_in (volume_in g s) y) (sym same) ∙ e) is

twice-kept : (g : Geometry) (s : Stored) (i k i' k' x : ℕ) → ((w : Use) → IsDone i k w → IsDone i' k' w) → IsTwice g s i k x → IsTwice g s i' k' x
twice-kept g s i k i' k' x kept t = record { u = t.u; w = t.w; first = kept t.u t.first; second = kept t.w t.second; block = t.block; too = t.too; apart = t.apart }

twice-only : (g : Geometry) (s : Stored) (i k i' k' b x : ℕ) (u : Use) → Adds g s i k i' k' u → block_in (volume_in g s) u ≡ Some b → IsTwice g s i' k' x → IsTwice g s i k x ⊎ (x ≡ b)
twice-only g s i k i' k' b x u a is t = elim (a.only t.u x t.first t.block) [
  | inr same ↦ inr (adds-block g s u t.u b x is same t.block)
  | inl old ↦ elim (a.only t.w x t.second t.too) [
    | inr same ↦ inr (adds-block g s u t.w b x is same t.too)
    | inl too ↦ inl (record { u = t.u; w = t.w; first = old; second = too; block = t.block; too = t.too; apart = t.apart })
  ]
]

-- a block that was not seen is of no use that was done
twice-new : (g : Geometry) (s : Stored) (seen : List Bool) (twice : Option ℕ) (i k i' k' b x : ℕ) (u : Use) → Claims g s seen twice i k → Adds g s i k i' k' u → block_in (volume_in g s) u ≡ Some b → get_or seen b false ≡ false → IsTwice g s i' k' x → IsTwice g s i k x
twice-new g s seen twice i k i' k' b x u c a is new t = elim (a.only t.u x t.first t.block) [
  | inl old ↦ elim (a.only t.w x t.second t.too) [
    | inl too ↦ record { u = t.u; w = t.w; first = old; second = too; block = t.block; too = t.too; apart = t.apart }
    | inr same ↦ absurd (clash t.u old t.block (adds-block g s u t.w b x is same t.too))
  ]
  | inr same ↦ elim (a.only t.w x t.second t.too) [
    | inl too ↦ absurd (clash t.w too t.too (adds-block g s u t.u b x is same t.block))
    | inr again ↦ absurd (t.apart (same ∙ sym again))
  ]
]
  where
    clash : (w : Use) → IsDone i k w → block_in (volume_in g s) w ≡ Some x → x ≡ b → ⊥
    clash w old e q = true≢false (sym (c.marked w x old e) ∙ ap (λ (y : ℕ). get_or seen y false) q ∙ new)

twice-add : (g : Geometry) (s : Stored) (seen : List Bool) (twice : Option ℕ) (i k i' k' : ℕ) (u : Use) (b : ℕ) → Claims g s seen twice i k → Adds g s i k i' k' u → block_in (volume_in g s) u ≡ Some b → IsLeastOf (IsTwice g s i' k') (twice_after seen twice b)
twice-add g s seen twice i k i' k' u b c a is = by (get_or seen b false) refl
  where
    by : (t : Bool) → get_or seen b false ≡ t → IsLeastOf (IsTwice g s i' k') (cond t (lesser twice (Some b)) twice)
    by false new = least-same (IsTwice g s i k) (IsTwice g s i' k') twice (λ x. twice-kept g s i k i' k' x a.kept) (λ x. twice-new g s seen twice i k i' k' b x u c a is new) c.least
    by true old =
        let o = c.used b old in
        let found : IsTwice g s i' k' b = record { u = o.0; w = u; first = a.kept o.0 o.1; second = a.here; block = o.2; too = is; apart = λ same. a.fresh (subst (λ y. IsDone i k y) same o.1) } in
        least-same (λ x. IsTwice g s i k x ⊎ (x ≡ b)) (IsTwice g s i' k') (lesser twice (Some b)) (λ x h. elim h [
          | inl t ↦ twice-kept g s i k i' k' x a.kept t
          | inr q ↦ subst (λ y. IsTwice g s i' k' y) (sym q) found
        ]) (λ x. twice-only g s i k i' k' b x u a is) (least-either (IsTwice g s i k) (λ x. x ≡ b) twice (Some b) c.least (record { wrong = refl; least = λ x q. omega arith }))

add : (g : Geometry) (s : Stored) (seen : List Bool) (twice : Option ℕ) (i k i' k' : ℕ) (u : Use) (b : ℕ) → Claims g s seen twice i k → Adds g s i k i' k' u → block_in (volume_in g s) u ≡ Some b → b < homes_of g → Claims g s (set seen b true) (twice_after seen twice b) i' k'
add g s seen twice i k i' k' u b c a is home =
    let v = volume_in g s in
    let inside : b < length seen = let e = c.size in omega arith in
    let here : get_or (set seen b true) b false ≡ true = get_or-set_same seen b true false inside in
    let keeps : (x : ℕ) → get_or seen x false ≡ true → get_or (set seen b true) x false ≡ true = λ x t. elim (cases_eq x b) [
      | inl e ↦ subst (λ y. get_or (set seen b true) y false ≡ true) (sym e) here
      | inr n ↦ get_or-set_other seen b x true false n ∙ t
    ] in
    record {
      size = length-set seen b true ∙ c.size;
      used = λ x t. elim (cases_eq x b) [
        | inl e ↦ (u, a.here, is ∙ ap (λ (y : ℕ). Some y) (sym e))
        | inr n ↦ let w = c.used x (sym (get_or-set_other seen b x true false n) ∙ t) in (w.0, a.kept w.0 w.1, w.2)
      ];
      marked = λ w x d e. elim (a.only w x d e) [
        | inl old ↦ keeps x (c.marked w x old e)
        | inr same ↦ subst (λ y. get_or (set seen b true) y false ≡ true) (sym (adds-block g s u w b x is same e)) here
      ];
      least = twice-add g s seen twice i k i' k' u b c a is;
    }

adds-part : (g : Geometry) (s : Stored) (i k : ℕ) → Adds g s i k i (k + 1) (Part i k)
adds-part g s i k = record {
  fresh = fresh;
  here = inr (refl, omega arith);
  kept = kept;
  only = λ w b d e. only w d;
}
  where
    fresh : IsDone i k (Part i k) → ⊥
    fresh (inl l) = absurd (omega arith)
    fresh (inr h) = absurd (let l = h.1 in omega arith)

    kept : (w : Use) → IsDone i k w → IsDone i (k + 1) w
    kept (Part j place) (inl l) = inl l
    kept (Part j place) (inr h) = inr (h.0, let l = h.1 in omega arith)
    kept (Pointers j) l = l

    only : (w : Use) → IsDone i (k + 1) w → IsDone i k w ⊎ (w ≡ Part i k)
    only (Part j place) (inl l) = inl (inl l)
    only (Part j place) (inr h) = elim (cases_eq place k) [
      | inl e ↦ inr (ap (λ (x : ℕ). Part x place) h.0 ∙ ap (λ (x : ℕ). Part i x) e)
      | inr n ↦ inl (inr (h.0, let l = h.1 in omega arith))
    ]
    only (Pointers j) l = inl l

adds-pointers : (g : Geometry) (s : Stored) (i : ℕ) → Adds g s i (count_of (the_inode g s i)) (i + 1) 0 (Pointers i)
adds-pointers g s i = record { fresh = λ l. (let e : i < i = l in omega arith); here = (let e : i < i + 1 = omega arith in e); kept = kept; only = only }
  where
    kept : (w : Use) → IsDone i (count_of (the_inode g s i)) w → IsDone (i + 1) 0 w
    kept (Part j place) (inl l) = inl (omega arith)
    kept (Part j place) (inr h) = inl (let e = h.0 in omega arith)
    kept (Pointers j) l = (let e : j < i + 1 = omega arith in e)

    only : (w : Use) (b : ℕ) → IsDone (i + 1) 0 w → block_in (volume_in g s) w ≡ Some b → IsDone i (count_of (the_inode g s i)) w ⊎ (w ≡ Pointers i)
    only (Part j place) b (inr h) e = absurd (let l = h.1 in omega arith)
    only (Part j place) b (inl l) e = elim (cases_eq j i) [
      | inl same ↦ let p = part-found g s j place b e in inl (inr (same, subst (λ x. place < count_of (the_inode g s x)) same p.inside))
      | inr other ↦ inl (inl (omega arith))
    ]
    only (Pointers j) b l e = elim (cases_eq j i) [
      | inl same ↦ inr (ap (λ (x : ℕ). Pointers x) same)
      | inr other ↦ inl (let f : j < i = omega arith in f)
    ]

-- ---- the steps of the loops

pub claims-start : (g : Geometry) (s : Stored) (seen : List Bool) → seen ≡ replicate (homes_of g) false → Claims g s seen None 0 0
claims-start g s seen e = record {
  size = ap length e ∙ length-replicate (homes_of g) false;
  used = λ b t. absurd (true≢false (sym t ∙ none b));
  marked = λ u b d f. absurd (never u d);
  least = λ b t. never t.u t.first;
}
  where
    none : (b : ℕ) → get_or seen b false ≡ false
    none b = ap (λ (xs : List Bool). get_or xs b false) e ∙ all-false (homes_of g) b

    never : (u : Use) → IsDone 0 0 u → ⊥
    never (Part j place) (inl l) = absurd (omega arith)
    never (Part j place) (inr h) = absurd (let l = h.1 in omega arith)
    never (Pointers j) l = absurd (let f : j < 0 = l in omega arith)

pub claims-part : (g : Geometry) (s : Stored) (seen new : List Bool) (twice next : Option ℕ) (i k b : ℕ) (n : Inode) → Claims g s seen twice i k → ArePointers g s → n ≡ the_inode g s i → i < inodes_of g → k < count_of n → b ≡ pointer_to s n k
    → new ≡ set seen b true → next ≡ twice_after seen twice b → Claims g s new next i (k + 1)
claims-part g s seen new twice next i k b n c pointers e low inside is f h =
    let q : k < count_of (the_inode g s i) = subst (λ x. k < count_of x) e inside in
    let at : pointer_to s (the_inode g s i) k ≡ b = sym (is ∙ ap (λ (x : Inode). pointer_to s x k) e) in
    let home = (pointers i low).there k q in
    let a = add g s seen twice i k i (k + 1) (Part i k) b c (adds-part g s i k) (part-is g s i k b (record { low = low; inside = q; is = at })) (let h = home.1 in omega arith) in
    subst (λ o. Claims g s new o i (k + 1)) (sym h) (subst (λ xs. Claims g s xs (twice_after seen twice b) i (k + 1)) (sym f) a)

pub claims-pointers : (g : Geometry) (s : Stored) (seen new : List Bool) (twice next : Option ℕ) (i k b : ℕ) (n : Inode) → Claims g s seen twice i k → ArePointers g s → n ≡ the_inode g s i → i < inodes_of g → k ≡ count_of n → 12 < k → b ≡ n.indirect
    → new ≡ set seen b true → next ≡ twice_after seen twice b → Claims g s new next (i + 1) 0
claims-pointers g s seen new twice next i k b n c pointers e low all many is f h =
    let q : k ≡ count_of (the_inode g s i) = all ∙ ap count_of e in
    let at : (the_inode g s i).indirect ≡ b = sym (is ∙ ap (λ (x : Inode). x.indirect) e) in
    let home = (pointers i low).many (omega arith) in
    let c' : Claims g s seen twice i (count_of (the_inode g s i)) = subst (λ x. Claims g s seen twice i x) q c in
    let a = add g s seen twice i (count_of (the_inode g s i)) (i + 1) 0 (Pointers i) b c' (adds-pointers g s i) (indirect-is g s i b (record { low = low; many = omega arith; is = at })) (let h = home.1 in omega arith) in
    subst (λ o. Claims g s new o (i + 1) 0) (sym h) (subst (λ xs. Claims g s xs (twice_after seen twice b) (i + 1) 0) (sym f) a)

-- an inode without a block of pointers
pub claims-few : (g : Geometry) (s : Stored) (seen new : List Bool) (twice next : Option ℕ) (i k : ℕ) (n : Inode) → Claims g s seen twice i k → n ≡ the_inode g s i → k ≡ count_of n → k ≤ 12 → new ≡ seen → next ≡ twice → Claims g s new next (i + 1) 0
claims-few g s seen new twice next i k n c e all few f h =
    let q : k ≡ count_of (the_inode g s i) = all ∙ ap count_of e in
    let d : Claims g s seen twice i (count_of (the_inode g s i)) = subst (λ x. Claims g s seen twice i x) q c in
    let a = adds-pointers g s i in
    let only : (w : Use) (b : ℕ) → IsDone (i + 1) 0 w → block_in (volume_in g s) w ≡ Some b → IsDone i (count_of (the_inode g s i)) w = λ w b h is. elim (a.only w b h is) [
      | inl old ↦ old
      | inr same ↦ let p = indirect-found g s i b (ap (λ (x : Use). block_in (volume_in g s) x) (sym same) ∙ is) in absurd (let m = p.many in omega arith)
    ] in
    let back : (x : ℕ) → IsTwice g s (i + 1) 0 x → IsTwice g s i (count_of (the_inode g s i)) x =
    λ x t. record { u = t.u; w = t.w; first = only t.u x t.first t.block; second = only t.w x t.second t.too; block = t.block; too = t.too; apart = t.apart } in
    let r : Claims g s seen twice (i + 1) 0 = record {
      size = d.size;
      used = λ b t. let w = d.used b t in (w.0, a.kept w.0 w.1, w.2);
      marked = λ u b h is. d.marked u b (only u b h is) is;
      least = least-same (IsTwice g s i (count_of (the_inode g s i))) (IsTwice g s (i + 1) 0) twice (λ x. twice-kept g s i (count_of (the_inode g s i)) (i + 1) 0 x a.kept) back d.least;
    } in
    subst (λ o. Claims g s new o (i + 1) 0) (sym h) (subst (λ xs. Claims g s xs twice (i + 1) 0) (sym f) r)

-- a block that is claimed is a home block
pub claims-home : (g : Geometry) (s : Stored) (i k b : ℕ) (n : Inode) → ArePointers g s → n ≡ the_inode g s i → i < inodes_of g → k < count_of n → b ≡ pointer_to s n k → b < homes_of g
claims-home g s i k b n pointers e low inside is =
    let at : pointer_to s (the_inode g s i) k ≡ b = sym (is ∙ ap (λ (x : Inode). pointer_to s x k) e) in
    let home = ((pointers i low).there k (subst (λ x. k < count_of x) e inside)).1 in
    omega arith

pub claims-home_pointers : (g : Geometry) (s : Stored) (i size : ℕ) (n : Inode) → size ≡ homes_of g → ArePointers g s → n ≡ the_inode g s i → i < inodes_of g → 12 < count_of n → n.indirect < size
claims-home_pointers g s i size n whole pointers e low many =
    let at : n.indirect ≡ (the_inode g s i).indirect = ap (λ (x : Inode). x.indirect) e in
    let home = ((pointers i low).many (subst (λ x. 12 < count_of x) e many)).1 in
    omega arith

-- ---- at the end

done-all : (g : Geometry) (s : Stored) (n : ℕ) (u : Use) (b : ℕ) → inodes_of g ≤ n → block_in (volume_in g s) u ≡ Some b → IsDone n 0 u
done-all g s n (Part i k) b all e = inl (let p = (part-found g s i k b e).low in omega arith)
done-all g s n (Pointers i) b all e = (let p = (indirect-found g s i b e).low in let f : i < n = omega arith in f)

same-use : (u w : Use) → (u ≡ w) ⊎ (u ≢ w)
same-use (Part i k) (Pointers j) = inr (λ q. cc)
same-use (Pointers i) (Part j k) = inr (λ q. cc)
same-use (Pointers i) (Pointers j) = elim (cases_eq i j) [
  | inl same ↦ inl (ap (λ (x : ℕ). Pointers x) same)
  | inr other ↦ inr (λ q. other (cc))
]
same-use (Part i k) (Part j l) = elim (cases_eq i j) [
  | inr other ↦ inr (λ q. other (cc))
  | inl same ↦ elim (cases_eq k l) [
    | inr other ↦ inr (λ q. other (cc))
    | inl too ↦ inl (ap (λ (x : ℕ). Part x k) same ∙ ap (λ (x : ℕ). Part j x) too)
  ]
]

pub claims-twice : (g : Geometry) (s : Stored) (seen : List Bool) (twice : Option ℕ) (n : ℕ) → ArePointers g s → Claims g s seen twice n 0 → inodes_of g ≤ n → MatchOption twice (AreApart (volume_in g s)) (IsLeast (IsSharedBlock g s))
claims-twice g s seen twice n pointers c all = go twice c.least
  where
    done : (u w : Use) (b : ℕ) → block_in (volume_in g s) u ≡ Some b → block_in (volume_in g s) w ≡ Some b → u ≢ w → IsTwice g s n 0 b
    done u w b e f other = record { u = u; w = w; first = done-all g s n u b all e; second = done-all g s n w b all f; block = e; too = f; apart = other }

    go : (o : Option ℕ) → IsLeastOf (IsTwice g s n 0) o → MatchOption o (AreApart (volume_in g s)) (IsLeast (IsSharedBlock g s))
    go None none = λ u w b e f. elim (same-use u w) [
      | inl same ↦ same
      | inr other ↦ absurd (none b (done u w b e f other))
    ]
    go (Some b) h = record {
      wrong = (let t = h.wrong in record { u = t.u; w = t.w; first = used-for g s t.u b pointers t.block; second = used-for g s t.w b pointers t.too; apart = t.apart });
      least = λ x t. h.least x (done t.u t.w x t.first.block t.second.block t.apart);
    }

pub claims-taken : (g : Geometry) (s : Stored) (seen : List Bool) (twice : Option ℕ) (n : ℕ) → Claims g s seen twice n 0 → inodes_of g ≤ n → (b : ℕ) → get_or seen b false ≡ is_taken (volume_in g s) b
claims-taken g s seen twice n c all b = elim (cases_Bool (is_taken (volume_in g s) b)) [
  | inl t ↦ let u = taken-use (volume_in g s) b t in c.marked u.0 b (done-all g s n u.0 b all u.1) u.1 ∙ sym t
  | inr f ↦ false_from_ne_true (get_or seen b false) (λ t. let u = c.used b t in true≢false (sym (use-taken (volume_in g s) u.0 b u.2) ∙ f)) ∙ sym f
]
