-- How a mount counts the slots that name each inode.
use Rattle.std.proofs.Common.{get_or, set, replicate, ◌≡◌, ◌≢◌, ℕ, zero, suc, ◌+◌, ◌*◌, ◌^◌, ◌<◌, ◌≤◌, inl, inr, List, [], ◌∷◌, length, Bool, true, false, refl, sym, ap, subst, ◌∙◌, arith, get_or-set_same, get_or-set_other, length-set}
use Rattle.std.specs.Prelude.{Option, Some, None}
use Rattle.std.specs.Bool.{MatchBool}
use Rattle.std.proofs.lemmas.Bool.{cases_eq, cases_lt, true≢false}
use Rattle.std.proofs.lemmas.List.{get_or_past, get_or-replicate, length-replicate}
use Rattle.std.proofs.lemmas.List.FromFn.{sum_by-map-range_with_len_more}
use Rattle.std.proofs.lemmas.List.Sums.{sum_by-cons}
use Rattle.mq_blocks.specs.declared.geometry.Geometry.{Geometry}
use Rattle.mq_layout.specs.Inodes.{IsInode}
use Rattle.mq_layout.specs.Places.{inode_block, inodes_of}
use Rattle.mq_layout.specs.Slots.{Entry}
use Rattle.mq_layout.specs.declared.inode.Inode.{Inode}
use Rattle.mq_tree.specs.Clean.{AreNamed, IsTable}
use Rattle.mq_tree.specs.Corrupt.{IsMiscounted}
use Rattle.mq_tree.specs.Decoded.{Stored, body_of, count_of, entry_of, node_of, table_of, the_inode, volume_in}
use Rattle.mq_tree.specs.Links.{links_to, names, names_among}
use Rattle.mq_tree.specs.Volume.{Body, Node, slots_of}
use Rattle.mq_tree.proofs.Counting.{names-it, names-other}
use Rattle.mq_tree.proofs.Decoded.{body-dir, body-file, body-free, length-table}
use Rattle.mq_tree.proofs.Walks.{slot-entry, used-below}

-- there are no more names than slots
among-most : (x : ℕ) (slots : List (Option Entry)) → names_among x slots ≤ length slots
among-most x [] = omega arith
among-most x (None ∷ slots) = let r = among-most x slots in let a = sum_by-cons (names x) None slots in omega arith
among-most x (Some e ∷ slots) = elim (cases_eq e.inode x) [
  | inl same ↦ let r = among-most x slots in let a = sum_by-cons (names x) (Some e) slots in let b = names-it x e same in omega arith
  | inr other ↦ let r = among-most x slots in let a = sum_by-cons (names x) (Some e) slots in let b = names-other x e other in omega arith
]

-- ---- the slots of one directory

pub among-step : (s : Stored) (n : Inode) (k x : ℕ) → names_among x (table_of (k + 1) (entry_of s n)) ≡ names_among x (table_of k (entry_of s n)) + names x (entry_of s n k)
among-step s n k x = sum_by-map-range_with_len_more (names x) (entry_of s n) 0 k k (omega arith)

-- the first `k` slots are counted
pub record Counts (s : Stored) (n : Inode) (old now : List ℕ) (k : ℕ) : Type 0 where
  pub size : length now ≡ length old
  pub each : (x : ℕ) → x < length old → get_or now x 0 ≡ get_or old x 0 + names_among x (table_of k (entry_of s n))

pub counts-start : (s : Stored) (n : Inode) (old now : List ℕ) → now ≡ old → Counts s n old now 0
counts-start s n old now e = record { size = ap length e; each = λ x low. ap (λ (xs : List ℕ). get_or xs x 0) e ∙ omega arith }

pub counts-skip : (s : Stored) (n : Inode) (old now next : List ℕ) (k : ℕ) → Counts s n old now k → entry_of s n k ≡ None → next ≡ now → Counts s n old next (k + 1)
counts-skip s n old now next k c none e = record {
  size = ap length e ∙ c.size;
  each = λ x low.
      let a = among-step s n k x in
      let b : names x (entry_of s n k) ≡ 0 = ap (names x) none in
      let d = c.each x low in
      let f : get_or next x 0 ≡ get_or now x 0 = ap (λ (xs : List ℕ). get_or xs x 0) e in
      omega arith;
}

pub counts-add : (s : Stored) (n : Inode) (old now next : List ℕ) (k : ℕ) (e : Entry) → Counts s n old now k → entry_of s n k ≡ Some e → e.inode < length old → next ≡ set now e.inode (get_or now e.inode 0 + 1) → Counts s n old next (k + 1)
counts-add s n old now next k e c there low is = record {
  size = ap length is ∙ length-set now e.inode (get_or now e.inode 0 + 1) ∙ c.size;
  each = λ x inside.
      let a = among-step s n k x in
      let d = c.each x inside in
      let size = c.size in
      let f : get_or next x 0 ≡ get_or (set now e.inode (get_or now e.inode 0 + 1)) x 0 = ap (λ (xs : List ℕ). get_or xs x 0) is in
      elim (cases_eq e.inode x) [
        | inl same ↦
            let b : names x (entry_of s n k) ≡ 1 = ap (names x) there ∙ names-it x e same in
            let h : get_or (set now e.inode (get_or now e.inode 0 + 1)) x 0 ≡ get_or now x 0 + 1 =
            ap (λ (y : ℕ). get_or (set now e.inode (get_or now e.inode 0 + 1)) y 0) (sym same) ∙ get_or-set_same now e.inode (get_or now e.inode 0 + 1) 0 (omega arith) ∙ ap (λ (y : ℕ). get_or now y 0 + 1) same in
            omega arith
        | inr other ↦
            let b : names x (entry_of s n k) ≡ 0 = ap (names x) there ∙ names-other x e other in
            let h = get_or-set_other now e.inode x (get_or now e.inode 0 + 1) 0 (λ z. other (sym z)) in
            omega arith
      ];
}

pub counts-all : (s : Stored) (n : Inode) (old now : List ℕ) (k : ℕ) → Counts s n old now k → k ≡ 15 * count_of n → (x : ℕ) → x < length old → get_or now x 0 ≡ get_or old x 0 + names_among x (table_of (15 * count_of n) (entry_of s n))
counts-all s n old now k c all = subst (λ j. (x : ℕ) → x < length old → get_or now x 0 ≡ get_or old x 0 + names_among x (table_of j (entry_of s n))) all c.each

pub counts-fit : (s : Stored) (n : Inode) (old now : List ℕ) (k : ℕ) (e : Entry) → Counts s n old now k → e.inode < length old → k < 15 * count_of n → ((x : ℕ) → get_or old x 0 + 15 * count_of n < 2 ^ 32) → get_or now e.inode 0 + 1 < 2 ^ 32
counts-fit s n old now k e c low inside few =
    let a = c.each e.inode low in
    let b = among-most e.inode (table_of k (entry_of s n)) in
    let d = length-table k (entry_of s n) in
    let f = few e.inode in
    omega arith

-- ---- those of all directories

-- of the inodes below this one
abbrev pub links_below : Geometry → Stored → (n x : ℕ) → ℕ
links_below g s n x = links_to (table_of n (λ i. node_of s (the_inode g s i))) x

below-more : (g : Geometry) (s : Stored) (n x : ℕ) → links_below g s (n + 1) x ≡ links_below g s n x + names_among x (slots_of (body_of s (the_inode g s n)))
below-more g s n x = sum_by-map-range_with_len_more (λ (m : Node). names_among x (slots_of m.body)) (λ i. node_of s (the_inode g s i)) 0 n n (omega arith)

pub below-all : (g : Geometry) (s : Stored) (x : ℕ) → links_below g s (inodes_of g) x ≡ links_to (volume_in g s) x
unfolding volume_in
below-all g s x = refl

-- an inode that is no directory has no slots
other-slots : (s : Stored) (n : Inode) → n.kind ≤ 2 → n.kind ≢ 2 → slots_of (body_of s n) ≡ []
other-slots s n few other = elim (cases_eq n.kind 1) [
  | inl one ↦ ap slots_of (body-file s n one)
  | inr rest ↦ ap slots_of (body-free s n (omega arith))
]

-- the slots of a directory are few
slots-few : (g : Geometry) (s : Stored) (i : ℕ) → IsTable g s → i < inodes_of g → length (slots_of (body_of s (the_inode g s i))) ≤ 15540
slots-few g s i table low =
    let n = the_inode g s i in
    let form = (table.inodes i low).0 in
    elim (cases_eq n.kind 2) [
      | inl two ↦
          let e : length (slots_of (body_of s n)) ≡ 15 * count_of n = ap (λ (b : Body). length (slots_of b)) (body-dir s n two) ∙ length-table (15 * count_of n) (entry_of s n) in
          let size = (form.used (omega arith)).1 in
          omega arith
      | inr other ↦ let e : length (slots_of (body_of s n)) ≡ 0 = ap length (other-slots s n form.kind other) in omega arith
    ]

below-few : (g : Geometry) (s : Stored) (n x : ℕ) → IsTable g s → n ≤ inodes_of g → links_below g s n x ≤ 15540 * n
below-few g s zero x table low = omega arith
below-few g s (suc n) x table low =
    let r = below-few g s n x table (omega arith) in
    let a = below-more g s n x in
    let b = among-most x (slots_of (body_of s (the_inode g s n))) in
    let c = slots-few g s n table (omega arith) in
    let e : suc n ≡ n + 1 = omega arith in
    let f : links_below g s (suc n) x ≡ links_below g s (n + 1) x = ap (λ (k : ℕ). links_below g s k x) e in
    omega arith

-- the first inodes are counted
pub record Counted (g : Geometry) (s : Stored) (counts : List ℕ) (i : ℕ) : Type 0 where
  pub size : length counts ≡ inodes_of g
  pub each : (x : ℕ) → x < inodes_of g → get_or counts x 0 ≡ links_below g s i x

pub counted-start : (g : Geometry) (s : Stored) (counts : List ℕ) (n : ℕ) → n ≡ inodes_of g → counts ≡ replicate n 0 → Counted g s counts 0
counted-start g s counts n count e = record {
  size = ap length e ∙ length-replicate n 0 ∙ count;
  each = λ x low. ap (λ (xs : List ℕ). get_or xs x 0) e ∙ get_or-replicate n x 0 0 (omega arith);
}

pub counted-all : (g : Geometry) (s : Stored) (counts : List ℕ) (i : ℕ) → Counted g s counts i → i ≡ inodes_of g → (x : ℕ) → x < inodes_of g → get_or counts x 0 ≡ links_to (volume_in g s) x
counted-all g s counts i c all x low = c.each x low ∙ ap (λ (k : ℕ). links_below g s k x) all ∙ below-all g s x

pub counted-skip : (g : Geometry) (s : Stored) (counts next : List ℕ) (i : ℕ) (n : Inode) → IsTable g s → i < inodes_of g → n ≡ the_inode g s i → n.kind ≢ 2 → next ≡ counts → Counted g s counts i → Counted g s next (i + 1)
counted-skip g s counts next i n table low is other e c = record {
  size = ap length e ∙ c.size;
  each = λ x inside.
      let a = below-more g s i x in
      let none : names_among x (slots_of (body_of s (the_inode g s i))) ≡ 0 = ap (names_among x) (other-slots s (the_inode g s i) (table.inodes i low).0.kind (λ z. other (ap (λ (m : Inode). m.kind) is ∙ z))) in
      let b = c.each x inside in
      let f : get_or next x 0 ≡ get_or counts x 0 = ap (λ (xs : List ℕ). get_or xs x 0) e in
      omega arith;
}

pub counted-dir : (g : Geometry) (s : Stored) (counts mid next now : List ℕ) (i : ℕ) (n : Inode) → i < inodes_of g → n ≡ the_inode g s i → n.kind ≡ 2 → mid ≡ counts → length next ≡ length mid
    → ((x : ℕ) → x < length mid → get_or next x 0 ≡ get_or mid x 0 + names_among x (table_of (15 * count_of n) (entry_of s n))) → now ≡ next → Counted g s counts i → Counted g s now (i + 1)
counted-dir g s counts mid next now i n low is two same size more end c = record {
  size = ap length end ∙ size ∙ ap length same ∙ c.size;
  each = λ x inside.
      let a = below-more g s i x in
      let e : names_among x (slots_of (body_of s (the_inode g s i))) ≡ names_among x (table_of (15 * count_of n) (entry_of s n)) =
      ap (λ (m : Inode). names_among x (slots_of (body_of s m))) (sym is) ∙ ap (λ (b : Body). names_among x (slots_of b)) (body-dir s n two) in
      let b = c.each x inside in
      let y = ap length same in
      let d = more x (let z = c.size in omega arith) in
      let f : get_or mid x 0 ≡ get_or counts x 0 = ap (λ (xs : List ℕ). get_or xs x 0) same in
      let h : get_or now x 0 ≡ get_or next x 0 = ap (λ (xs : List ℕ). get_or xs x 0) end in
      omega arith;
}

-- there is room for the slots of one more directory
pub counted-few : (g : Geometry) (s : Stored) (counts mid : List ℕ) (i : ℕ) (n : Inode) → IsTable g s → i < inodes_of g → n ≡ the_inode g s i → IsInode n → n.kind ≡ 2 → Counted g s counts i → mid ≡ counts → (x : ℕ) → get_or mid x 0 + 15 * count_of n < 2 ^ 32
counted-few g s counts mid i n table low is form two c same x =
    let f : get_or mid x 0 ≡ get_or counts x 0 = ap (λ (xs : List ℕ). get_or xs x 0) same in
    let size = (form.used (omega arith)).1 in
    let m = g.meta_low in
    elim (cases_lt x (inodes_of g)) [
      | inl inside ↦ let a = c.each x inside in let b = below-few g s i x table (omega arith) in omega arith
      | inr past ↦ let a = get_or_past counts x 0 (let z = c.size in omega arith) in omega arith
    ]

-- each slot names an inode that is counted
pub counted-inside : (g : Geometry) (s : Stored) (counts : List ℕ) (i : ℕ) (n : Inode) → AreNamed (volume_in g s) → i < inodes_of g → n ≡ the_inode g s i → n.kind ≡ 2 → Counted g s counts i
    → (k : ℕ) (e : Entry) → k < 15 * count_of n → entry_of s n k ≡ Some e → e.inode < length counts
counted-inside g s counts i n named low is two c k e inside there =
    let l = used-below g s e.inode (named i k e (slot-entry g s i k n low is two inside ∙ there)).1 in
    let z = c.size in
    omega arith

-- ---- the links of each file

pub linked-more : (g : Geometry) (s : Stored) (i : ℕ) (n : Inode) (count : ℕ) (t : Bool) → ((j : ℕ) → j < i → (the_inode g s j).kind ≡ 1 → (the_inode g s j).links ≡ links_to (volume_in g s) j) → n ≡ the_inode g s i → count ≡ links_to (volume_in g s) i
    → MatchBool t (n.kind ≡ 1 → n.links ≡ count) ((n.kind ≡ 1) × (n.links ≢ count)) → t ≡ true → (j : ℕ) → j < i + 1 → (the_inode g s j).kind ≡ 1 → (the_inode g s j).links ≡ links_to (volume_in g s) j
linked-more g s i n count false h is e m y j low = absurd (true≢false (sym y))
linked-more g s i n count true h is e m y j low = elim (cases_eq j i) [
  | inl same ↦ subst (λ k. (the_inode g s k).kind ≡ 1 → (the_inode g s k).links ≡ links_to (volume_in g s) k) (sym same) (λ kind. ap (λ (x : Inode). x.links) (sym is) ∙ m (ap (λ (x : Inode). x.kind) is ∙ kind) ∙ e)
  | inr other ↦ h j (omega arith)
]

pub linked-other : (g : Geometry) (s : Stored) (i b : ℕ) (n : Inode) (count : ℕ) (t : Bool) → i < inodes_of g → n ≡ the_inode g s i → count ≡ links_to (volume_in g s) i
    → MatchBool t (n.kind ≡ 1 → n.links ≡ count) ((n.kind ≡ 1) × (n.links ≢ count)) → t ≡ false → b ≡ inode_block g i → IsMiscounted g s b
linked-other g s i b n count true low is e m y at = absurd (true≢false y)
linked-other g s i b n count false low is e m y at = record { i = i; low = low; file = ap (λ (x : Inode). x.kind) (sym is) ∙ m.0; at = at; other = λ z. m.1 (ap (λ (x : Inode). x.links) is ∙ z ∙ sym e) }
