-- Inodes that two slots name, by the count of the slots.
use Rattle.std.proofs.Common.{get_or, ◌≡◌, ◌≢◌, ℕ, zero, suc, ◌<◌, ◌≤◌, inl, inr, List, [], ◌∷◌, refl, sym, ap, ◌∙◌, arith}
use Rattle.std.specs.Prelude.{Option, Some, None}
use Rattle.std.proofs.lemmas.Bool.{cases_eq, cases_lt}
use Rattle.std.proofs.lemmas.List.Sums.{sum_by-cons}
use Rattle.mq_blocks.specs.declared.geometry.Geometry.{Geometry}
use Rattle.mq_layout.specs.Places.{inode_block, inodes_of}
use Rattle.mq_layout.specs.Slots.{Entry}
use Rattle.mq_layout.specs.declared.inode.Inode.{Inode}
use Rattle.mq_tree.specs.Clean.{AreNamedOnce, ArePointers, IsTable}
use Rattle.mq_tree.specs.Corrupt.{IsMiscounted, IsSharedDir}
use Rattle.mq_tree.specs.Decoded.{Stored, the_inode, volume_in}
use Rattle.mq_tree.specs.Least.{IsLeast}
use Rattle.mq_tree.specs.Links.{links_to, names, names_among}
use Rattle.mq_tree.specs.Volume.{Node, Volume, body, slot, slots_of, thing}
use Rattle.mq_tree.proofs.Counting.{links-alone, links-some, names-it, names-other}
use Rattle.mq_tree.proofs.DecodedNaming.{slot-in}
use Rattle.mq_tree.proofs.Walks.{dir-is, dir-kind, dir-low}

-- ---- two slots of a list, or of a volume

record TwoAmong (i : ℕ) (slots : List (Option Entry)) : Type 0 where
  k : ℕ
  l : ℕ
  e : Entry
  f : Entry
  first : get_or slots k None ≡ Some e
  second : get_or slots l None ≡ Some f
  leads : e.inode ≡ i
  too : f.inode ≡ i
  apart : k ≢ l

record OneAmong (i : ℕ) (slots : List (Option Entry)) : Type 0 where
  k : ℕ
  e : Entry
  first : get_or slots k None ≡ Some e
  leads : e.inode ≡ i

one-later : (i : ℕ) (x : Option Entry) (slots : List (Option Entry)) → OneAmong i slots → OneAmong i (x ∷ slots)
one-later i x slots o = record { k = suc o.k; e = o.e; first = o.first; leads = o.leads }

among-one : (i : ℕ) (slots : List (Option Entry)) → 1 ≤ names_among i slots → OneAmong i slots
among-one i [] some = absurd (omega arith)
among-one i (None ∷ xs) some = let a = sum_by-cons (names i) None xs in one-later i None xs (among-one i xs (omega arith))
among-one i (Some e ∷ xs) some = elim (cases_eq e.inode i) [
  | inl same ↦ record { k = zero; e = e; first = refl; leads = same }
  | inr other ↦ let a = sum_by-cons (names i) (Some e) xs in let b = names-other i e other in one-later i (Some e) xs (among-one i xs (omega arith))
]

two-later : (i : ℕ) (x : Option Entry) (slots : List (Option Entry)) → TwoAmong i slots → TwoAmong i (x ∷ slots)
two-later i x slots t = record { k = suc t.k; l = suc t.l; e = t.e; f = t.f; first = t.first; second = t.second; leads = t.leads; too = t.too; apart = λ q. t.apart (omega arith) }

among-two : (i : ℕ) (slots : List (Option Entry)) → 2 ≤ names_among i slots → TwoAmong i slots
among-two i [] some = absurd (omega arith)
among-two i (None ∷ xs) some = let a = sum_by-cons (names i) None xs in two-later i None xs (among-two i xs (omega arith))
among-two i (Some e ∷ xs) some = elim (cases_eq e.inode i) [
  | inl same ↦
      let a = sum_by-cons (names i) (Some e) xs in
      let b = names-it i e same in
      let o = among-one i xs (omega arith) in
      record { k = zero; l = suc o.k; e = e; f = o.e; first = refl; second = o.first; leads = same; too = o.leads; apart = λ q. omega arith }
  | inr other ↦ let a = sum_by-cons (names i) (Some e) xs in let b = names-other i e other in two-later i (Some e) xs (among-two i xs (omega arith))
]

-- two slots of directories name it
pub record IsNamedTwice (v : Volume) (i : ℕ) : Type 0 where
  pub d : ℕ
  pub k : ℕ
  pub c : ℕ
  pub l : ℕ
  pub e : Entry
  pub f : Entry
  pub first : slot v d k ≡ Some e
  pub second : slot v c l ≡ Some f
  pub leads : e.inode ≡ i
  pub too : f.inode ≡ i
  pub apart : (d ≡ c) × (k ≡ l) → ⊥

pub links-twice : (i : ℕ) (v : Volume) → 2 ≤ links_to v i → IsNamedTwice v i
links-twice i [] two = absurd (omega arith)
links-twice i (n ∷ v) two =
    let a = sum_by-cons (λ (m : Node). names_among i (slots_of m.body)) n v in
    elim (cases_lt (names_among i (slots_of n.body)) 1) [
      | inl none ↦
          let r = links-twice i v (omega arith) in
          record { d = suc r.d; k = r.k; c = suc r.c; l = r.l; e = r.e; f = r.f; first = r.first; second = r.second; leads = r.leads; too = r.too; apart = λ q. let x = q.0 in r.apart (omega arith, q.1) }
      | inr some ↦ elim (cases_lt (names_among i (slots_of n.body)) 2) [
        | inl one ↦
            let o = among-one i (slots_of n.body) some in
            let r = links-some i v (omega arith) in
            record { d = zero; k = o.k; c = suc r.directory; l = r.place; e = o.e; f = r.entry; first = o.first; second = r.there; leads = o.leads; too = r.leads; apart = λ q. let x = q.0 in omega arith }
        | inr more ↦
            let t = among-two i (slots_of n.body) more in
            record { d = zero; k = t.k; c = zero; l = t.l; e = t.e; f = t.f; first = t.first; second = t.second; leads = t.leads; too = t.too; apart = λ q. t.apart q.1 }
      ]
    ]

-- ---- directories

-- no directory below this inode is named twice
abbrev pub AreNamedBelow : Geometry → Stored → ℕ → Type 0
AreNamedBelow g s i = (j : ℕ) → j < i → (the_inode g s j).kind ≡ 2 → links_to (volume_in g s) j ≤ 1

pub below-named : (g : Geometry) (s : Stored) (i : ℕ) → IsTable g s → inodes_of g ≤ i → AreNamedBelow g s i → AreNamedOnce (volume_in g s)
below-named g s i table all few d k c l e f there here same dir =
    let low = dir-low g s e.inode dir in
    links-alone e.inode (volume_in g s) d k c l e f (few e.inode (omega arith) (dir-kind g s e.inode table dir)) there here refl (sym same)

pub shared-least : (g : Geometry) (s : Stored) (i b count : ℕ) (n : Inode) → IsTable g s → ArePointers g s → i < inodes_of g → n ≡ the_inode g s i → n.kind ≡ 2 → count ≡ links_to (volume_in g s) i → 2 ≤ count → b ≡ inode_block g i → AreNamedBelow g s i
    → IsLeast (IsSharedDir g s) b
shared-least g s i b count n table pointers low is two counted many at few =
    let t = links-twice i (volume_in g s) (omega arith) in
    record {
      wrong = record {
        d = t.d;
        k = t.k;
        c = t.c;
        l = t.l;
        x = _;
        y = _;
        e = t.e;
        f = t.f;
        first = slot-in g s t.d t.k t.e table pointers t.first;
        second = slot-in g s t.c t.l t.f table pointers t.second;
        same = t.leads ∙ sym t.too;
        dir = ap (λ (j : ℕ). thing (body (volume_in g s) j)) t.leads ∙ dir-is g s i low (ap (λ (m : Inode). m.kind) (sym is) ∙ two);
        apart = t.apart;
        low = (let e = t.leads in omega arith);
        at = at ∙ ap (inode_block g) (sym t.leads);
      };
      least = λ x h. elim (cases_lt h.e.inode i) [
        | inl before ↦
            absurd (h.apart (links-alone h.e.inode (volume_in g s) h.d h.k h.c h.l h.e h.f (few h.e.inode before (dir-kind g s h.e.inode table h.dir)) h.first.there h.second.there refl (sym h.same)))
        | inr after ↦ let e = h.at in omega arith
      ];
    }

-- ---- files

-- those below this inode have as many links as slots name them
abbrev pub AreLinkedBelow : Geometry → Stored → ℕ → Type 0
AreLinkedBelow g s i = (j : ℕ) → j < i → (the_inode g s j).kind ≡ 1 → (the_inode g s j).links ≡ links_to (volume_in g s) j

pub miscounted-least : (g : Geometry) (s : Stored) (i b : ℕ) → b ≡ inode_block g i → AreLinkedBelow g s i → IsMiscounted g s b → IsLeast (IsMiscounted g s) b
miscounted-least g s i b at right wrong = record {
  wrong = wrong;
  least = λ x h. elim (cases_lt h.i i) [
    | inl before ↦ absurd (h.other (right h.i before h.file))
    | inr after ↦ let e = h.at in omega arith
  ];
}
