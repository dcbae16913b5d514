-- How many slots name an inode, where slots come and go.
use Rattle.std.proofs.Common.{get_or, ◌≡◌, ◌≢◌, ℕ, zero, suc, ◌+◌, ◌≤◌, inl, inr, List, [], ◌∷◌, length, Bool, cond, refl, sym, ap, ◌∙◌, arith}
use Rattle.std.specs.Prelude.{Option, Some, None}
use Rattle.std.proofs.lemmas.Bool.{cases_eq, eq-eqb, ne_eqb}
use Rattle.std.proofs.lemmas.List.Sums.{sum_by-cons}
use Rattle.std.proofs.lemmas.Option.{none-some}
use Rattle.mq_layout.specs.Slots.{Entry}
use Rattle.mq_tree.specs.Links.{AreCounted, links_to, names, names_among}
use Rattle.mq_tree.specs.Volume.{ADir, AFile, Body, Free, File, Dir, Node, Volume, body, node, slot, slots_of, thing}

-- ---- slots of one directory

among-cons : (i : ℕ) (o : Option Entry) (slots : List (Option Entry)) → names_among i (o ∷ slots) ≡ names i o + names_among i slots
among-cons i o slots = sum_by-cons (names i) o slots

pub names-it : (i : ℕ) (e : Entry) → e.inode ≡ i → names i (Some e) ≡ 1
names-it i e same = ap (λ (b : Bool). cond b 1 0) (eq-eqb e.inode i same)

pub names-other : (i : ℕ) (e : Entry) → e.inode ≢ i → names i (Some e) ≡ 0
names-other i e other = ap (λ (b : Bool). cond b 1 0) (ne_eqb e.inode i other)

-- slots that are the same, but for unused ones at the end
among-same : (i : ℕ) (xs ys : List (Option Entry)) → ((l : ℕ) → get_or xs l None ≡ get_or ys l None) → names_among i xs ≡ names_among i ys
among-same i [] [] same = refl
among-same i [] (y ∷ ys) same =
    let r = among-same i [] ys (λ l. same (suc l)) in
    let a = among-cons i y ys in
    let b : names i y ≡ 0 = ap (names i) (sym (same zero)) in
    omega arith
among-same i (x ∷ xs) [] same =
    let r = among-same i xs [] (λ l. same (suc l)) in
    let a = among-cons i x xs in
    let b : names i x ≡ 0 = ap (names i) (same zero) in
    omega arith
among-same i (x ∷ xs) (y ∷ ys) same =
    let r = among-same i xs ys (λ l. same (suc l)) in
    let a = among-cons i x xs in
    let b = among-cons i y ys in
    let c : names i x ≡ names i y = ap (names i) (same zero) in
    omega arith

-- one more is used
among-more : (i : ℕ) (xs ys : List (Option Entry)) (k : ℕ) (e : Entry) → get_or xs k None ≡ None → get_or ys k None ≡ Some e → ((l : ℕ) → l ≢ k → get_or ys l None ≡ get_or xs l None)
    → names_among i ys ≡ names i (Some e) + names_among i xs
among-more i xs [] k e was here rest = absurd (none-some e here)
among-more i [] (y ∷ ys) zero e was here rest =
    let r = among-same i [] ys (λ l. sym (rest (suc l) (λ s. omega arith))) in
    let a = among-cons i y ys in
    let c : names i y ≡ names i (Some e) = ap (names i) here in
    omega arith
among-more i (x ∷ xs) (y ∷ ys) zero e was here rest =
    let r = among-same i xs ys (λ l. sym (rest (suc l) (λ s. omega arith))) in
    let a = among-cons i x xs in
    let b = among-cons i y ys in
    let c : names i y ≡ names i (Some e) = ap (names i) here in
    let d : names i x ≡ 0 = ap (names i) was in
    omega arith
among-more i [] (y ∷ ys) (suc k) e was here rest =
    let r = among-more i [] ys k e refl here (λ l other. rest (suc l) (λ s. other (omega arith))) in
    let a = among-cons i y ys in
    let c : names i y ≡ 0 = ap (names i) (rest zero (λ s. omega arith)) in
    omega arith
among-more i (x ∷ xs) (y ∷ ys) (suc k) e was here rest =
    let r = among-more i xs ys k e was here (λ l other. rest (suc l) (λ s. other (omega arith))) in
    let a = among-cons i x xs in
    let b = among-cons i y ys in
    let c : names i y ≡ names i x = ap (names i) (rest zero (λ s. omega arith)) in
    omega arith

-- ---- all slots

to-cons : (i : ℕ) (n : Node) (v : Volume) → links_to (n ∷ v) i ≡ names_among i (slots_of n.body) + links_to v i
to-cons i n v = sum_by-cons (λ (n : Node). names_among i (slots_of n.body)) n v

pub links-same : (i : ℕ) (v w : Volume) → length w ≡ length v → ((x l : ℕ) → slot w x l ≡ slot v x l) → links_to w i ≡ links_to v i
links-same i [] [] size same = refl
links-same i [] (m ∷ w) size same = absurd (omega arith)
links-same i (n ∷ v) [] size same = absurd (omega arith)
links-same i (n ∷ v) (m ∷ w) size same =
    let r = links-same i v w (omega arith) (λ x l. same (suc x) l) in
    let a = to-cons i n v in
    let b = to-cons i m w in
    let c = among-same i (slots_of m.body) (slots_of n.body) (λ l. same zero l) in
    omega arith

pub links-more : (i : ℕ) (v w : Volume) (d k : ℕ) (e : Entry) → length w ≡ length v → slot v d k ≡ None → slot w d k ≡ Some e → ((x l : ℕ) → (x ≡ d → l ≡ k → ⊥) → slot w x l ≡ slot v x l) → links_to w i ≡ names i (Some e) + links_to v i
links-more i [] [] d k e size was here rest = absurd (none-some e here)
links-more i [] (m ∷ w) d k e size was here rest = absurd (omega arith)
links-more i (n ∷ v) [] d k e size was here rest = absurd (omega arith)
links-more i (n ∷ v) (m ∷ w) zero k e size was here rest =
    let r = links-same i v w (omega arith) (λ x l. rest (suc x) l (λ s t. omega arith)) in
    let a = to-cons i n v in
    let b = to-cons i m w in
    let c = among-more i (slots_of n.body) (slots_of m.body) k e was here (λ l other. rest zero l (λ s t. other t)) in
    omega arith
links-more i (n ∷ v) (m ∷ w) (suc d) k e size was here rest =
    let r = links-more i v w d k e (omega arith) was here (λ x l other. rest (suc x) l (λ s t. other (omega arith) t)) in
    let a = to-cons i n v in
    let b = to-cons i m w in
    let c = among-same i (slots_of m.body) (slots_of n.body) (λ l. rest zero l (λ s t. omega arith)) in
    omega arith

-- ---- slots that name it

among-one : (i : ℕ) (slots : List (Option Entry)) (k : ℕ) (e : Entry) → get_or slots k None ≡ Some e → e.inode ≡ i → 1 ≤ names_among i slots
among-one i [] k e there same = absurd (none-some e there)
among-one i (x ∷ xs) zero e there same =
    let a = among-cons i x xs in
    let b : names i x ≡ 1 = ap (names i) there ∙ names-it i e same in
    omega arith
among-one i (x ∷ xs) (suc k) e there same =
    let a = among-cons i x xs in
    let r = among-one i xs k e there same in
    omega arith

among-two : (i : ℕ) (slots : List (Option Entry)) (k l : ℕ) (e f : Entry) → get_or slots k None ≡ Some e → get_or slots l None ≡ Some f → e.inode ≡ i → f.inode ≡ i → k ≢ l → 2 ≤ names_among i slots
among-two i [] k l e f there here same too other = absurd (none-some e there)
among-two i (x ∷ xs) zero zero e f there here same too other = absurd (other refl)
among-two i (x ∷ xs) zero (suc l) e f there here same too other =
    let a = among-cons i x xs in
    let b : names i x ≡ 1 = ap (names i) there ∙ names-it i e same in
    let r = among-one i xs l f here too in
    omega arith
among-two i (x ∷ xs) (suc k) zero e f there here same too other =
    let a = among-cons i x xs in
    let b : names i x ≡ 1 = ap (names i) here ∙ names-it i f too in
    let r = among-one i xs k e there same in
    omega arith
among-two i (x ∷ xs) (suc k) (suc l) e f there here same too other =
    let a = among-cons i x xs in
    let r = among-two i xs k l e f there here same too (λ s. other (omega arith)) in
    omega arith

pub links-one : (i : ℕ) (v : Volume) (d k : ℕ) (e : Entry) → slot v d k ≡ Some e → e.inode ≡ i → 1 ≤ links_to v i
links-one i [] d k e there same = absurd (none-some e there)
links-one i (n ∷ v) zero k e there same =
    let a = to-cons i n v in
    let r = among-one i (slots_of n.body) k e there same in
    omega arith
links-one i (n ∷ v) (suc d) k e there same =
    let a = to-cons i n v in
    let r = links-one i v d k e there same in
    omega arith

links-two : (i : ℕ) (v : Volume) (d k c l : ℕ) (e f : Entry) → slot v d k ≡ Some e → slot v c l ≡ Some f → e.inode ≡ i → f.inode ≡ i → (d ≡ c → k ≡ l → ⊥) → 2 ≤ links_to v i
links-two i [] d k c l e f there here same too other = absurd (none-some e there)
links-two i (n ∷ v) zero k zero l e f there here same too other =
    let a = to-cons i n v in
    let r = among-two i (slots_of n.body) k l e f there here same too (λ s. other refl s) in
    omega arith
links-two i (n ∷ v) zero k (suc c) l e f there here same too other =
    let a = to-cons i n v in
    let r = among-one i (slots_of n.body) k e there same in
    let t = links-one i v c l f here too in
    omega arith
links-two i (n ∷ v) (suc d) k zero l e f there here same too other =
    let a = to-cons i n v in
    let r = among-one i (slots_of n.body) l f here too in
    let t = links-one i v d k e there same in
    omega arith
links-two i (n ∷ v) (suc d) k (suc c) l e f there here same too other =
    let a = to-cons i n v in
    let r = links-two i v d k c l e f there here same too (λ s t. other (omega arith) t) in
    omega arith

-- where one slot names it, no other does
pub links-alone : (i : ℕ) (v : Volume) (d k c l : ℕ) (e f : Entry) → links_to v i ≤ 1 → slot v d k ≡ Some e → slot v c l ≡ Some f → e.inode ≡ i → f.inode ≡ i → (d ≡ c) × (k ≡ l)
links-alone i v d k c l e f few there here same too = elim (cases_eq d c) [
  | inl x ↦ elim (cases_eq k l) [
    | inl y ↦ (x, y)
    | inr other ↦ absurd (let r = links-two i v d k c l e f there here same too (λ s t. other t) in omega arith)
  ]
  | inr other ↦ absurd (let r = links-two i v d k c l e f there here same too (λ s t. other s) in omega arith)
]

-- a slot that names it
pub record NamesIt (v : Volume) (i : ℕ) : Type 0 where
  pub directory : ℕ
  pub place : ℕ
  pub entry : Entry
  pub there : slot v directory place ≡ Some entry
  pub leads : entry.inode ≡ i

among-some : (i : ℕ) (slots : List (Option Entry)) → 1 ≤ names_among i slots → (k : ℕ) × (e : Entry) × (get_or slots k None ≡ Some e) × (e.inode ≡ i)
among-some i [] some = absurd (omega arith)
among-some i (None ∷ xs) some =
    let a = among-cons i None xs in
    let r = among-some i xs (omega arith) in
    (suc r.0, r.1, r.2, r.3)
among-some i (Some e ∷ xs) some = elim (cases_eq e.inode i) [
  | inl same ↦ (zero, e, refl, same)
  | inr other ↦
      let a = among-cons i (Some e) xs in
      let b = names-other i e other in
      let r = among-some i xs (omega arith) in
      (suc r.0, r.1, r.2, r.3)
]

pub links-some : (i : ℕ) (v : Volume) → 1 ≤ links_to v i → NamesIt v i
links-some i [] some = absurd (omega arith)
links-some i (n ∷ v) some = elim (cases_eq (names_among i (slots_of n.body)) 0) [
  | inl none ↦
      let a = to-cons i n v in
      let r = links-some i v (omega arith) in
      record { directory = suc r.directory; place = r.place; entry = r.entry; there = r.there; leads = r.leads }
  | inr other ↦
      let r = among-some i (slots_of n.body) (omega arith) in
      record { directory = zero; place = r.0; entry = r.1; there = r.2; leads = r.3 }
]

-- ---- files whose links are counted

pub file-is : (b : Body) (bytes : List ℕ) → thing b ≡ Some (AFile bytes) → b ≡ File bytes
file-is Free bytes e = absurd (none-some _ e)
file-is (File old) bytes e = cc
file-is (Dir slots) bytes e = absurd (dir-file bytes e)
  where
    dir-file : (bytes : List ℕ) → Some ADir ≡ Some (AFile bytes) → ⊥
    dir-file bytes e = cc

pub counted-file : (v : Volume) (i : ℕ) (bytes : List ℕ) → AreCounted v → thing (body v i) ≡ Some (AFile bytes) → (node v i).links ≡ links_to v i
counted-file v i bytes c e = c i bytes (file-is (body v i) bytes e)

-- it has these links, and this many slots name it
pub counted-by : (v w : Volume) → ((x : ℕ) (bytes : List ℕ) → thing (body w x) ≡ Some (AFile bytes) → (node w x).links ≡ links_to w x) → AreCounted w
counted-by v w h x bytes is = h x bytes (ap (λ (b : Body). thing b) is)

-- a file that stays one with as many names
pub counted-kept : (v w : Volume) (x : ℕ) (bytes : List ℕ) → AreCounted v → thing (body w x) ≡ thing (body v x) → (node w x).links ≡ (node v x).links → links_to w x ≡ links_to v x → thing (body w x) ≡ Some (AFile bytes) → (node w x).links ≡ links_to w x
counted-kept v w x bytes c same links to is = links ∙ counted-file v x bytes c (sym same ∙ is) ∙ sym to
