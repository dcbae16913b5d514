-- The paths that end in slots that name one inode.
use Rattle.std.proofs.Common.{get_or, ◌≡◌, ◌≢◌, ℕ, zero, suc, inl, inr, List, [], ◌∷◌, ◌++◌, map, length, length-append, cond, Bool, refl, sym, ap, subst, ◌∙◌, arith}
use Rattle.std.specs.Prelude.{Option, Some, None, nat_eq, if◌then◌else◌, ⊤}
use Rattle.std.specs.List.{AllPairs, Contains}
use Rattle.std.proofs.lemmas.Bool.{cases_eq, eq-eqb, ne_eqb}
use Rattle.std.proofs.lemmas.List.{length-map}
use Rattle.std.proofs.lemmas.List.Elements.{Contains-append_cases, Contains-append_left, Contains-append_right, Contains-get_or}
use Rattle.std.proofs.lemmas.List.Kept.{AllPairs-cons}
use Rattle.std.proofs.lemmas.List.Sums.{sum_by-cons}
use Rattle.std.proofs.lemmas.Option.{none-some, same_Some}
use Rattle.mq_layout.specs.Slots.{Entry}
use Rattle.mq_tree.specs.Links.{links_to, names, names_among}
use Rattle.mq_tree.specs.Volume.{Node, Path, Volume, Way, body, slots_of, way}
use Rattle.mq_tree.proofs.Counting.{names-it, names-other}
use Rattle.mq_tree.proofs.Members.{cons-cases, cons-here, cons-there, map-cases, map-has, none-contained}
use Rattle.mq_tree.proofs.RequestsTargets.{same-way}
use Rattle.mq_tree.proofs.VolumePaths.{AreNamesOnce, Found}

-- ---- lists in which nothing stands twice

module _ {A : Type 0} where
  abbrev pub AreApart : List A → Type 0
  AreApart [] = ⊤
  AreApart (x ∷ xs) = (Contains xs x → ⊥) × AreApart xs

  pub apart-pairs : (xs : List A) → AreApart xs → AllPairs ◌≢◌ xs
  apart-pairs [] a = λ i j d low high. absurd (omega arith)
  apart-pairs (x ∷ xs) a = AllPairs-cons ◌≢◌ x xs (λ k d low same. a.0 (subst (λ y. Contains xs y) (sym same) (Contains-get_or xs k d low))) (apart-pairs xs a.1)

  apart-append : (xs ys : List A) → AreApart xs → AreApart ys → ((x : A) → Contains xs x → Contains ys x → ⊥) → AreApart (xs ++ ys)
  apart-append [] ys a b other = b
  apart-append (x ∷ xs) ys a b other = (
    λ c. elim (Contains-append_cases xs ys x c) [
      | inl left ↦ a.0 left
      | inr right ↦ other x (cons-here x xs x refl) right
    ],
    apart-append xs ys a.1 b (λ y left right. other y (cons-there x xs y left) right),
  )

apart-map : {A B : Type 0} (f : A → B) → ((x y : A) → f x ≡ f y → x ≡ y) → (xs : List A) → AreApart xs → AreApart (map f xs)
apart-map f once [] a = tt
apart-map f once (x ∷ xs) a = (
  λ c. let m = map-cases f xs (f x) c in a.0 (subst (λ y. Contains xs y) (once m.0 x m.2) m.1),
  apart-map f once xs a.1,
)

-- ---- the slots of one directory

-- the names under which slots name the inode
abbrev names_to : ℕ → List (Option Entry) → List (List ℕ)
names_to i [] = []
names_to i (None ∷ slots) = names_to i slots
names_to i (Some e ∷ slots) = if nat_eq e.inode i then e.name ∷ names_to i slots else names_to i slots

to-it : (i : ℕ) (e : Entry) (slots : List (Option Entry)) → e.inode ≡ i → names_to i (Some e ∷ slots) ≡ e.name ∷ names_to i slots
to-it i e slots same = ap (λ (b : Bool). cond b (e.name ∷ names_to i slots) (names_to i slots)) (eq-eqb e.inode i same)

to-other : (i : ℕ) (e : Entry) (slots : List (Option Entry)) → e.inode ≢ i → names_to i (Some e ∷ slots) ≡ names_to i slots
to-other i e slots other = ap (λ (b : Bool). cond b (e.name ∷ names_to i slots) (names_to i slots)) (ne_eqb e.inode i other)

names-length : (i : ℕ) (slots : List (Option Entry)) → length (names_to i slots) ≡ names_among i slots
names-length i [] = refl
names-length i (None ∷ slots) =
    let r = names-length i slots in
    let a = sum_by-cons (names i) None slots in
    omega arith
names-length i (Some e ∷ slots) =
    let r = names-length i slots in
    let a = sum_by-cons (names i) (Some e) slots in
    elim (cases_eq e.inode i) [
      | inl same ↦
          let b = names-it i e same in
          let c : length (names_to i (Some e ∷ slots)) ≡ suc (length (names_to i slots)) = ap length (to-it i e slots same) in
          omega arith
      | inr other ↦
          let b = names-other i e other in
          let c : length (names_to i (Some e ∷ slots)) ≡ length (names_to i slots) = ap length (to-other i e slots other) in
          omega arith
    ]

later : (o : Option Entry) (slots : List (Option Entry)) (name : List ℕ) (i : ℕ) → Found slots name i → Found (o ∷ slots) name i
later o slots name i f = record { place = suc f.place; entry = f.entry; there = f.there; named = f.named; leads = f.leads }

names-from : (i : ℕ) (slots : List (Option Entry)) (name : List ℕ) → Contains (names_to i slots) name → Found slots name i
names-from i [] name c = none-contained name c
names-from i (None ∷ slots) name c = later None slots name i (names-from i slots name c)
names-from i (Some e ∷ slots) name c = elim (cases_eq e.inode i) [
  | inl same ↦ elim (cons-cases e.name (names_to i slots) name (subst (λ xs. Contains xs name) (to-it i e slots same) c)) [
    | inl here ↦ record { place = zero; entry = e; there = refl; named = here; leads = same }
    | inr rest ↦ later (Some e) slots name i (names-from i slots name rest)
  ]
  | inr other ↦ later (Some e) slots name i (names-from i slots name (subst (λ xs. Contains xs name) (to-other i e slots other) c))
]

-- a name more keeps those that stand behind it
names-later : (i : ℕ) (e : Entry) (slots : List (Option Entry)) (name : List ℕ) → Contains (names_to i slots) name → Contains (names_to i (Some e ∷ slots)) name
names-later i e slots name c = elim (cases_eq e.inode i) [
  | inl same ↦ subst (λ xs. Contains xs name) (sym (to-it i e slots same)) (cons-there e.name (names_to i slots) name c)
  | inr other ↦ subst (λ xs. Contains xs name) (sym (to-other i e slots other)) c
]

names-at : (i : ℕ) (slots : List (Option Entry)) (k : ℕ) (e : Entry) → get_or slots k None ≡ Some e → e.inode ≡ i → Contains (names_to i slots) e.name
names-at i [] k e there leads = absurd (none-some e there)
names-at i (None ∷ slots) zero e there leads = absurd (none-some e there)
names-at i (None ∷ slots) (suc k) e there leads = names-at i slots k e there leads
names-at i (Some s ∷ slots) zero e there leads =
    let same = same_Some s e there in
    let c = cons-here s.name (names_to i slots) e.name (ap (λ (x : Entry). x.name) same) in
    subst (λ xs. Contains xs e.name) (sym (to-it i s slots (ap (λ (x : Entry). x.inode) same ∙ leads))) c
names-at i (Some s ∷ slots) (suc k) e there leads = names-later i s slots e.name (names-at i slots k e there leads)

names-have : (i : ℕ) (slots : List (Option Entry)) (name : List ℕ) → Found slots name i → Contains (names_to i slots) name
names-have i slots name f = subst (λ n. Contains (names_to i slots) n) f.named (names-at i slots f.place f.entry f.there f.leads)

names-rest : (o : Option Entry) (slots : List (Option Entry)) → AreNamesOnce (o ∷ slots) → AreNamesOnce slots
names-rest o slots once k l e f there here same = let r : suc k ≡ suc l = once (suc k) (suc l) e f there here same in omega arith

names-apart : (i : ℕ) (slots : List (Option Entry)) → AreNamesOnce slots → AreApart (names_to i slots)
names-apart i [] once = tt
names-apart i (None ∷ slots) once = names-apart i slots (names-rest None slots once)
names-apart i (Some e ∷ slots) once =
    let rest = names-apart i slots (names-rest (Some e) slots once) in
    elim (cases_eq e.inode i) [
      | inl same ↦ subst (λ xs. AreApart xs) (sym (to-it i e slots same)) (
        λ c.
            let f = names-from i slots e.name c in
            let r : zero ≡ suc f.place = once zero (suc f.place) e f.entry refl f.there (sym f.named) in
            absurd (omega arith),
        rest,
      )
      | inr other ↦ subst (λ xs. AreApart xs) (sym (to-other i e slots other)) rest
    ]

-- ---- the slots of all directories

-- the path that ends in this name, in a directory to which a way leads
abbrev pub path_in : Way → List ℕ → Path
path_in w name = way (name ∷ w)

same-in : (w u : Way) (a b : List ℕ) → path_in w a ≡ path_in u b → (a ≡ b) × (w ≡ u)
same-in w u a b e = let h = same-way (a ∷ w) (b ∷ u) e in (cc, cc)

-- the paths that end in slots that name the inode, where `up` leads to each directory
abbrev pub paths_to : (ℕ → Way) → ℕ → Volume → List Path
paths_to up i [] = []
paths_to up i (n ∷ v) = map (path_in (up zero)) (names_to i (slots_of n.body)) ++ paths_to (λ d. up (suc d)) i v

pub paths-length : (up : ℕ → Way) (i : ℕ) (v : Volume) → length (paths_to up i v) ≡ links_to v i
paths-length up i [] = refl
paths-length up i (n ∷ v) =
    let r = paths-length (λ d. up (suc d)) i v in
    let a = sum_by-cons (λ (n : Node). names_among i (slots_of n.body)) n v in
    let b = length-append (map (path_in (up zero)) (names_to i (slots_of n.body))) (paths_to (λ d. up (suc d)) i v) in
    let c = length-map (names_to i (slots_of n.body)) (path_in (up zero)) in
    let d = names-length i (slots_of n.body) in
    omega arith

-- a slot that names the inode, at the end of a path
pub record Ends (up : ℕ → Way) (i : ℕ) (v : Volume) (path : Path) : Type 0 where
  pub directory : ℕ
  pub name : List ℕ
  pub found : Found (slots_of (body v directory)) name i
  pub is : path ≡ path_in (up directory) name

pub paths-from : (up : ℕ → Way) (i : ℕ) (v : Volume) (path : Path) → Contains (paths_to up i v) path → Ends up i v path
paths-from up i [] path c = none-contained path c
paths-from up i (n ∷ v) path c = elim (Contains-append_cases (map (path_in (up zero)) (names_to i (slots_of n.body))) (paths_to (λ d. up (suc d)) i v) path c) [
  | inl here ↦
      let m = map-cases (path_in (up zero)) (names_to i (slots_of n.body)) path here in
      record { directory = zero; name = m.0; found = names-from i (slots_of n.body) m.0 m.1; is = sym m.2 }
  | inr rest ↦ let r = paths-from (λ d. up (suc d)) i v path rest in record { directory = suc r.directory; name = r.name; found = r.found; is = r.is }
]

pub paths-have : (up : ℕ → Way) (i : ℕ) (v : Volume) (d : ℕ) (name : List ℕ) → Found (slots_of (body v d)) name i → Contains (paths_to up i v) (path_in (up d) name)
paths-have up i [] d name f = absurd (none-some f.entry f.there)
paths-have up i (n ∷ v) zero name f =
    Contains-append_left (map (path_in (up zero)) (names_to i (slots_of n.body))) (paths_to (λ d. up (suc d)) i v) (path_in (up zero) name) (map-has (path_in (up zero)) (names_to i (slots_of n.body)) name (names-have i (slots_of n.body) name f))
paths-have up i (n ∷ v) (suc d) name f =
    Contains-append_right (map (path_in (up zero)) (names_to i (slots_of n.body))) (paths_to (λ d. up (suc d)) i v) (path_in (up (suc d)) name) (paths-have (λ d. up (suc d)) i v d name f)

-- directories with slots that name the inode have different ways
abbrev pub AreWaysOnce : (ℕ → Way) → ℕ → Volume → Type 0
AreWaysOnce up i v = (d c : ℕ) (a b : List ℕ) → Found (slots_of (body v d)) a i → Found (slots_of (body v c)) b i → up d ≡ up c → d ≡ c

pub paths-apart : (up : ℕ → Way) (i : ℕ) (v : Volume) → ((d : ℕ) → AreNamesOnce (slots_of (body v d))) → AreWaysOnce up i v → AreApart (paths_to up i v)
paths-apart up i [] names once = tt
paths-apart up i (n ∷ v) names once =
    let here = apart-map (path_in (up zero)) (λ x y e. (same-in (up zero) (up zero) x y e).0) (names_to i (slots_of n.body)) (names-apart i (slots_of n.body) (names zero)) in
    let rest = paths-apart (λ d. up (suc d)) i v (λ d. names (suc d)) (λ d c a b f h same. let r : suc d ≡ suc c = once (suc d) (suc c) a b f h same in omega arith) in
    apart-append (map (path_in (up zero)) (names_to i (slots_of n.body))) (paths_to (λ d. up (suc d)) i v) here rest (λ path left right.
    let m = map-cases (path_in (up zero)) (names_to i (slots_of n.body)) path left in
    let r = paths-from (λ d. up (suc d)) i v path right in
    let s = same-in (up zero) (up (suc r.directory)) m.0 r.name (m.2 ∙ r.is) in
    let e : zero ≡ suc r.directory = once zero (suc r.directory) m.0 r.name (names-from i (slots_of n.body) m.0 m.1) r.found s.1 in
    absurd (omega arith))
