-- Names that stand twice in a directory.
use Rattle.std.proofs.Common.{◌≡◌, ℕ, ◌+◌, ◌*◌, ◌/◌, ◌<◌, ◌⊎◌, List, [], ◌∷◌, Bool, true, false, cond, length, refl, sym, ap, subst, ◌∙◌, arith, inl, inr, Vec}
use Rattle.std.specs.Prelude.{◌≢◌, Option, Some, None, is_some}
use Rattle.std.specs.Bool.{MatchBool}
use Rattle.std.specs.Str.{bytes_eq}
use Rattle.std.proofs.lemmas.Bool.{cases_Bool, cases_eq, cases_lt, true≢false}
use Rattle.mq_layout.specs.Slots.{Entry}
use Rattle.mq_layout.specs.declared.inode.Inode.{Inode}
use Rattle.mq_tree.specs.Decoded.{Stored, body_of, count_of, entry_of, pointer_to, table_of}
use Rattle.mq_tree.specs.Directories.{Adds, AreSameNames, Has, HasNameOf, HasTwin, IsOnce, Leads, OnceBelow, RefusesNames, as_slots}
use Rattle.mq_tree.specs.Least.{IsLeastOf, lesser}
use Rattle.mq_tree.specs.Volume.{find, slots_of}
use Rattle.mq_tree.specs.declared.corrupt.CorruptCause.TheVariants.{Twin}
use Rattle.mq_tree.specs.declared.corrupt.MountRefusal.{MountRefusal}
use Rattle.mq_tree.specs.declared.corrupt.MountRefusal.TheVariants.{Corrupt}
use Rattle.mq_tree.proofs.DecodedNaming.{none-entry}
use Rattle.mq_tree.proofs.Directories.{alike-all, built-add, built-skip, name-same, same-name}
use Rattle.mq_tree.proofs.Least.{least-same}
use Rattle.mq_tree.proofs.LeastBelow.{WrongBelow, below-skip, below-step}

-- ---- maps to which a name was added

has-none : {R : Type 0} (xs : List (Option Entry)) (q : List ℕ) → xs ≡ [] → Has xs q → R
has-none xs q e h = let none : find q xs ≡ None = ap (find q) e in let some = h.1 in absurd (cc)

pub empty-names : {A : Type 0} (es : List (Vec ℕ A × ℕ)) (xs : List (Option Entry)) (t : Bool) → as_slots es ≡ xs → (t ≡ true → length es ≡ 0) × (length es ≡ 0 → t ≡ true) → MatchBool t (xs ≡ []) (xs ≢ [])
empty-names [] xs true e is = sym e
empty-names [] xs false e is = absurd (true≢false (sym (is.1 refl)))
empty-names (x ∷ es) xs true e is = absurd (let none = is.0 refl in omega arith)
empty-names (x ∷ es) xs false e is = λ none. let both = e ∙ none in absurd (cc)

has-new : (xs ys : List (Option Entry)) (name q : List ℕ) (i : ℕ) → Leads xs ys name i → name ≡ q → Has ys q
has-new xs ys name q i leads e = (i, leads q ∙ ap (λ (c : Bool). cond c (Some i) (find q xs)) (same-name name q e))

has-old : (xs ys : List (Option Entry)) (name q : List ℕ) (i : ℕ) → Leads xs ys name i → Has xs q → Has ys q
has-old xs ys name q i leads h = elim (cases_Bool (bytes_eq name q)) [
  | inl t ↦ (i, leads q ∙ ap (λ (c : Bool). cond c (Some i) (find q xs)) t)
  | inr f ↦ (h.0, leads q ∙ ap (λ (c : Bool). cond c (Some i) (find q xs)) f ∙ h.1)
]

has-after : (xs ys : List (Option Entry)) (name q : List ℕ) (i : ℕ) → Leads xs ys name i → Has ys q → (name ≡ q) ⊎ Has xs q
has-after xs ys name q i leads h = elim (cases_Bool (bytes_eq name q)) [
  | inl t ↦ inl (name-same name q t)
  | inr f ↦ inr (h.0, sym (leads q ∙ ap (λ (c : Bool). cond c (Some i) (find q xs)) f) ∙ h.1)
]

-- ---- names in the first slots

pub record StandsIn (at : ℕ → Option Entry) (k : ℕ) (q : List ℕ) : Type 0 where
  pub i : ℕ
  pub e : Entry
  pub low : i < k
  pub there : at i ≡ Some e
  pub same : e.name ≡ q

pub record StandsTwice (at : ℕ → Option Entry) (k : ℕ) (q : List ℕ) : Type 0 where
  pub i : ℕ
  pub j : ℕ
  pub e : Entry
  pub f : Entry
  pub before : i < j
  pub low : j < k
  pub first : at i ≡ Some e
  pub second : at j ≡ Some f
  pub name : e.name ≡ q
  pub same : f.name ≡ q

in-more : (at : ℕ → Option Entry) (k : ℕ) (q : List ℕ) → StandsIn at k q → StandsIn at (k + 1) q
in-more at k q h = record { i = h.i; e = h.e; low = (let l = h.low in omega arith); there = h.there; same = h.same }

twice-more : (at : ℕ → Option Entry) (k : ℕ) (q : List ℕ) → StandsTwice at k q → StandsTwice at (k + 1) q
twice-more at k q h = record { i = h.i; j = h.j; e = h.e; f = h.f; before = h.before; low = (let l = h.low in omega arith); first = h.first; second = h.second; name = h.name; same = h.same }

-- it stands in the last of them, or before
in-last : (at : ℕ → Option Entry) (k : ℕ) (q : List ℕ) → StandsIn at (k + 1) q → ((e : Entry) × (at k ≡ Some e) × (e.name ≡ q)) ⊎ StandsIn at k q
in-last at k q h = elim (cases_eq h.i k) [
  | inl last ↦ inl (h.e, ap at (sym last) ∙ h.there, h.same)
  | inr other ↦ inr (record { i = h.i; e = h.e; low = (let l = h.low in omega arith); there = h.there; same = h.same })
]

twice-last : (at : ℕ → Option Entry) (k : ℕ) (q : List ℕ) → StandsTwice at (k + 1) q → (((e : Entry) × (at k ≡ Some e) × (e.name ≡ q)) × StandsIn at k q) ⊎ StandsTwice at k q
twice-last at k q h = elim (cases_eq h.j k) [
  | inl last ↦ inl ((h.f, ap at (sym last) ∙ h.second, h.same), record { i = h.i; e = h.e; low = (let b = h.before in omega arith); there = h.first; same = h.name })
  | inr other ↦ inr (record { i = h.i; j = h.j; e = h.e; f = h.f; before = h.before; low = (let l = h.low in omega arith); first = h.first; second = h.second; name = h.name; same = h.same })
]

once-before : (at : ℕ → Option Entry) (k : ℕ) → OnceBelow at (k + 1) → OnceBelow at k
once-before at k once i j e f low small there here same = once i j e f (omega arith) (omega arith) there here same

-- ---- slot by slot

-- the names in the first slots, and those of them that stand twice there
pub record Scanned (at : ℕ → Option Entry) (k : ℕ) (names twins : List (Option Entry)) : Type 0 where
  pub named : (q : List ℕ) → Has names q → StandsIn at k q
  pub all : (q : List ℕ) → StandsIn at k q → Has names q
  pub alike : OnceBelow at k → AreSameNames names (table_of k at)
  pub twice : (q : List ℕ) → Has twins q → StandsTwice at k q
  pub found : (q : List ℕ) → StandsTwice at k q → Has twins q

pub scan-start : (at : ℕ → Option Entry) (names twins : List (Option Entry)) → names ≡ [] → twins ≡ [] → Scanned at 0 names twins
scan-start at names twins e f = record {
  named = λ q h. has-none names q e h;
  all = λ q h. (let l = h.low in absurd (omega arith));
  alike = λ once. subst (λ xs. AreSameNames xs []) (sym e) (record { finds = λ q. refl; entries = refl });
  twice = λ q h. has-none twins q f h;
  found = λ q h. (let l = h.low in absurd (omega arith));
}

pub scan-skip : (at : ℕ → Option Entry) (k : ℕ) (names twins more added : List (Option Entry)) → Scanned at k names twins → at k ≡ None → more ≡ names → added ≡ twins → Scanned at (k + 1) more added
scan-skip at k names twins more added s none e f = subst (λ xs. Scanned at (k + 1) xs added) (sym e) (subst (λ ys. Scanned at (k + 1) names ys) (sym f) (record {
  named = λ q h. in-more at k q (s.named q h);
  all = λ q h. elim (in-last at k q h) [ inl last ↦ none-entry last.0 (sym none ∙ last.1) | inr old ↦ s.all q old ];
  alike = λ once. (built-skip at k names (record { alike = s.alike (once-before at k once); once = once-before at k once }) none).alike;
  twice = λ q h. twice-more at k q (s.twice q h);
  found = λ q h. elim (twice-last at k q h) [ inl last ↦ none-entry last.0.0 (sym none ∙ last.0.1) | inr old ↦ s.found q old ];
}))

-- the name in the last slot
last-name : (at : ℕ → Option Entry) (k : ℕ) (e : Entry) (q : List ℕ) → at k ≡ Some e → ((f : Entry) × (at k ≡ Some f) × (f.name ≡ q)) → e.name ≡ q
last-name at k e q there h = let g : e ≡ h.0 = (let t = sym there ∙ h.1 in cc) in ap (λ (x : Entry). x.name) g ∙ h.2

names-now : (at : ℕ → Option Entry) (k : ℕ) (names more : List (Option Entry)) (e : Entry) → ((q : List ℕ) → Has names q → StandsIn at k q) → at k ≡ Some e → Leads names more e.name e.inode → (q : List ℕ) → Has more q → StandsIn at (k + 1) q
names-now at k names more e named there leads q h = elim (has-after names more e.name q e.inode leads h) [
  | inl same ↦ record { i = k; e = e; low = omega arith; there = there; same = same }
  | inr old ↦ in-more at k q (named q old)
]

all-now : (at : ℕ → Option Entry) (k : ℕ) (names more : List (Option Entry)) (e : Entry) → ((q : List ℕ) → StandsIn at k q → Has names q) → at k ≡ Some e → Leads names more e.name e.inode → (q : List ℕ) → StandsIn at (k + 1) q → Has more q
all-now at k names more e all there leads q h = elim (in-last at k q h) [
  | inl last ↦ has-new names more e.name q e.inode leads (last-name at k e q there last)
  | inr old ↦ has-old names more e.name q e.inode leads (all q old)
]

pub scan-new : (at : ℕ → Option Entry) (k : ℕ) (names twins more now added : List (Option Entry)) (e : Entry) (t : Bool) → Scanned at k names twins → at k ≡ Some e → MatchBool t (Adds names more e.name e.inode) (Has names e.name) → t ≡ true → now ≡ more → added ≡ twins
    → Scanned at (k + 1) now added
scan-new at k names twins more now added e false s there a is same kept = absurd (true≢false (sym is))
scan-new at k names twins more now added e true s there a is same kept = subst (λ xs. Scanned at (k + 1) xs added) (sym same) (subst (λ ys. Scanned at (k + 1) more ys) (sym kept) (record {
  named = names-now at k names more e s.named there a.finds;
  all = all-now at k names more e s.all there a.finds;
  alike = λ once. (built-add at k names more e (record { alike = s.alike (once-before at k once); once = once-before at k once }) there a).alike;
  twice = λ q h. twice-more at k q (s.twice q h);
  found = λ q h. elim (twice-last at k q h) [
    | inl last ↦
        let name : e.name ≡ q = last-name at k e q there last.0 in
        let has : Has names q = s.all q last.1 in
        let none : find q names ≡ None = ap (λ (n : List ℕ). find n names) (sym name) ∙ a.missing in
        let some = has.1 in
        absurd (cc)
    | inr old ↦ s.found q old
  ];
}))

pub scan-twin : (at : ℕ → Option Entry) (k : ℕ) (names twins more others now added : List (Option Entry)) (e : Entry) (t : Bool) → Scanned at k names twins → at k ≡ Some e → MatchBool t (Adds names more e.name e.inode) (Has names e.name) → t ≡ false
    → Leads names more e.name e.inode → Leads twins others e.name e.inode → now ≡ more → added ≡ others → Scanned at (k + 1) now added
scan-twin at k names twins more others now added e true s there has is leads lead same kept = absurd (true≢false is)
scan-twin at k names twins more others now added e false s there has is leads lead same kept = subst (λ xs. Scanned at (k + 1) xs added) (sym same) (subst (λ ys. Scanned at (k + 1) more ys) (sym kept) (record {
  named = names-now at k names more e s.named there leads;
  all = all-now at k names more e s.all there leads;
  alike = λ once. (let l = one.low in let i = once one.i k one.e e (omega arith) (omega arith) one.there there one.same in absurd (omega arith));
  twice = λ q h. elim (has-after twins others e.name q e.inode lead h) [
    | inl name ↦ record { i = one.i; j = k; e = one.e; f = e; before = one.low; low = omega arith; first = one.there; second = there; name = one.same ∙ name; same = name }
    | inr old ↦ twice-more at k q (s.twice q old)
  ];
  found = λ q h. elim (twice-last at k q h) [
    | inl last ↦ has-new twins others e.name q e.inode lead (last-name at k e q there last.0)
    | inr old ↦ has-old twins others e.name q e.inode lead (s.found q old)
  ];
}))
  where
    one : StandsIn at k e.name
    one = s.named e.name has

-- ---- the least block with one of some names

-- the slot has one of them, and stands in this block
abbrev pub NameAt : Stored → Inode → List (Option Entry) → (k c : ℕ) → Type 0
NameAt s n names k c = (e : Entry) × (entry_of s n k ≡ Some e) × Has names e.name × (c ≡ pointer_to s n (k / 15))

pub name-unused : (s : Stored) (n : Inode) (names : List (Option Entry)) (k : ℕ) (a r : Option ℕ) → IsLeastOf (WrongBelow (NameAt s n names) k) a → entry_of s n k ≡ None → r ≡ a → IsLeastOf (WrongBelow (NameAt s n names) (k + 1)) r
name-unused s n names k a r old none same = subst (λ o. IsLeastOf (WrongBelow (NameAt s n names) (k + 1)) o) (sym same) (below-skip (NameAt s n names) k a old (λ c h. none-entry h.0 (sym none ∙ h.1)))

pub name-other : (s : Stored) (n : Inode) (names : List (Option Entry)) (k : ℕ) (e : Entry) (a r o : Option ℕ) (t : Bool) → IsLeastOf (WrongBelow (NameAt s n names) k) a → entry_of s n k ≡ Some e → o ≡ find e.name names → t ≡ is_some o → t ≡ false → r ≡ a
    → IsLeastOf (WrongBelow (NameAt s n names) (k + 1)) r
name-other s n names k e a r o t old there got is other same = subst (λ o. IsLeastOf (WrongBelow (NameAt s n names) (k + 1)) o) (sym same) (below-skip (NameAt s n names) k a old (λ c h.
    let name : e.name ≡ h.0.name = (let both = sym there ∙ h.1 in let g : e ≡ h.0 = cc in ap (λ (x : Entry). x.name) g) in
    let some : o ≡ Some h.2.0 = got ∙ ap (λ (q : List ℕ). find q names) name ∙ h.2.1 in
    true≢false (sym (is ∙ ap is_some some) ∙ other)))

pub name-more : (s : Stored) (n : Inode) (names : List (Option Entry)) (k b : ℕ) (e : Entry) (a r o : Option ℕ) (t : Bool) → IsLeastOf (WrongBelow (NameAt s n names) k) a → entry_of s n k ≡ Some e → o ≡ find e.name names → t ≡ is_some o → t ≡ true → b ≡ pointer_to s n (k / 15) → r ≡ lesser a (Some b)
    → IsLeastOf (WrongBelow (NameAt s n names) (k + 1)) r
name-more s n names k b e a r None t old there got is found at now = absurd (true≢false (sym found ∙ is))
name-more s n names k b e a r (Some i) t old there got is found at now = below-step (NameAt s n names) k a (Some b) r old (record { wrong = (e, there, (i, sym got), at); least = λ c h. (let same = h.3 in omega arith) }) now

pub name-all : (s : Stored) (n : Inode) (names : List (Option Entry)) (k : ℕ) (r : Option ℕ) → k ≡ 15 * count_of n → IsLeastOf (WrongBelow (NameAt s n names) k) r → IsLeastOf (HasNameOf s n names) r
name-all s n names k r all found = least-same (WrongBelow (NameAt s n names) k) (HasNameOf s n names) r
    (λ c h. record { k = h.j; e = h.wrong.0; inside = (let low = h.low in omega arith); there = h.wrong.1; has = h.wrong.2; is = h.wrong.3 })
    (λ c h. record { j = h.k; low = (let inside = h.inside in omega arith); wrong = (h.e, h.there, h.has, h.is) })
    found

-- ---- what a directory's names say of it

twin-to : (s : Stored) (n : Inode) (k : ℕ) (names twins : List (Option Entry)) (c : ℕ) → n.kind ≡ 2 → k ≡ 15 * count_of n → Scanned (entry_of s n) k names twins → HasNameOf s n twins c → HasTwin s n c
twin-to s n k names twins c two all scan h =
    let t = scan.twice h.e.name h.has in
    let low = t.low in
    let before = t.before in
    elim (cases_eq t.i h.k) [
      | inl same ↦ record { k = h.k; l = t.j; e = h.e; f = t.f; dir = two; inside = h.inside; other = omega arith; first = h.there; second = t.second; same = sym t.same; apart = (λ y. absurd (omega arith)); is = h.is }
      | inr other ↦ record { k = h.k; l = t.i; e = h.e; f = t.e; dir = two; inside = h.inside; other = omega arith; first = h.there; second = t.first; same = sym t.name; apart = (λ y. other (sym y)); is = h.is }
    ]

twin-from : (s : Stored) (n : Inode) (k : ℕ) (names twins : List (Option Entry)) (c : ℕ) → k ≡ 15 * count_of n → Scanned (entry_of s n) k names twins → HasTwin s n c → HasNameOf s n twins c
twin-from s n k names twins c all scan h =
    let inside = h.inside in
    let other = h.other in
    let apart = h.apart in
    record {
      k = h.k;
      e = h.e;
      inside = h.inside;
      there = h.first;
      has = scan.found h.e.name (elim (cases_lt h.k h.l) [
        | inl before ↦ record { i = h.k; j = h.l; e = h.e; f = h.f; before = before; low = omega arith; first = h.first; second = h.second; name = refl; same = sym h.same }
        | inr after ↦ elim (cases_eq h.k h.l) [
          | inl same ↦ absurd (apart same)
          | inr not ↦ record { i = h.l; j = h.k; e = h.f; f = h.e; before = omega arith; low = omega arith; first = h.second; second = h.first; name = sym h.same; same = refl }
        ]
      ]);
      is = h.is;
    }

twin-least : (s : Stored) (n : Inode) (k : ℕ) (names twins : List (Option Entry)) (r : Option ℕ) → n.kind ≡ 2 → k ≡ 15 * count_of n → Scanned (entry_of s n) k names twins → IsLeastOf (HasNameOf s n twins) r → IsLeastOf (HasTwin s n) r
twin-least s n k names twins r two all scan found = least-same (HasNameOf s n twins) (HasTwin s n) r (λ c h. twin-to s n k names twins c two all scan h) (λ c h. twin-from s n k names twins c all scan h) found

pub twin-refused : (s : Stored) (n : Inode) (k : ℕ) (names twins : List (Option Entry)) (o : Option ℕ) (b : ℕ) (r : MountRefusal) → n.kind ≡ 2 → k ≡ 15 * count_of n → Scanned (entry_of s n) k names twins → IsLeastOf (HasNameOf s n twins) o → o ≡ Some b → r ≡ Corrupt Twin b
    → RefusesNames s n r
twin-refused s n k names twins o b r two all scan found some is =
    subst (λ x. RefusesNames s n x) (sym is) (refl, twin-least s n k names twins (Some b) two all scan (subst (λ p. IsLeastOf (HasNameOf s n twins) p) some found))

pub names-once : (s : Stored) (n : Inode) (k : ℕ) (names twins : List (Option Entry)) (o : Option ℕ) → n.kind ≡ 2 → k ≡ 15 * count_of n → Scanned (entry_of s n) k names twins → IsLeastOf (HasNameOf s n twins) o → o ≡ None → IsOnce s n
names-once s n m names twins o two all scan found none dir k l e f inside other first second same = elim (cases_eq k l) [
  | inl is ↦ is
  | inr apart ↦
      let clean : IsLeastOf (HasTwin s n) None = twin-least s n m names twins None two all scan (subst (λ p. IsLeastOf (HasNameOf s n twins) p) none found) in
      absurd (clean _ (record { k = k; l = l; e = e; f = f; dir = two; inside = inside; other = other; first = first; second = second; same = same; apart = apart; is = refl }))
]

pub names-alike : (s : Stored) (n : Inode) (k : ℕ) (names twins : List (Option Entry)) (o : Option ℕ) → n.kind ≡ 2 → k ≡ 15 * count_of n → Scanned (entry_of s n) k names twins → IsLeastOf (HasNameOf s n twins) o → o ≡ None → AreSameNames names (slots_of (body_of s n))
names-alike s n k names twins o two all scan found none =
    let once : OnceBelow (entry_of s n) k = subst (λ m. OnceBelow (entry_of s n) m) (sym all) (names-once s n k names twins o two all scan found none two) in
    alike-all s n k names two all (record { alike = scan.alike once; once = once })
