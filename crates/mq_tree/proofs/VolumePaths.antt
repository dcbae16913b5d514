-- Paths of a volume, by the slots on the way.
use Rattle.std.proofs.Common.{get_or, ◌≡◌, ◌≢◌, ℕ, zero, suc, List, [], ◌∷◌, ◌⊎◌, inl, inr, Bool, true, false, cond, refl, sym, ap, ◌∙◌}
use Rattle.std.specs.Prelude.{Option, Some, None, option_and_then, is_some}
use Rattle.std.specs.Str.{bytes_eq}
use Rattle.std.proofs.lemmas.Bool.{cases_Bool, cases_eq, true≢false}
use Rattle.std.proofs.lemmas.Option.{none-some, same_Some, option_and_then_some}
use Rattle.std.proofs.lemmas.Slice.Eq.{bytes_eq-Decides}
use Rattle.mq_layout.specs.Slots.{Entry}
use Rattle.mq_tree.specs.Volume.{ADir, AFile, Body, Free, File, Dir, Thing, Volume, Way, body, find, inode_at, is_used, slot, slots_of, thing}

-- ---- names in slots

-- a slot with this name, which names this inode
pub record Found (slots : List (Option Entry)) (name : List ℕ) (i : ℕ) : Type 0 where
  pub place : ℕ
  pub entry : Entry
  pub there : get_or slots place None ≡ Some entry
  pub named : entry.name ≡ name
  pub leads : entry.inode ≡ i

pub find-found : (name : List ℕ) (slots : List (Option Entry)) (i : ℕ) → find name slots ≡ Some i → Found slots name i
find-found name [] i e = absurd (none-some i e)
find-found name (None ∷ slots) i e = let f = find-found name slots i e in record { place = suc f.place; entry = f.entry; there = f.there; named = f.named; leads = f.leads }
find-found name (Some s ∷ slots) i e = elim (cases_Bool (bytes_eq s.name name)) [
  | inl y ↦ record { place = zero; entry = s; there = refl; named = (bytes_eq-Decides s.name name).0 y; leads = same_Some s.inode i (ap (λ (b : Bool). cond b (Some s.inode) (find name slots)) (sym y) ∙ e) }
  | inr n ↦
      let f = find-found name slots i (ap (λ (b : Bool). cond b (Some s.inode) (find name slots)) (sym n) ∙ e) in
      record { place = suc f.place; entry = f.entry; there = f.there; named = f.named; leads = f.leads }
]

past-slot : (name : List ℕ) (s : Entry) (slots : List (Option Entry)) (k : ℕ) (e : Entry) → get_or (Some s ∷ slots) k None ≡ Some e → e.name ≡ name → bytes_eq s.name name ≡ false
    → ((l : ℕ) → get_or slots l None ≡ Some e → ⊥) → ⊥
past-slot name s slots zero e t same n rest = let f : s ≡ e = same_Some s e t in true≢false (sym ((bytes_eq-Decides s.name name).1 (ap (λ (x : Entry). x.name) f ∙ same)) ∙ n)
past-slot name s slots (suc k) e t same n rest = rest k t

pub find-missing : (name : List ℕ) (slots : List (Option Entry)) → find name slots ≡ None → (k : ℕ) (e : Entry) → get_or slots k None ≡ Some e → e.name ≢ name
find-missing name [] h k e there same = none-some e there
find-missing name (None ∷ slots) h zero e there same = none-some e there
find-missing name (None ∷ slots) h (suc k) e there same = find-missing name slots h k e there same
find-missing name (Some s ∷ slots) h k e there same = elim (cases_Bool (bytes_eq s.name name)) [
  | inl y ↦ none-some s.inode (sym h ∙ ap (λ (b : Bool). cond b (Some s.inode) (find name slots)) y)
  | inr n ↦ past-slot name s slots k e there same n (λ l t. find-missing name slots (ap (λ (b : Bool). cond b (Some s.inode) (find name slots)) (sym n) ∙ h) l e t same)
]

-- no name stands twice
abbrev pub AreNamesOnce : List (Option Entry) → Type 0
AreNamesOnce slots = (k l : ℕ) (e f : Entry) → get_or slots k None ≡ Some e → get_or slots l None ≡ Some f → e.name ≡ f.name → k ≡ l

same-entry : (slots : List (Option Entry)) (k l : ℕ) (e f : Entry) → get_or slots k None ≡ Some e → get_or slots l None ≡ Some f → k ≡ l → e ≡ f
same-entry slots k l e f h i same = same_Some e f (sym h ∙ ap (λ (n : ℕ). get_or slots n None) same ∙ i)

pub found-find : (slots : List (Option Entry)) (name : List ℕ) (i : ℕ) → AreNamesOnce slots → Found slots name i → find name slots ≡ Some i
found-find slots name i once f = go (find name slots) refl
  where
    go : (o : Option ℕ) → find name slots ≡ o → find name slots ≡ Some i
    go None is = absurd (find-missing name slots is f.place f.entry f.there f.named)
    go (Some j) is =
        let g = find-found name slots j is in
        let same = same-entry slots g.place f.place g.entry f.entry g.there f.there (once g.place f.place g.entry f.entry g.there f.there (g.named ∙ sym f.named)) in
        is ∙ ap (λ (x : ℕ). Some x) (sym g.leads ∙ ap (λ (e : Entry). e.inode) same ∙ f.leads)

-- ---- what holds of the slots of a sound volume

abbrev pub AreNames : Volume → Type 0
AreNames v = (d k l : ℕ) (e f : Entry) → slot v d k ≡ Some e → slot v d l ≡ Some f → e.name ≡ f.name → k ≡ l

abbrev pub AreOnce : Volume → Type 0
AreOnce v = (d k c l : ℕ) (e f : Entry) → slot v d k ≡ Some e → slot v c l ≡ Some f → e.inode ≡ f.inode → thing (body v e.inode) ≡ Some ADir → (d ≡ c) × (k ≡ l)

abbrev pub AreUsed : Volume → Type 0
AreUsed v = (d k : ℕ) (e : Entry) → slot v d k ≡ Some e → (e.inode ≢ 0) × (is_used (body v e.inode) ≡ true)

abbrev pub AreReached : Volume → Type 0
AreReached v = (i : ℕ) → is_used (body v i) ≡ true → (way : Way) × (inode_at v way ≡ Some i)

pub record IsTree (v : Volume) : Type 0 where
  pub root : thing (body v 0) ≡ Some ADir
  pub named : AreUsed v
  pub once : AreOnce v
  pub names : AreNames v
  pub reached : AreReached v

pub used-thing : (b : Body) → is_used b ≡ is_some (thing b)
used-thing Free = refl
used-thing (File bytes) = refl
used-thing (Dir slots) = refl

pub thing-used : (b : Body) (t : Thing) → thing b ≡ Some t → is_used b ≡ true
thing-used b t e = used-thing b ∙ ap (λ (o : Option Thing). is_some o) e

pub used-is : (b : Body) → is_used b ≡ true → (there : Thing) × (thing b ≡ Some there)
used-is Free e = absurd (true≢false (sym e))
used-is (File bytes) e = (AFile bytes, refl)
used-is (Dir slots) e = (ADir, refl)

pub nothing-free : (b : Body) → thing b ≡ None → b ≡ Free
nothing-free Free e = refl
nothing-free (File bytes) e = absurd (none-some _ (sym e))
nothing-free (Dir slots) e = absurd (none-some _ (sym e))

pub same-used : (b c : Body) → thing b ≡ thing c → is_used b ≡ is_used c
same-used b c e = used-thing b ∙ ap (λ (o : Option Thing). is_some o) e ∙ sym (used-thing c)

-- a slot that is used is one of a directory
pub slot-dir : (v : Volume) (d k : ℕ) (e : Entry) → slot v d k ≡ Some e → thing (body v d) ≡ Some ADir
slot-dir v d k e there = go (body v d) there
  where
    go : (b : Body) → get_or (slots_of b) k None ≡ Some e → thing b ≡ Some ADir
    go Free h = absurd (none-some e h)
    go (File bytes) h = absurd (none-some e h)
    go (Dir slots) h = refl

-- what is no directory has no used slot
pub no-slot : (b : Body) (l : ℕ) → (thing b ≢ Some ADir) → get_or (slots_of b) l None ≡ None
no-slot Free l other = refl
no-slot (File bytes) l other = refl
no-slot (Dir slots) l other = absurd (other refl)

pub file-dir : (bytes : List ℕ) → Some (AFile bytes) ≢ Some ADir
file-dir bytes e = cc

-- ---- steps of a path

abbrev pub Edge : Volume → ℕ → List ℕ → ℕ → Type 0
Edge v d name i = Found (slots_of (body v d)) name i

pub record Step (v : Volume) (name : List ℕ) (q : Way) (i : ℕ) : Type 0 where
  pub directory : ℕ
  pub before : inode_at v q ≡ Some directory
  pub edge : Edge v directory name i

pub last-step : (v : Volume) (name : List ℕ) (q : Way) (i : ℕ) → inode_at v (name ∷ q) ≡ Some i → Step v name q i
last-step v name q i e = option_and_then_some (λ d. find name (slots_of (body v d))) (inode_at v q) i e (λ d before f. record { directory = d; before = before; edge = find-found name (slots_of (body v d)) i f })

pub next-step : (v : Volume) (name : List ℕ) (q : Way) (d i : ℕ) → AreNames v → inode_at v q ≡ Some d → Edge v d name i → inode_at v (name ∷ q) ≡ Some i
next-step v name q d i names e edge = ap (λ (o : Option ℕ). option_and_then (λ x. find name (slots_of (body v x))) o) e ∙ found-find (slots_of (body v d)) name i (names d) edge

-- an edge, with the directory and the inode by other names
pub edge-not_root : (v : Volume) (d : ℕ) (name : List ℕ) (i : ℕ) → AreUsed v → Edge v d name i → i ≢ 0
edge-not_root v d name i named edge e = (named d edge.place edge.entry edge.there).0 (edge.leads ∙ e)

-- no directory has two paths
pub one-way : (v : Volume) → AreUsed v → AreOnce v → (p q : Way) (i : ℕ) → thing (body v i) ≡ Some ADir → inode_at v p ≡ Some i → inode_at v q ≡ Some i → p ≡ q
one-way v named once [] [] i dir e f = refl
one-way v named once [] (n ∷ q) i dir e f = let s = last-step v n q i f in absurd (edge-not_root v s.directory n i named s.edge (sym (same_Some 0 i e)))
one-way v named once (n ∷ p) [] i dir e f = let s = last-step v n p i e in absurd (edge-not_root v s.directory n i named s.edge (sym (same_Some 0 i f)))
one-way v named once (n ∷ p) (m ∷ q) i dir e f =
    let s = last-step v n p i e in
    let u = last-step v m q i f in
    let a = s.edge in
    let b = u.edge in
    let same = once s.directory a.place u.directory b.place a.entry b.entry a.there b.there (a.leads ∙ sym b.leads) (ap (λ (x : ℕ). thing (body v x)) a.leads ∙ dir) in
    let slots : get_or (slots_of (body v u.directory)) a.place None ≡ Some a.entry = ap (λ (d : ℕ). slot v d a.place) (sym same.0) ∙ a.there in
    let entries = same-entry (slots_of (body v u.directory)) a.place b.place a.entry b.entry slots b.there same.1 in
    let names : n ≡ m = sym a.named ∙ ap (λ (x : Entry). x.name) entries ∙ b.named in
    let rest = one-way v named once p q s.directory (slot-dir v s.directory a.place a.entry a.there) s.before (u.before ∙ ap (λ (d : ℕ). Some d) (sym same.0)) in
    ap (λ (x : List ℕ). x ∷ p) names ∙ ap (λ (r : Way). m ∷ r) rest

-- what a path leads to is used
pub leads-used : (v : Volume) → IsTree v → (q : Way) (i : ℕ) → inode_at v q ≡ Some i → is_used (body v i) ≡ true
leads-used v t [] i e = ap (λ (x : ℕ). is_used (body v x)) (sym (same_Some 0 i e)) ∙ thing-used (body v 0) ADir t.root
leads-used v t (n ∷ q) i e =
    let s = last-step v n q i e in
    ap (λ (x : ℕ). is_used (body v x)) (sym s.edge.leads) ∙ (t.named s.directory s.edge.place s.edge.entry s.edge.there).1

-- ---- two volumes

-- what stands at a way
abbrev pub thing_at : Volume → Way → Option Thing
thing_at v q = option_and_then (λ i. thing (body v i)) (inode_at v q)

pub nothing-at : (v : Volume) (q : Way) → ((x : ℕ) → inode_at v q ≡ Some x → ⊥) → thing_at v q ≡ None
nothing-at v q n = go (inode_at v q) refl
  where
    go : (o : Option ℕ) → inode_at v q ≡ o → thing_at v q ≡ None
    go None is = ap (λ (o : Option ℕ). option_and_then (λ i. thing (body v i)) o) is
    go (Some x) is = absurd (n x is)

pub thing-here : (v : Volume) (q : Way) (i : ℕ) → inode_at v q ≡ Some i → thing_at v q ≡ thing (body v i)
thing-here v q i is = ap (λ (o : Option ℕ). option_and_then (λ i. thing (body v i)) o) is

-- what stands at one way of a volume stands at a way of another
pub same-things : (v w : Volume) (q r : Way) → ((x : ℕ) → inode_at v q ≡ Some x → (inode_at w r ≡ Some x) × (thing (body w x) ≡ thing (body v x))) → ((x : ℕ) → inode_at w r ≡ Some x → inode_at v q ≡ Some x) → thing_at w r ≡ thing_at v q
same-things v w q r f h = go (inode_at v q) refl
  where
    go : (o : Option ℕ) → inode_at v q ≡ o → thing_at w r ≡ thing_at v q
    go None is =
        nothing-at w r (λ x e. none-some x (sym is ∙ h x e)) ∙ sym (nothing-at v q (λ x e. none-some x (sym is ∙ e)))
    go (Some x) is = thing-here w r x (f x is).0 ∙ (f x is).1 ∙ sym (thing-here v q x is)

-- whether a slot is this one
pub cases-slot : (x d l k : ℕ) → ((x ≡ d) × (l ≡ k)) ⊎ (x ≡ d → l ≡ k → ⊥)
cases-slot x d l k = elim (cases_eq x d) [
  | inl e ↦ elim (cases_eq l k) [ inl f ↦ inl (e, f) | inr n ↦ inr (λ a b. n b) ]
  | inr n ↦ inr (λ a b. n a)
]

-- ---- changes of slots

-- The slots of `w` are new ones, and those of `v` except for those that are gone.
pub record Slots (v w : Volume) (New : ℕ → ℕ → Entry → Type 0) (Gone : ℕ → ℕ → Type 0) : Type 0 where
  pub from : (x l : ℕ) (f : Entry) → slot w x l ≡ Some f → New x l f ⊎ ((slot v x l ≡ Some f) × (Gone x l → ⊥))
  pub new_once : (x l y m : ℕ) (e f : Entry) → New x l e → New y m f → (x ≡ y) × (l ≡ m)
  pub new_name : (x l m : ℕ) (e f : Entry) → New x l e → slot v x m ≡ Some f → (Gone x m → ⊥) → e.name ≢ f.name
  pub new_inode : (x l y m : ℕ) (e f : Entry) → New x l e → slot v y m ≡ Some f → (Gone y m → ⊥) → e.inode ≡ f.inode → thing (body w e.inode) ≢ Some ADir
  pub new_used : (x l : ℕ) (e : Entry) → New x l e → (e.inode ≢ 0) × (is_used (body w e.inode) ≡ true)
  pub old_used : (x l : ℕ) (e : Entry) → slot v x l ≡ Some e → (Gone x l → ⊥) → is_used (body w e.inode) ≡ true
  pub old_dir : (x l : ℕ) (e : Entry) → slot v x l ≡ Some e → (Gone x l → ⊥) → thing (body w e.inode) ≡ Some ADir → thing (body v e.inode) ≡ Some ADir

pub slots-names : (v w : Volume) (New : ℕ → ℕ → Entry → Type 0) (Gone : ℕ → ℕ → Type 0) → IsTree v → Slots v w New Gone → AreNames w
slots-names v w New Gone t s d k l e f h i same = elim (s.from d k e h) [
  | inl new ↦ elim (s.from d l f i) [
    | inl other ↦ (s.new_once d k d l e f new other).1
    | inr old ↦ absurd (s.new_name d k l e f new old.0 old.1 same)
  ]
  | inr old ↦ elim (s.from d l f i) [
    | inl new ↦ absurd (s.new_name d l k f e new old.0 old.1 (sym same))
    | inr other ↦ t.names d k l e f old.0 other.0 same
  ]
]

pub slots-once : (v w : Volume) (New : ℕ → ℕ → Entry → Type 0) (Gone : ℕ → ℕ → Type 0) → IsTree v → Slots v w New Gone → AreOnce w
slots-once v w New Gone t s d k c l e f h i same dir = elim (s.from d k e h) [
  | inl new ↦ elim (s.from c l f i) [
    | inl other ↦ s.new_once d k c l e f new other
    | inr old ↦ absurd (s.new_inode d k c l e f new old.0 old.1 same dir)
  ]
  | inr old ↦ elim (s.from c l f i) [
    | inl new ↦ absurd (s.new_inode c l d k f e new old.0 old.1 (sym same) (ap (λ (x : ℕ). thing (body w x)) (sym same) ∙ dir))
    | inr other ↦ t.once d k c l e f old.0 other.0 same (s.old_dir d k e old.0 old.1 dir)
  ]
]

pub slots-used : (v w : Volume) (New : ℕ → ℕ → Entry → Type 0) (Gone : ℕ → ℕ → Type 0) → IsTree v → Slots v w New Gone → AreUsed w
slots-used v w New Gone t s d k e h = elim (s.from d k e h) [
  | inl new ↦ s.new_used d k e new
  | inr old ↦ ((t.named d k e old.0).0, s.old_used d k e old.0 old.1)
]
