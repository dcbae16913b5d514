-- A slot more, which names an inode that was free, or a file.
use Rattle.std.proofs.Common.{◌≡◌, ◌≢◌, ℕ, List, [], ◌∷◌, get_or, ◌⊎◌, inl, inr, true, refl, sym, ap, ◌∙◌}
use Rattle.std.specs.Prelude.{Option, Some, None}
use Rattle.std.proofs.lemmas.Bool.{cases_eq, true≢false}
use Rattle.std.proofs.lemmas.Option.{none-some, same_Some}
use Rattle.mq_layout.specs.Slots.{Entry}
use Rattle.mq_tree.specs.Volume.{ADir, AFile, Body, Free, Thing, Volume, Way, body, find, inode_at, is_used, slot, slots_of, thing}
use Rattle.mq_tree.proofs.VolumePaths.{AreNames, IsTree, Slots, cases-slot, file-dir, find-missing, last-step, no-slot, leads-used, next-step, nothing-free, one-way, same-things, same-used, slots-names, slots-once, slots-used, thing-here, thing-used, thing_at}

-- `w` has `o` in a slot, and `t` at an inode. Else it has what `v` has.
pub record Edit (v w : Volume) (d k : ℕ) (o : Option Entry) (i : ℕ) (t : Option Thing) : Type 0 where
  pub here : slot w d k ≡ o
  pub rest : (x l : ℕ) → (x ≡ d → l ≡ k → ⊥) → slot w x l ≡ slot v x l
  pub thing_here : thing (body w i) ≡ t
  pub things : (x : ℕ) → x ≢ i → thing (body w x) ≡ thing (body v x)

-- it was free, or was this file
pub data WasThere (v : Volume) (i : ℕ) (t : Thing) : Type 0 where
  nothing : thing (body v i) ≡ None → WasThere v i t
  file : (bytes : List ℕ) → thing (body v i) ≡ Some (AFile bytes) → t ≡ AFile bytes → WasThere v i t

pub record IsMade (v w : Volume) (d k : ℕ) (e : Entry) (t : Thing) : Type 0 where
  pub edit : Edit v w d k (Some e) e.inode (Some t)
  pub unused : slot v d k ≡ None
  pub was : WasThere v e.inode t
  pub directory : thing (body v d) ≡ Some ADir
  pub missing : find e.name (slots_of (body v d)) ≡ None

-- no slot of a free inode is used
pub free-slot : (v : Volume) (i l : ℕ) → thing (body v i) ≡ None → slot v i l ≡ None
free-slot v i l e = ap (λ (b : Body). get_or (slots_of b) l None) (nothing-free (body v i) e)

pub none-used : (v : Volume) (i : ℕ) → thing (body v i) ≡ None → is_used (body v i) ≡ true → ⊥
none-used v i e u = free-used (body v i) (nothing-free (body v i) e) u
  where
    free-used : (b : Body) → b ≡ Free → is_used b ≡ true → ⊥
    free-used b f u = true≢false (sym u ∙ ap (λ (c : Body). is_used c) f)

abbrev pub New : ℕ → ℕ → Entry → ℕ → ℕ → Entry → Type 0
New d k e x l f = (x ≡ d) × (l ≡ k) × (f ≡ e)

abbrev Kept : ℕ → ℕ → Type 0
Kept x l = ⊥

-- what the slot names was no directory
was-other : (v : Volume) (i : ℕ) (t : Thing) → WasThere v i t → thing (body v i) ≢ Some ADir
was-other v i t (nothing e) dir = none-some ADir (sym e ∙ dir)
was-other v i t (file bytes e is) dir = file-dir bytes (sym e ∙ dir)

made-apart : (v w : Volume) (d k : ℕ) (e : Entry) (t : Thing) → IsMade v w d k e t → d ≢ e.inode
made-apart v w d k e t m same = was-other v e.inode t m.was (ap (λ (x : ℕ). thing (body v x)) (sym same) ∙ m.directory)

-- what was used there stays
was-same : (v w : Volume) (i : ℕ) (t : Thing) → WasThere v i t → thing (body w i) ≡ Some t → is_used (body v i) ≡ true → thing (body w i) ≡ thing (body v i)
was-same v w i t (nothing e) here used = absurd (none-used v i e used)
was-same v w i t (file bytes e is) here used = here ∙ ap (λ (x : Thing). Some x) is ∙ sym e

-- what was used stays
made-same : (v w : Volume) (d k : ℕ) (e : Entry) (t : Thing) → IsMade v w d k e t → (x : ℕ) → is_used (body v x) ≡ true → thing (body w x) ≡ thing (body v x)
made-same v w d k e t m x u = elim (cases_eq x e.inode) [
  | inl same ↦
      ap (λ (j : ℕ). thing (body w j)) same ∙ was-same v w e.inode t m.was m.edit.thing_here (ap (λ (j : ℕ). is_used (body v j)) (sym same) ∙ u)
      ∙ ap (λ (j : ℕ). thing (body v j)) (sym same)
  | inr other ↦ m.edit.things x other
]

-- no slot of the new inode is used
made-empty : (v w : Volume) (d k l : ℕ) (e : Entry) (t : Thing) → IsMade v w d k e t → slot w e.inode l ≡ None
made-empty v w d k l e t m = m.edit.rest e.inode l (λ a b. made-apart v w d k e t m (sym a)) ∙ no-slot (body v e.inode) l (was-other v e.inode t m.was)

pub made-used : (v w : Volume) (d k : ℕ) (e : Entry) (t : Thing) → IsMade v w d k e t → (x : ℕ) → is_used (body v x) ≡ true → is_used (body w x) ≡ true
made-used v w d k e t m x u = same-used (body w x) (body v x) (made-same v w d k e t m x u) ∙ u

made-slots : (v w : Volume) (d k : ℕ) (e : Entry) (t : Thing) → IsTree v → IsMade v w d k e t → Slots v w (New d k e) Kept
made-slots v w d k e t g m = record {
  from = λ x l f h. elim (cases-slot x d l k) [
    | inl here ↦
        let same : Some f ≡ Some e = sym h ∙ ap (λ (y : ℕ). slot w y l) here.0 ∙ ap (λ (n : ℕ). slot w d n) here.1 ∙ m.edit.here in
        inl (here.0, here.1, same_Some f e same)
    | inr other ↦ inr (sym (m.edit.rest x l other) ∙ h, λ gone. gone)
  ];
  new_once = λ x l y n a b p q. (p.0 ∙ sym q.0, p.1 ∙ sym q.1);
  new_name = λ x l n a f p old kept same.
      find-missing e.name (slots_of (body v d)) m.missing n f (ap (λ (y : ℕ). slot v y n) (sym p.0) ∙ old) (sym same ∙ ap (λ (z : Entry). z.name) p.2);
  new_inode = λ x l y n a f p old kept same dir.
      let i : a.inode ≡ e.inode = ap (λ (z : Entry). z.inode) p.2 in
      let used : is_used (body v e.inode) ≡ true = ap (λ (j : ℕ). is_used (body v j)) (sym i ∙ same) ∙ (g.named y n f old).1 in
      was-other v e.inode t m.was (sym (made-same v w d k e t m e.inode used) ∙ ap (λ (j : ℕ). thing (body w j)) (sym i) ∙ dir);
  new_used = λ x l a p. (
    λ zero. was-other v e.inode t m.was (ap (λ (j : ℕ). thing (body v j)) (ap (λ (z : Entry). z.inode) (sym p.2) ∙ zero) ∙ g.root),
    ap (λ (z : Entry). is_used (body w z.inode)) p.2 ∙ thing-used (body w e.inode) t m.edit.thing_here,
  );
  old_used = λ x l f old kept. made-used v w d k e t m f.inode (g.named x l f old).1;
  old_dir = λ x l f old kept dir. sym (made-same v w d k e t m f.inode (g.named x l f old).1) ∙ dir;
}

-- ---- paths

made-names : (v w : Volume) (d k : ℕ) (e : Entry) (t : Thing) → IsTree v → IsMade v w d k e t → AreNames w
made-names v w d k e t g m = slots-names v w (New d k e) Kept g (made-slots v w d k e t g m)

-- paths lead where they led
pub made-old : (v w : Volume) (d k : ℕ) (e : Entry) (t : Thing) → IsTree v → IsMade v w d k e t → (q : Way) (x : ℕ) → inode_at v q ≡ Some x → inode_at w q ≡ Some x
made-old v w d k e t g m [] x is = is
made-old v w d k e t g m (n ∷ q) x is =
    let s = last-step v n q x is in
    let f = s.edge in
    let there : slot w s.directory f.place ≡ Some f.entry = m.edit.rest s.directory f.place (λ a b.
    none-some f.entry (sym m.unused ∙ ap (λ (y : ℕ). slot v y k) (sym a) ∙ ap (λ (l : ℕ). slot v s.directory l) (sym b) ∙ f.there)) ∙ f.there in
    next-step w n q s.directory x (made-names v w d k e t g m) (made-old v w d k e t g m q s.directory s.before) (record { place = f.place; entry = f.entry; there = there; named = f.named; leads = f.leads })

pub made-new : (v w : Volume) (d k : ℕ) (e : Entry) (t : Thing) → IsTree v → IsMade v w d k e t → (q : Way) → inode_at v q ≡ Some d → inode_at w (e.name ∷ q) ≡ Some e.inode
made-new v w d k e t g m q is =
    next-step w e.name q d e.inode (made-names v w d k e t g m) (made-old v w d k e t g m q d is) (record { place = k; entry = e; there = m.edit.here; named = refl; leads = refl })

-- no other path leads anywhere new
pub made-only : (v w : Volume) (d k : ℕ) (e : Entry) (t : Thing) → IsTree v → IsMade v w d k e t → (p : Way) → inode_at v p ≡ Some d
    → (q : Way) (x : ℕ) → inode_at w q ≡ Some x → ((q ≡ e.name ∷ p) × (x ≡ e.inode)) ⊎ (inode_at v q ≡ Some x)
made-only v w d k e t g m p at [] x is = inr is
made-only v w d k e t g m p at (n ∷ q) x is =
    let s = last-step w n q x is in
    let f = s.edge in
    elim (made-only v w d k e t g m p at q s.directory s.before) [
      | inl new ↦ absurd (none-some f.entry (sym (made-empty v w d k f.place e t m) ∙ ap (λ (y : ℕ). slot w y f.place) (sym new.1) ∙ f.there))
      | inr old ↦ elim (cases-slot s.directory d f.place k) [
        | inl here ↦
            let same : f.entry ≡ e = same_Some f.entry e (sym f.there ∙ ap (λ (y : ℕ). slot w y f.place) here.0 ∙ ap (λ (l : ℕ). slot w d l) here.1 ∙ m.edit.here) in
            let ways = one-way v g.named g.once q p d m.directory (old ∙ ap (λ (y : ℕ). Some y) here.0) at in
            let names : n ≡ e.name = sym f.named ∙ ap (λ (z : Entry). z.name) same in
            inl (ap (λ (z : List ℕ). z ∷ q) names ∙ ap (λ (r : Way). e.name ∷ r) ways, sym f.leads ∙ ap (λ (z : Entry). z.inode) same)
        | inr other ↦ inr (next-step v n q s.directory x g.names old (record { place = f.place; entry = f.entry; there = sym (m.edit.rest s.directory f.place other) ∙ f.there; named = f.named; leads = f.leads }))
      ]
    ]

pub made-tree : (v w : Volume) (d k : ℕ) (e : Entry) (t : Thing) → IsTree v → IsMade v w d k e t → IsTree w
made-tree v w d k e t g m =
    let s = made-slots v w d k e t g m in
    let zero : 0 ≢ e.inode = λ same. was-other v e.inode t m.was (ap (λ (j : ℕ). thing (body v j)) (sym same) ∙ g.root) in
    record {
      root = m.edit.things 0 zero ∙ g.root;
      named = slots-used v w (New d k e) Kept g s;
      once = slots-once v w (New d k e) Kept g s;
      names = slots-names v w (New d k e) Kept g s;
      reached = λ i u. elim (cases_eq i e.inode) [
        | inl same ↦
            let p = g.reached d (thing-used (body v d) ADir m.directory) in
            (e.name ∷ p.0, made-new v w d k e t g m p.0 p.1 ∙ ap (λ (j : ℕ). Some j) (sym same))
        | inr other ↦
            let p = g.reached i (sym (same-used (body w i) (body v i) (m.edit.things i other)) ∙ u) in
            (p.0, made-old v w d k e t g m p.0 i p.1)
      ];
    }

-- ---- what stands where

pub made-here : (v w : Volume) (d k : ℕ) (e : Entry) (t : Thing) → IsTree v → IsMade v w d k e t → (p : Way) → inode_at v p ≡ Some d → thing_at w (e.name ∷ p) ≡ Some t
made-here v w d k e t g m p at = thing-here w (e.name ∷ p) e.inode (made-new v w d k e t g m p at) ∙ m.edit.thing_here

pub made-others : (v w : Volume) (d k : ℕ) (e : Entry) (t : Thing) → IsTree v → IsMade v w d k e t → (p : Way) → inode_at v p ≡ Some d → (q : Way) → q ≢ e.name ∷ p → thing_at w q ≡ thing_at v q
made-others v w d k e t g m p at q other = same-things v w q q
    (λ x is. (made-old v w d k e t g m q x is, made-same v w d k e t m x (leads-used v g q x is)))
    (λ x is. elim (made-only v w d k e t g m p at q x is) [ inl new ↦ absurd (other new.0) | inr old ↦ old ])
