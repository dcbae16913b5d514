-- A slot less, and with it the inode that it names. A file with other bytes.
use Rattle.std.proofs.Common.{◌≡◌, ◌≢◌, ℕ, List, [], ◌∷◌, inl, inr, refl, sym, ap, ◌∙◌}
use Rattle.std.specs.Prelude.{Option, Some, None}
use Rattle.std.proofs.lemmas.Bool.{cases_eq}
use Rattle.std.proofs.lemmas.Option.{none-some, same_Some}
use Rattle.mq_layout.specs.Slots.{Entry}
use Rattle.mq_tree.specs.Volume.{ADir, AFile, Volume, Way, body, inode_at, is_used, slot, thing}
use Rattle.mq_tree.proofs.VolumeMake.{Edit, none-used}
use Rattle.mq_tree.proofs.VolumePaths.{AreNames, IsTree, Slots, file-dir, last-step, next-step, nothing-at, one-way, same-things, same-used, slot-dir, slots-names, slots-once, slots-used, thing-here, thing-used, thing_at}

pub record IsCut (v w : Volume) (d k : ℕ) (e : Entry) : Type 0 where
  pub edit : Edit v w d k None e.inode None
  pub there : slot v d k ≡ Some e
  -- what is gone has no names
  pub empty : (l : ℕ) → slot v e.inode l ≡ None
  -- and no other slot names it
  pub alone : (x l : ℕ) (f : Entry) → slot v x l ≡ Some f → f.inode ≡ e.inode → (x ≡ d) × (l ≡ k)

abbrev New : ℕ → ℕ → Entry → Type 0
New x l f = ⊥

abbrev Gone : ℕ → ℕ → ℕ → ℕ → Type 0
Gone d k x l = (x ≡ d) × (l ≡ k)

-- a slot that is used is not the one that is gone
cut-apart : (v w : Volume) (d k : ℕ) (e : Entry) → IsCut v w d k e → (x l : ℕ) (f : Entry) → slot w x l ≡ Some f → x ≡ d → l ≡ k → ⊥
cut-apart v w d k e c x l f h a b = none-some f (sym c.edit.here ∙ ap (λ (y : ℕ). slot w y k) (sym a) ∙ ap (λ (n : ℕ). slot w x n) (sym b) ∙ h)

cut-from : (v w : Volume) (d k : ℕ) (e : Entry) → IsCut v w d k e → (x l : ℕ) (f : Entry) → slot w x l ≡ Some f → slot v x l ≡ Some f
cut-from v w d k e c x l f h = sym (c.edit.rest x l (cut-apart v w d k e c x l f h)) ∙ h

-- and names another inode
cut-other : (v w : Volume) (d k : ℕ) (e : Entry) → IsTree v → IsCut v w d k e → (x l : ℕ) (f : Entry) → slot v x l ≡ Some f → (x ≡ d → l ≡ k → ⊥) → f.inode ≢ e.inode
cut-other v w d k e g c x l f h other same = let r = c.alone x l f h same in other r.0 r.1

cut-slots : (v w : Volume) (d k : ℕ) (e : Entry) → IsTree v → IsCut v w d k e → Slots v w New (Gone d k)
cut-slots v w d k e g c = record {
  from = λ x l f h. inr (cut-from v w d k e c x l f h, λ gone. cut-apart v w d k e c x l f h gone.0 gone.1);
  new_once = λ x l y n a b p q. absurd p;
  new_name = λ x l n a f p old kept same. p;
  new_inode = λ x l y n a f p old kept same dir. p;
  new_used = λ x l a p. absurd p;
  old_used = λ x l f old kept.
      let n = cut-other v w d k e g c x l f old (λ a b. kept (a, b)) in
      same-used (body w f.inode) (body v f.inode) (c.edit.things f.inode n) ∙ (g.named x l f old).1;
  old_dir = λ x l f old kept dir. sym (c.edit.things f.inode (cut-other v w d k e g c x l f old (λ a b. kept (a, b)))) ∙ dir;
}

cut-names : (v w : Volume) (d k : ℕ) (e : Entry) → IsTree v → IsCut v w d k e → AreNames w
cut-names v w d k e g c = slots-names v w New (Gone d k) g (cut-slots v w d k e g c)

-- ---- paths

-- no path goes on from what is gone
pub cut-old : (v w : Volume) (d k : ℕ) (e : Entry) → IsTree v → IsCut v w d k e → (q : Way) (x : ℕ) → inode_at v q ≡ Some x → x ≢ e.inode → inode_at w q ≡ Some x
cut-old v w d k e g c [] x is other = is
cut-old v w d k e g c (n ∷ q) x is other =
    let s = last-step v n q x is in
    let f = s.edge in
    let on : s.directory ≢ e.inode = λ same. none-some f.entry (sym (c.empty f.place) ∙ ap (λ (y : ℕ). slot v y f.place) (sym same) ∙ f.there) in
    let there : slot w s.directory f.place ≡ Some f.entry = c.edit.rest s.directory f.place (λ a b.
    let same : Some f.entry ≡ Some e = sym f.there ∙ ap (λ (y : ℕ). slot v y f.place) a ∙ ap (λ (l : ℕ). slot v d l) b ∙ c.there in
    other (sym f.leads ∙ ap (λ (z : Entry). z.inode) (same_Some f.entry e same))) ∙ f.there in
    next-step w n q s.directory x (cut-names v w d k e g c) (cut-old v w d k e g c q s.directory s.before on) (record { place = f.place; entry = f.entry; there = there; named = f.named; leads = f.leads })

pub cut-only : (v w : Volume) (d k : ℕ) (e : Entry) → IsTree v → IsCut v w d k e → (q : Way) (x : ℕ) → inode_at w q ≡ Some x → (inode_at v q ≡ Some x) × (x ≢ e.inode)
cut-only v w d k e g c [] x is = (is, λ same. (g.named d k e c.there).0 (sym same ∙ sym (same_Some 0 x is)))
cut-only v w d k e g c (n ∷ q) x is =
    let s = last-step w n q x is in
    let f = s.edge in
    let before = cut-only v w d k e g c q s.directory s.before in
    let old = cut-from v w d k e c s.directory f.place f.entry f.there in
    let apart = cut-other v w d k e g c s.directory f.place f.entry old (cut-apart v w d k e c s.directory f.place f.entry f.there) in
    (next-step v n q s.directory x g.names before.0 (record { place = f.place; entry = f.entry; there = old; named = f.named; leads = f.leads }), λ same. apart (f.leads ∙ same))

pub cut-tree : (v w : Volume) (d k : ℕ) (e : Entry) → IsTree v → IsCut v w d k e → IsTree w
cut-tree v w d k e g c =
    let s = cut-slots v w d k e g c in
    let zero : 0 ≢ e.inode = λ same. (g.named d k e c.there).0 (sym same) in
    record {
      root = c.edit.things 0 zero ∙ g.root;
      named = slots-used v w New (Gone d k) g s;
      once = slots-once v w New (Gone d k) g s;
      names = slots-names v w New (Gone d k) g s;
      reached = λ i u. elim (cases_eq i e.inode) [
        | inl same ↦ absurd (none-used w e.inode c.edit.thing_here (ap (λ (j : ℕ). is_used (body w j)) (sym same) ∙ u))
        | inr other ↦
            let p = g.reached i (sym (same-used (body w i) (body v i) (c.edit.things i other)) ∙ u) in
            (p.0, cut-old v w d k e g c p.0 i p.1 other)
      ];
    }

-- ---- what stands where

-- the way to what is gone
cut-way : (v w : Volume) (d k : ℕ) (e : Entry) → IsTree v → IsCut v w d k e → (p : Way) → inode_at v p ≡ Some d → inode_at v (e.name ∷ p) ≡ Some e.inode
cut-way v w d k e g c p at = next-step v e.name p d e.inode g.names at (record { place = k; entry = e; there = c.there; named = refl; leads = refl })

pub cut-here : (v w : Volume) (d k : ℕ) (e : Entry) → IsTree v → IsCut v w d k e → (p : Way) → inode_at v p ≡ Some d → thing_at w (e.name ∷ p) ≡ None
cut-here v w d k e g c p at = nothing-at w (e.name ∷ p) (λ x is.
    let old = cut-only v w d k e g c (e.name ∷ p) x is in
    old.1 (same_Some x e.inode (sym old.0 ∙ cut-way v w d k e g c p at)))

-- no other way leads to it
cut-ways : (v w : Volume) (d k : ℕ) (e : Entry) → IsTree v → IsCut v w d k e → (p : Way) → inode_at v p ≡ Some d → (q : Way) → inode_at v q ≡ Some e.inode → q ≡ e.name ∷ p
cut-ways v w d k e g c p at [] is = absurd ((g.named d k e c.there).0 (sym (same_Some 0 e.inode is)))
cut-ways v w d k e g c p at (n ∷ q) is =
    let s = last-step v n q e.inode is in
    let f = s.edge in
    let r = c.alone s.directory f.place f.entry f.there f.leads in
    let same : f.entry ≡ e = same_Some f.entry e (sym f.there ∙ ap (λ (y : ℕ). slot v y f.place) r.0 ∙ ap (λ (l : ℕ). slot v d l) r.1 ∙ c.there) in
    let names : n ≡ e.name = sym f.named ∙ ap (λ (z : Entry). z.name) same in
    let ways : q ≡ p = one-way v g.named g.once q p d (slot-dir v d k e c.there) (s.before ∙ ap (λ (y : ℕ). Some y) r.0) at in
    ap (λ (z : List ℕ). z ∷ q) names ∙ ap (λ (r : Way). e.name ∷ r) ways

pub cut-others : (v w : Volume) (d k : ℕ) (e : Entry) → IsTree v → IsCut v w d k e → (p : Way) → inode_at v p ≡ Some d → (q : Way) → q ≢ e.name ∷ p → thing_at w q ≡ thing_at v q
cut-others v w d k e g c p at q other = same-things v w q q
    (λ x is.
    let n : x ≢ e.inode = λ same. other (cut-ways v w d k e g c p at q (is ∙ ap (λ (j : ℕ). Some j) same)) in
    (cut-old v w d k e g c q x is n, c.edit.things x n))
    (λ x is. (cut-only v w d k e g c q x is).0)

-- ---- other bytes

pub record IsFilled (v w : Volume) (i : ℕ) (bytes : List ℕ) : Type 0 where
  pub slots : (x l : ℕ) → slot w x l ≡ slot v x l
  pub thing_here : thing (body w i) ≡ Some (AFile bytes)
  pub things : (x : ℕ) → x ≢ i → thing (body w x) ≡ thing (body v x)
  pub was : (old : List ℕ) × (thing (body v i) ≡ Some (AFile old))

filled-used : (v w : Volume) (i : ℕ) (bytes : List ℕ) → IsFilled v w i bytes → (x : ℕ) → is_used (body w x) ≡ is_used (body v x)
filled-used v w i bytes f x = elim (cases_eq x i) [
  | inl same ↦
      let y = thing-used (body w i) (AFile bytes) f.thing_here ∙ sym (thing-used (body v i) (AFile f.was.0) f.was.1) in
      ap (λ (j : ℕ). is_used (body w j)) same ∙ y ∙ ap (λ (j : ℕ). is_used (body v j)) (sym same)
  | inr other ↦ same-used (body w x) (body v x) (f.things x other)
]

filled-dir : (v w : Volume) (i : ℕ) (bytes : List ℕ) → IsFilled v w i bytes → (x : ℕ) → thing (body w x) ≡ Some ADir → thing (body v x) ≡ Some ADir
filled-dir v w i bytes f x dir = elim (cases_eq x i) [
  | inl same ↦ absurd (file-dir bytes (sym f.thing_here ∙ ap (λ (j : ℕ). thing (body w j)) (sym same) ∙ dir))
  | inr other ↦ sym (f.things x other) ∙ dir
]

filled-names : (v w : Volume) (i : ℕ) (bytes : List ℕ) → IsTree v → IsFilled v w i bytes → AreNames w
filled-names v w i bytes g f d k l a b h j same = g.names d k l a b (sym (f.slots d k) ∙ h) (sym (f.slots d l) ∙ j) same

pub filled-old : (v w : Volume) (i : ℕ) (bytes : List ℕ) → IsTree v → IsFilled v w i bytes → (q : Way) (x : ℕ) → inode_at v q ≡ Some x → inode_at w q ≡ Some x
filled-old v w i bytes g f [] x is = is
filled-old v w i bytes g f (n ∷ q) x is =
    let s = last-step v n q x is in
    let e = s.edge in
    next-step w n q s.directory x (filled-names v w i bytes g f) (filled-old v w i bytes g f q s.directory s.before) (record { place = e.place; entry = e.entry; there = f.slots s.directory e.place ∙ e.there; named = e.named; leads = e.leads })

pub filled-only : (v w : Volume) (i : ℕ) (bytes : List ℕ) → IsTree v → IsFilled v w i bytes → (q : Way) (x : ℕ) → inode_at w q ≡ Some x → inode_at v q ≡ Some x
filled-only v w i bytes g f [] x is = is
filled-only v w i bytes g f (n ∷ q) x is =
    let s = last-step w n q x is in
    let e = s.edge in
    next-step v n q s.directory x g.names (filled-only v w i bytes g f q s.directory s.before) (record { place = e.place; entry = e.entry; there = sym (f.slots s.directory e.place) ∙ e.there; named = e.named; leads = e.leads })

pub filled-tree : (v w : Volume) (i : ℕ) (bytes : List ℕ) → IsTree v → IsFilled v w i bytes → IsTree w
filled-tree v w i bytes g f = record {
  root = elim (cases_eq 0 i) [
    | inl same ↦ absurd (file-dir f.was.0 (sym f.was.1 ∙ ap (λ (j : ℕ). thing (body v j)) (sym same) ∙ g.root))
    | inr other ↦ f.things 0 other ∙ g.root
  ];
  named = λ d k e h. let n = g.named d k e (sym (f.slots d k) ∙ h) in (n.0, filled-used v w i bytes f e.inode ∙ n.1);
  once = λ d k c l a b h j same dir. g.once d k c l a b (sym (f.slots d k) ∙ h) (sym (f.slots c l) ∙ j) same (filled-dir v w i bytes f a.inode dir);
  names = filled-names v w i bytes g f;
  reached = λ x u. let p = g.reached x (sym (filled-used v w i bytes f x) ∙ u) in (p.0, filled-old v w i bytes g f p.0 x p.1);
}

pub filled-here : (v w : Volume) (i : ℕ) (bytes : List ℕ) → IsTree v → IsFilled v w i bytes → (p : Way) → inode_at v p ≡ Some i → thing_at w p ≡ Some (AFile bytes)
filled-here v w i bytes g f p at = thing-here w p i (filled-old v w i bytes g f p i at) ∙ f.thing_here

pub filled-others : (v w : Volume) (i : ℕ) (bytes : List ℕ) → IsTree v → IsFilled v w i bytes → (q : Way) → inode_at v q ≢ Some i → thing_at w q ≡ thing_at v q
filled-others v w i bytes g f q other = same-things v w q q
    (λ x is. (filled-old v w i bytes g f q x is, f.things x (λ same. other (is ∙ ap (λ (j : ℕ). Some j) same))))
    (λ x is. filled-only v w i bytes g f q x is)

-- each path leads where it led
pub filled-same : (v w : Volume) (i : ℕ) (bytes : List ℕ) → IsTree v → IsFilled v w i bytes → (q : Way) → inode_at w q ≡ inode_at v q
filled-same v w i bytes g f q = go (inode_at v q) refl
  where
    go : (o : Option ℕ) → inode_at v q ≡ o → inode_at w q ≡ inode_at v q
    go None is = none-both (inode_at w q) refl
      where
        none-both : (o : Option ℕ) → inode_at w q ≡ o → inode_at w q ≡ inode_at v q
        none-both None at = at ∙ sym is
        none-both (Some x) at = absurd (none-some x (sym is ∙ filled-only v w i bytes g f q x at))
    go (Some x) is = filled-old v w i bytes g f q x is ∙ sym is

-- ---- an entry less of a file that has another

pub record IsDropped (v w : Volume) (d k : ℕ) (e : Entry) : Type 0 where
  pub here : slot w d k ≡ None
  pub rest : (x l : ℕ) → (x ≡ d → l ≡ k → ⊥) → slot w x l ≡ slot v x l
  pub things : (x : ℕ) → thing (body w x) ≡ thing (body v x)
  pub there : slot v d k ≡ Some e
  pub file : (bytes : List ℕ) × (thing (body v e.inode) ≡ Some (AFile bytes))
  -- the other one
  pub directory : ℕ
  pub place : ℕ
  pub entry : Entry
  pub stays : slot w directory place ≡ Some entry
  pub same : entry.inode ≡ e.inode

dropped-from : (v w : Volume) (d k : ℕ) (e : Entry) → IsDropped v w d k e → (x l : ℕ) (f : Entry) → slot w x l ≡ Some f → (slot v x l ≡ Some f) × (Gone d k x l → ⊥)
dropped-from v w d k e c x l f h = (sym (c.rest x l out) ∙ h, λ gone. out gone.0 gone.1)
  where
    out : x ≡ d → l ≡ k → ⊥
    out a b = none-some f (sym c.here ∙ ap (λ (y : ℕ). slot w y k) (sym a) ∙ ap (λ (n : ℕ). slot w x n) (sym b) ∙ h)

dropped-slots : (v w : Volume) (d k : ℕ) (e : Entry) → IsTree v → IsDropped v w d k e → Slots v w New (Gone d k)
dropped-slots v w d k e g c = record {
  from = λ x l f h. inr (dropped-from v w d k e c x l f h);
  new_once = λ x l y n a b p q. absurd p;
  new_name = λ x l n a f p old kept same. p;
  new_inode = λ x l y n a f p old kept same dir. p;
  new_used = λ x l a p. absurd p;
  old_used = λ x l f old kept. same-used (body w f.inode) (body v f.inode) (c.things f.inode) ∙ (g.named x l f old).1;
  old_dir = λ x l f old kept dir. sym (c.things f.inode) ∙ dir;
}

dropped-names : (v w : Volume) (d k : ℕ) (e : Entry) → IsTree v → IsDropped v w d k e → AreNames w
dropped-names v w d k e g c = slots-names v w New (Gone d k) g (dropped-slots v w d k e g c)

dropped-way : (v w : Volume) (d k : ℕ) (e : Entry) → IsTree v → IsDropped v w d k e → (p : Way) → inode_at v p ≡ Some d → inode_at v (e.name ∷ p) ≡ Some e.inode
dropped-way v w d k e g c p at = next-step v e.name p d e.inode g.names at (record { place = k; entry = e; there = c.there; named = refl; leads = refl })

-- a directory is not at the end of the way that is gone
dropped-apart : (v w : Volume) (d k : ℕ) (e : Entry) → IsTree v → IsDropped v w d k e → (p : Way) → inode_at v p ≡ Some d → (q : Way) (x : ℕ) → inode_at v q ≡ Some x → thing (body v x) ≡ Some ADir → q ≢ e.name ∷ p
dropped-apart v w d k e g c p at q x is dir same =
    let i : x ≡ e.inode = same_Some x e.inode (sym is ∙ ap (λ (r : Way). inode_at v r) same ∙ dropped-way v w d k e g c p at) in
    file-dir c.file.0 (sym c.file.1 ∙ ap (λ (j : ℕ). thing (body v j)) (sym i) ∙ dir)

-- each other path leads where it led
pub dropped-old : (v w : Volume) (d k : ℕ) (e : Entry) → IsTree v → IsDropped v w d k e → (p : Way) → inode_at v p ≡ Some d → (q : Way) (x : ℕ) → inode_at v q ≡ Some x → q ≢ e.name ∷ p → inode_at w q ≡ Some x
dropped-old v w d k e g c p at [] x is other = is
dropped-old v w d k e g c p at (n ∷ q) x is other =
    let s = last-step v n q x is in
    let f = s.edge in
    let before = dropped-old v w d k e g c p at q s.directory s.before (dropped-apart v w d k e g c p at q s.directory s.before (slot-dir v s.directory f.place f.entry f.there)) in
    let there : slot w s.directory f.place ≡ Some f.entry = c.rest s.directory f.place (λ a b.
    let same : f.entry ≡ e = same_Some f.entry e (sym f.there ∙ ap (λ (y : ℕ). slot v y f.place) a ∙ ap (λ (l : ℕ). slot v d l) b ∙ c.there) in
    let names : n ≡ e.name = sym f.named ∙ ap (λ (z : Entry). z.name) same in
    let ways : q ≡ p = one-way v g.named g.once q p d (slot-dir v d k e c.there) (s.before ∙ ap (λ (y : ℕ). Some y) a) at in
    other (ap (λ (z : List ℕ). z ∷ q) names ∙ ap (λ (r : Way). e.name ∷ r) ways)) ∙ f.there in
    next-step w n q s.directory x (dropped-names v w d k e g c) before (record { place = f.place; entry = f.entry; there = there; named = f.named; leads = f.leads })

pub dropped-only : (v w : Volume) (d k : ℕ) (e : Entry) → IsTree v → IsDropped v w d k e → (q : Way) (x : ℕ) → inode_at w q ≡ Some x → inode_at v q ≡ Some x
dropped-only v w d k e g c [] x is = is
dropped-only v w d k e g c (n ∷ q) x is =
    let s = last-step w n q x is in
    let f = s.edge in
    next-step v n q s.directory x g.names (dropped-only v w d k e g c q s.directory s.before) (record { place = f.place; entry = f.entry; there = (dropped-from v w d k e c s.directory f.place f.entry f.there).0; named = f.named; leads = f.leads })

pub dropped-tree : (v w : Volume) (d k : ℕ) (e : Entry) → IsTree v → IsDropped v w d k e → IsTree w
dropped-tree v w d k e g c =
    let s = dropped-slots v w d k e g c in
    let p = g.reached d (thing-used (body v d) ADir (slot-dir v d k e c.there)) in
    record {
      root = c.things 0 ∙ g.root;
      named = slots-used v w New (Gone d k) g s;
      once = slots-once v w New (Gone d k) g s;
      names = slots-names v w New (Gone d k) g s;
      reached = λ i u. elim (cases_eq i e.inode) [
        | inl here ↦
            let dir : thing (body v c.directory) ≡ Some ADir = sym (c.things c.directory) ∙ slot-dir w c.directory c.place c.entry c.stays in
            let r = g.reached c.directory (thing-used (body v c.directory) ADir dir) in
            let old = dropped-old v w d k e g c p.0 p.1 r.0 c.directory r.1 (dropped-apart v w d k e g c p.0 p.1 r.0 c.directory r.1 dir) in (
              c.entry.name ∷ r.0,
              next-step w c.entry.name r.0 c.directory i (dropped-names v w d k e g c) old (record { place = c.place; entry = c.entry; there = c.stays; named = refl; leads = c.same ∙ sym here }),
            )
        | inr other ↦
            let r = g.reached i (sym (same-used (body w i) (body v i) (c.things i)) ∙ u) in
            (r.0, dropped-old v w d k e g c p.0 p.1 r.0 i r.1 (λ same. other (same_Some i e.inode (sym r.1 ∙ ap (λ (y : Way). inode_at v y) same ∙ dropped-way v w d k e g c p.0 p.1))))
      ];
    }

pub dropped-here : (v w : Volume) (d k : ℕ) (e : Entry) → IsTree v → IsDropped v w d k e → (p : Way) → inode_at v p ≡ Some d → thing_at w (e.name ∷ p) ≡ None
dropped-here v w d k e g c p at = nothing-at w (e.name ∷ p) (λ x is.
    let s = last-step w e.name p x is in
    let f = s.edge in
    let before = dropped-only v w d k e g c p s.directory s.before in
    let dirs : s.directory ≡ d = same_Some s.directory d (sym before ∙ at) in
    let old = dropped-from v w d k e c s.directory f.place f.entry f.there in
    old.1 (dirs, g.names d f.place k f.entry e (ap (λ (y : ℕ). slot v y f.place) (sym dirs) ∙ old.0) c.there f.named))

pub dropped-others : (v w : Volume) (d k : ℕ) (e : Entry) → IsTree v → IsDropped v w d k e → (p : Way) → inode_at v p ≡ Some d → (q : Way) → q ≢ e.name ∷ p → thing_at w q ≡ thing_at v q
dropped-others v w d k e g c p at q other = same-things v w q q
    (λ x is. (dropped-old v w d k e g c p at q x is other, c.things x))
    (λ x is. dropped-only v w d k e g c q x is)
