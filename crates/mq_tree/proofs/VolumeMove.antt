-- An entry that moves from one slot to another, with all that is below it.
use Rattle.std.proofs.Common.{◌≡◌, ◌≢◌, ℕ, List, [], ◌∷◌, ◌++◌, length, ◌⊎◌, inl, inr, refl, sym, ap, ◌∙◌, arith, length-append}
use Rattle.std.specs.Prelude.{Some, None}
use Rattle.std.proofs.lemmas.Option.{same_Some}
use Rattle.mq_layout.specs.Slots.{Entry}
use Rattle.mq_tree.specs.Volume.{Volume, Way, body, find, inode_at, is_used, slot, slots_of, thing}
use Rattle.mq_tree.proofs.VolumePaths.{AreNames, AreOnce, AreUsed, IsTree, Slots, cases-slot, find-missing, last-step, next-step, nothing-at, one-way, same-things, same-used, slot-dir, slots-names, slots-once, slots-used, thing_at}
use Rattle.mq_tree.proofs.VolumeMake.{New}

-- The entry `e` of slot `k` of `d`, at the end of the way `p`, is `f` in slot `m` of `c`, at the end of
-- `q`.
pub record IsMoved (v w : Volume) (d k : ℕ) (e : Entry) (p : Way) (c m : ℕ) (f : Entry) (q : Way) : Type 0 where
  pub there : slot v d k ≡ Some e
  pub here : slot w c m ≡ Some f
  pub inode : f.inode ≡ e.inode
  pub from : (x l : ℕ) (a : Entry) → slot w x l ≡ Some a → ((x ≡ c) × (l ≡ m)) ⊎ ((slot v x l ≡ Some a) × (x ≡ d → l ≡ k → ⊥))
  pub to : (x l : ℕ) (a : Entry) → slot v x l ≡ Some a → (x ≡ d → l ≡ k → ⊥) → slot w x l ≡ Some a
  pub things : (x : ℕ) → thing (body w x) ≡ thing (body v x)
  pub missing : find f.name (slots_of (body v c)) ≡ None
  pub old_way : inode_at v p ≡ Some d
  pub new_way : inode_at v q ≡ Some c
  -- it does not move into itself
  pub outside : (r : Way) → q ≢ r ++ e.name ∷ p

abbrev Gone : ℕ → ℕ → ℕ → ℕ → Type 0
Gone d k x l = (x ≡ d) × (l ≡ k)

-- the entry in a slot, by other names of the slot
slot-entry : (v : Volume) (x l y m : ℕ) (a b : Entry) → slot v x l ≡ Some a → slot v y m ≡ Some b → x ≡ y → l ≡ m → a ≡ b
slot-entry v x l y m a b h i s t = same_Some a b (sym h ∙ ap (λ (z : ℕ). slot v z l) s ∙ ap (λ (n : ℕ). slot v y n) t ∙ i)

moved-slots : (v w : Volume) (d k : ℕ) (e : Entry) (p : Way) (c m : ℕ) (f : Entry) (q : Way) → IsTree v → IsMoved v w d k e p c m f q → Slots v w (New c m f) (Gone d k)
moved-slots v w d k e p c m f q g h = record {
  from = λ x l a s. elim (h.from x l a s) [
    | inl new ↦ inl (new.0, new.1, slot-entry w x l c m a f s h.here new.0 new.1)
    | inr old ↦ inr (old.0, λ gone. old.1 gone.0 gone.1)
  ];
  new_once = λ x l y n a b s t. (s.0 ∙ sym t.0, s.1 ∙ sym t.1);
  new_name = λ x l n a b s old kept same.
      find-missing f.name (slots_of (body v c)) h.missing n b (ap (λ (y : ℕ). slot v y n) (sym s.0) ∙ old) (sym same ∙ ap (λ (z : Entry). z.name) s.2);
  new_inode = λ x l y n a b s old kept same dir.
      let r = g.once y n d k b e old h.there (sym same ∙ ap (λ (z : Entry). z.inode) s.2 ∙ h.inode) (sym (h.things b.inode) ∙ ap (λ (j : ℕ). thing (body w j)) (sym same) ∙ dir) in
      kept (r.0, r.1);
  new_used = λ x l a s.
      let u = g.named d k e h.there in
      let i : e.inode ≡ a.inode = sym h.inode ∙ ap (λ (z : Entry). z.inode) (sym s.2) in
      (λ zero. u.0 (i ∙ zero), ap (λ (j : ℕ). is_used (body w j)) (sym i) ∙ same-used (body w e.inode) (body v e.inode) (h.things e.inode) ∙ u.1);
  old_used = λ x l a old kept. same-used (body w a.inode) (body v a.inode) (h.things a.inode) ∙ (g.named x l a old).1;
  old_dir = λ x l a old kept dir. sym (h.things a.inode) ∙ dir;
}

pub moved-names : (v w : Volume) (d k : ℕ) (e : Entry) (p : Way) (c m : ℕ) (f : Entry) (q : Way) → IsTree v → IsMoved v w d k e p c m f q → AreNames w
moved-names v w d k e p c m f q g h = slots-names v w (New c m f) (Gone d k) g (moved-slots v w d k e p c m f q g h)

moved-once : (v w : Volume) (d k : ℕ) (e : Entry) (p : Way) (c m : ℕ) (f : Entry) (q : Way) → IsTree v → IsMoved v w d k e p c m f q → AreOnce w
moved-once v w d k e p c m f q g h = slots-once v w (New c m f) (Gone d k) g (moved-slots v w d k e p c m f q g h)

moved-used : (v w : Volume) (d k : ℕ) (e : Entry) (p : Way) (c m : ℕ) (f : Entry) (q : Way) → IsTree v → IsMoved v w d k e p c m f q → AreUsed w
moved-used v w d k e p c m f q g h = slots-used v w (New c m f) (Gone d k) g (moved-slots v w d k e p c m f q g h)

-- ---- ways

longer-way : (r p : Way) (n : List ℕ) → r ++ n ∷ p ≡ p → ⊥
longer-way r p n e =
    let a = length-append r (n ∷ p) in
    let b = ap (λ (s : Way). length s) e in
    omega arith

no-way : (r p : Way) (n : List ℕ) → [] ≡ r ++ n ∷ p → ⊥
no-way r p n e =
    let a = length-append r (n ∷ p) in
    let b = ap (λ (s : Way). length s) e in
    omega arith

-- both parts of a way
cons-way : (a b : List ℕ) (s t : Way) → a ≡ b → s ≡ t → a ∷ s ≡ b ∷ t
cons-way a b s t e f = cc

pub tails : (a b : List ℕ) (s t : Way) → a ∷ s ≡ b ∷ t → s ≡ t
tails a b s t e = cc

heads : (a b : List ℕ) (s t : Way) → a ∷ s ≡ b ∷ t → a ≡ b
heads a b s t e = cc

moved-from : (v w : Volume) (d k : ℕ) (e : Entry) (p : Way) (c m : ℕ) (f : Entry) (q : Way) → IsTree v → IsMoved v w d k e p c m f q → inode_at v (e.name ∷ p) ≡ Some e.inode
moved-from v w d k e p c m f q g h = next-step v e.name p d e.inode g.names h.old_way (record { place = k; entry = e; there = h.there; named = refl; leads = refl })

-- ways that do not go through what moves lead where they led
moved-old : (v w : Volume) (d k : ℕ) (e : Entry) (p : Way) (c m : ℕ) (f : Entry) (q : Way) → IsTree v → IsMoved v w d k e p c m f q
    → (s : Way) (x : ℕ) → ((r : Way) → s ≢ r ++ e.name ∷ p) → inode_at v s ≡ Some x → inode_at w s ≡ Some x
moved-old v w d k e p c m f q g h [] x out is = is
moved-old v w d k e p c m f q g h (n ∷ s) x out is =
    let t = last-step v n s x is in
    let a = t.edge in
    let there : slot w t.directory a.place ≡ Some a.entry = h.to t.directory a.place a.entry a.there (λ y l.
    let same = slot-entry v t.directory a.place d k a.entry e a.there h.there y l in
    let ways = one-way v g.named g.once s p d (slot-dir v d k e h.there) (t.before ∙ ap (λ (j : ℕ). Some j) y) h.old_way in
    out [] (cons-way n e.name s p (sym a.named ∙ ap (λ (z : Entry). z.name) same) ways)) in
    let before = moved-old v w d k e p c m f q g h s t.directory (λ r i. out (n ∷ r) (cons-way n n s (r ++ e.name ∷ p) refl i)) t.before in
    next-step w n s t.directory x (moved-names v w d k e p c m f q g h) before (record { place = a.place; entry = a.entry; there = there; named = a.named; leads = a.leads })

moved-new : (v w : Volume) (d k : ℕ) (e : Entry) (p : Way) (c m : ℕ) (f : Entry) (q : Way) → IsTree v → IsMoved v w d k e p c m f q → inode_at w (f.name ∷ q) ≡ Some e.inode
moved-new v w d k e p c m f q g h =
    next-step w f.name q c e.inode (moved-names v w d k e p c m f q g h) (moved-old v w d k e p c m f q g h q c h.outside h.new_way) (record { place = m; entry = f; there = h.here; named = refl; leads = h.inode })

-- what is below moves along
moved-below : (v w : Volume) (d k : ℕ) (e : Entry) (p : Way) (c m : ℕ) (f : Entry) (q : Way) → IsTree v → IsMoved v w d k e p c m f q
    → (r : Way) (x : ℕ) → inode_at v (r ++ e.name ∷ p) ≡ Some x → inode_at w (r ++ f.name ∷ q) ≡ Some x
moved-below v w d k e p c m f q g h [] x is = moved-new v w d k e p c m f q g h ∙ sym (moved-from v w d k e p c m f q g h) ∙ is
moved-below v w d k e p c m f q g h (n ∷ r) x is =
    let t = last-step v n (r ++ e.name ∷ p) x is in
    let a = t.edge in
    let there : slot w t.directory a.place ≡ Some a.entry = h.to t.directory a.place a.entry a.there (λ y l.
    longer-way r p e.name (one-way v g.named g.once (r ++ e.name ∷ p) p d (slot-dir v d k e h.there) (t.before ∙ ap (λ (j : ℕ). Some j) y) h.old_way)) in
    next-step w n (r ++ f.name ∷ q) t.directory x (moved-names v w d k e p c m f q g h) (moved-below v w d k e p c m f q g h r t.directory t.before) (record { place = a.place; entry = a.entry; there = there; named = a.named; leads = a.leads })

-- in the new slot a way ends just with the new name
moved-way : (v w : Volume) (d k : ℕ) (e : Entry) (p : Way) (c m : ℕ) (f : Entry) (q : Way) → IsTree v → IsMoved v w d k e p c m f q
    → (s : Way) (x : ℕ) → inode_at w s ≡ Some x → x ≡ c → s ≡ q
moved-way v w d k e p c m f q g h s x is same = one-way w (moved-used v w d k e p c m f q g h) (moved-once v w d k e p c m f q g h) s q c (slot-dir w c m f h.here) (is ∙ ap (λ (j : ℕ). Some j) same)
    (moved-old v w d k e p c m f q g h q c h.outside h.new_way)

moved-back : (v w : Volume) (d k : ℕ) (e : Entry) (p : Way) (c m : ℕ) (f : Entry) (q : Way) → IsTree v → IsMoved v w d k e p c m f q
    → (r : Way) (x : ℕ) → inode_at w (r ++ f.name ∷ q) ≡ Some x → inode_at v (r ++ e.name ∷ p) ≡ Some x
moved-back v w d k e p c m f q g h [] x is = moved-from v w d k e p c m f q g h ∙ sym (moved-new v w d k e p c m f q g h) ∙ is
moved-back v w d k e p c m f q g h (n ∷ r) x is =
    let t = last-step w n (r ++ f.name ∷ q) x is in
    let a = t.edge in
    elim (h.from t.directory a.place a.entry a.there) [
      | inl new ↦ absurd (longer-way r q f.name (moved-way v w d k e p c m f q g h (r ++ f.name ∷ q) t.directory t.before new.0))
      | inr old ↦ next-step v n (r ++ e.name ∷ p) t.directory x g.names (moved-back v w d k e p c m f q g h r t.directory t.before) (record { place = a.place; entry = a.entry; there = old.0; named = a.named; leads = a.leads })
    ]

-- other ways led there before, and not through what moves
moved-only : (v w : Volume) (d k : ℕ) (e : Entry) (p : Way) (c m : ℕ) (f : Entry) (q : Way) → IsTree v → IsMoved v w d k e p c m f q
    → (s : Way) (x : ℕ) → ((r : Way) → s ≢ r ++ f.name ∷ q) → inode_at w s ≡ Some x → (inode_at v s ≡ Some x) × ((r : Way) → s ≢ r ++ e.name ∷ p)
moved-only v w d k e p c m f q g h [] x out is = (is, λ r i. no-way r p e.name i)
moved-only v w d k e p c m f q g h (n ∷ s) x out is =
    let t = last-step w n s x is in
    let a = t.edge in
    let before = moved-only v w d k e p c m f q g h s t.directory (λ r i. out (n ∷ r) (cons-way n n s (r ++ f.name ∷ q) refl i)) t.before in
    elim (h.from t.directory a.place a.entry a.there) [
      | inl new ↦
          let same = slot-entry w t.directory a.place c m a.entry f a.there h.here new.0 new.1 in
          let ways = moved-way v w d k e p c m f q g h s t.directory t.before new.0 in
          absurd (out [] (cons-way n f.name s q (sym a.named ∙ ap (λ (z : Entry). z.name) same) ways))
      | inr old ↦ (
        next-step v n s t.directory x g.names before.0 (record { place = a.place; entry = a.entry; there = old.0; named = a.named; leads = a.leads }),
        not-through n s t.directory a.place a.entry a.named before.0 old.0 old.1 before.1,
      )
    ]
  where
    not-through : (n : List ℕ) (s : Way) (y l : ℕ) (a : Entry) → a.name ≡ n → inode_at v s ≡ Some y → slot v y l ≡ Some a → (y ≡ d → l ≡ k → ⊥) → ((r : Way) → s ≢ r ++ e.name ∷ p) → (r : Way) → n ∷ s ≢ r ++ e.name ∷ p
    not-through n s y l a named before there other out [] i =
        let at : inode_at v s ≡ Some d = ap (λ (z : Way). inode_at v z) (tails n e.name s p i) ∙ h.old_way in
        let dirs : y ≡ d = same_Some y d (sym before ∙ at) in
        other dirs (g.names d l k a e (ap (λ (j : ℕ). slot v j l) (sym dirs) ∙ there) h.there (named ∙ heads n e.name s p i))
    not-through n s y l a named before there other out (z ∷ r) i = out r (tails n z s (r ++ e.name ∷ p) i)

-- nothing stands at the new way before
moved-missing : (v w : Volume) (d k : ℕ) (e : Entry) (p : Way) (c m : ℕ) (f : Entry) (q : Way) → IsTree v → IsMoved v w d k e p c m f q
    → (x : ℕ) → inode_at v (f.name ∷ q) ≡ Some x → ⊥
moved-missing v w d k e p c m f q g h x is =
    let t = last-step v f.name q x is in
    let a = t.edge in
    let dirs : t.directory ≡ c = same_Some t.directory c (sym t.before ∙ h.new_way) in
    find-missing f.name (slots_of (body v c)) h.missing a.place a.entry (ap (λ (j : ℕ). slot v j a.place) (sym dirs) ∙ a.there) a.named

-- where a way leads somewhere, so does each part of it
pub leads-part : (v : Volume) (r q : Way) (x : ℕ) → inode_at v (r ++ q) ≡ Some x → (y : ℕ) × (inode_at v q ≡ Some y)
leads-part v [] q x is = (x, is)
leads-part v (n ∷ r) q x is = let t = last-step v n (r ++ q) x is in leads-part v r q t.directory t.before

-- no way goes through both
moved-apart : (v w : Volume) (d k : ℕ) (e : Entry) (p : Way) (c m : ℕ) (f : Entry) (q : Way) → IsTree v → IsMoved v w d k e p c m f q
    → (r t : Way) → r ++ e.name ∷ p ≡ t ++ f.name ∷ q → ⊥
moved-apart v w d k e p c m f q g h [] [] i = moved-missing v w d k e p c m f q g h e.inode (ap (λ (z : Way). inode_at v z) (sym i) ∙ moved-from v w d k e p c m f q g h)
moved-apart v w d k e p c m f q g h [] (n ∷ t) i =
    let s = leads-part v t (f.name ∷ q) d (ap (λ (z : Way). inode_at v z) (sym (tails e.name n p (t ++ f.name ∷ q) i)) ∙ h.old_way) in
    moved-missing v w d k e p c m f q g h s.0 s.1
moved-apart v w d k e p c m f q g h (n ∷ r) [] i = h.outside r (sym (tails n f.name (r ++ e.name ∷ p) q i))
moved-apart v w d k e p c m f q g h (n ∷ r) (a ∷ t) i = moved-apart v w d k e p c m f q g h r t (tails n a (r ++ e.name ∷ p) (t ++ f.name ∷ q) i)

-- each inode has a way still
moved-reached : (v w : Volume) (d k : ℕ) (e : Entry) (p : Way) (c m : ℕ) (f : Entry) (q : Way) → IsTree v → IsMoved v w d k e p c m f q
    → (s : Way) (x : ℕ) → inode_at v s ≡ Some x → (t : Way) × (inode_at w t ≡ Some x)
moved-reached v w d k e p c m f q g h [] x is = ([], is)
moved-reached v w d k e p c m f q g h (n ∷ s) x is =
    let t = last-step v n s x is in
    let a = t.edge in
    let before = moved-reached v w d k e p c m f q g h s t.directory t.before in
    elim (cases-slot t.directory d a.place k) [
      | inl same ↦
          let entries = slot-entry v t.directory a.place d k a.entry e a.there h.there same.0 same.1 in
          let i : e.inode ≡ x = ap (λ (z : Entry). z.inode) (sym entries) ∙ a.leads in
          (f.name ∷ q, moved-new v w d k e p c m f q g h ∙ ap (λ (j : ℕ). Some j) i)
      | inr other ↦ (
        n ∷ before.0,
        next-step w n before.0 t.directory x (moved-names v w d k e p c m f q g h) before.1
            (record { place = a.place; entry = a.entry; there = h.to t.directory a.place a.entry a.there other; named = a.named; leads = a.leads }),
      )
    ]

pub moved-tree : (v w : Volume) (d k : ℕ) (e : Entry) (p : Way) (c m : ℕ) (f : Entry) (q : Way) → IsTree v → IsMoved v w d k e p c m f q → IsTree w
moved-tree v w d k e p c m f q g h = record {
  root = h.things 0 ∙ g.root;
  named = moved-used v w d k e p c m f q g h;
  once = moved-once v w d k e p c m f q g h;
  names = moved-names v w d k e p c m f q g h;
  reached = λ i u.
      let r = g.reached i (same-used (body v i) (body w i) (sym (h.things i)) ∙ u) in
      moved-reached v w d k e p c m f q g h r.0 i r.1;
}

-- ---- what stands where

pub moved-here : (v w : Volume) (d k : ℕ) (e : Entry) (p : Way) (c m : ℕ) (f : Entry) (q : Way) → IsTree v → IsMoved v w d k e p c m f q
    → (r : Way) → thing_at w (r ++ f.name ∷ q) ≡ thing_at v (r ++ e.name ∷ p)
moved-here v w d k e p c m f q g h r = same-things v w (r ++ e.name ∷ p) (r ++ f.name ∷ q) (λ x is. (moved-below v w d k e p c m f q g h r x is, h.things x)) (λ x is. moved-back v w d k e p c m f q g h r x is)

pub moved-gone : (v w : Volume) (d k : ℕ) (e : Entry) (p : Way) (c m : ℕ) (f : Entry) (q : Way) → IsTree v → IsMoved v w d k e p c m f q
    → (r : Way) → thing_at w (r ++ e.name ∷ p) ≡ None
moved-gone v w d k e p c m f q g h r = nothing-at w (r ++ e.name ∷ p) (λ x is.
    (moved-only v w d k e p c m f q g h (r ++ e.name ∷ p) x (λ t i. moved-apart v w d k e p c m f q g h r t i) is).1 r refl)

pub moved-others : (v w : Volume) (d k : ℕ) (e : Entry) (p : Way) (c m : ℕ) (f : Entry) (q : Way) → IsTree v → IsMoved v w d k e p c m f q
    → (s : Way) → ((r : Way) → s ≢ r ++ e.name ∷ p) → ((r : Way) → s ≢ r ++ f.name ∷ q) → thing_at w s ≡ thing_at v s
moved-others v w d k e p c m f q g h s old new = same-things v w s s (λ x is. (moved-old v w d k e p c m f q g h s x old is, h.things x)) (λ x is. (moved-only v w d k e p c m f q g h s x new is).0)
