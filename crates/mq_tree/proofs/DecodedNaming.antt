-- Slots of the volume, and the inodes that they name.
use Rattle.std.proofs.Common.{get_or, ◌≡◌, ◌≢◌, ℕ, ◌+◌, ◌*◌, ◌/◌, ◌%◌, ◌<◌, List, length, Bool, true, false, refl, sym, ap, subst, ◌∙◌, arith, inl, inr}
use Rattle.std.specs.Prelude.{MatchOption, Option, Some, None, not}
use Rattle.std.specs.Bool.{MatchBool}
use Rattle.std.proofs.lemmas.Bool.{cases_Bool, cases_eq, cases_lt, eq-eqb, ne_eqb, true≢false}
use Rattle.mq_blocks.specs.Blocks.{block_at}
use Rattle.mq_blocks.specs.Windows.{window}
use Rattle.mq_blocks.specs.declared.geometry.Geometry.{Geometry}
use Rattle.mq_layout.specs.Empty.{free_inode}
use Rattle.mq_layout.specs.Places.{inodes_of}
use Rattle.mq_layout.specs.Slots.{Entry, ShowsSlot, entry_of as entry_read, wrong_slot}
use Rattle.mq_layout.specs.declared.inode.Inode.{Inode}
use Rattle.mq_layout.specs.declared.refusal.LayoutRefusal.{LayoutRefusal}
use Rattle.mq_layout.specs.declared.slot.Slot.{Slot}
use Rattle.mq_tree.specs.Clean.{AreDirs, AreNamed, ArePointers, IsDirBlock, IsTable}
use Rattle.mq_tree.specs.Corrupt.{BadName, IsSlotIn, names_free, names_root}
use Rattle.mq_tree.specs.Decoded.{Stored, body_of, count_of, entry_of, inodes_in, pointer_to, slot_of, table_of, the_inode, volume_in}
use Rattle.mq_tree.specs.Least.{IsLeast, IsLeastOf, lesser}
use Rattle.mq_tree.specs.Parts.{AreDirBlocks, HasBadName, IsNamedBy, NameAll, NamesOther, NamesRight}
use Rattle.mq_tree.specs.Volume.{Body, Node, body, is_used, slot, slots_of}
use Rattle.mq_tree.proofs.Decoded.{body-dir, body-file, body-free, body-in, node-past, slot-decoded, slot-not_wrong, table-at, table-past}
use Rattle.mq_tree.proofs.DecodedMounting.{inode-low, inode-seen, inodes-at, length-inodes}
use Rattle.mq_tree.proofs.Least.{least-same}
use Rattle.mq_tree.proofs.LeastBelow.{WrongBelow, below-skip, below-step}
use Rattle.mq_tree.proofs.Parts.{is-place, used-kind}

-- where a slot of the volume is used
pub record IsEntry (g : Geometry) (s : Stored) (d k : ℕ) (e : Entry) : Type 0 where
  pub low : d < inodes_of g
  pub dir : (the_inode g s d).kind ≡ 2
  pub inside : k < 15 * count_of (the_inode g s d)
  pub is : entry_of s (the_inode g s d) k ≡ Some e

pub none-entry : {R : Type 0} (e : Entry) → None ≡ Some e → R
none-entry e h = absurd (cc)

pub slot-found : (g : Geometry) (s : Stored) (d k : ℕ) (e : Entry) → IsTable g s → slot (volume_in g s) d k ≡ Some e → IsEntry g s d k e
slot-found g s d k e table h = elim (cases_lt d (inodes_of g)) [
  | inr past ↦ none-entry e (ap (λ (n : Node). get_or (slots_of n.body) k None) (sym (node-past g s d past)) ∙ h)
  | inl low ↦
      let n = the_inode g s d in
      let kind = (table.inodes d low).0.kind in
      let f : get_or (slots_of (body_of s n)) k None ≡ Some e = ap (λ (b : Body). get_or (slots_of b) k None) (sym (body-in g s d low)) ∙ h in
      elim (cases_eq n.kind 2) [
        | inl two ↦
            let t : get_or (table_of (15 * count_of n) (entry_of s n)) k None ≡ Some e = ap (λ (b : Body). get_or (slots_of b) k None) (sym (body-dir s n two)) ∙ f in
            elim (cases_lt k (15 * count_of n)) [
              | inl inside ↦ record { low = low; dir = two; inside = inside; is = sym (table-at (15 * count_of n) (entry_of s n) k None inside) ∙ t }
              | inr past ↦ none-entry e (sym (table-past (15 * count_of n) (entry_of s n) k None past) ∙ t)
            ]
        | inr other ↦ elim (cases_eq n.kind 1) [
          | inl one ↦ none-entry e (ap (λ (b : Body). get_or (slots_of b) k None) (sym (body-file s n one)) ∙ f)
          | inr free ↦ let zero : n.kind ≡ 0 = omega arith in none-entry e (ap (λ (b : Body). get_or (slots_of b) k None) (sym (body-free s n zero)) ∙ f)
        ]
      ]
]

pub slot-is : (g : Geometry) (s : Stored) (d k : ℕ) (e : Entry) → IsEntry g s d k e → slot (volume_in g s) d k ≡ Some e
slot-is g s d k e p =
    let n = the_inode g s d in
    ap (λ (b : Body). get_or (slots_of b) k None) (body-in g s d p.low ∙ body-dir s n p.dir) ∙ table-at (15 * count_of n) (entry_of s n) k None p.inside ∙ p.is

-- a slot stands in the block at its place
pub slot-in : (g : Geometry) (s : Stored) (d k : ℕ) (e : Entry) → IsTable g s → ArePointers g s → slot (volume_in g s) d k ≡ Some e → IsSlotIn g s d k e (pointer_to s (the_inode g s d) (k / 15))
slot-in g s d k e table pointers there =
    let p = slot-found g s d k e table there in
    let l = p.inside in
    record { there = there; place = is-place g s d (k / 15) _ pointers p.low (omega arith) refl }

-- ---- inodes that are named

named-used : (g : Geometry) (s : Stored) (xs : List Inode) (i : ℕ) → IsTable g s → xs ≡ inodes_in g s → IsNamedBy xs i → is_used (body (volume_in g s) i) ≡ true
named-used g s xs i table e h =
    let n = ap length e in
    let m = length-inodes g s in
    let l = h.low in
    let low : i < inodes_of g = omega arith in
    let seen : get_or xs i free_inode ≡ the_inode g s i = ap (λ (ys : List Inode). get_or ys i free_inode) e ∙ inodes-at g s i free_inode low in
    used-kind g s i (get_or xs i free_inode) table low seen ∙ ap not (ne_eqb (get_or xs i free_inode).kind 0 h.used)

other-free : (g : Geometry) (s : Stored) (xs : List Inode) (i : ℕ) → IsTable g s → xs ≡ inodes_in g s → i ≢ 0 → (IsNamedBy xs i → ⊥) → is_used (body (volume_in g s) i) ≡ false
other-free g s xs i table e some wrong = elim (cases_lt i (inodes_of g)) [
  | inr past ↦ ap (λ (n : Node). is_used n.body) (node-past g s i past)
  | inl low ↦
      let n = ap length e in
      let m = length-inodes g s in
      let inside : i < length xs = omega arith in
      let seen : get_or xs i free_inode ≡ the_inode g s i = ap (λ (ys : List Inode). get_or ys i free_inode) e ∙ inodes-at g s i free_inode low in
      elim (cases_eq (get_or xs i free_inode).kind 0) [
        | inl zero ↦ used-kind g s i (get_or xs i free_inode) table low seen ∙ ap not (eq-eqb (get_or xs i free_inode).kind 0 zero)
        | inr used ↦ absurd (wrong (record { low = inside; not_root = some; used = used }))
      ]
]

-- the inode of this number has such a block
abbrev pub NamedAt : Geometry → Stored → List Inode → (i c : ℕ) → Type 0
NamedAt g s xs i c = HasBadName s xs (the_inode g s i) c

abbrev pub NamedIn : Geometry → Stored → List Inode → (c : ℕ) → Type 0
NamedIn g s xs c = WrongBelow (NamedAt g s xs) (inodes_of g) c

-- a slot of the volume that may not stand there is one of its directory's
bad-entry : (g : Geometry) (s : Stored) (xs : List Inode) (d k : ℕ) (e : Entry) (b : ℕ) → IsTable g s → IsSlotIn g s d k e b → (IsNamedBy xs e.inode → ⊥) → NamedIn g s xs b
bad-entry g s xs d k e b table at wrong =
    let p = slot-found g s d k e table at.there in
    let inside = p.inside in
    record {
      j = d;
      low = p.low;
      wrong = record {
        place = k / 15;
        dir = p.dir;
        inside = omega arith;
        is = at.place.is;
        other = record {
          at = k % 15;
          e = e;
          small = omega arith;
          there = ap (λ (c : ℕ). slot_of (block_at s c) (k % 15)) at.place.is ∙ p.is;
          wrong = wrong;
        };
      };
    }

name-lost : (g : Geometry) (s : Stored) (xs : List Inode) (b : ℕ) → IsTable g s → xs ≡ inodes_in g s → BadName g s b → NamedIn g s xs b
name-lost g s xs b table e (names_root d k entry at zero) = bad-entry g s xs d k entry b table at (λ h. h.not_root zero)
name-lost g s xs b table e (names_free d k entry at free) = bad-entry g s xs d k entry b table at (λ h. true≢false (sym (named-used g s xs entry.inode table e h) ∙ free))

name-found : (g : Geometry) (s : Stored) (xs : List Inode) (i b : ℕ) → IsTable g s → ArePointers g s → xs ≡ inodes_in g s → i < inodes_of g → HasBadName s xs (the_inode g s i) b → BadName g s b
name-found g s xs i b table pointers e low t =
    let o = t.other in
    let k = 15 * t.place + o.at in
    let small = o.small in
    let inside = t.inside in
    let q : k / 15 ≡ t.place = omega arith in
    let r : k % 15 ≡ o.at = omega arith in
    let block : b ≡ pointer_to s (the_inode g s i) (k / 15) = t.is ∙ ap (λ (p : ℕ). pointer_to s (the_inode g s i) p) (sym q) in
    let there : entry_of s (the_inode g s i) k ≡ Some o.e = ap (λ (c : ℕ). slot_of (block_at s c) (k % 15)) (sym block) ∙ ap (λ (j : ℕ). slot_of (block_at s b) j) r ∙ o.there in
    let at : IsSlotIn g s i k o.e b = record { there = slot-is g s i k o.e (record { low = low; dir = t.dir; inside = omega arith; is = there }); place = is-place g s i (k / 15) b pointers low (omega arith) block } in
    elim (cases_eq o.e.inode 0) [
      | inl zero ↦ names_root i k o.e at zero
      | inr some ↦ names_free i k o.e at (other-free g s xs o.e.inode table e some o.wrong)
    ]

names-none : (g : Geometry) (s : Stored) → IsTable g s → ArePointers g s → ((c : ℕ) → BadName g s c → ⊥) → AreNamed (volume_in g s)
names-none g s table pointers none d k e there =
    let at = slot-in g s d k e table pointers there in (
      λ zero. none _ (names_root d k e at zero),
      elim (cases_Bool (is_used (body (volume_in g s) e.inode))) [
        | inl used ↦ used
        | inr free ↦ absurd (none _ (names_free d k e at free))
      ],
    )

-- what a search over all inodes says of the volume
pub names-least : (g : Geometry) (s : Stored) (xs : List Inode) (n : ℕ) (r : Option ℕ) → IsTable g s → ArePointers g s → xs ≡ inodes_in g s → n ≡ length xs → IsLeastOf (WrongBelow (NamedAt g s xs) n) r
    → MatchOption r (AreNamed (volume_in g s)) (IsLeast (BadName g s))
names-least g s xs n r table pointers e all found =
    let all : n ≡ inodes_of g = all ∙ ap length e ∙ length-inodes g s in
    by r (least-same (NamedIn g s xs) (BadName g s) r
    (λ c h. name-found g s xs h.j c table pointers e h.low h.wrong) (λ c h. name-lost g s xs c table e h)
    (subst (λ m. IsLeastOf (WrongBelow (NamedAt g s xs) m) r) all found))
  where
    by : (r : Option ℕ) → IsLeastOf (BadName g s) r → MatchOption r (AreNamed (volume_in g s)) (IsLeast (BadName g s))
    by None h = names-none g s table pointers h
    by (Some b) h = h

-- one inode more was looked at
pub names-more : (g : Geometry) (s : Stored) (xs : List Inode) (i : ℕ) (d : Inode) (a b r : Option ℕ) → xs ≡ inodes_in g s → i < length xs → IsLeastOf (WrongBelow (NamedAt g s xs) i) a → IsLeastOf (HasBadName s xs (get_or xs i d)) b → r ≡ lesser a b
    → IsLeastOf (WrongBelow (NamedAt g s xs) (i + 1)) r
names-more g s xs i d a b r e low old new is = below-step (NamedAt g s xs) i a b r old (subst (λ n. IsLeastOf (HasBadName s xs n) b) (inode-seen g s xs i d e low) new) is

-- ---- block by block

-- the block at this place has such a slot
abbrev pub OtherAt : Stored → List Inode → Inode → (place c : ℕ) → Type 0
OtherAt s xs n place c = (c ≡ pointer_to s n place) × NamesOther xs (block_at s c)

pub not-all : (xs : List Inode) (block : List ℕ) (t : Bool) → MatchBool t (NameAll xs block) (NamesOther xs block) → t ≡ false → NamesOther xs block
not-all xs block true h is = absurd (true≢false is)
not-all xs block false h is = h

pub all-named : (xs : List Inode) (block : List ℕ) (t : Bool) → MatchBool t (NameAll xs block) (NamesOther xs block) → t ≡ true → NameAll xs block
all-named xs block true h is = h
all-named xs block false h is = absurd (true≢false (sym is))

pub other-more : (s : Stored) (xs : List Inode) (n : Inode) (place b : ℕ) (block : List ℕ) (a r : Option ℕ) → b ≡ pointer_to s n place → block ≡ block_at s b → NamesOther xs block → IsLeastOf (WrongBelow (OtherAt s xs n) place) a → r ≡ lesser a (Some b)
    → IsLeastOf (WrongBelow (OtherAt s xs n) (place + 1)) r
other-more s xs n place b block a r is page other old now =
    below-step (OtherAt s xs n) place a (Some b) r old
    (record { wrong = (is, subst (λ p. NamesOther xs p) page other); least = λ c h. (let at = h.0 in omega arith) }) now

pub other-skip : (s : Stored) (xs : List Inode) (n : Inode) (place b : ℕ) (block : List ℕ) (a r : Option ℕ) → b ≡ pointer_to s n place → block ≡ block_at s b → NameAll xs block → IsLeastOf (WrongBelow (OtherAt s xs n) place) a → r ≡ a
    → IsLeastOf (WrongBelow (OtherAt s xs n) (place + 1)) r
other-skip s xs n place b block a r is page all old now =
    subst (λ o. IsLeastOf (WrongBelow (OtherAt s xs n) (place + 1)) o) (sym now)
    (below-skip (OtherAt s xs n) place a old (λ c h.
    let o = h.1 in
    let same : c ≡ b = h.0 ∙ sym is in
    let there : slot_of block o.at ≡ Some o.e = ap (λ (p : List ℕ). slot_of p o.at) (page ∙ ap (λ (k : ℕ). block_at s k) (sym same)) ∙ o.there in
    o.wrong (all o.at o.small o.e there)))

pub other-all : (s : Stored) (xs : List Inode) (n : Inode) (place : ℕ) (r : Option ℕ) → n.kind ≡ 2 → place ≡ count_of n → IsLeastOf (WrongBelow (OtherAt s xs n) place) r → IsLeastOf (HasBadName s xs n) r
other-all s xs n place r two all found = least-same (WrongBelow (OtherAt s xs n) place) (HasBadName s xs n) r
    (λ c h. record { place = h.j; dir = two; inside = (let low = h.low in omega arith); is = h.wrong.0; other = h.wrong.1 })
    (λ c h. record { j = h.place; low = (let inside = h.inside in omega arith); wrong = (h.is, h.other) })
    found

-- ---- slots of a block as they are read

pub slot-good : (xs : List Inode) (block : List ℕ) (at : ℕ) (x : Slot) (t : Bool) → ShowsSlot block at (entry_read block at (Some x)) → MatchBool t (IsNamedBy xs x.inode) (IsNamedBy xs x.inode → ⊥)
    → MatchBool t (NamesRight xs block at) ((e : Entry) × (slot_of block at ≡ Some e) × (IsNamedBy xs e.inode → ⊥))
slot-good xs block at x true h named = λ e there.
    let f = sym (slot-decoded block at (entry_read block at (Some x)) h) ∙ there in
    let same : x.inode ≡ e.inode = cc in
    subst (λ i. IsNamedBy xs i) same named
slot-good xs block at x false h wrong = (record { inode = x.inode; name = window block (272 * at + 16) x.length }, slot-decoded block at (entry_read block at (Some x)) h, wrong)

pub slot-unused : (xs : List Inode) (block : List ℕ) (at : ℕ) → ShowsSlot block at None → NamesRight xs block at
slot-unused xs block at h e there = let f = sym (slot-decoded block at None h) ∙ there in none-entry e f

pub slot-refused : {R : Type 0} (block : List ℕ) (at : ℕ) (e : LayoutRefusal) → IsDirBlock block → at < 15 → wrong_slot block at ≡ Some e → R
slot-refused block at e good small wrong = let n = slot-not_wrong block at _ (good.slots at small) in absurd (cc)

pub dir-seen : (g : Geometry) (s : Stored) (xs : List Inode) (i : ℕ) (d : Inode) → xs ≡ inodes_in g s → i < length xs → AreDirs g s → AreDirBlocks s (get_or xs i d)
dir-seen g s xs i d e l dirs = subst (λ n. AreDirBlocks s n) (sym (inode-seen g s xs i d e l)) (λ two place inside. dirs i place (inode-low g s xs i e l) two inside)

pub block-seen : (s : Stored) (n : Inode) (place b : ℕ) (block : List ℕ) → AreDirBlocks s n → n.kind ≡ 2 → place < count_of n → b ≡ pointer_to s n place → block ≡ block_at s b → IsDirBlock block
block-seen s n place b block dir two inside is page = subst (λ p. IsDirBlock p) (sym (page ∙ ap (λ (c : ℕ). block_at s c) is)) (dir two place inside)
