-- What is looked at before an inode is freed: its blocks, and the bitmaps of their zones.
use Rattle.std.proofs.Common.{get_or, ◌≡◌, ◌≢◌, ℕ, ◌+◌, ◌<◌, ◌≤◌, ◌⊎◌, Bool, true, false, cond, List, [], ◌∷◌, ◌++◌, length, take, refl, sym, ap, subst, ◌∙◌, arith, inl, inr}
use Rattle.std.specs.Prelude.{Some, None, nat_lt}
use Rattle.std.specs.List.{All, Contains}
use Rattle.std.proofs.lemmas.Bool.{lt-ltb, ltb-true}
use Rattle.std.proofs.lemmas.List.{take_all}
use Rattle.std.proofs.lemmas.List.Elements.{All-contains, All-more, All-nil, All-weaker, Contains-append_cases, Contains-append_left, Contains-append_right, Contains-get_or, Contains-push, Contains-push_cases}
use Rattle.mq_blocks.specs.declared.geometry.Geometry.{Geometry}
use Rattle.mq_exec.specs.Plans.{MayRelease}
use Rattle.mq_exec.specs.Removes.{IsInZones, LooksFreed, owned}
use Rattle.mq_inodes.specs.Changes.{zone_in}
use Rattle.mq_inodes.specs.Fits.{Agrees}
use Rattle.mq_inodes.specs.Opened.{IsOpened, IsReleasable}
use Rattle.mq_inodes.specs.Pages.{IsHeld, Pages}
use Rattle.mq_inodes.specs.declared.opened.Opened.{Opened}
use Rattle.mq_inodes.proofs.Dirs.{blocks-has, pointers-has}
use Rattle.mq_inodes.proofs.PagesHeld.{meta-held}
use Rattle.mq_inodes.proofs.ChangesFrame.{has-use}
use Rattle.mq_inodes.proofs.OpenedLookups.{opened-pointers}
use Rattle.mq_layout.specs.Places.{inode_bitmap, zone_bitmap}
use Rattle.mq_tree.specs.Sound.{IsSound}
use Rattle.mq_tree.specs.Volume.{Volume, has_block, node}
use Rattle.mq_tree.proofs.LaidMaps.{zone-low}

-- ---- the bitmaps of blocks

abbrev pub IsBitmapOf : Geometry → List ℕ → ℕ → Type 0
IsBitmapOf g blocks x = (b : ℕ) × Contains blocks b × (x ≡ zone_bitmap (zone_in g b))

-- of the first k blocks
pub record AreBitmaps (g : Geometry) (blocks bitmaps : List ℕ) (k : ℕ) : Type 0 where
  pub all : All (λ b. Contains bitmaps (zone_bitmap (zone_in g b))) (take k blocks)
  pub only : (x : ℕ) → Contains bitmaps x → IsBitmapOf g blocks x

pub bitmaps-start : (g : Geometry) (blocks bitmaps : List ℕ) → bitmaps ≡ [] → AreBitmaps g blocks bitmaps 0
bitmaps-start g blocks bitmaps e = subst (λ (xs : List ℕ). AreBitmaps g blocks xs 0) (sym e) (record { all = All-nil (λ b. Contains [] (zone_bitmap (zone_in g b))); only = λ x c. absurd (let l = c.1 in omega arith) })

pub bitmaps-more : (g : Geometry) (blocks old new : List ℕ) (k b z : ℕ) → k < length blocks → b ≡ get_or blocks k b → z ≡ zone_bitmap (zone_in g b) → Contains new z → ((x : ℕ) → Contains old x → Contains new x) → ((x : ℕ) → Contains new x → Contains old x ⊎ (x ≡ z))
    → AreBitmaps g blocks old k → AreBitmaps g blocks new (k + 1)
bitmaps-more g blocks old new k b z l at is there kept only h = record {
  all =
      All-more (λ x. Contains new (zone_bitmap (zone_in g x))) blocks k b l (All-weaker (λ x. Contains old (zone_bitmap (zone_in g x))) (λ x. Contains new (zone_bitmap (zone_in g x))) (λ x c. kept (zone_bitmap (zone_in g x)) c) (take k blocks) h.all)
      (subst (λ (x : ℕ). Contains new (zone_bitmap (zone_in g x))) at (subst (λ (x : ℕ). Contains new x) is there));
  only = λ x c. elim (only x c) [
    | inl o ↦ h.only x o
    | inr e ↦ (b, (k, l, sym at), e ∙ is)
  ];
}

pub bitmaps-all : (g : Geometry) (blocks bitmaps : List ℕ) (k : ℕ) → length blocks ≤ k → AreBitmaps g blocks bitmaps k → All (λ b. Contains bitmaps (zone_bitmap (zone_in g b))) blocks
bitmaps-all g blocks bitmaps k l h = subst (λ (xs : List ℕ). All (λ b. Contains bitmaps (zone_bitmap (zone_in g b))) xs) (take_all k blocks l) h.all

pub bitmaps-only : (g : Geometry) (blocks bitmaps : List ℕ) (k : ℕ) → AreBitmaps g blocks bitmaps k → All (IsBitmapOf g blocks) bitmaps
bitmaps-only g blocks bitmaps k h j d l = h.only (get_or bitmaps j d) (Contains-get_or bitmaps j d l)

-- ---- the blocks of an inode

abbrev owned_when : Opened → Bool → List ℕ
owned_when o many = cond many (o.blocks.items ++ o.inode.indirect ∷ []) o.blocks.items

owned-few : (o : Opened) (x : ℕ) → Contains o.blocks.items x → Contains (owned o) x
owned-few o x c = go (nat_lt 12 (length o.blocks.items))
  where
    go : (many : Bool) → Contains (owned_when o many) x
    go true = Contains-append_left o.blocks.items (o.inode.indirect ∷ []) x c
    go false = c

owned-pointers : (o : Opened) → 12 < length o.blocks.items → Contains (owned o) o.inode.indirect
owned-pointers o many = subst (λ (t : Bool). Contains (owned_when o t) o.inode.indirect) (sym (lt-ltb 12 (length o.blocks.items) many)) (Contains-push o.blocks.items o.inode.indirect)

owned-has : (g : Geometry) (v : Volume) (o : Opened) (x : ℕ) → IsSound g v → IsOpened g v o → Contains (owned o) x → has_block (node v o.number) x ≡ true
owned-has g v o x sound is c = go (nat_lt 12 (length o.blocks.items)) refl c
  where
    go : (many : Bool) → nat_lt 12 (length o.blocks.items) ≡ many → Contains (owned_when o many) x → has_block (node v o.number) x ≡ true
    go true e h = elim (Contains-push_cases o.blocks.items o.inode.indirect x h) [
      | inl l ↦ blocks-has (node v o.number) o.blocks.items x is.blocks l
      | inr at ↦ pointers-has (node v o.number) x (opened-pointers g v o is (ltb-true 12 (length o.blocks.items) e) ∙ ap (λ (b : ℕ). Some b) at)
    ]
    go false e h = blocks-has (node v o.number) o.blocks.items x is.blocks h

has-zones : (g : Geometry) (v : Volume) (i b : ℕ) → IsSound g v → has_block (node v i) b ≡ true → IsInZones g b
has-zones g v i b sound has =
    let u = has-use v i b has in
    let z = sound.zones u.0 b u.2 in
    record { high = z.0; home = z.1 }

pub owned-zones : (g : Geometry) (v : Volume) (o : Opened) (blocks : List ℕ) → IsSound g v → IsOpened g v o → blocks ≡ owned o → All (IsInZones g) blocks
owned-zones g v o blocks sound is e =
    subst (λ (bs : List ℕ). All (IsInZones g) bs) (sym e) (λ k d l. has-zones g v o.number (get_or (owned o) k d) sound (owned-has g v o (get_or (owned o) k d) sound is (Contains-get_or (owned o) k d l)))

-- ---- what is known once all was looked for

record IsAllKnown (g : Geometry) (pages : Pages) (o : Opened) : Type 0 where
  blocks : (x : ℕ) → Contains (owned o) x → pages x ≢ None
  bitmaps : (x : ℕ) → Contains (owned o) x → pages (zone_bitmap (zone_in g x)) ≢ None

released : (g : Geometry) (pages : Pages) (v : Volume) (o : Opened) (x : ℕ) → Agrees g pages v → IsOpened g v o → IsAllKnown g pages o → Contains (owned o) x → IsReleasable g pages x
released g pages v o x agrees is k c =
    let z = has-zones g v o.number x agrees.sound (owned-has g v o x agrees.sound is c) in
    let low = zone-low g x z.high z.home in
    let m = g.meta_low in
    record {
      marks = record { high = z.high; home = z.home; marks = meta-held g pages v (zone_bitmap (zone_in g x)) agrees.fits (omega arith) (k.bitmaps x c) };
      known = k.blocks x c;
    }

abbrev pub all_of : Geometry → (bitmaps blocks : List ℕ) → List ℕ
all_of g bitmaps blocks = (bitmaps ++ inode_bitmap g ∷ []) ++ blocks

pub may-release : (g : Geometry) (pages : Pages) (v : Volume) (o : Opened) (bitmaps blocks all : List ℕ) → Agrees g pages v → IsOpened g v o → blocks ≡ owned o → All (λ b. Contains bitmaps (zone_bitmap (zone_in g b))) blocks → all ≡ all_of g bitmaps blocks → All (λ b. pages b ≢ None) all → MayRelease g pages o
may-release g pages v o bitmaps blocks all agrees is e marks f known = record {
  blocks = λ j d l. released g pages v o (get_or o.blocks.items j d) agrees is k (owned-few o (get_or o.blocks.items j d) (Contains-get_or o.blocks.items j d l));
  pointers = λ many. released g pages v o o.inode.indirect agrees is k (owned-pointers o many);
}
  where
    there : (x : ℕ) → Contains (all_of g bitmaps blocks) x → pages x ≢ None
    there x c = All-contains (λ b. pages b ≢ None) all x known (subst (λ (xs : List ℕ). Contains xs x) (sym f) c)

    inside : (x : ℕ) → Contains (owned o) x → Contains blocks x
    inside x c = subst (λ (xs : List ℕ). Contains xs x) (sym e) c

    k : IsAllKnown g pages o
    k = record {
      blocks = λ x c. there x (Contains-append_right (bitmaps ++ inode_bitmap g ∷ []) blocks x (inside x c));
      bitmaps = λ x c.
          there (zone_bitmap (zone_in g x)) (Contains-append_left (bitmaps ++ inode_bitmap g ∷ []) blocks (zone_bitmap (zone_in g x)) (Contains-append_left bitmaps (inode_bitmap g ∷ []) (zone_bitmap (zone_in g x))
          (All-contains (λ b. Contains bitmaps (zone_bitmap (zone_in g b))) blocks x marks (inside x c))));
    }

pub marks-held : (g : Geometry) (pages : Pages) (v : Volume) (bitmaps blocks all : List ℕ) → Agrees g pages v → all ≡ all_of g bitmaps blocks → All (λ b. pages b ≢ None) all → IsHeld pages (inode_bitmap g)
marks-held g pages v bitmaps blocks all agrees f known =
    let m = g.meta_low in
    meta-held g pages v (inode_bitmap g) agrees.fits (omega arith) (All-contains (λ b. pages b ≢ None) all (inode_bitmap g) known
    (subst (λ (xs : List ℕ). Contains xs (inode_bitmap g)) (sym f) (Contains-append_left (bitmaps ++ inode_bitmap g ∷ []) blocks (inode_bitmap g) (Contains-push bitmaps (inode_bitmap g)))))

pub all-looked : (g : Geometry) (v : Volume) (o : Opened) (bitmaps blocks all : List ℕ) (x : ℕ) → IsSound g v → IsOpened g v o → blocks ≡ owned o → All (IsBitmapOf g blocks) bitmaps → all ≡ all_of g bitmaps blocks → Contains all x → LooksFreed g v o.number x
all-looked g v o bitmaps blocks all x sound is e only f c =
    elim (Contains-append_cases (bitmaps ++ inode_bitmap g ∷ []) blocks x (subst (λ (xs : List ℕ). Contains xs x) f c)) [
      | inl l ↦ elim (Contains-push_cases bitmaps (inode_bitmap g) x l) [
        | inl among ↦ let r = All-contains (IsBitmapOf g blocks) bitmaps x only among in inr (inr (r.0, owned-has g v o r.0 sound is (subst (λ (xs : List ℕ). Contains xs r.0) e r.1), r.2))
        | inr at ↦ inl (sym at)
      ]
      | inr own ↦ inr (inl (owned-has g v o x sound is (subst (λ (xs : List ℕ). Contains xs x) e own)))
    ]
