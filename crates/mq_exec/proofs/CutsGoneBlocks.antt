-- What is looked at before a file is cut: its blocks from that of the first byte that goes on, and the
-- bitmaps of the zones of those that are freed.
use Rattle.std.proofs.Common.{get_or, ◌≡◌, ◌≢◌, ℕ, zero, suc, ◌+◌, ◌/◌, ◌<◌, ◌≤◌, ◌⊎◌, inl, inr, List, [], ◌∷◌, ◌++◌, length, drop, ◌-◌, Bool, true, false, cond, refl, sym, ap, subst, ◌∙◌, arith}
use Rattle.std.specs.Prelude.{Some, None, nat_lt, slice_get}
use Rattle.std.specs.List.{All, Contains}
use Rattle.std.proofs.lemmas.Bool.{le-ltb, lt-ltb, ltb-false, ltb-true}
use Rattle.std.proofs.lemmas.List.{get_or-drop, length-drop}
use Rattle.std.proofs.lemmas.List.Elements.{All-contains, Contains-append_cases, Contains-append_left, Contains-append_right, Contains-get_or}
use Rattle.std.proofs.lemmas.Option.{slice_get-get_or}
use Rattle.mq_blocks.specs.declared.geometry.Geometry.{Geometry}
use Rattle.mq_exec.specs.Cuts.{LooksCut, marks, part, pointer_marks}
use Rattle.mq_exec.specs.Plans.{HoldsPlaces}
use Rattle.mq_exec.specs.Removes.{IsInZones}
use Rattle.mq_exec.proofs.RemovesFreeing.{IsBitmapOf}
use Rattle.mq_inodes.specs.Changes.{zone_in}
use Rattle.mq_inodes.specs.Fits.{Agrees}
use Rattle.mq_inodes.specs.Opened.{HoldsPointers, IsOpened, IsReleasable}
use Rattle.mq_inodes.specs.Pages.{Pages}
use Rattle.mq_inodes.specs.Released.{gone_from}
use Rattle.mq_inodes.specs.declared.opened.Opened.{Opened}
use Rattle.mq_inodes.proofs.EditsBecoming.{carries-sound}
use Rattle.mq_inodes.proofs.PagesHeld.{held-known, meta-held, used-held}
use Rattle.mq_inodes.proofs.OpenedLookups.{opened-pointers}
use Rattle.mq_layout.specs.Places.{zone_bitmap}
use Rattle.mq_tree.specs.Sound.{IsSound, blocks_for}
use Rattle.mq_tree.specs.Volume.{Part, Pointers, Volume, node}
use Rattle.mq_tree.proofs.LaidMaps.{zone-low}

-- ---- the blocks from a place on

-- where a block stands that is one of those
drop-at : (v : Volume) (i n x : ℕ) (blocks : List ℕ) → blocks ≡ (node v i).blocks → Contains (drop n blocks) x → (k : ℕ) × (n ≤ k) × (slice_get (node v i).blocks k ≡ Some x)
drop-at v i n x blocks same (k, l, e) =
    let d = length-drop n blocks in
    let at : get_or blocks (n + k) x ≡ x = sym (get_or-drop n blocks k x) ∙ e in
    (n + k, omega arith, ap (λ (xs : List ℕ). slice_get xs (n + k)) (sym same) ∙ slice_get-get_or blocks (n + k) x (omega arith) ∙ ap (λ (y : ℕ). Some y) at)

at-drop : (n k d : ℕ) (blocks : List ℕ) → n ≤ k → k < length blocks → Contains (drop n blocks) (get_or blocks k d)
at-drop n k d blocks low inside =
    let m = length-drop n blocks in
    let j : n + (k - n) ≡ k = omega arith in
    subst (λ (y : ℕ). Contains (drop n blocks) y) (get_or-drop n blocks (k - n) d ∙ ap (λ (x : ℕ). get_or blocks x d) j) (Contains-get_or (drop n blocks) (k - n) d (omega arith))

-- ---- those that are freed

abbrev IsGone : Volume → (i count x : ℕ) → Type 0
IsGone v i count x = ((k : ℕ) × (count ≤ k) × (slice_get (node v i).blocks k ≡ Some x)) ⊎ ((count ≤ 12) × ((node v i).indirect ≡ Some x))

abbrev gone_pointers : Opened → (many some : Bool) → List ℕ
gone_pointers o many some = cond many [] (cond some (o.inode.indirect ∷ []) [])

gone-pointers : (g : Geometry) (v : Volume) (o : Opened) (count x : ℕ) (many some : Bool) → IsSound g v → IsOpened g v o → nat_lt 12 count ≡ many → nat_lt 12 (length o.blocks.items) ≡ some → Contains (gone_pointers o many some) x → (count ≤ 12) × ((12 < length o.blocks.items) × (o.inode.indirect ≡ x))
gone-pointers g v o count x true some sound is a b (k, l, e) = absurd (omega arith)
gone-pointers g v o count x false true sound is a b (zero, l, e) = (ltb-false 12 count a, (ltb-true 12 (length o.blocks.items) b, e))
gone-pointers g v o count x false true sound is a b (suc k, l, e) = absurd (omega arith)
gone-pointers g v o count x false false sound is a b (k, l, e) = absurd (omega arith)

-- it stands at a place, or is the block of pointers
gone-where : (g : Geometry) (v : Volume) (o : Opened) (count x : ℕ) → IsSound g v → IsOpened g v o → Contains (gone_from o count) x → Contains (drop count o.blocks.items) x ⊎ ((count ≤ 12) × ((12 < length o.blocks.items) × (o.inode.indirect ≡ x)))
gone-where g v o count x sound is c = elim (Contains-append_cases (drop count o.blocks.items) (gone_pointers o (nat_lt 12 count) (nat_lt 12 (length o.blocks.items))) x c) [
  | inl l ↦ inl l
  | inr p ↦ inr (gone-pointers g v o count x (nat_lt 12 count) (nat_lt 12 (length o.blocks.items)) sound is refl refl p)
]

gone-is : (g : Geometry) (v : Volume) (o : Opened) (count x : ℕ) → IsSound g v → IsOpened g v o → Contains (gone_from o count) x → IsGone v o.number count x
gone-is g v o count x sound is c = elim (gone-where g v o count x sound is c) [
  | inl l ↦ inl (drop-at v o.number count x o.blocks.items is.blocks l)
  | inr p ↦ inr (p.0, opened-pointers g v o is p.1.0 ∙ ap (λ (b : ℕ). Some b) p.1.1)
]

gone-zone : (g : Geometry) (v : Volume) (i count x : ℕ) → IsSound g v → IsGone v i count x → IsInZones g x
gone-zone g v i count x sound (inl (k, l, e)) = let z = sound.zones (Part i k) x e in record { high = z.0; home = z.1 }
gone-zone g v i count x sound (inr (l, e)) = let z = sound.zones (Pointers i) x e in record { high = z.0; home = z.1 }

pub gone-zones : (g : Geometry) (v : Volume) (o : Opened) (count : ℕ) (blocks : List ℕ) → IsSound g v → IsOpened g v o → blocks ≡ gone_from o count → All (IsInZones g) blocks
gone-zones g v o count blocks sound is e k d l =
    let x = get_or blocks k d in
    gone-zone g v o.number count x sound (gone-is g v o count x sound is (subst (λ (xs : List ℕ). Contains xs x) e (Contains-get_or blocks k d l)))

-- ---- what is known once all was looked for

-- the bitmaps of the blocks that are freed, and the file's blocks from that of the first byte that goes on
pub record IsCutSought (g : Geometry) (o : Opened) (size : ℕ) (gone bitmaps all : List ℕ) : Type 0 where
  pub gone_is : gone ≡ gone_from o (blocks_for size)
  pub marked : All (λ b. Contains bitmaps (zone_bitmap (zone_in g b))) gone
  pub only : All (IsBitmapOf g gone) bitmaps
  pub all_is : all ≡ bitmaps ++ drop (size / 4096) o.blocks.items

abbrev IsKnown : Pages → List ℕ → Type 0
IsKnown pages all = All (λ b. pages b ≢ None) all

sought-part : (g : Geometry) (o : Opened) (pages : Pages) (size x : ℕ) (gone bitmaps all : List ℕ) → IsCutSought g o size gone bitmaps all → IsKnown pages all → Contains (drop (size / 4096) o.blocks.items) x → pages x ≢ None
sought-part g o pages size x gone bitmaps all s known c = All-contains (λ b. pages b ≢ None) all x known (subst (λ (xs : List ℕ). Contains xs x) (sym s.all_is) (Contains-append_right bitmaps (drop (size / 4096) o.blocks.items) x c))

sought-mark : (g : Geometry) (o : Opened) (pages : Pages) (size x : ℕ) (gone bitmaps all : List ℕ) → IsCutSought g o size gone bitmaps all → IsKnown pages all → Contains gone x → pages (zone_bitmap (zone_in g x)) ≢ None
sought-mark g o pages size x gone bitmaps all s known c =
    let z = zone_bitmap (zone_in g x) in
    All-contains (λ b. pages b ≢ None) all z known (subst (λ (xs : List ℕ). Contains xs z) (sym s.all_is) (Contains-append_left bitmaps (drop (size / 4096) o.blocks.items) z (All-contains (λ b. Contains bitmaps (zone_bitmap (zone_in g b))) gone x s.marked c)))

gone-known : (g : Geometry) (v : Volume) (o : Opened) (pages : Pages) (size x : ℕ) (gone bitmaps all : List ℕ) → IsSound g v → IsOpened g v o → HoldsPointers pages o → IsCutSought g o size gone bitmaps all → IsKnown pages all → Contains (gone_from o (blocks_for size)) x → pages x ≢ None
gone-known g v o pages size x gone bitmaps all sound is pointers s known c = elim (gone-where g v o (blocks_for size) x sound is c) [
  | inl l ↦
      let a = l.1 in
      let m = length-drop (blocks_for size) o.blocks.items in
      let at : get_or o.blocks.items (blocks_for size + l.0) x ≡ x = sym (get_or-drop (blocks_for size) o.blocks.items l.0 x) ∙ l.2 in
      sought-part g o pages size x gone bitmaps all s known (subst (λ (y : ℕ). Contains (drop (size / 4096) o.blocks.items) y) at (at-drop (size / 4096) (blocks_for size + l.0) x o.blocks.items (omega arith) (omega arith)))
  | inr p ↦ subst (λ (y : ℕ). pages y ≢ None) p.1.1 (held-known pages o.inode.indirect (pointers p.1.0))
]

pub gone-release : (g : Geometry) (v : Volume) (o : Opened) (pages : Pages) (size : ℕ) (gone bitmaps all : List ℕ) → Agrees g pages v → IsOpened g v o → HoldsPointers pages o → IsCutSought g o size gone bitmaps all → IsKnown pages all → All (IsReleasable g pages) (gone_from o (blocks_for size))
gone-release g v o pages size gone bitmaps all agrees is pointers s known k d l =
    let x = get_or (gone_from o (blocks_for size)) k d in
    let c = Contains-get_or (gone_from o (blocks_for size)) k d l in
    let z = gone-zone g v o.number (blocks_for size) x agrees.sound (gone-is g v o (blocks_for size) x agrees.sound is c) in
    let low = zone-low g x z.high z.home in
    let m = g.meta_low in
    record {
      marks = record {
        high = z.high;
        home = z.home;
        marks = meta-held g pages v (zone_bitmap (zone_in g x)) agrees.fits (omega arith) (sought-mark g o pages size x gone bitmaps all s known (subst (λ (xs : List ℕ). Contains xs x) (sym s.gone_is) c));
      };
      known = gone-known g v o pages size x gone bitmaps all agrees.sound is pointers s known c;
    }

pub last-held : (g : Geometry) (v : Volume) (o : Opened) (pages : Pages) (size : ℕ) (gone bitmaps all : List ℕ) → Agrees g pages v → IsOpened g v o → IsCutSought g o size gone bitmaps all → IsKnown pages all → HoldsPlaces pages o.blocks.items (size / 4096) (blocks_for size)
last-held g v o pages size gone bitmaps all agrees is s known place low high inside =
    let b = get_or o.blocks.items place 0 in
    used-held g pages v (Part o.number place) b (carries-sound g pages v agrees) (ap (λ (xs : List ℕ). slice_get xs place) (sym is.blocks) ∙ slice_get-get_or o.blocks.items place 0 inside)
    (sought-part g o pages size b gone bitmaps all s known (at-drop (size / 4096) place 0 o.blocks.items low inside))

-- ---- at what was looked

looks-gone : (g : Geometry) (v : Volume) (i size c b : ℕ) → IsGone v i (blocks_for size) c → b ≡ zone_bitmap (zone_in g c) → LooksCut g v i size b
looks-gone g v i size c b (inl (k, l, e)) at = marks k c l e at
looks-gone g v i size c b (inr (l, e)) at = pointer_marks c l e at

pub sought-looks : (g : Geometry) (v : Volume) (o : Opened) (size b : ℕ) (gone bitmaps all : List ℕ) → IsSound g v → IsOpened g v o → IsCutSought g o size gone bitmaps all → Contains all b → LooksCut g v o.number size b
sought-looks g v o size b gone bitmaps all sound is s c = elim (Contains-append_cases bitmaps (drop (size / 4096) o.blocks.items) b (subst (λ (xs : List ℕ). Contains xs b) s.all_is c)) [
  | inl l ↦
      let r = All-contains (IsBitmapOf g gone) bitmaps b s.only l in
      looks-gone g v o.number size r.0 b (gone-is g v o (blocks_for size) r.0 sound is (subst (λ (xs : List ℕ). Contains xs r.0) s.gone_is r.1)) r.2
  | inr own ↦ let r = drop-at v o.number (size / 4096) b o.blocks.items is.blocks own in part r.0 r.1 r.2
]

-- ---- what may be freed

pub gone-drop : (g : Geometry) (pages : Pages) (o : Opened) (count : ℕ) → All (IsReleasable g pages) (gone_from o count) → All (IsReleasable g pages) (drop count o.blocks.items)
gone-drop g pages o count all k d l =
    let x = get_or (drop count o.blocks.items) k d in
    All-contains (IsReleasable g pages) (gone_from o count) x all (Contains-append_left (drop count o.blocks.items) (gone_pointers o (nat_lt 12 count) (nat_lt 12 (length o.blocks.items))) x (Contains-get_or (drop count o.blocks.items) k d l))

pub gone-indirect : (g : Geometry) (pages : Pages) (o : Opened) (count : ℕ) → All (IsReleasable g pages) (gone_from o count) → count ≤ 12 → 12 < length o.blocks.items → IsReleasable g pages o.inode.indirect
gone-indirect g pages o count all few many =
    let p = o.inode.indirect in
    let is : gone_pointers o (nat_lt 12 count) (nat_lt 12 (length o.blocks.items)) ≡ p ∷ [] =
    ap (λ (t : Bool). gone_pointers o t (nat_lt 12 (length o.blocks.items))) (le-ltb 12 count few) ∙ ap (λ (t : Bool). gone_pointers o false t) (lt-ltb 12 (length o.blocks.items) many) in
    let c : Contains (gone_pointers o (nat_lt 12 count) (nat_lt 12 (length o.blocks.items))) p = subst (λ (xs : List ℕ). Contains xs p) (sym is) (zero, omega arith, refl) in
    All-contains (IsReleasable g pages) (gone_from o count) p all (Contains-append_right (drop count o.blocks.items) (gone_pointers o (nat_lt 12 count) (nat_lt 12 (length o.blocks.items))) p c)
