-- Where one inode changes, the volume shows the same at all blocks that are not its own.
use Rattle.std.proofs.Common.{◌≡◌, ◌≢◌, ℕ, zero, suc, ◌+◌, ◌*◌, ◌≤◌, inl, inr, List, [], ◌∷◌, Bool, true, false, refl, sym, ap, subst, ◌∙◌, arith}
use Rattle.std.specs.Prelude.{Some, ◌↔◌, slice_get}
use Rattle.std.proofs.lemmas.Bool.{cases_eq, false_from_ne_true, or_left, true≢false}
use Rattle.std.proofs.lemmas.Option.{none-some}
use Rattle.mq_blocks.specs.Geometry.{homes_of}
use Rattle.mq_blocks.specs.Journal.{is_among}
use Rattle.mq_blocks.specs.declared.geometry.Geometry.{Geometry}
use Rattle.mq_inodes.specs.Changes.{AreOthers, ChangesAt, IsKept, SameAt, owner}
use Rattle.mq_inodes.proofs.ChangesRegions.{Lies, at_super, at_marks, at_inode_marks, at_table, at_zone, at_outside, lies, same-super, same-marks, same-inode_marks, same-table, same-zone, same-outside}
use Rattle.mq_layout.specs.Places.{inode_bitmap, inode_block, zone_bitmap}
use Rattle.mq_tree.specs.Laid.{ShowsUse, ShowsZone, inode_of, zone_block}
use Rattle.mq_tree.specs.Volume.{Node, Use, Part, Pointers, Volume, block_in, body, has_block, is_taken, is_used, node}
use Rattle.mq_tree.proofs.Decoded.{taken-use}
use Rattle.mq_tree.specs.Uses.{AreUses}
use Rattle.mq_tree.proofs.LaidUses.{has-taken, use-has, use-taken}

-- ---- uses

-- a block of an inode is used for it
pub has-use : (v : Volume) (i b : ℕ) → has_block (node v i) b ≡ true → (u : Use) × (owner u ≡ i) × (block_in v u ≡ Some b)
has-use v i b h =
    let r = taken-use (node v i ∷ []) b (or_left (has_block (node v i) b) false h) in
    found r.0 r.1
  where
    found : (u : Use) → block_in (node v i ∷ []) u ≡ Some b → (x : Use) × (owner x ≡ i) × (block_in v x ≡ Some b)
    found (Part zero k) e = (Part i k, refl, e)
    found (Part (suc j) k) e = absurd (none-some b e)
    found (Pointers zero) e = (Pointers i, refl, e)
    found (Pointers (suc j)) e = absurd (none-some b e)

pub owner-has : (v : Volume) (u : Use) (b : ℕ) → block_in v u ≡ Some b → has_block (node v (owner u)) b ≡ true
owner-has v (Part i k) b e = use-has (node v i) b (inl (k, e))
owner-has v (Pointers i) b e = use-has (node v i) b (inr e)

pub same-bool : (x y : Bool) → (x ≡ true → y ≡ true) → (y ≡ true → x ≡ true) → x ≡ y
same-bool true y f h = sym (f refl)
same-bool false true f h = h refl
same-bool false false f h = refl

-- an inode whose node is the same uses the same blocks in the same way
pub use-along : (v w : Volume) (u : Use) (b : ℕ) → node w (owner u) ≡ node v (owner u) → block_in v u ≡ Some b → block_in w u ≡ Some b
use-along v w (Part i k) b e h = ap (λ (n : Node). slice_get n.blocks k) e ∙ h
use-along v w (Pointers i) b e h = ap (λ (n : Node). n.indirect) e ∙ h

shows-along : (v w : Volume) (u : Use) (page : List ℕ) → node w (owner u) ≡ node v (owner u) → ShowsUse v u page → ShowsUse w u page
shows-along v w (Part i k) page e s = subst (λ n. ShowsUse (n ∷ []) (Part 0 k) page) (sym e) s
shows-along v w (Pointers i) page e s = subst (λ n. ShowsUse (n ∷ []) (Pointers 0) page) (sym e) s

-- ---- one inode changes

pub others-back : (v w : Volume) (i : ℕ) → AreOthers v w i → AreOthers w v i
others-back v w i o x other = sym (o x other)

taken-from : (v w : Volume) (i b : ℕ) → AreOthers v w i → has_block (node v i) b ≡ has_block (node w i) b → is_taken v b ≡ true → is_taken w b ≡ true
taken-from v w i b o same t =
    let r = taken-use v b t in
    elim (cases_eq (owner r.0) i) [
      | inl own ↦ has-taken w i b (sym same ∙ ap (λ (j : ℕ). has_block (node v j) b) (sym own) ∙ owner-has v r.0 b r.1)
      | inr other ↦ use-taken w r.0 b (use-along v w r.0 b (o (owner r.0) other) r.1)
    ]

-- what the inode has in both volumes, or in none, is taken in both or in none
pub taken-same : (v w : Volume) (i b : ℕ) → AreOthers v w i → has_block (node v i) b ≡ has_block (node w i) b → is_taken v b ≡ is_taken w b
taken-same v w i b o same = same-bool _ _ (taken-from v w i b o same) (taken-from w v i b (others-back v w i o) (sym same))

used-same : (v w : Volume) (i : ℕ) → AreOthers v w i → is_used (body v i) ≡ is_used (body w i) → (x : ℕ) → is_used (body v x) ≡ is_used (body w x)
used-same v w i o same x = elim (cases_eq x i) [
  | inl e ↦ ap (λ (y : ℕ). is_used (body v y)) e ∙ same ∙ ap (λ (y : ℕ). is_used (body w y)) (sym e)
  | inr other ↦ ap (λ (n : Node). is_used n.body) (sym (o x other))
]

-- a block that the inode does not have
zone-from : (v w : Volume) (i b : ℕ) (page : List ℕ) → AreOthers v w i → has_block (node v i) b ≡ false → ShowsZone v b page → ShowsZone w b page
zone-from v w i b page o lacks s =
    let other : owner s.purpose ≢ i = λ e. true≢false (sym (owner-has v s.purpose b s.is) ∙ ap (λ (j : ℕ). has_block (node v j) b) e ∙ lacks) in
    let same = o (owner s.purpose) other in
    record { purpose = s.purpose; is = use-along v w s.purpose b same s.is; shows = shows-along v w s.purpose page same s.shows }

zone-other : (v w : Volume) (i b : ℕ) → AreOthers v w i → has_block (node v i) b ≡ false → has_block (node w i) b ≡ false → (page : List ℕ) → ShowsZone v b page ↔ ShowsZone w b page
zone-other v w i b o lacks none page = (zone-from v w i b page o lacks, zone-from w v i b page (others-back v w i o) none)

-- what a block of a known use shows
pub zone-use : (g : Geometry) (v : Volume) (u : Use) (b : ℕ) (page : List ℕ) → AreUses g v → block_in v u ≡ Some b → ShowsZone v b page → ShowsUse v u page
zone-use g v u b page uses e s = subst (λ x. ShowsUse v x page) (uses.apart s.purpose u b s.is e) s.shows

zone-kept : (g : Geometry) (v w : Volume) (b : ℕ) → AreUses g v → AreUses g w → IsKept v w b → (page : List ℕ) → ShowsZone v b page ↔ ShowsZone w b page
zone-kept g v w b uses fine k page = (
  λ s. record { purpose = k.purpose; is = k.after; shows = (k.shows page).0 (zone-use g v k.purpose b page uses k.before s) },
  λ s. record { purpose = k.purpose; is = k.before; shows = (k.shows page).1 (zone-use g w k.purpose b page fine k.after s) },
)

-- ---- the frame

inode-at : (v w : Volume) (i k : ℕ) → AreOthers v w i → (k ≡ i → inode_of (node v i) ≡ inode_of (node w i)) → inode_of (node v k) ≡ inode_of (node w k)
inode-at v w i k o same = elim (cases_eq k i) [
  | inl e ↦ ap (λ (x : ℕ). inode_of (node v x)) e ∙ same e ∙ ap (λ (x : ℕ). inode_of (node w x)) (sym e)
  | inr other ↦ ap inode_of (sym (o k other))
]

no-block : (g : Geometry) (v : Volume) (i b : ℕ) → AreUses g v → homes_of g ≤ b → has_block (node v i) b ≡ false
no-block g v i b uses out = false_from_ne_true _ (λ h. let r = has-use v i b h in let z = (uses.zones r.0 b r.2).1 in absurd (omega arith))

-- at each block but these the volumes show the same
pub frame : (g : Geometry) (v w : Volume) (i : ℕ) (blocks : List ℕ) → AreUses g v → AreUses g w → ChangesAt g v w i blocks → (b : ℕ) → is_among b blocks ≡ false → SameAt g v w b
frame g v w i blocks uses fine c b out = at (lies g b)
  where
    o : AreOthers v w i
    o = c.others

    at : Lies g b → SameAt g v w b
    at (at_super e) = subst (λ x. SameAt g v w x) (sym e) (same-super g v w)
    at (at_marks zone low e) =
        let h : is_among (zone_bitmap zone) blocks ≡ false = ap (λ (x : ℕ). is_among x blocks) (sym e) ∙ out in
        subst (λ x. SameAt g v w x) (sym e) (same-marks g v w zone low (λ k l. taken-same v w i (zone_block g zone k) o (c.marks zone k low l h)))
    at (at_inode_marks e) =
        let h : is_among (inode_bitmap g) blocks ≡ false = ap (λ (x : ℕ). is_among x blocks) (sym e) ∙ out in
        subst (λ x. SameAt g v w x) (sym e) (same-inode_marks g v w (used-same v w i o (c.inode_marks h)))
    at (at_table block low e) =
        subst (λ x. SameAt g v w x) (sym e) (same-table g v w block low (λ k l. inode-at v w i (32 * block + k) o (λ same.
        let place : inode_block g i ≡ b = omega arith in
        c.table (ap (λ (x : ℕ). is_among x blocks) place ∙ out))))
    at (at_zone high home) = elim (c.own b out) [
      | inl lacks ↦ same-zone g v w b high home (taken-same v w i b o (lacks.0 ∙ sym lacks.1)) (zone-other v w i b o lacks.0 lacks.1)
      | inr k ↦ same-zone g v w b high home (use-taken v k.purpose b k.before ∙ sym (use-taken w k.purpose b k.after)) (zone-kept g v w b uses fine k)
    ]
    at (at_outside past) = same-outside g v w b past (taken-same v w i b o (no-block g v i b uses past ∙ sym (no-block g w i b fine past)))
