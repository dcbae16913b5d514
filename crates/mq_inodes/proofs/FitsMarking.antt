-- Bitmaps of each volume of which pages may be a part.
use Rattle.std.proofs.Common.{◌≡◌, ℕ, zero, suc, ◌+◌, ◌-◌, ◌*◌, ◌<◌, ◌≤◌, Bool, true, false, cond, List, drop, length, refl, sym, ap, subst, ◌∙◌, arith, drop-cons}
use Rattle.std.specs.Prelude.{MatchOption, Option, Some, None, ◌&&◌}
use Rattle.std.proofs.Math.ListN.{drop_of_length-le}
use Rattle.std.proofs.Math.Nat.{mul-le-mul_right}
use Rattle.std.proofs.lemmas.Bool.{lt-ltb}
use Rattle.mq_blocks.specs.Geometry.{queues_of, zone_size}
use Rattle.mq_blocks.specs.declared.geometry.Geometry.{Geometry}
use Rattle.mq_layout.specs.Bits.{AreSet, IsFirstClear, bit_of}
use Rattle.mq_layout.specs.Places.{inode_bitmap, inodes_of, zone_bitmap}
use Rattle.mq_inodes.specs.Fits.{Agrees}
use Rattle.mq_inodes.specs.Pages.{Pages}
use Rattle.mq_tree.specs.Free.{first_free}
use Rattle.mq_tree.specs.Laid.{ShowsMarks, ShowsRegion, ZoneMarks, inode_marked, region, zone_block, zone_marked}
use Rattle.mq_tree.specs.Volume.{Volume, body, free_node, is_taken, is_used}
use Rattle.mq_tree.proofs.LaidRegions.{region-inode_marks, region-marks}

inodes-shown : (g : Geometry) (pages : Pages) (v : Volume) (b : ℕ) (page : List ℕ) → Agrees g pages v → b ≡ inode_bitmap g → pages b ≡ Some (Some page) → ShowsMarks page (inode_marked v)
inodes-shown g pages v b page agrees is e =
    subst (λ r. ShowsRegion g v (inode_bitmap g) r page) (region-inode_marks g) (agrees.fits.held (inode_bitmap g) page (ap pages (sym is) ∙ e)).1

pub zone-shown : (g : Geometry) (pages : Pages) (v : Volume) (zone b : ℕ) (page : List ℕ) → Agrees g pages v → zone < queues_of g → b ≡ zone_bitmap zone → pages b ≡ Some (Some page) → ShowsMarks page (zone_marked g v zone)
zone-shown g pages v zone b page agrees low is e =
    let r : region g (zone_bitmap zone) ≡ ZoneMarks zone = region-marks g (zone_bitmap zone) (omega arith) (omega arith) ∙ ap (λ (z : ℕ). ZoneMarks z) (let z : 1 + zone - 1 ≡ zone = omega arith in z) in
    subst (λ x. ShowsRegion g v (zone_bitmap zone) x page) r (agrees.fits.held (zone_bitmap zone) page (ap pages (sym is) ∙ e)).1

abbrev as_bit : Bool → ℕ
as_bit t = cond t 1 0

set-bit : (t : Bool) (s : Bool) → as_bit s ≡ as_bit t → s ≡ t
set-bit true true e = refl
set-bit true false e = absurd (omega arith)
set-bit false true e = absurd (omega arith)
set-bit false false e = refl

-- ---- inodes

inode-bit : (v : Volume) (i : ℕ) (page : List ℕ) (set : Bool) → ShowsMarks page (inode_marked v) → i < 32768 → as_bit set ≡ bit_of page i → set ≡ is_used (body v i)
inode-bit v i page set shown low bit = set-bit (is_used (body v i)) set (bit ∙ shown i low)

free-drop : (v : Volume) (i : ℕ) → i < length v → first_free i (drop i v) ≡ cond (is_used (body v i)) (first_free (suc i) (drop (suc i) v)) (Some i)
free-drop v i inside = ap (λ (w : Volume). first_free i w) (drop-cons v i free_node inside)

-- used inodes are passed
free-passed : (v : Volume) (i : ℕ) → i ≤ length v → ((j : ℕ) → j < i → true ≡ is_used (body v j)) → first_free 0 v ≡ first_free i (drop i v)
free-passed v zero inside used = refl
free-passed v (suc i) inside used =
    free-passed v i (omega arith) (λ j low. used j (omega arith)) ∙ free-drop v i (omega arith) ∙ ap (λ (t : Bool). cond t (first_free (suc i) (drop (suc i) v)) (Some i)) (sym (used i (omega arith)))

-- the first bit that is clear is that of the least free inode
pub clear-free : (g : Geometry) (pages : Pages) (v : Volume) (b n : ℕ) (page : List ℕ) (found : Option ℕ) → Agrees g pages v → b ≡ inode_bitmap g → pages b ≡ Some (Some page) → n ≡ inodes_of g
    → MatchOption found (AreSet page 0 n) (IsFirstClear page 0 n) → found ≡ first_free 0 v
clear-free g pages v b n page found agrees is e all first = by found first
  where
    shown : ShowsMarks page (inode_marked v)
    shown = inodes-shown g pages v b page agrees is e

    count : length v ≡ n
    count = agrees.sound.count ∙ sym all

    used : (end : ℕ) → end ≤ n → AreSet page 0 end → (j : ℕ) → j < end → true ≡ is_used (body v j)
    used end inside set j low = inode-bit v j page true shown (omega arith) (sym (set j (omega arith) low))

    by : (o : Option ℕ) → MatchOption o (AreSet page 0 n) (IsFirstClear page 0 n) → o ≡ first_free 0 v
    by None set = sym (free-passed v n (omega (arith, count)) (used n (omega arith) set) ∙ ap (λ (w : Volume). first_free n w) (drop_of_length-le v (omega (arith, count))))
    by (Some k) f =
        let free = inode-bit v k page false shown (omega (arith, f.inside)) (sym f.clear) in
        sym (free-passed v k (omega (arith, f.inside, count)) (used k (omega (arith, f.inside)) f.before) ∙ free-drop v k (omega (arith, f.inside, count)) ∙ ap (λ (t : Bool). cond t (first_free (suc k) (drop (suc k) v)) (Some k)) (sym free))

-- ---- blocks of a zone

pub zone-small : (g : Geometry) (k : ℕ) → k < zone_size g → k < 32768
zone-small g k inside =
    let h = g.homes_high in
    let m : 1 * zone_size g ≤ queues_of g * zone_size g = mul-le-mul_right (zone_size g) g.queues_low in
    omega arith

-- a bit says whether its block is taken
marks-bit : (g : Geometry) (v : Volume) (zone k : ℕ) (page : List ℕ) (set : Bool) → ShowsMarks page (zone_marked g v zone) → k < zone_size g → as_bit set ≡ bit_of page k → set ≡ is_taken v (zone_block g zone 0 + k)
marks-bit g v zone k page set shown inside bit =
    let here : zone_block g zone k ≡ zone_block g zone 0 + k = omega arith in
    set-bit (zone_marked g v zone k) set (bit ∙ shown k (zone-small g k inside)) ∙ ap (λ (t : Bool). t && is_taken v (zone_block g zone k)) (lt-ltb k (zone_size g) inside) ∙ ap (is_taken v) here

-- the block of a bit that is clear is free
pub marks-clear : (g : Geometry) (v : Volume) (zone k : ℕ) (page : List ℕ) → ShowsMarks page (zone_marked g v zone) → k < zone_size g → bit_of page k ≡ 0 → false ≡ is_taken v (zone_block g zone 0 + k)
marks-clear g v zone k page shown inside clear = marks-bit g v zone k page false shown inside (sym clear)

-- those of bits that are set are taken
pub marks-set : (g : Geometry) (v : Volume) (zone from end : ℕ) (page : List ℕ) → ShowsMarks page (zone_marked g v zone) → end ≤ zone_size g → AreSet page from end → (k : ℕ) → from ≤ k → k < end → true ≡ is_taken v (zone_block g zone 0 + k)
marks-set g v zone from end page shown inside set k low high = marks-bit g v zone k page true shown (omega arith) (sym (set k low high))
