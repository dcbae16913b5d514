-- A volume has at most one page at a block.
use Rattle.std.proofs.Common.{get_or, ◌≡◌, ℕ, ◌+◌, ◌*◌, ◌<◌, ◌≤◌, List, Bool, true, sym, ap, ◌∙◌, arith}
use Rattle.std.specs.Prelude.{None}
use Rattle.std.proofs.lemmas.Bool.{true≢false}
use Rattle.std.proofs.lemmas.Grind.{same_number_lists}
use Rattle.mq_blocks.specs.Geometry.{meta_of}
use Rattle.mq_blocks.specs.declared.geometry.Geometry.{Geometry}
use Rattle.mq_inodes.proofs.ChangesFrame.{zone-use}
use Rattle.mq_inodes.proofs.ChangesRegions.{Lies, at_super, at_marks, at_inode_marks, at_table, at_zone, at_outside, lies, shown-in, zone-marks-region}
use Rattle.mq_layout.proofs.BitsPages.{bitmap-same, directory-same, pointers-same, table-same}
use Rattle.mq_tree.specs.Laid.{InodeMarks, IsPage, IsVacant, Outside, ShowsPage, ShowsMarks, ShowsPart, ShowsTable, ShowsUse, ShowsZone, Super, Table, Zone, ZoneMarks, inode_marked, inode_of, region, zone_marked}
use Rattle.mq_tree.specs.Volume.{Body, Free, File, Dir, Use, Part, Pointers, Volume, is_taken, body, node}
use Rattle.mq_tree.specs.Uses.{AreUses}
use Rattle.mq_tree.proofs.LaidRegions.{region-inode_marks, region-outside, region-table, region-zone}
use Rattle.mq_tree.proofs.LaidUses.{use-taken}

marks-once : (p q : List ℕ) (f : ℕ → Bool) → IsPage p → IsPage q → ShowsMarks p f → ShowsMarks q f → p ≡ q
marks-once p q f a b s t = bitmap-same p q a.whole b.whole a.bytes b.bytes (λ k l. s k l ∙ sym (t k l))

table-once : (v : Volume) (block : ℕ) (p q : List ℕ) → IsPage p → IsPage q → ShowsTable v block p → ShowsTable v block q → p ≡ q
table-once v block p q a b s t = table-same p q a.whole b.whole (λ k l. (inode_of (node v (32 * block + k)), s k l, t k l))

part-once : (x : Body) (place : ℕ) (p q : List ℕ) → IsPage p → IsPage q → ShowsPart x place p → ShowsPart x place q → p ≡ q
part-once Free place p q a b s t = absurd s
part-once (File bytes) place p q a b s t =
    let m = a.whole in
    same_number_lists p q (a.whole ∙ sym b.whole) (λ k l. let low : k < 4096 = omega arith in s k low ∙ sym (t k low))
part-once (Dir slots) place p q a b s t = directory-same p q a.whole b.whole s.1 t.1 (λ k l. (get_or slots (15 * place + k) None, s.0 k l, t.0 k l))

use-once : (v : Volume) (u : Use) (p q : List ℕ) → IsPage p → IsPage q → ShowsUse v u p → ShowsUse v u q → p ≡ q
use-once v (Part i place) p q a b s t = part-once (body v i) place p q a b s t
use-once v (Pointers i) p q a b s t = pointers-same p q a.whole b.whole a.bytes b.bytes (λ k l. s k l ∙ sym (t k l))

pub page-once : (g : Geometry) (v : Volume) (b : ℕ) (p q : List ℕ) → AreUses g v → ShowsPage g v b p → ShowsPage g v b q → p ≡ q
page-once g v b p q uses s t = at (lies g b)
  where
    at : Lies g b → p ≡ q
    at (at_super e) =
        let r : region g b ≡ Super = ap (λ (x : ℕ). region g x) e in
        shown-in g v b Super p r s ∙ sym (shown-in g v b Super q r t)
    at (at_marks zone low e) =
        let r : region g b ≡ ZoneMarks zone = ap (λ (x : ℕ). region g x) e ∙ zone-marks-region g zone low in
        marks-once p q (zone_marked g v zone) s.0 t.0 (shown-in g v b (ZoneMarks zone) p r s) (shown-in g v b (ZoneMarks zone) q r t)
    at (at_inode_marks e) =
        let r : region g b ≡ InodeMarks = ap (λ (x : ℕ). region g x) e ∙ region-inode_marks g in
        marks-once p q (inode_marked v) s.0 t.0 (shown-in g v b InodeMarks p r s) (shown-in g v b InodeMarks q r t)
    at (at_table block low e) =
        let r : region g b ≡ Table block = ap (λ (x : ℕ). region g x) e ∙ region-table g block low in
        table-once v block p q s.0 t.0 (shown-in g v b (Table block) p r s) (shown-in g v b (Table block) q r t)
    at (at_zone high home) =
        let r = region-zone g b high home in
        let x : ShowsZone v b p = shown-in g v b Zone p r s in
        let y : ShowsZone v b q = shown-in g v b Zone q r t in
        use-once v x.purpose p q s.0 t.0 x.shows (zone-use g v x.purpose b q uses x.is y)
    at (at_outside out) = absurd (shown-in g v b Outside p (region-outside g b out) s)

-- a block of the zones with a page is taken
pub shown-taken : (g : Geometry) (v : Volume) (b : ℕ) (page : List ℕ) → meta_of g ≤ b → ShowsPage g v b page → is_taken v b ≡ true
shown-taken g v b page high s = at (lies g b)
  where
    at : Lies g b → is_taken v b ≡ true
    at (at_super e) = let m = g.meta_low in absurd (omega arith)
    at (at_marks zone low e) = let m = g.meta_low in absurd (omega arith)
    at (at_inode_marks e) = let m = g.meta_low in absurd (omega arith)
    at (at_table block low e) = absurd (omega arith)
    at (at_zone above home) = let x : ShowsZone v b page = shown-in g v b Zone page (region-zone g b above home) s in use-taken v x.purpose b x.is
    at (at_outside out) = absurd (shown-in g v b Outside page (region-outside g b out) s)

pub shown-vacant : (g : Geometry) (v : Volume) (b : ℕ) (page : List ℕ) → ShowsPage g v b page → IsVacant g v b → ⊥
shown-vacant g v b page s free = true≢false (sym (shown-taken g v b page free.0 s) ∙ free.1)
