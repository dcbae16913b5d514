-- Volumes that show the same in a region of the home blocks.
use Rattle.std.proofs.Common.{◌≡◌, ℕ, ◌+◌, ◌-◌, ◌*◌, ◌<◌, ◌≤◌, inl, inr, List, Bool, refl, sym, ap, subst, ◌∙◌, arith}
use Rattle.std.specs.Prelude.{◌↔◌, ◌&&◌, nat_lt, if◌then◌else◌}
use Rattle.std.proofs.lemmas.Bool.{and_left, cases_eq, cases_lt, le-ltb}
use Rattle.mq_blocks.specs.Geometry.{homes_of, meta_of, queues_of, zone_size}
use Rattle.mq_blocks.specs.declared.geometry.Geometry.{Geometry}
use Rattle.mq_inodes.specs.Changes.{SameAt}
use Rattle.mq_layout.specs.Inodes.{ShowsInode}
use Rattle.mq_layout.specs.Places.{inode_bitmap, table_first, zone_bitmap}
use Rattle.mq_tree.specs.Laid.{InodeMarks, IsPage, Outside, Region, ShowsPage, ShowsMarks, ShowsRegion, ShowsTable, ShowsZone, Super, Table, Zone, ZoneMarks, inode_of, region, zone_block, zone_marked}
use Rattle.mq_tree.specs.Volume.{Volume, body, is_taken, is_used, node}
use Rattle.mq_tree.proofs.LaidRegions.{region-inode_marks, region-marks, region-outside, region-table, region-zone}

-- ---- the same pages

pub same-self : (g : Geometry) (v : Volume) (b : ℕ) → SameAt g v v b
same-self g v b = record { shows = λ page. (λ s. s, λ s. s); vacant = (λ s. s, λ s. s) }

pub same-then : (g : Geometry) (v u w : Volume) (b : ℕ) → SameAt g v u b → SameAt g u w b → SameAt g v w b
same-then g v u w b s t = record {
  shows = λ page. (λ x. (t.shows page).0 ((s.shows page).0 x), λ x. (s.shows page).1 ((t.shows page).1 x));
  vacant = (λ x. t.vacant.0 (s.vacant.0 x), λ x. s.vacant.1 (t.vacant.1 x));
}

-- ---- regions

-- where a block lies
pub data Lies (g : Geometry) (b : ℕ) : Type 0 where
  at_super : b ≡ 0 → Lies g b
  at_marks : (zone : ℕ) → zone < queues_of g → b ≡ zone_bitmap zone → Lies g b
  at_inode_marks : b ≡ inode_bitmap g → Lies g b
  at_table : (block : ℕ) → table_first g + block < meta_of g → b ≡ table_first g + block → Lies g b
  at_zone : meta_of g ≤ b → b < homes_of g → Lies g b
  at_outside : homes_of g ≤ b → Lies g b

pub lies : (g : Geometry) (b : ℕ) → Lies g b
lies g b = elim (cases_eq b 0) [
  | inl e ↦ at_super e
  | inr some ↦ elim (cases_lt (queues_of g) b) [
    | inr few ↦ at_marks (b - 1) (omega arith) (omega arith)
    | inl past ↦ elim (cases_eq b (inode_bitmap g)) [
      | inl e ↦ at_inode_marks e
      | inr other ↦ elim (cases_lt b (meta_of g)) [
        | inl low ↦ at_table (b - table_first g) (omega arith) (omega arith)
        | inr high ↦ elim (cases_lt b (homes_of g)) [
          | inl home ↦ at_zone high home
          | inr out ↦ at_outside out
        ]
      ]
    ]
  ]
]

-- what is shown in a region is shown at its blocks
pub shows-in : (g : Geometry) (v : Volume) (b : ℕ) (r : Region) (page : List ℕ) → region g b ≡ r → IsPage page → ShowsRegion g v b r page → ShowsPage g v b page
shows-in g v b r page e form s = (form, subst (λ x. ShowsRegion g v b x page) (sym e) s)

pub shown-in : (g : Geometry) (v : Volume) (b : ℕ) (r : Region) (page : List ℕ) → region g b ≡ r → ShowsPage g v b page → ShowsRegion g v b r page
shown-in g v b r page e s = subst (λ x. ShowsRegion g v b x page) e s.1

same-in : (g : Geometry) (v w : Volume) (b : ℕ) (r : Region) → region g b ≡ r → ((page : List ℕ) → ShowsRegion g v b r page ↔ ShowsRegion g w b r page) → (meta_of g ≤ b → is_taken v b ≡ is_taken w b) → SameAt g v w b
same-in g v w b r e h taken = record {
  shows = λ page. (λ s. shows-in g w b r page e s.0 ((h page).0 (shown-in g v b r page e s)), λ s. shows-in g v b r page e s.0 ((h page).1 (shown-in g w b r page e s)));
  vacant = (λ s. (s.0, sym (taken s.0) ∙ s.1), λ s. (s.0, taken s.0 ∙ s.1));
}

pub same-super : (g : Geometry) (v w : Volume) → SameAt g v w 0
same-super g v w = let m = g.meta_low in same-in g v w 0 Super refl (λ page. (λ s. s, λ s. s)) (λ h. absurd (omega arith))

-- ---- bitmaps

marks-along : (page : List ℕ) (f h : ℕ → Bool) → ((k : ℕ) → f k ≡ h k) → ShowsMarks page f → ShowsMarks page h
marks-along page f h e s k l = s k l ∙ ap (λ (b : Bool). if b then 1 else 0) (e k)

pub marked-same : (g : Geometry) (v w : Volume) (zone k : ℕ) → (k < zone_size g → is_taken v (zone_block g zone k) ≡ is_taken w (zone_block g zone k)) → zone_marked g v zone k ≡ zone_marked g w zone k
marked-same g v w zone k same = elim (cases_lt k (zone_size g)) [
  | inl low ↦ ap (λ (b : Bool). nat_lt k (zone_size g) && b) (same low)
  | inr past ↦ and_left (nat_lt k (zone_size g)) (is_taken v (zone_block g zone k)) (le-ltb k (zone_size g) past) ∙ sym (and_left (nat_lt k (zone_size g)) (is_taken w (zone_block g zone k)) (le-ltb k (zone_size g) past))
]

pub zone-marks-region : (g : Geometry) (zone : ℕ) → zone < queues_of g → region g (zone_bitmap zone) ≡ ZoneMarks zone
zone-marks-region g zone low =
    let e : zone_bitmap zone - 1 ≡ zone = omega arith in
    region-marks g (zone_bitmap zone) (omega arith) (omega arith) ∙ ap (λ (z : ℕ). ZoneMarks z) e

-- the bitmap of a zone of which the same blocks are taken
pub same-marks : (g : Geometry) (v w : Volume) (zone : ℕ) → zone < queues_of g → ((k : ℕ) → k < zone_size g → is_taken v (zone_block g zone k) ≡ is_taken w (zone_block g zone k)) → SameAt g v w (zone_bitmap zone)
same-marks g v w zone low same =
    let m = g.meta_low in
    same-in g v w (zone_bitmap zone) (ZoneMarks zone) (zone-marks-region g zone low)
    (λ page. (marks-along page _ _ (λ k. marked-same g v w zone k (same k)), marks-along page _ _ (λ k. sym (marked-same g v w zone k (same k)))))
    (λ h. absurd (omega arith))

-- the bitmap of the inodes
pub same-inode_marks : (g : Geometry) (v w : Volume) → ((i : ℕ) → is_used (body v i) ≡ is_used (body w i)) → SameAt g v w (inode_bitmap g)
same-inode_marks g v w same =
    let m = g.meta_low in
    same-in g v w (inode_bitmap g) InodeMarks (region-inode_marks g) (λ page. (marks-along page _ _ same, marks-along page _ _ (λ k. sym (same k)))) (λ h. absurd (omega arith))

-- ---- the other regions

table-along : (v w : Volume) (block : ℕ) (page : List ℕ) → ((k : ℕ) → k < 32 → inode_of (node v (32 * block + k)) ≡ inode_of (node w (32 * block + k))) → ShowsTable v block page → ShowsTable w block page
table-along v w block page same s k l = subst (λ i. ShowsInode page k i) (same k l) (s k l)

-- a block of the table whose inodes are the same
pub same-table : (g : Geometry) (v w : Volume) (block : ℕ) → table_first g + block < meta_of g → ((k : ℕ) → k < 32 → inode_of (node v (32 * block + k)) ≡ inode_of (node w (32 * block + k))) → SameAt g v w (table_first g + block)
same-table g v w block low same =
    same-in g v w (table_first g + block) (Table block) (region-table g block low)
    (λ page. (table-along v w block page same, table-along w v block page (λ k l. sym (same k l))))
    (λ h. absurd (omega arith))

pub same-zone : (g : Geometry) (v w : Volume) (b : ℕ) → meta_of g ≤ b → b < homes_of g → is_taken v b ≡ is_taken w b → ((page : List ℕ) → ShowsZone v b page ↔ ShowsZone w b page) → SameAt g v w b
same-zone g v w b high home taken same = same-in g v w b Zone (region-zone g b high home) same (λ h. taken)

pub same-outside : (g : Geometry) (v w : Volume) (b : ℕ) → homes_of g ≤ b → is_taken v b ≡ is_taken w b → SameAt g v w b
same-outside g v w b out taken = same-in g v w b Outside (region-outside g b out) (λ page. (λ s. s, λ s. s)) (λ h. taken)
