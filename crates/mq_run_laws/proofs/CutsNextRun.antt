-- Where a volume stands on an image, the next run starts from it.
use Rattle.std.proofs.Common.{◌≡◌, ◌∙◌, ℕ, ◌-◌, ◌/◌, ◌%◌, ◌<◌, ◌≤◌, inl, inr, Bool, true, false, List, [], length, refl, sym, ap, subst, arith}
use Rattle.std.specs.Prelude.{Option, Some, None, nat_eq, if◌then◌else◌, ◌&&◌}
use Rattle.std.proofs.lemmas.Bool.{cases_lt, eq-eqb, lt-ltb, true≢false}
use Rattle.mq_blocks.specs.Blocks.{block_at}
use Rattle.mq_blocks.specs.Descriptor.{Descriptor}
use Rattle.mq_blocks.specs.Geometry.{homes_of, meta_of, zone_size}
use Rattle.mq_blocks.specs.Journal.{Shown, stands}
use Rattle.mq_blocks.specs.Machine.{Map}
use Rattle.mq_blocks.specs.declared.geometry.Geometry.{Geometry}
use Rattle.mq_run_laws.proofs.LaidMaps.{each-stands, laid-on}
use Rattle.mq_run_laws.specs.Cuts.{AreHomeContents, IsClean, IsCut, ShowsVolume, Starts}
use Rattle.mq_run_laws.specs.HistoryLaws.{IsAtHome}
use Rattle.mq_run_laws.specs.Legal.{newest, volume_at}
use Rattle.mq_report.specs.Lines.{Line}
use Rattle.mq_report.specs.declared.line.Told.{Told}
use Rattle.mq_script.specs.Scripts.{Script}
use Rattle.mq_inodes.proofs.LaidOnce.{shown-taken}
use Rattle.mq_inodes.proofs.ChangesRegions.{shown-in, zone-marks-region}
use Rattle.mq_inodes.proofs.FitsMarking.{zone-small}
use Rattle.mq_layout.specs.Bits.{bit_of}
use Rattle.mq_layout.specs.Places.{zone_bitmap}
use Rattle.mq_tree.specs.Laid.{IsLaid, Outside, ShowsMarks, ZoneMarks, is_marked, map_of, zone_block, zone_marked}
use Rattle.mq_tree.specs.Volume.{Volume, is_taken}
use Rattle.mq_tree.proofs.LaidMaps.{mapped, unmapped, zone-low, zone-place, zone-rest}
use Rattle.mq_tree.proofs.LaidRegions.{region-outside}
use Rattle.mq_tree.proofs.LaidUnique.{volume-once}
use Rattle.mq_recover.proofs.DrivesImages.{read-same}
use Rattle.mq_recover.specs.Recovery.{IsReadPrefix}

pub home-of : (g : Geometry) (m : Map) (v : Volume) (b : ℕ) (page : List ℕ) → IsLaid g m v → m b ≡ Some page → b < homes_of g
home-of g m v b page h e = elim (cases_lt b (homes_of g)) [
  | inl low ↦ low
  | inr high ↦ absurd (shown-in g v b Outside page (region-outside g b high) (h.shown b page e))
]

-- a block of the metadata region is in the map
meta-page : (g : Geometry) (m : Map) (v : Volume) (b : ℕ) → IsLaid g m v → b < meta_of g → (o : Option (List ℕ)) → m b ≡ o → (page : List ℕ) × (m b ≡ Some page)
meta-page g m v b h low None e = absurd (let high = (h.vacant b e).0 in omega arith)
meta-page g m v b h low (Some page) e = (page, e)

-- the bit of a block in the bitmap of its zone
marked-at : (g : Geometry) (v : Volume) (z place b n : ℕ) → n ≡ (if zone_marked g v z place then 1 else 0) → place < zone_size g → zone_block g z place ≡ b → n ≡ (if is_taken v b then 1 else 0)
marked-at g v z place b n bit rest here =
    bit ∙ ap (λ (c : Bool). if c && is_taken v (zone_block g z place) then 1 else 0) (lt-ltb place (zone_size g) rest) ∙ ap (λ (c : ℕ). if is_taken v c then 1 else 0) here

-- the bits of stored blocks are those of the volume
bit-is : (g : Geometry) (m : Map) (v : Volume) (stored : List (Option (List ℕ))) (b : ℕ) → IsLaid g m v → ((c : ℕ) (page : List ℕ) → m c ≡ Some page → block_at stored c ≡ page) → meta_of g ≤ b → b < homes_of g
    → bit_of (block_at stored (zone_bitmap ((b - meta_of g) / zone_size g))) ((b - meta_of g) % zone_size g) ≡ (if is_taken v b then 1 else 0)
bit-is g m v stored b h k high home =
    let z = (b - meta_of g) / zone_size g in
    let low = zone-low g b high home in
    let meta = g.meta_low in
    let inside : zone_bitmap z < meta_of g = omega arith in
    let page = meta-page g m v (zone_bitmap z) h inside (m (zone_bitmap z)) refl in
    let marks : ShowsMarks page.0 (zone_marked g v z) = shown-in g v (zone_bitmap z) (ZoneMarks z) page.0 (zone-marks-region g z low) (h.shown (zone_bitmap z) page.0 page.1) in
    let place = (b - meta_of g) % zone_size g in
    let rest = zone-rest g b in
    let bit = marks place (zone-small g place rest) in
    ap (λ (p : List ℕ). bit_of p place) (k (zone_bitmap z) page.0 page.1) ∙ marked-at g v z place b (bit_of page.0 place) bit rest (zone-place g b high)

marked-taken : (t : Bool) (n : ℕ) → n ≡ (if t then 1 else 0) → nat_eq n 1 ≡ t
marked-taken true n e = eq-eqb n 1 e
marked-taken false n e = ap (λ (x : ℕ). nat_eq x 1) e

marked-is : (g : Geometry) (m : Map) (v : Volume) (stored : List (Option (List ℕ))) (b : ℕ) → IsLaid g m v → ((c : ℕ) (page : List ℕ) → m c ≡ Some page → block_at stored c ≡ page) → meta_of g ≤ b → b < homes_of g → is_marked g stored b ≡ is_taken v b
marked-is g m v stored b h k high home = marked-taken (is_taken v b) _ (bit-is g m v stored b h k high home)

-- the map of the stored blocks is that of the volume
same-at : (g : Geometry) (m : Map) (v : Volume) (stored : List (Option (List ℕ))) (b : ℕ) → IsLaid g m v → ((c : ℕ) (page : List ℕ) → m c ≡ Some page → block_at stored c ≡ page) → (o p : Option (List ℕ)) → map_of g stored b ≡ o → m b ≡ p → o ≡ p
same-at g m v stored b h k None None e f = refl
same-at g m v stored b h k (Some x) (Some y) e f = ap Some ((mapped g stored b x e).is ∙ k b y f)
same-at g m v stored b h k None (Some y) e f =
    let u = unmapped g stored b e in
    let home = home-of g m v b y h f in
    absurd (true≢false (sym (shown-taken g v b y u.0 (h.shown b y f)) ∙ sym (marked-is g m v stored b h k u.0 home) ∙ u.1 home))
same-at g m v stored b h k (Some x) None e f =
    let p = mapped g stored b x e in
    let w = h.vacant b f in
    absurd (true≢false (sym (p.marked w.0) ∙ marked-is g m v stored b h k w.0 p.home ∙ w.1))

pub goes-on : (g : Geometry) (i : Shown) (ds : List Descriptor) (v : Volume) (stored : List (Option (List ℕ))) → ShowsVolume g i ds v → AreHomeContents g i ds stored → IsLaid g (map_of g stored) v
goes-on g i ds v stored s a =
    let k : (c : ℕ) (page : List ℕ) → s.map c ≡ Some page → block_at stored c ≡ page = λ c page e. a.each c (home-of g s.map v c page s.laid e) ∙ s.each c page e in
    laid-on g s.map (map_of g stored) v s.laid (λ b. sym (same-at g s.map v stored b s.laid k (map_of g stored b) (s.map b) refl refl))

-- what is laid on the standing blocks stands
laid-stands : (g : Geometry) (i : Shown) (ds : List Descriptor) (v : Volume) (stored : List (Option (List ℕ))) → AreHomeContents g i ds stored → IsLaid g (map_of g stored) v → ShowsVolume g i ds v
laid-stands g i ds v stored a h = record { map = map_of g stored; laid = h; each = λ b page e. let p = mapped g stored b page e in sym (a.each b p.home) ∙ sym p.is }

-- where these descriptors are read, the volume is the one that starts
starts-from : (g : Geometry) (i : Shown) (ds : List Descriptor) (top base : ℕ) (v w : Volume) → IsReadPrefix g i ds top → ShowsVolume g i ds v → Starts g i base w → (top ≡ base) × (v ≡ w)
starts-from g i ds top base v w read s start =
    let e = read-same g i ds start.ds top base read start.read in
    let t : ShowsVolume g i start.ds v = subst (λ es. ShowsVolume g i es v) e.0 s in
    (e.1, volume-once g (map_of g start.stored) v w (goes-on g i start.ds v start.stored t start.standing) start.laid)

pub starts-once : (g : Geometry) (i : Shown) (base other : ℕ) (v w : Volume) → Starts g i base v → Starts g i other w → (base ≡ other) × (v ≡ w)
starts-once g i base other v w h k = starts-from g i h.ds base other v w h.read (laid-stands g i h.ds v h.stored h.standing h.laid) k

pub next-starts : (g : Geometry) (scripts : List Script) (v w : Volume) (base other r : ℕ) (lines : List Line) (answers : List Told) (i : Shown) → IsCut g scripts v base lines answers i r → Starts g i other w → (w ≡ volume_at g scripts v lines r) × (other ≤ newest base lines)
next-starts g scripts v w base other r lines answers i cut start =
    let e = starts-from g i cut.ds cut.top other (volume_at g scripts v lines r) w cut.read cut.stand start in
    (sym e.1, subst (λ (n : ℕ). n ≤ newest base lines) e.0 cut.top_most)

-- a clean image that is a cut is one at the last number, and has the blocks of the volume there at home
pub clean-home : (g : Geometry) (scripts : List Script) (v : Volume) (base r : ℕ) (lines : List Line) (answers : List Told) (i : Shown) → IsCut g scripts v base lines answers i r → IsClean g i (newest base lines) → (r ≡ newest base lines) × IsAtHome g i (volume_at g scripts v lines (newest base lines))
clean-home g scripts v base r lines answers i cut clean =
    let n = newest base lines in
    let e = read-same g i cut.ds [] cut.top n cut.read clean.read in
    let count = ap length e.0 in
    let reaches = cut.reaches in
    let at = clean.base_is in
    let same : r ≡ n = omega (arith, count, reaches, at) in (
      same,
      λ m b page laid there.
          let here = subst (λ (k : ℕ). IsLaid g m (volume_at g scripts v lines k)) (sym same) laid in
          subst (λ ds. stands g i ds b ≡ page) e.0 (each-stands g i cut.ds (volume_at g scripts v lines r) m b page cut.stand here there),
    )
