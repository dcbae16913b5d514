-- The image of a fresh drive, of the ports of its queues and of its root.
use Rattle.std.proofs.Common.{◌≡◌, ◌<◌, ◌≤◌, inl, inr, ℕ, ◌+◌, ◌-◌, ◌*◌, ◌/◌, Bool, if◌then◌else◌, List, [], ◌∷◌, ◌++◌, All, length, get_or, Option, Some, None, refl, sym, ◌∙◌, ap, subst, arith, length-append}
use Rattle.std.proofs.lemmas.Bool.{cases_lt, lt-ltb, le-ltb}
use Rattle.std.proofs.lemmas.List.{get_or_append_left, get_or-append_right, take_at}
use Rattle.std.proofs.lemmas.Nat.{div_below}
use Rattle.mq_blocks.specs.Blocks.{block_at, content, zeros}
use Rattle.mq_blocks.specs.Drive.{PortImage}
use Rattle.mq_blocks.specs.Geometry.{homes_of, meta_of, queues_of, area_of, zone_of}
use Rattle.mq_blocks.specs.Journal.{home_block, image_at, no_image}
use Rattle.mq_blocks.specs.declared.geometry.Geometry.{Geometry}
use Rattle.mq_drive.specs.Start.{IsImageOf}
use Rattle.mq_drive.specs.declared.role.Role.TheVariants.{Queue, Root}
use Rattle.mq_image.specs.Drives.{HasWidths, IsDrive}
use Rattle.mq_image.specs.File.{DriveImage, queue_ports, root_port}
use Rattle.mq_image_ops.specs.Empty.{AreBlankQueues, IsBlankDrive, IsBlankQueue, IsEmptyDrive, IsFreshRoot, IsUnused}
use Rattle.mq_layout.specs.Empty.{empty_block}
use Rattle.mq_layout.proofs.EmptyLaws.{empty-zeros}

at-end : (v : List PortImage) (r : PortImage) (n : ℕ) → length v ≡ n → get_or (v ++ r ∷ []) n no_image ≡ r
at-end v r n long =
    get_or-append_right v (r ∷ []) n n no_image long (omega arith) ∙ ap (λ (k : ℕ). get_or (r ∷ []) k no_image) (let e : n - n ≡ 0 = omega arith in e)

absent-zeros : (g : Geometry) (n q k : ℕ) (v : List PortImage) → AreBlankQueues g n v → q < n → block_at (image_at v q).blocks k ≡ zeros
absent-zeros g n q k v blank low = ap content ((blank.each q low).absent k)

module _ (g : Geometry) (v : List PortImage) (r : PortImage) (blank : AreBlankQueues g (queues_of g) v) (root : IsFreshRoot g r) where
  abbrev image : DriveImage
  image = record { geometry = g; ports = v ++ r ∷ [] }

  queues-are : queue_ports image ≡ v
  queues-are = take_at v (r ∷ []) (queues_of g) blank.count_is

  root-is : root_port image ≡ r
  root-is = at-end v r (queues_of g) blank.count_is

  port-at : (q : ℕ) → q < queues_of g → get_or (v ++ r ∷ []) q no_image ≡ get_or v q no_image
  port-at q low = let many = blank.count_is in get_or_append_left v (r ∷ []) no_image q (omega arith)

  fresh-unused : (k : ℕ) → k ≤ queues_of g → IsUnused (get_or (v ++ r ∷ []) k no_image)
  fresh-unused k le = elim (cases_lt k (queues_of g)) [
    | inl low ↦ subst IsUnused (sym (port-at k low)) (blank.each k low).unused
    | inr high ↦ (let same : k ≡ queues_of g = omega arith in subst (λ (n : ℕ). IsUnused (get_or (v ++ r ∷ []) n no_image)) (sym same) (subst IsUnused (sym root-is) root.unused))
  ]

  fresh-drive : IsDrive image
  fresh-drive = record {
    ports = length-append v (r ∷ []) ∙ ap (λ (n : ℕ). n + 1) blank.count_is;
    queues = λ q low. subst (IsImageOf g (Queue q)) (sym (port-at q low)) (blank.each q low).image;
    root = subst (IsImageOf g Root) (sym root-is) root.image;
  }

  fresh-absent : ((b : ℕ) → get_or r.blocks b None ≡ None) → (k b : ℕ) → k ≤ queues_of g → get_or (get_or (v ++ r ∷ []) k no_image).blocks b None ≡ None
  fresh-absent none k b le = elim (cases_lt k (queues_of g)) [
    | inl low ↦ ap (λ (p : PortImage). get_or p.blocks b None) (port-at k low) ∙ (blank.each k low).absent b
    | inr high ↦ (let same : k ≡ queues_of g = omega arith in ap (λ (n : ℕ). get_or (get_or (v ++ r ∷ []) n no_image).blocks b None) same ∙ ap (λ (p : PortImage). get_or p.blocks b None) root-is ∙ none b)
  ]

  pub blank-drive : ((b : ℕ) → get_or r.blocks b None ≡ None) → IsBlankDrive g image
  blank-drive none = record { geometry_is = refl; drive = fresh-drive; unused = fresh-unused; absent = fresh-absent none }

  empty-areas : (q k : ℕ) → q < queues_of g → block_at (image_at (queue_ports image) q).blocks k ≡ zeros
  empty-areas q k low = ap (λ (l : List PortImage). block_at (image_at l q).blocks k) queues-are ∙ absent-zeros g (queues_of g) q k v blank low

  abbrev home : ℕ → Option ℕ → List ℕ
  home b z = home_block g (queue_ports image) (root_port image) b z

  empty-homes : ((b : ℕ) → b < meta_of g → block_at r.blocks b ≡ empty_block g b) → (b : ℕ) → b < homes_of g → home b (zone_of g b) ≡ empty_block g b
  empty-homes homes b inside = elim (cases_lt b (meta_of g)) [
    | inl low ↦ (
        let none : zone_of g b ≡ None = ap (λ (t : Bool). if t then None else Some ((b - g.meta) / g.zone)) (lt-ltb b g.meta low) in
        ap (home b) none ∙ ap (λ (p : PortImage). block_at p.blocks b) root-is ∙ homes b low
        )
    | inr high ↦ (
        let q : ℕ = (b - g.meta) / g.zone in
        let some : zone_of g b ≡ Some q = ap (λ (t : Bool). if t then None else Some q) (le-ltb b g.meta high) in
        let low : q < queues_of g = div_below (b - g.meta) g.zone g.queues (let z = g.zone_low in omega arith) (omega arith) in
        let meta = g.meta_low in
        ap (home b) some ∙ empty-areas q (area_of g + (b - (g.meta + q * g.zone))) low ∙ sym (empty-zeros g b (λ e. omega (arith, e, high, meta)) (λ e. omega (arith, e, high, meta)) (λ e. omega (arith, e, high, meta)))
        )
  ]

  pub empty-drive : ((b : ℕ) → b < meta_of g → block_at r.blocks b ≡ empty_block g b) → All HasWidths image.ports → IsEmptyDrive g image
  empty-drive homes widths = record {
    geometry_is = refl;
    drive = fresh-drive;
    widths = widths;
    unused = fresh-unused;
    areas = λ q k low inside. empty-areas q k low;
    homes = empty-homes homes;
  }

-- one more blank queue
pub blank-more : (g : Geometry) (n : ℕ) (v w : List PortImage) (p : PortImage) → AreBlankQueues g n v → w ≡ v ++ p ∷ [] → IsBlankQueue g n p → AreBlankQueues g (n + 1) w
blank-more g n v w p blank is next =
    let many = blank.count_is in
    subst (AreBlankQueues g (n + 1)) (sym is) (record {
      count_is = length-append v (p ∷ []) ∙ ap (λ (k : ℕ). k + 1) many;
      each = λ q low. elim (cases_lt q n) [
        | inl less ↦ subst (IsBlankQueue g q) (sym (get_or_append_left v (p ∷ []) no_image q (omega arith))) (blank.each q less)
        | inr high ↦ (
            let same : q ≡ n = omega arith in
            subst (λ (k : ℕ). IsBlankQueue g k (get_or (v ++ p ∷ []) k no_image)) (sym same) (subst (IsBlankQueue g n) (sym (at-end v p n many)) next)
            )
      ];
    })

-- the image of these ports
pub blanked : (g : Geometry) (v w : List PortImage) (r : PortImage) → AreBlankQueues g (queues_of g) v → IsFreshRoot g r → ((b : ℕ) → get_or r.blocks b None ≡ None) → w ≡ v ++ r ∷ [] → IsBlankDrive g (record { geometry = g; ports = w })
blanked g v w r blank root none is = subst (λ (l : List PortImage). IsBlankDrive g (record { geometry = g; ports = l })) (sym is) (blank-drive g v r blank root none)

pub formatted : (g : Geometry) (v w : List PortImage) (r : PortImage) → AreBlankQueues g (queues_of g) v → IsFreshRoot g r → ((b : ℕ) → b < meta_of g → block_at r.blocks b ≡ empty_block g b) → w ≡ v ++ r ∷ [] → All HasWidths w → IsEmptyDrive g (record { geometry = g; ports = w })
formatted g v w r blank root homes is widths = subst (λ (l : List PortImage). IsEmptyDrive g (record { geometry = g; ports = l })) (sym is) (empty-drive g v r blank root homes (subst (All HasWidths) is widths))
