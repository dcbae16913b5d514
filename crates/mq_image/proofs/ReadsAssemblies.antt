-- The image that a file is read as, from its parts.
use Rattle.std.proofs.Common.{get_or, ◌≡◌, ℕ, ◌+◌, ◌*◌, ◌<◌, ◌≤◌, List, [], ◌∷◌, ◌++◌, length, take, Bool, true, false, refl, sym, ap, ◌∙◌, subst, arith}
use Rattle.std.specs.Prelude.{Option, Some, None, nat_eq}
use Rattle.std.specs.Int.{to_le_bytes, w32, w64}
use Rattle.std.specs.List.{flat_map}
use Rattle.std.proofs.lemmas.Bool.{eqb-true, leb-true}
use Rattle.std.proofs.lemmas.List.{append-nil, get_or_at, get_or_append_left, length_push, take_all, take_at}
use Rattle.byteorder.specs.Endian.{little_number}
use Rattle.mq_blocks.specs.Descriptor.{list_bytes}
use Rattle.mq_blocks.specs.Drive.{PortImage}
use Rattle.mq_blocks.specs.Geometry.{queues_of, area_of, meta_of, zone_size, homes_of}
use Rattle.mq_blocks.specs.Windows.{number_at, window, Shows}
use Rattle.mq_blocks.specs.declared.geometry.Geometry.{Geometry}
use Rattle.mq_blocks.proofs.WindowsReadings.{bytes-number_at_4, bytes-number_at_8, window-add}
use Rattle.mq_blocks.proofs.Windows.{shows-join}
use Rattle.mq_blocks.specs.Journal.{no_image}
use Rattle.mq_image.specs.Faults.{or_then, unless, header_fault, extra_fault, blocks_end, count_at, count_in}
use Rattle.mq_image.specs.File.{all_blocks, areas, file_bytes, header_bytes, header_numbers, is_version, magic, namespace, record_count, records, ring_bytes, ring_size, rings_end, zones}
use Rattle.mq_image.specs.Places.{IsSpan, rest_of}
use Rattle.mq_image.specs.Reads.{AreAreasRead, ArePortsRead, AreStored, AreZonesRead, IsHeaderIn, IsPast, IsQueuePort, IsRootPort}
use Rattle.mq_image.specs.declared.header.Header.{Header}
use Rattle.mq_image.specs.declared.fault.FileFault.{FileFault}
use Rattle.mq_image.specs.declared.fault.FileFault.TheVariants.{Reserved}
use Rattle.mq_image.specs.declared.place.Place.{Place}
use Rattle.mq_image.proofs.Faults.{count-place, first_of}
use Rattle.mq_image.proofs.ReadsAreas.{past-span, past-join}
use Rattle.mq_image.proofs.Versions.{rings-are}
use Rattle.mq_image.proofs.PlacesSpans.{span-join}

-- ---- the ports

pub ports-read : (v : ℕ) (g : Geometry) (base : ℕ) (file : List ℕ) (old m₁ m₂ new : Place) (before ports all : List PortImage) (root : PortImage) → all ≡ ports ++ root ∷ [] → old.lba ≡ 0 → old.size ≡ queues_of g * area_of g + homes_of g
    → AreAreasRead v g file (queues_of g) old m₁ before → IsSpan file m₁ m₂ root.blocks → IsRootPort g base root → AreZonesRead v g file (queues_of g) m₂ new before ports → ArePortsRead v g base file old new all
ports-read v g base file old m₁ m₂ new before ports all root e start size a s r z = rw e (record {
  count_is = length_push ports root ∙ ap (λ (k : ℕ). k + 1) n;
  queues = λ q l. subst (λ (p : PortImage). IsQueuePort v g p) (sym (get_or_append_left ports (root ∷ []) no_image q (omega arith))) (z.done q l);
  root = subst (λ (p : PortImage). IsRootPort g base p) (sym last) r;
  past = past;
  span = subst (λ (p : PortImage). IsSpan file old new (namespace g (take (queues_of g) (ports ++ root ∷ [])) p)) (sym last) (subst (λ (ps : List PortImage). IsSpan file old new (namespace g ps root)) (sym front) whole);
  rings = subst (λ (ps : List PortImage). flat_map ring_bytes ps ≡ window file 40 (ring_size v * queues_of g)) (sym front) (z.rings ∙ a.rings);
})
  where
    n : length ports ≡ queues_of g
    n = z.count_is ∙ a.count_is

    front : take (queues_of g) (ports ++ root ∷ []) ≡ ports
    front = take_at ports (root ∷ []) (queues_of g) n

    last : get_or (ports ++ root ∷ []) (queues_of g) no_image ≡ root
    last = get_or_at ports root [] no_image (queues_of g) n

    fore : IsSpan file old m₁ (areas g ports)
    fore = subst (λ (bs : List (Option (List ℕ))). IsSpan file old m₁ bs) (sym z.areas_are) a.span

    whole : IsSpan file old new (namespace g ports root)
    whole = span-join file old m₂ new (areas g ports ++ root.blocks) (zones g ports) (span-join file old m₁ m₂ (areas g ports) root.blocks fore s) z.span

    past : IsPast file old new old.size
    past =
        let b = a.blocks in
        let c = r.blocks in
        let d = z.size in
        let h : homes_of g ≡ meta_of g + queues_of g * zone_size g = refl in
        past-join file old m₂ new (queues_of g * area_of g + meta_of g) (queues_of g * zone_size g) old.size (past-join file old m₁ m₂ (queues_of g * area_of g) (meta_of g) _ (past-span file old m₁ (all_blocks before) _ a.span b) (past-span file m₁ m₂ root.blocks _ s c) refl)
        (past-span file m₂ new (zones g ports) _ z.span d) (omega arith)

-- ---- the bytes

then-none : (x y : Option FileFault) → or_then x y ≡ None → (x ≡ None) × (y ≡ None)
then-none None y h = (refl, h)
then-none (Some e) y h = absurd (cc)

unless-none : (t : Bool) (f : FileFault) → unless t f ≡ None → t ≡ true
unless-none true f h = refl
unless-none false f h = absurd (cc)

-- the version is one that is read
pub header-known : (file : List ℕ) (h : Header) → IsHeaderIn file h → is_version h.version ≡ true
unfolding header_fault
header-known file h is =
    let m = then-none _ _ (then-none _ _ is.none).1 in
    let v = then-none _ (or_then None (unless (nat_eq (number_at 4 28 file) 0) (Reserved (number_at 4 28 file)))) m.1 in
    ap is_version is.version_is ∙ unless-none _ _ v.0

header-read : (file : List ℕ) (h : Header) → ((k : ℕ) → get_or file k 0 < 256) → IsHeaderIn file h → window file 0 40 ≡ header_bytes h.version h.geometry h.base
unfolding header_fault header_bytes
header-read file head small is =
    let g = head.geometry in
    let base = head.base in
    let room = is.room in
    let none = is.none in
    let h = is.geometry_is in
    let b = is.base_is in
    let r0 : 0 + 8 ≤ length file = omega arith in
    let r8 : 8 + 4 ≤ length file = omega arith in
    let r12 : 12 + 4 ≤ length file = omega arith in
    let r16 : 16 + 4 ≤ length file = omega arith in
    let r20 : 20 + 4 ≤ length file = omega arith in
    let r24 : 24 + 4 ≤ length file = omega arith in
    let r28 : 28 + 4 ≤ length file = omega arith in
    let r32 : 32 + 8 ≤ length file = omega arith in
    let a = then-none _ _ none in
    let m = then-none _ _ a.1 in
    let v = then-none _ (or_then None (unless (nat_eq (number_at 4 28 file) 0) (Reserved (number_at 4 28 file)))) m.1 in
    let magic_is : number_at 8 0 file ≡ little_number 8 magic = eqb-true _ _ (unless-none _ _ m.0) in
    let reserved_is : number_at 4 28 file ≡ 0 = eqb-true _ _ (unless-none _ (Reserved (number_at 4 28 file)) v.1) in
    let s₀ : Shows file 0 magic = sym (bytes-number_at_8 0 file r0 small) ∙ ap (to_le_bytes w64) magic_is in
    let s₁ : Shows file 8 (to_le_bytes w32 head.version) = sym (bytes-number_at_4 8 file r8 small) ∙ ap (to_le_bytes w32) (sym is.version_is) in
    let s₂ : Shows file 12 (to_le_bytes w32 (queues_of g)) = sym (bytes-number_at_4 12 file r12 small) ∙ ap (to_le_bytes w32) (sym h.queues) in
    let s₃ : Shows file 16 (to_le_bytes w32 (area_of g)) = sym (bytes-number_at_4 16 file r16 small) ∙ ap (to_le_bytes w32) (sym h.area) in
    let s₄ : Shows file 20 (to_le_bytes w32 (meta_of g)) = sym (bytes-number_at_4 20 file r20 small) ∙ ap (to_le_bytes w32) (sym h.meta) in
    let s₅ : Shows file 24 (to_le_bytes w32 (zone_size g)) = sym (bytes-number_at_4 24 file r24 small) ∙ ap (to_le_bytes w32) (sym h.zone) in
    let s₆ : Shows file 28 (to_le_bytes w32 0) = sym (bytes-number_at_4 28 file r28 small) ∙ ap (to_le_bytes w32) reserved_is in
    let s₇ : Shows file 32 (to_le_bytes w64 base) = sym (bytes-number_at_8 32 file r32 small) ∙ ap (to_le_bytes w64) (sym b) in
    let t₆ = shows-join file 28 _ 32 [] s₆ refl refl in
    let t₅ = shows-join file 24 _ 28 _ s₅ refl t₆ in
    let t₄ = shows-join file 20 _ 24 _ s₄ refl t₅ in
    let t₃ = shows-join file 16 _ 20 _ s₃ refl t₄ in
    let t₂ = shows-join file 12 _ 16 _ s₂ refl t₃ in
    let t₁ = shows-join file 8 _ 12 _ s₁ refl t₂ in
    let t₀ = shows-join file 0 magic 8 _ s₀ refl t₁ in
    shows-join file 0 (magic ++ list_bytes (header_numbers head.version g)) 32 (to_le_bytes w64 base) t₀ refl s₇

-- a file is its four parts
parts : (file : List ℕ) (rings blocks : ℕ) → length file ≡ 40 + rings + 4 + blocks → file ≡ ((window file 0 40 ++ window file 40 rings) ++ window file (40 + rings) 4) ++ window file (40 + rings + 4) blocks
parts file rings blocks e =
    let a : 0 + (40 + rings + 4) ≡ 40 + rings + 4 = omega arith in
    let b : 0 + (40 + rings) ≡ 40 + rings = omega arith in
    sym (take_all (40 + rings + 4 + blocks) file (omega arith)) ∙ window-add file 0 (40 + rings + 4) blocks ∙ ap (λ (k : ℕ). window file 0 (40 + rings + 4) ++ window file k blocks) a
    ∙ ap (λ (w : List ℕ). w ++ window file (40 + rings + 4) blocks)
    (window-add file 0 (40 + rings) 4 ∙ ap (λ (k : ℕ). window file 0 (40 + rings) ++ window file k 4) b ∙ ap (λ (w : List ℕ). w ++ window file (40 + rings) 4) (window-add file 0 40 rings))

-- the records, once none is left
records-read : (file : List ℕ) (first last : Place) (blocks : List (Option (List ℕ))) → IsSpan file first last blocks → first.lba ≡ 0 → last.left ≡ 0 → rest_of first file ≡ records 0 blocks
records-read file first last blocks s lba none =
    let e : 4100 * last.left ≡ 0 = omega arith in
    s.rest ∙ ap (λ (n : ℕ). records n blocks ++ rest_of last file) lba ∙ ap (λ (n : ℕ). records 0 blocks ++ window file last.at n) e ∙ append-nil (records 0 blocks)

file-fold : (v : ℕ) (g : Geometry) (queues : List PortImage) (root : PortImage)
    → ((header_bytes v g root.base ++ flat_map ring_bytes queues) ++ to_le_bytes w32 (record_count (namespace g queues root))) ++ records 0 (namespace g queues root) ≡ file_bytes v g queues root
unfolding file_bytes
file-fold v g queues root = refl

pub file-read : (file : List ℕ) (h : Header) (count : ℕ) (first last : Place) (ports : List PortImage) → ((k : ℕ) → get_or file k 0 < 256) → IsHeaderIn file h
    → count ≡ count_in file → blocks_end file ≤ length file → extra_fault (blocks_end file) file ≡ None → first ≡ first_of h count → ArePortsRead h.version h.geometry h.base file first last ports → last.left ≡ 0 → AreStored h.version h.geometry file ports
file-read file h count first last ports small head c end extra is r none = record {
  count_is = r.count_is;
  queues = r.queues;
  base = h.base;
  root = r.root;
  bytes = whole;
  kept_is = r.span.kept_is;
}
  where
    g : Geometry
    g = h.geometry

    rings : ℕ
    rings = ring_size h.version * queues_of g

    root : PortImage
    root = get_or ports (queues_of g) no_image

    queues : List PortImage
    queues = take (queues_of g) ports

    blocks : List (Option (List ℕ))
    blocks = namespace g queues root

    ends : rings_end h.version (queues_of g) ≡ 40 + rings
    ends = rings-are h.version (queues_of g)

    size : length file ≡ 40 + rings + 4 + 4100 * count
    size =
        let q = count-place file h head in
        let e = ends in
        let l = leb-true (length file) (blocks_end file) (unless-none _ _ extra) in
        omega arith

    front : window file 0 40 ≡ header_bytes h.version g root.base
    front = header-read file h small head ∙ ap (header_bytes h.version g) (sym r.root.base_is)

    number : window file (40 + rings) 4 ≡ to_le_bytes w32 (record_count blocks)
    number =
        let s = size in
        let q : 40 + rings ≡ count_at file = sym ends ∙ count-place file h head in
        let n = r.span.count in
        let l : first.left ≡ count = ap (λ (x : Place). x.left) is in
        let e : number_at 4 (40 + rings) file ≡ record_count blocks = ap (λ (k : ℕ). number_at 4 k file) q ∙ sym c ∙ (let t : count ≡ record_count blocks = omega arith in t) in
        sym (bytes-number_at_4 (40 + rings) file (omega arith) small) ∙ ap (to_le_bytes w32) e

    tail : window file (40 + rings + 4) (4100 * count) ≡ records 0 blocks
    tail =
        let w : rest_of first file ≡ window file (40 + rings + 4) (4100 * count) = ap (λ (x : Place). rest_of x file) is ∙ ap (λ (k : ℕ). window file (k + 4) (4100 * count)) ends in
        sym w ∙ records-read file first last blocks r.span (ap (λ (x : Place). x.lba) is) none

    whole : file ≡ file_bytes h.version g queues root
    whole =
        parts file rings (4100 * count) size ∙ ap (λ (w : List ℕ). ((w ++ window file 40 rings) ++ window file (40 + rings) 4) ++ window file (40 + rings + 4) (4100 * count)) front
        ∙ ap (λ (w : List ℕ). ((header_bytes h.version g root.base ++ w) ++ window file (40 + rings) 4) ++ window file (40 + rings + 4) (4100 * count)) (sym r.rings)
        ∙ ap (λ (w : List ℕ). ((header_bytes h.version g root.base ++ flat_map ring_bytes queues) ++ w) ++ window file (40 + rings + 4) (4100 * count)) number
        ∙ ap (λ (w : List ℕ). ((header_bytes h.version g root.base ++ flat_map ring_bytes queues) ++ to_le_bytes w32 (record_count blocks)) ++ w) tail ∙ file-fold h.version g queues root
