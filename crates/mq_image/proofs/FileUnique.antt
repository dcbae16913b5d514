-- The file of an image determines the image, except for blocks of zeros.
use Rattle.std.proofs.Common.{get_or, ◌≡◌, ℕ, ◌+◌, ◌*◌, ◌^◌, ◌<◌, List, [], ◌∷◌, ◌++◌, length, take, drop, map, refl, sym, ap, ◌∙◌, arith, length-append, length-drop}
use Rattle.std.specs.Prelude.{Option}
use Rattle.std.specs.Int.{to_le_bytes, from_le_bytes, w32, w64}
use Rattle.std.specs.List.{All, flat_map}
use Rattle.std.proofs.lemmas.List.{ext_get_or, get_or-map, length-map, length-take-le, map-append, map-id, take-append-drop}
use Rattle.std.proofs.lemmas.Nat.{from_le_bytes-to_le_bytes_8}
use Rattle.mq_blocks.specs.Drive.{PortImage}
use Rattle.mq_blocks.specs.Geometry.{area_of, zone_size}
use Rattle.mq_blocks.specs.Windows.{number_at}
use Rattle.mq_blocks.specs.declared.geometry.Geometry.{Geometry}
use Rattle.mq_blocks.specs.Journal.{no_image}
use Rattle.mq_nvme.specs.Dwords.{dword_bytes}
use Rattle.mq_nvme.proofs.DwordsBytes.{dword_bytes-injective}
use Rattle.mq_image.specs.Drives.{HasWidths, without_blanks}
use Rattle.mq_image.specs.File.{areas, file_bytes, header_bytes, kept, namespace, record_count, records, ring_bytes, ring_size, zones}
use Rattle.mq_image.proofs.Lists.{append_parts, length-parts, map-parts, same_parts}
use Rattle.mq_image.proofs.FileRecords.{records-same}
use Rattle.mq_image.proofs.FileWritten.{PortsShown, file-shown, length-entry, length-header, namespace-bytes, namespace-is}
use Rattle.mq_image.proofs.File.{namespace-sized}

-- ---- a ring

number-same : (m n : ℕ) → m < 2 ^ 64 → n < 2 ^ 64 → to_le_bytes w64 m ≡ to_le_bytes w64 n → m ≡ n
number-same m n h k e = sym (from_le_bytes-to_le_bytes_8 m h) ∙ ap (from_le_bytes w64) e ∙ from_le_bytes-to_le_bytes_8 n k

pub record SameRing (p r : PortImage) : Type 0 where
  pub doorbell : p.doorbell ≡ r.doorbell
  pub head : p.head ≡ r.head
  pub slots : p.slots ≡ r.slots

ring-same : (p r : PortImage) → HasWidths p → HasWidths r → length p.slots ≡ length r.slots → ring_bytes p ≡ ring_bytes r → SameRing p r
unfolding ring_bytes
ring-same p r v w n e =
    let a = append_parts (to_le_bytes w64 p.doorbell ++ to_le_bytes w64 p.head) (to_le_bytes w64 r.doorbell ++ to_le_bytes w64 r.head) (flat_map dword_bytes p.slots) (flat_map dword_bytes r.slots) refl e in
    let b = append_parts (to_le_bytes w64 p.doorbell) (to_le_bytes w64 r.doorbell) (to_le_bytes w64 p.head) (to_le_bytes w64 r.head) refl a.0 in
    record {
      doorbell = number-same p.doorbell r.doorbell v.doorbell w.doorbell b.0;
      head = number-same p.head r.head v.head w.head b.1;
      slots = ext_get_or [] p.slots r.slots n (λ k l.
          dword_bytes-injective 16 (get_or p.slots k []) (get_or r.slots k []) (v.slots k [] l) (w.slots k [] (omega (arith, l, n)))
          (same_parts dword_bytes dword_bytes 64 [] p.slots r.slots n (λ i d m. length-entry _ (v.slots i d m)) (λ i d m. length-entry _ (w.slots i d m)) a.1 k l));
    }

-- ---- the blocks

abbrev Blocks : Type 0
Blocks = List (Option (List ℕ))

abbrev area_part : (Option (List ℕ) → Option (List ℕ)) → Geometry → PortImage → Blocks
area_part f g p = map f (take (area_of g) p.blocks)

abbrev zone_part : (Option (List ℕ) → Option (List ℕ)) → Geometry → PortImage → Blocks
zone_part f g p = map f (drop (area_of g) p.blocks)

area-sized : (f : Option (List ℕ) → Option (List ℕ)) (g : Geometry) (ports : List PortImage) → All (λ p. length p.blocks ≡ area_of g + zone_size g) ports → All (λ p. length (area_part f g p) ≡ area_of g) ports
area-sized f g ports h k d l =
    let n = h k d l in
    length-map (take (area_of g) (get_or ports k d).blocks) f ∙ length-take-le (area_of g) (get_or ports k d).blocks (omega arith)

zone-sized : (f : Option (List ℕ) → Option (List ℕ)) (g : Geometry) (ports : List PortImage) → All (λ p. length p.blocks ≡ area_of g + zone_size g) ports → All (λ p. length (zone_part f g p) ≡ zone_size g) ports
zone-sized f g ports h k d l =
    let n = h k d l in
    let m = length-drop (area_of g) (get_or ports k d).blocks in
    length-map (drop (area_of g) (get_or ports k d).blocks) f ∙ (omega arith)

-- a port's blocks are those of its area and then of its zone
whole-part : (f : Option (List ℕ) → Option (List ℕ)) (g : Geometry) (p : PortImage) → area_part f g p ++ zone_part f g p ≡ map f p.blocks
whole-part f g p = sym (map-append f (take (area_of g) p.blocks) (drop (area_of g) p.blocks)) ∙ ap (map f) (take-append-drop (area_of g) p.blocks)

split : (f : Option (List ℕ) → Option (List ℕ)) (g : Geometry) (queues : List PortImage) (root : PortImage)
    → map f (namespace g queues root) ≡ (flat_map (area_part f g) queues ++ map f root.blocks) ++ flat_map (zone_part f g) queues
split f g queues root =
    map-append f (areas g queues ++ root.blocks) (zones g queues)
    ∙ ap (λ (bs : Blocks). bs ++ map f (zones g queues)) (map-append f (areas g queues) root.blocks ∙ ap (λ (bs : Blocks). bs ++ map f root.blocks) (map-parts f (λ (p : PortImage). take (area_of g) p.blocks) queues))
    ∙ ap (λ (bs : Blocks). (flat_map (area_part f g) queues ++ map f root.blocks) ++ bs) (map-parts f (λ (p : PortImage). drop (area_of g) p.blocks) queues)

-- what is the same over the namespace is the same in each port
pub blocks-same :
    (f h : Option (List ℕ) → Option (List ℕ)) (v : ℕ) (g : Geometry) (ps rs : List PortImage) (u w : PortImage) → PortsShown v g ps u → PortsShown v g rs w → map f (namespace g ps u) ≡ map h (namespace g rs w)
    → ((k : ℕ) → k < length ps → map f (get_or ps k no_image).blocks ≡ map h (get_or rs k no_image).blocks) × (map f u.blocks ≡ map h w.blocks)
blocks-same f h v g ps rs u w p r e =
    let n : length ps ≡ length rs = p.count ∙ sym r.count in
    let ap_sized = area-sized f g ps p.sizes in
    let ar_sized = area-sized h g rs r.sizes in
    let zp_sized = zone-sized f g ps p.sizes in
    let zr_sized = zone-sized h g rs r.sizes in
    let la : length (flat_map (area_part f g) ps) ≡ length (flat_map (area_part h g) rs) =
    length-parts (area_part f g) (area_of g) ps ap_sized ∙ ap (λ (k : ℕ). area_of g * k) n ∙ sym (length-parts (area_part h g) (area_of g) rs ar_sized) in
    let lu : length (map f u.blocks) ≡ length (map h w.blocks) = length-map u.blocks f ∙ p.root_size ∙ sym r.root_size ∙ sym (length-map w.blocks h) in
    let lp = length-append (flat_map (area_part f g) ps) (map f u.blocks) in
    let lr = length-append (flat_map (area_part h g) rs) (map h w.blocks) in
    let whole = sym (split f g ps u) ∙ e ∙ split h g rs w in
    let back = append_parts (flat_map (area_part f g) ps ++ map f u.blocks) (flat_map (area_part h g) rs ++ map h w.blocks) (flat_map (zone_part f g) ps) (flat_map (zone_part h g) rs) (omega arith) whole in
    let front = append_parts (flat_map (area_part f g) ps) (flat_map (area_part h g) rs) (map f u.blocks) (map h w.blocks) la back.0 in (
      λ k l.
          sym (whole-part f g (get_or ps k no_image))
          ∙ ap (λ (bs : Blocks). bs ++ zone_part f g (get_or ps k no_image)) (same_parts (area_part f g) (area_part h g) (area_of g) no_image ps rs n ap_sized ar_sized front.0 k l)
          ∙ ap (λ (bs : Blocks). area_part h g (get_or rs k no_image) ++ bs) (same_parts (zone_part f g) (zone_part h g) (zone_size g) no_image ps rs n zp_sized zr_sized back.1 k l)
          ∙ whole-part h g (get_or rs k no_image),
      front.1,
    )

-- ---- the ports

same-port : (p r : PortImage) → SameRing p r → p.base ≡ r.base → map kept p.blocks ≡ map kept r.blocks → without_blanks p ≡ without_blanks r
same-port p r s b k = λ i. record { doorbell = s.doorbell i; head = s.head i; base = b i; slots = s.slots i; blocks = k i }

no-slots : (slots : List (List ℕ)) → length slots ≡ 0 → slots ≡ []
no-slots [] e = refl
no-slots (x ∷ xs) e = absurd (omega arith)

-- what two files have in common, where they are the same
pub record SameParts (g : Geometry) (ps rs : List PortImage) (u w : PortImage) : Type 0 where
  pub rings : flat_map ring_bytes ps ≡ flat_map ring_bytes rs
  pub base : u.base ≡ w.base
  pub blocks : map kept (namespace g ps u) ≡ map kept (namespace g rs w)

same-file : (v : ℕ) (g : Geometry) (ps rs : List PortImage) (u w : PortImage) → v < 2 ^ 32 → PortsShown v g ps u → PortsShown v g rs w → file_bytes v g ps u ≡ file_bytes v g rs w → SameParts g ps rs u w
unfolding file_bytes
same-file v g ps rs u w low p r e =
    let hp = header_bytes v g u.base in
    let hr = header_bytes v g w.base in
    let qp = flat_map ring_bytes ps in
    let qr = flat_map ring_bytes rs in
    let np = to_le_bytes w32 (record_count (namespace g ps u)) in
    let nr = to_le_bytes w32 (record_count (namespace g rs w)) in
    let bp = records 0 (namespace g ps u) in
    let br = records 0 (namespace g rs w) in
    let z = ring_size v in
    let lh : length hp ≡ length hr = length-header v g u.base ∙ sym (length-header v g w.base) in
    let lq : length qp ≡ length qr = length-parts ring_bytes z ps p.rings ∙ ap (λ (k : ℕ). z * k) (p.count ∙ sym r.count) ∙ sym (length-parts ring_bytes z rs r.rings) in
    let ln : length np ≡ length nr = refl in
    let l₂ = length-append hp qp in
    let m₂ = length-append hr qr in
    let l₃ = length-append (hp ++ qp) np in
    let m₃ = length-append (hr ++ qr) nr in
    let a = append_parts (hp ++ qp ++ np) (hr ++ qr ++ nr) bp br (omega arith) e in
    let b = append_parts (hp ++ qp) (hr ++ qr) np nr (omega arith) a.0 in
    let c = append_parts hp hr qp qr lh b.0 in
    let sized = namespace-is v g ps u p in
    let most = namespace-sized g ps u p.count p.sizes p.root_size in
    let fp = (file-shown v g ps u low p).header.base_is in
    let fr = (file-shown v g rs w low r).header.base_is in
    record {
      rings = c.1;
      base = sym fp ∙ ap (number_at 8 32) e ∙ fr;
      blocks = records-same 0 (namespace g ps u) (namespace g rs w) (namespace-is v g ps u p ∙ sym (namespace-is v g rs w r)) (omega arith) (namespace-bytes v g ps u p) (namespace-bytes v g rs w r) a.1;
    }

-- the ports are the same, but for blocks of zeros
pub record SamePorts (ps rs : List PortImage) (u w : PortImage) : Type 0 where
  pub queues : map without_blanks ps ≡ map without_blanks rs
  pub root : without_blanks u ≡ without_blanks w

pub ports-same : (v : ℕ) (g : Geometry) (ps rs : List PortImage) (u w : PortImage) → v < 2 ^ 32 → PortsShown v g ps u → PortsShown v g rs w → file_bytes v g ps u ≡ file_bytes v g rs w → SamePorts ps rs u w
ports-same v g ps rs u w low p r e = record {
  queues = ext_get_or no_image (map without_blanks ps) (map without_blanks rs) (length-map ps without_blanks ∙ n ∙ sym (length-map rs without_blanks)) (λ k l.
      let inside : k < length ps = omega (arith, l, length-map ps without_blanks) in
      get_or-map without_blanks ps k no_image no_image inside ∙ queue k inside ∙ sym (get_or-map without_blanks rs k no_image no_image (omega (arith, inside, n))));
  root = same-port u w
      (record { doorbell = p.root_is.doorbell ∙ sym r.root_is.doorbell; head = p.root_is.head ∙ sym r.root_is.head; slots = no-slots _ p.root_is.slots ∙ sym (no-slots _ r.root_is.slots) })
      same.base blocks.1;
}
  where
    n : length ps ≡ length rs
    n = p.count ∙ sym r.count

    same : SameParts g ps rs u w
    same = same-file v g ps rs u w low p r e

    blocks : ((k : ℕ) → k < length ps → map kept (get_or ps k no_image).blocks ≡ map kept (get_or rs k no_image).blocks) × (map kept u.blocks ≡ map kept w.blocks)
    blocks = blocks-same kept kept v g ps rs u w p r same.blocks

    queue : (k : ℕ) → k < length ps → without_blanks (get_or ps k no_image) ≡ without_blanks (get_or rs k no_image)
    queue k l =
        let a = p.each k no_image l in
        let b = r.each k no_image (omega (arith, l, n)) in
        same-port (get_or ps k no_image) (get_or rs k no_image)
        (ring-same (get_or ps k no_image) (get_or rs k no_image) a.widths b.widths (a.slots ∙ sym b.slots) (same_parts ring_bytes ring_bytes (ring_size v) no_image ps rs n p.rings r.rings same.rings k l))
        (a.base ∙ sym b.base) (blocks.0 k l)

-- ---- ports that have no block of zeros

same-blocks : (p : PortImage) → map kept p.blocks ≡ p.blocks → without_blanks p ≡ p
same-blocks p e = λ i. record { doorbell = p.doorbell; head = p.head; base = p.base; slots = p.slots; blocks = e i }

pub ports-kept : (v : ℕ) (g : Geometry) (ps : List PortImage) (u : PortImage) → PortsShown v g ps u → map kept (namespace g ps u) ≡ namespace g ps u → (map without_blanks ps ≡ ps) × (without_blanks u ≡ u)
ports-kept v g ps u s e = (
  ext_get_or no_image (map without_blanks ps) ps (length-map ps without_blanks) (λ k l.
      let low : k < length ps = omega (arith, l, length-map ps without_blanks) in
      get_or-map without_blanks ps k no_image no_image low ∙ same-blocks (get_or ps k no_image) (blocks.0 k low ∙ map-id (get_or ps k no_image).blocks)),
  same-blocks u (blocks.1 ∙ map-id u.blocks),
)
  where
    blocks : ((k : ℕ) → k < length ps → map kept (get_or ps k no_image).blocks ≡ map (λ b. b) (get_or ps k no_image).blocks) × (map kept u.blocks ≡ map (λ b. b) u.blocks)
    blocks = blocks-same kept (λ b. b) v g ps ps u u s s (e ∙ sym (map-id (namespace g ps u)))
