-- The file of an image has no fault.
use Rattle.std.proofs.Common.{get_or, ◌≡◌, ℕ, true, ◌+◌, ◌*◌, ◌^◌, ◌<◌, ◌≤◌, List, [], ◌∷◌, ◌++◌, length, refl, sym, ap, subst, ◌∙◌, arith, length-append}
use Rattle.std.specs.Prelude.{Option, Some, None, Ok}
use Rattle.std.specs.Int.{to_le_bytes, w32, w64}
use Rattle.std.specs.List.{All, flat_map}
use Rattle.std.proofs.lemmas.Bool.{eq-eqb, le-leb}
use Rattle.std.proofs.lemmas.List.{take_all}
use Rattle.std.proofs.lemmas.List.Elements.{All-append, All-head, All-tail, All-take, All-drop}
use Rattle.std.proofs.lemmas.Nat.{mul-le}
use Rattle.byteorder.specs.Endian.{little_number}
use Rattle.mq_blocks.specs.Descriptor.{list_bytes}
use Rattle.mq_blocks.specs.Drive.{PortImage}
use Rattle.mq_blocks.specs.Geometry.{queues_of, area_of, meta_of, zone_size, blocks_of_drive}
use Rattle.mq_blocks.specs.Windows.{Shows, number_at}
use Rattle.mq_blocks.specs.declared.geometry.Geometry.{Geometry}
use Rattle.mq_blocks.proofs.Windows.{number-shown, shows-left, shows-right}
use Rattle.mq_nvme.specs.Dwords.{AreDwords, dword_bytes}
use Rattle.mq_image.specs.Drives.{HasWidths}
use Rattle.mq_image.specs.Faults.{HasFault, IsGeometryIn, body_fault, header_fault, length_fault, blocks_end, blocks_at, count_at, count_in, record_fault, version_in, words_fault}
use Rattle.mq_image.specs.File.{IsBlockSized, areas, file_bytes, header_bytes, header_numbers, is_version, magic, kept, namespace, one_of, record_count, records, ring_bytes, ring_depth, ring_size, rings_end, zones}
use Rattle.mq_image.specs.Reads.{IsQueuePort, IsRootPort}
use Rattle.mq_image.proofs.Lists.{length-parts}
use Rattle.mq_image.proofs.FileRecords.{length-records, records-fault}
use Rattle.mq_image.proofs.Faults.{body-none, none-faulty}
use Rattle.mq_image.proofs.Versions.{rings-are, size-is}
use Rattle.mq_image.proofs.File.{all-sized, namespace-length, namespace-sized}

-- ---- the header

pub record HeaderShown (file : List ℕ) (v : ℕ) (g : Geometry) (base : ℕ) : Type 0 where
  pub geometry : IsGeometryIn file g
  pub magic_is : number_at 8 0 file ≡ little_number 8 magic
  pub version : number_at 4 8 file ≡ v
  pub reserved : number_at 4 28 file ≡ 0
  pub base_is : number_at 8 32 file ≡ base

pub header-shown : (file : List ℕ) (v : ℕ) (g : Geometry) (base : ℕ) → v < 2 ^ 32 → base < 2 ^ 64 → Shows file 0 (header_bytes v g base) → HeaderShown file v g base
unfolding header_bytes
header-shown file v g base low fits s =
    let q = g.queues_high in
    let a = g.area_high in
    let h = g.homes_high in
    let z : 1 * g.zone ≤ g.queues * g.zone = mul-le 1 g.zone g.queues g.zone g.queues_low (omega arith) in
    let front : Shows file 0 (magic ++ list_bytes (header_numbers v g)) = shows-left file 0 (magic ++ list_bytes (header_numbers v g)) (to_le_bytes w64 base) s in
    let s₁ : Shows file 8 (list_bytes (header_numbers v g)) = shows-right file 0 magic 8 (list_bytes (header_numbers v g)) front refl in
    let s₂ = shows-right file 8 (to_le_bytes w32 v) 12 (list_bytes (queues_of g ∷ area_of g ∷ meta_of g ∷ zone_size g ∷ 0 ∷ [])) s₁ refl in
    let s₃ = shows-right file 12 (to_le_bytes w32 (queues_of g)) 16 (list_bytes (area_of g ∷ meta_of g ∷ zone_size g ∷ 0 ∷ [])) s₂ refl in
    let s₄ = shows-right file 16 (to_le_bytes w32 (area_of g)) 20 (list_bytes (meta_of g ∷ zone_size g ∷ 0 ∷ [])) s₃ refl in
    let s₅ = shows-right file 20 (to_le_bytes w32 (meta_of g)) 24 (list_bytes (zone_size g ∷ 0 ∷ [])) s₄ refl in
    let s₆ = shows-right file 24 (to_le_bytes w32 (zone_size g)) 28 (list_bytes (0 ∷ [])) s₅ refl in
    let s₇ : Shows file 32 (to_le_bytes w64 base) = shows-right file 0 (magic ++ list_bytes (header_numbers v g)) 32 (to_le_bytes w64 base) s refl in
    record {
      geometry = record {
        queues = sym (number-shown file 12 4 (queues_of g) (omega arith) (shows-left file 12 (to_le_bytes w32 (queues_of g)) (list_bytes (area_of g ∷ meta_of g ∷ zone_size g ∷ 0 ∷ [])) s₂));
        area = sym (number-shown file 16 4 (area_of g) (omega arith) (shows-left file 16 (to_le_bytes w32 (area_of g)) (list_bytes (meta_of g ∷ zone_size g ∷ 0 ∷ [])) s₃));
        meta = sym (number-shown file 20 4 (meta_of g) (omega arith) (shows-left file 20 (to_le_bytes w32 (meta_of g)) (list_bytes (zone_size g ∷ 0 ∷ [])) s₄));
        zone = sym (number-shown file 24 4 (zone_size g) (omega arith) (shows-left file 24 (to_le_bytes w32 (zone_size g)) (list_bytes (0 ∷ [])) s₅));
      };
      magic_is = number-shown file 0 8 (little_number 8 magic) (omega arith) (shows-left file 0 magic (list_bytes (header_numbers v g)) front);
      version = number-shown file 8 4 v (omega arith) (shows-left file 8 (to_le_bytes w32 v) (list_bytes (queues_of g ∷ area_of g ∷ meta_of g ∷ zone_size g ∷ 0 ∷ [])) s₁);
      reserved = number-shown file 28 4 0 (omega arith) s₆;
      base_is = number-shown file 32 8 base (omega arith) s₇;
    }

header-good : (file : List ℕ) (v : ℕ) (g : Geometry) (base : ℕ) → is_version v ≡ true → 40 ≤ length file → HeaderShown file v g base → header_fault (Ok g) file ≡ None
unfolding header_fault
header-good file v g base known room h = rw (le-leb 40 (length file) room, eq-eqb _ _ h.magic_is, ap is_version h.version ∙ known, eq-eqb _ _ h.reserved) refl

-- ---- the parts

pub length-entry : (e : List ℕ) → AreDwords 16 e → length (dword_bytes e) ≡ 64
unfolding dword_bytes
length-entry e h = omega (arith, length-parts (to_le_bytes w32) 4 e (λ k d l. refl), h.long)

length-ring : (v : ℕ) (p : PortImage) → HasWidths p → length p.slots ≡ ring_depth v → length (ring_bytes p) ≡ ring_size v
unfolding ring_bytes
length-ring v p w n =
    let z = size-is v in
    let a = length-append (to_le_bytes w64 p.doorbell ++ to_le_bytes w64 p.head) (flat_map dword_bytes p.slots) in
    let b = length-append (to_le_bytes w64 p.doorbell) (to_le_bytes w64 p.head) in
    let c = length-parts dword_bytes 64 p.slots (λ k d l. length-entry _ (w.slots k d l)) in
    omega arith

-- what is known of the ports of a file
pub record PortsShown (v : ℕ) (g : Geometry) (queues : List PortImage) (root : PortImage) : Type 0 where
  pub count : length queues ≡ queues_of g
  pub each : All (λ p. IsQueuePort v g p) queues
  pub rings : All (λ p. length (ring_bytes p) ≡ ring_size v) queues
  pub sizes : All (λ p. length p.blocks ≡ area_of g + zone_size g) queues
  pub bytes : All (λ p. All IsBlockSized p.blocks) queues
  pub root_is : IsRootPort g root.base root
  pub root_size : length root.blocks ≡ meta_of g
  pub root_bytes : All IsBlockSized root.blocks
  pub root_base : root.base < 2 ^ 64

pub shown-of : (v : ℕ) (g : Geometry) (queues : List PortImage) (root : PortImage) → length queues ≡ queues_of g → All (λ p. IsQueuePort v g p) queues → IsRootPort g root.base root → PortsShown v g queues root
shown-of v g queues root n h r = record {
  count = n;
  each = h;
  rings = λ k d l. length-ring v (get_or queues k d) (h k d l).widths (h k d l).slots;
  sizes = λ k d l. (h k d l).blocks;
  bytes = λ k d l. (h k d l).widths.blocks;
  root_is = r;
  root_size = r.blocks;
  root_bytes = r.widths.blocks;
  root_base = r.widths.base;
}

-- ---- the blocks

blocks-bytes : (f : PortImage → List (Option (List ℕ))) (ports : List PortImage) → ((p : PortImage) → All IsBlockSized p.blocks → All IsBlockSized (f p)) → All (λ p. All IsBlockSized p.blocks) ports → All IsBlockSized (flat_map f ports)
blocks-bytes f [] h w = λ k d l. absurd (omega arith)
blocks-bytes f (p ∷ ps) h w =
    All-append IsBlockSized (f p) (flat_map f ps) (h p (All-head (λ q. All IsBlockSized q.blocks) p ps w)) (blocks-bytes f ps h (All-tail (λ q. All IsBlockSized q.blocks) p ps w))

pub namespace-bytes : (v : ℕ) (g : Geometry) (queues : List PortImage) (root : PortImage) → PortsShown v g queues root → All IsBlockSized (namespace g queues root)
namespace-bytes v g queues root p =
    All-append IsBlockSized (areas g queues ++ root.blocks) (zones g queues)
    (All-append IsBlockSized (areas g queues) root.blocks (blocks-bytes _ queues (λ q h. All-take IsBlockSized (area_of g) q.blocks h) p.bytes) p.root_bytes)
    (blocks-bytes _ queues (λ q h. All-drop IsBlockSized (area_of g) q.blocks h) p.bytes)

pub namespace-is : (v : ℕ) (g : Geometry) (queues : List PortImage) (root : PortImage) → PortsShown v g queues root → length (namespace g queues root) ≡ blocks_of_drive g
namespace-is v g queues root p =
    let a = all-sized (area_of g + zone_size g) queues p.sizes in
    let b = namespace-length g queues root in
    let s : length queues * (area_of g + zone_size g) ≡ queues_of g * (area_of g + zone_size g) = ap (λ (k : ℕ). k * (area_of g + zone_size g)) p.count in
    let d : queues_of g * (area_of g + zone_size g) ≡ queues_of g * area_of g + queues_of g * zone_size g = omega arith in
    let m = p.root_size in
    omega arith

-- ---- the file

one-most : (b : Option (List ℕ)) → one_of b ≤ 1
one-most None = omega arith
one-most (Some block) = omega arith

record_count-most : (bs : List (Option (List ℕ))) → record_count bs ≤ length bs
unfolding record_count
record_count-most [] = omega arith
record_count-most (b ∷ bs) = omega (arith, one-most (kept b), record_count-most bs)

-- where the parts of a file stand
pub record FileShown (file : List ℕ) (v : ℕ) (g : Geometry) (queues : List PortImage) (root : PortImage) : Type 0 where
  pub header : HeaderShown file v g root.base
  pub rings : Shows file 40 (flat_map ring_bytes queues)
  pub count : number_at 4 (rings_end v (queues_of g)) file ≡ record_count (namespace g queues root)
  pub blocks : Shows file (rings_end v (queues_of g) + 4) (records 0 (namespace g queues root))
  pub size : length file ≡ rings_end v (queues_of g) + 4 + 4100 * record_count (namespace g queues root)

pub length-header : (v : ℕ) (g : Geometry) (base : ℕ) → length (header_bytes v g base) ≡ 40
unfolding header_bytes
length-header v g base = refl

pub file-shown : (v : ℕ) (g : Geometry) (queues : List PortImage) (root : PortImage) → v < 2 ^ 32 → PortsShown v g queues root → FileShown (file_bytes v g queues root) v g queues root
unfolding file_bytes
file-shown v g queues root low p =
    let h = header_bytes v g root.base in
    let r = flat_map ring_bytes queues in
    let n = to_le_bytes w32 (record_count (namespace g queues root)) in
    let b = records 0 (namespace g queues root) in
    let file = h ++ r ++ n ++ b in
    let eh : length h ≡ 40 = length-header v g root.base in
    let z = ring_size v in
    let er : length r ≡ z * queues_of g = length-parts ring_bytes z queues p.rings ∙ ap (λ (k : ℕ). z * k) p.count in
    let ends = rings-are v (queues_of g) in
    let eb = length-records 0 (namespace g queues root) (namespace-bytes v g queues root p) in
    let few = record_count-most (namespace g queues root) in
    let sized = namespace-is v g queues root p in
    let most = namespace-sized g queues root p.count p.sizes p.root_size in
    let l₂ = length-append h r in
    let l₃ = length-append (h ++ r) n in
    let l₄ = length-append (h ++ r ++ n) b in
    let s : Shows file 0 file = take_all (length file) file (omega arith) in
    let s₃ : Shows file 0 (h ++ r ++ n) = shows-left file 0 (h ++ r ++ n) b s in
    let s₂ : Shows file 0 (h ++ r) = shows-left file 0 (h ++ r) n s₃ in
    let ln : length n ≡ 4 = refl in
    record {
      header = header-shown file v g root.base low p.root_base (shows-left file 0 h r s₂);
      rings = shows-right file 0 h 40 r s₂ (omega arith);
      count = number-shown file (rings_end v (queues_of g)) 4 (record_count (namespace g queues root)) (omega arith) (shows-right file 0 (h ++ r) (rings_end v (queues_of g)) n s₃ (omega arith));
      blocks = shows-right file 0 (h ++ r ++ n) (rings_end v (queues_of g) + 4) b s (omega arith);
      size = omega arith;
    }

body-good : (file : List ℕ) (v : ℕ) (g : Geometry) (queues : List PortImage) (root : PortImage) → PortsShown v g queues root → FileShown file v g queues root → body_fault g file ≡ None
unfolding length_fault
body-good file v g queues root p f =
    let h = f.header in
    let at : rings_end v (queues_of g) ≡ count_at file = ap (λ (n : ℕ). rings_end n (queues_of g)) (sym h.version) ∙ ap (rings_end (version_in file)) h.geometry.queues in
    let count : count_in file ≡ record_count (namespace g queues root) = ap (λ (k : ℕ). number_at 4 k file) (sym at) ∙ f.count in
    let few = record_count-most (namespace g queues root) in
    let sized = namespace-is v g queues root p in
    let most = namespace-sized g queues root p.count p.sizes p.root_size in
    let size = f.size in
    let a : blocks_at file ≤ length file = omega arith in
    let b : count_in file ≤ blocks_of_drive g = omega arith in
    let c : blocks_end file ≤ length file = omega arith in
    let d : length file ≤ blocks_end file = omega arith in
    let here : Shows file (blocks_at file) (records 0 (namespace g queues root)) = subst (λ (k : ℕ). Shows file (k + 4) (records 0 (namespace g queues root))) at f.blocks in
    body-none file g
    (rw (le-leb _ _ a, le-leb _ _ b, le-leb _ _ c) refl)
    (ap (λ (n : ℕ). record_fault (blocks_of_drive g) n 0 0 (blocks_at file) file) count
    ∙ records-fault (blocks_of_drive g) 0 (namespace g queues root) file (omega arith) (omega arith) (namespace-bytes v g queues root p) 0 0 (blocks_at file) (omega arith) here)
    (rw (le-leb _ _ d) refl)

-- a file whose words have no fault has none
pub no-fault : (v : ℕ) (g : Geometry) (queues : List PortImage) (root : PortImage) → v < 2 ^ 32 → is_version v ≡ true → PortsShown v g queues root → words_fault v (file_bytes v g queues root) ≡ None → HasFault (file_bytes v g queues root) None
no-fault v g queues root low known p w =
    let file = file_bytes v g queues root in
    let f = file-shown v g queues root low p in
    let size = f.size in
    let ends = rings-are v (queues_of g) in
    record {
      shape = Ok g;
      has = f.header.geometry;
      is = none-faulty file g (header-good file v g root.base known (omega arith) f.header) (body-good file v g queues root p f) (ap (λ (n : ℕ). words_fault n file) f.header.version ∙ w);
    }
