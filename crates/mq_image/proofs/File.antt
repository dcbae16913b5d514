-- The bytes of a file, part by part.
use Rattle.std.proofs.Common.{get_or, ◌≡◌, ℕ, suc, zero-add, ◌+◌, ◌*◌, ◌<◌, ◌≤◌, List, [], ◌∷◌, ◌++◌, length, take, drop, refl, sym, ap, ◌∙◌, append_assoc, arith, length-append}
use Rattle.std.specs.Prelude.{Option}
use Rattle.std.specs.Int.{to_le_bytes, w32, w64}
use Rattle.std.specs.List.{All, flat_map}
use Rattle.std.proofs.Math.Nat.{mul-le-mul_right}
use Rattle.std.proofs.lemmas.List.{append-nil, get_or-take, get_or_default, length-take-le, take_more, take-append-drop}
use Rattle.std.proofs.lemmas.List.Concat.{flat_map-append}
use Rattle.std.proofs.lemmas.List.Elements.{All-head, All-tail}
use Rattle.std.proofs.lemmas.List.Folds.{length-flat_map-take}
use Rattle.mq_blocks.specs.Drive.{PortImage}
use Rattle.mq_blocks.specs.Geometry.{queues_of, area_of, meta_of, zone_size}
use Rattle.mq_blocks.specs.declared.geometry.Geometry.{Geometry}
use Rattle.mq_blocks.specs.Journal.{no_image}
use Rattle.mq_nvme.specs.Dwords.{dword_bytes}
use Rattle.mq_image.specs.Drives.{IsDrive}
use Rattle.mq_image.specs.File.{DriveImage, root_port, all_blocks, areas, file_bytes, header_bytes, kept, magic, namespace, one_of, record_bytes, record_count, records, ring_bytes, written_version, zones}
use Rattle.mq_image.proofs.PlacesSpans.{records-append, record_count-append}

-- ---- one more of a list

pub flat-more : {X A : Type 0} (f : X → List A) (xs : List X) (i : ℕ) (x : X) → i < length xs → x ≡ get_or xs i x → flat_map f (take (i + 1) xs) ≡ flat_map f (take i xs) ++ f x
flat-more {X} {A} f xs i x l e =
    ap (flat_map f) (take_more xs i x l ∙ ap (λ (y : X). take i xs ++ y ∷ []) (sym e)) ∙ flat_map-append f (take i xs) (x ∷ []) ∙ ap (λ (r : List A). flat_map f (take i xs) ++ r) (append-nil (f x))

pub flat-room : {X A : Type 0} (f : X → List A) (xs : List X) (i : ℕ) (x : X) → i < length xs → x ≡ get_or xs i x → length (flat_map f (take i xs)) + length (f x) ≤ length (flat_map f xs)
flat-room {X} {A} f xs i x l e =
    let s : length (f x) ≡ length (f (get_or xs i x)) = ap (λ (y : X). length (f y)) e in
    let h = length-flat_map-take f xs i x l in
    omega arith

pub records-none : (lba : ℕ) (file : List ℕ) → file ≡ file ++ records lba []
unfolding records
records-none lba file = sym (append-nil file)

pub count-none : 0 ≡ record_count []
unfolding record_count
count-none = refl

pub count-more : (blocks : List (Option (List ℕ))) (i : ℕ) (b : Option (List ℕ)) → i < length blocks → b ≡ get_or blocks i b → record_count (take (i + 1) blocks) ≡ record_count (take i blocks) + one_of (kept b)
unfolding record_count
count-more blocks i b l e =
    let a = record_count-append (take i blocks) (b ∷ []) in
    let t : record_count (take (i + 1) blocks) ≡ record_count (take i blocks ++ b ∷ []) = ap record_count (take_more blocks i b l ∙ ap (λ (y : Option (List ℕ)). take i blocks ++ y ∷ []) (sym e)) in
    omega arith

pub span-put : (lba i : ℕ) (blocks : List (Option (List ℕ))) (b : Option (List ℕ)) (start mid end : List ℕ) → i < length blocks → b ≡ get_or blocks i b → mid ≡ start ++ records lba (take i blocks) → end ≡ mid ++ record_bytes (lba + i) (kept b)
    → end ≡ start ++ records lba (take (i + 1) blocks)
unfolding records
span-put lba i blocks b start mid end l e f g =
    let n : length (take i blocks) ≡ i = length-take-le i blocks (omega arith) in
    let t : records lba (take (i + 1) blocks) ≡ records lba (take i blocks) ++ record_bytes (lba + i) (kept b) =
    ap (records lba) (take_more blocks i b l ∙ ap (λ (y : Option (List ℕ)). take i blocks ++ y ∷ []) (sym e)) ∙ records-append lba (take i blocks) (b ∷ [])
    ∙ ap (λ (k : ℕ). records lba (take i blocks) ++ (record_bytes (lba + k) (kept b) ++ [])) n ∙ ap (λ (r : List ℕ). records lba (take i blocks) ++ r) (append-nil (record_bytes (lba + i) (kept b))) in
    g ∙ ap (λ (r : List ℕ). r ++ record_bytes (lba + i) (kept b)) f ∙ append_assoc start (records lba (take i blocks)) (record_bytes (lba + i) (kept b)) ∙ ap (λ (r : List ℕ). start ++ r) (sym t)

-- the blocks of one more port
pub part-put : (f : PortImage → List (Option (List ℕ))) (first lba i : ℕ) (ports : List PortImage) (p : PortImage) (blocks : List (Option (List ℕ))) (start mid end : List ℕ) → i < length ports → p ≡ get_or ports i p → blocks ≡ f p
    → lba ≡ first + length (flat_map f (take i ports)) → mid ≡ start ++ records first (flat_map f (take i ports)) → end ≡ mid ++ records lba blocks → end ≡ start ++ records first (flat_map f (take (i + 1) ports))
part-put f first lba i ports p blocks start mid end l e b n g h =
    let t : records first (flat_map f (take (i + 1) ports)) ≡ records first (flat_map f (take i ports)) ++ records lba blocks =
    ap (records first) (flat-more f ports i p l e) ∙ records-append first (flat_map f (take i ports)) (f p)
    ∙ ap (λ (k : ℕ). records first (flat_map f (take i ports)) ++ records k (f p)) (sym n) ∙ ap (λ (bs : List (Option (List ℕ))). records first (flat_map f (take i ports)) ++ records lba bs) (sym b) in
    h ∙ ap (λ (r : List ℕ). r ++ records lba blocks) g ∙ append_assoc start (records first (flat_map f (take i ports))) (records lba blocks) ∙ ap (λ (r : List ℕ). start ++ r) (sym t)

pub part-length : (f : PortImage → List (Option (List ℕ))) (first lba end i : ℕ) (ports : List PortImage) (p : PortImage) (blocks : List (Option (List ℕ))) → i < length ports → p ≡ get_or ports i p → blocks ≡ f p
    → lba ≡ first + length (flat_map f (take i ports)) → end ≡ lba + length blocks → end ≡ first + length (flat_map f (take (i + 1) ports))
part-length f first lba end i ports p blocks l e b n h =
    let a : length (flat_map f (take (i + 1) ports)) ≡ length (flat_map f (take i ports)) + length (f p) = ap length (flat-more f ports i p l e) ∙ length-append (flat_map f (take i ports)) (f p) in
    let c : length blocks ≡ length (f p) = ap length b in
    omega arith

-- ---- the parts of a file

pub header-put : (g : Geometry) (base queues area meta zone : ℕ) (f₀ f₁ f₂ f₃ f₄ f₅ f₆ f₇ f₈ : List ℕ) → queues ≡ queues_of g → area ≡ area_of g → meta ≡ meta_of g → zone ≡ zone_size g
    → f₁ ≡ f₀ ++ magic → f₂ ≡ f₁ ++ to_le_bytes w32 written_version → f₃ ≡ f₂ ++ to_le_bytes w32 queues → f₄ ≡ f₃ ++ to_le_bytes w32 area → f₅ ≡ f₄ ++ to_le_bytes w32 meta → f₆ ≡ f₅ ++ to_le_bytes w32 zone
    → f₇ ≡ f₆ ++ to_le_bytes w32 0 → f₈ ≡ f₇ ++ to_le_bytes w64 base → f₈ ≡ f₀ ++ header_bytes written_version g base
unfolding header_bytes
header-put g base queues area meta zone f₀ f₁ f₂ f₃ f₄ f₅ f₆ f₇ f₈ q a m z e₁ e₂ e₃ e₄ e₅ e₆ e₇ e₈ =
    let t₂ = e₂ ∙ ap (λ (w : List ℕ). w ++ to_le_bytes w32 written_version) e₁ in
    let t₃ = e₃ ∙ ap (λ (n : ℕ). f₂ ++ to_le_bytes w32 n) q ∙ ap (λ (w : List ℕ). w ++ to_le_bytes w32 (queues_of g)) t₂ in
    let t₄ = e₄ ∙ ap (λ (n : ℕ). f₃ ++ to_le_bytes w32 n) a ∙ ap (λ (w : List ℕ). w ++ to_le_bytes w32 (area_of g)) t₃ in
    let t₅ = e₅ ∙ ap (λ (n : ℕ). f₄ ++ to_le_bytes w32 n) m ∙ ap (λ (w : List ℕ). w ++ to_le_bytes w32 (meta_of g)) t₄ in
    let t₆ = e₆ ∙ ap (λ (n : ℕ). f₅ ++ to_le_bytes w32 n) z ∙ ap (λ (w : List ℕ). w ++ to_le_bytes w32 (zone_size g)) t₅ in
    let t₇ = e₇ ∙ ap (λ (w : List ℕ). w ++ to_le_bytes w32 0) t₆ in
    e₈ ∙ ap (λ (w : List ℕ). w ++ to_le_bytes w64 base) t₇ ∙ simp append_assoc

pub ring-put : (p : PortImage) (doorbell head : ℕ) (slots : List (List ℕ)) (f₀ f₁ f₂ f₃ : List ℕ) → doorbell ≡ p.doorbell → head ≡ p.head → slots ≡ p.slots
    → f₁ ≡ f₀ ++ to_le_bytes w64 doorbell → f₂ ≡ f₁ ++ to_le_bytes w64 head → f₃ ≡ f₂ ++ flat_map dword_bytes slots → f₃ ≡ f₀ ++ ring_bytes p
unfolding ring_bytes
ring-put p doorbell head slots f₀ f₁ f₂ f₃ d h s e₁ e₂ e₃ =
    let t₁ = e₁ ∙ ap (λ (n : ℕ). f₀ ++ to_le_bytes w64 n) d in
    let t₂ = e₂ ∙ ap (λ (n : ℕ). f₁ ++ to_le_bytes w64 n) h ∙ ap (λ (w : List ℕ). w ++ to_le_bytes w64 p.head) t₁ in
    e₃ ∙ ap (λ (es : List (List ℕ)). f₂ ++ flat_map dword_bytes es) s ∙ ap (λ (w : List ℕ). w ++ flat_map dword_bytes p.slots) t₂ ∙ simp append_assoc

pub file-put : (g : Geometry) (queues : List PortImage) (root : PortImage) (count meta zone : ℕ) (f₀ f₁ f₂ f₃ f₄ f₅ f₆ : List ℕ) → f₀ ≡ [] → count ≡ record_count (namespace g queues root) → meta ≡ length (areas g queues) → zone ≡ meta + length root.blocks
    → f₁ ≡ f₀ ++ header_bytes written_version g root.base → f₂ ≡ f₁ ++ flat_map ring_bytes queues → f₃ ≡ f₂ ++ to_le_bytes w32 count → f₄ ≡ f₃ ++ records 0 (areas g queues) → f₅ ≡ f₄ ++ records meta root.blocks → f₆ ≡ f₅ ++ records zone (zones g queues)
    → f₆ ≡ file_bytes written_version g queues root
unfolding file_bytes
file-put g queues root count meta zone f₀ f₁ f₂ f₃ f₄ f₅ f₆ e₀ c m z e₁ e₂ e₃ e₄ e₅ e₆ =
    let a = areas g queues in
    let r = root.blocks in
    let s = zones g queues in
    let n : 0 + length a ≡ meta = omega arith in
    let k : 0 + length (a ++ r) ≡ zone = omega (arith, length-append a r) in
    let whole : records 0 (namespace g queues root) ≡ (records 0 a ++ records meta r) ++ records zone s =
    records-append 0 (a ++ r) s ∙ ap (λ (w : List ℕ). w ++ records (0 + length (a ++ r)) s) (records-append 0 a r ∙ ap (λ (j : ℕ). records 0 a ++ records j r) n)
    ∙ ap (λ (j : ℕ). (records 0 a ++ records meta r) ++ records j s) k in
    let front = (header_bytes written_version g root.base ++ flat_map ring_bytes queues) ++ to_le_bytes w32 (record_count (namespace g queues root)) in
    let flat : ((front ++ records 0 a) ++ records meta r) ++ records zone s ≡ front ++ ((records 0 a ++ records meta r) ++ records zone s) =
    ap (λ (w : List ℕ). w ++ records zone s) (append_assoc front (records 0 a) (records meta r)) ∙ append_assoc front (records 0 a ++ records meta r) (records zone s) in
    let t₁ = e₁ ∙ ap (λ (w : List ℕ). w ++ header_bytes written_version g root.base) e₀ in
    let t₂ = e₂ ∙ ap (λ (w : List ℕ). w ++ flat_map ring_bytes queues) t₁ in
    let t₃ = e₃ ∙ ap (λ (k : ℕ). f₂ ++ to_le_bytes w32 k) c ∙ ap (λ (w : List ℕ). w ++ to_le_bytes w32 (record_count (namespace g queues root))) t₂ in
    let t₄ = e₄ ∙ ap (λ (w : List ℕ). w ++ records 0 a) t₃ in
    let t₅ = e₅ ∙ ap (λ (w : List ℕ). w ++ records meta r) t₄ in
    e₆ ∙ ap (λ (w : List ℕ). w ++ records zone s) t₅ ∙ flat ∙ ap (λ (w : List ℕ). front ++ w) (sym whole)

-- ---- lengths and counts

pub all-length : (g : Geometry) (queues : List PortImage) → length (all_blocks queues) ≡ length (areas g queues) + length (zones g queues)
all-length g [] = refl
all-length g (p ∷ ps) =
    let a = length-append p.blocks (all_blocks ps) in
    let b = length-append (take (area_of g) p.blocks) (areas g ps) in
    let c = length-append (drop (area_of g) p.blocks) (zones g ps) in
    let d : length (take (area_of g) p.blocks) + length (drop (area_of g) p.blocks) ≡ length p.blocks =
    sym (length-append (take (area_of g) p.blocks) (drop (area_of g) p.blocks)) ∙ ap length (take-append-drop (area_of g) p.blocks) in
    let i = all-length g ps in
    omega arith

all-count : (g : Geometry) (queues : List PortImage) → record_count (all_blocks queues) ≡ record_count (areas g queues) + record_count (zones g queues)
unfolding record_count
all-count g [] = omega arith
all-count g (p ∷ ps) =
    let a = record_count-append p.blocks (all_blocks ps) in
    let b = record_count-append (take (area_of g) p.blocks) (areas g ps) in
    let c = record_count-append (drop (area_of g) p.blocks) (zones g ps) in
    let d : record_count (take (area_of g) p.blocks) + record_count (drop (area_of g) p.blocks) ≡ record_count p.blocks =
    sym (record_count-append (take (area_of g) p.blocks) (drop (area_of g) p.blocks)) ∙ ap record_count (take-append-drop (area_of g) p.blocks) in
    let i = all-count g ps in
    omega arith

pub namespace-count : (g : Geometry) (queues : List PortImage) (root : PortImage) → record_count (all_blocks queues) + record_count root.blocks ≡ record_count (namespace g queues root)
namespace-count g queues root =
    let a = record_count-append (areas g queues ++ root.blocks) (zones g queues) in
    let b = record_count-append (areas g queues) root.blocks in
    let c = all-count g queues in
    omega arith

pub namespace-length : (g : Geometry) (queues : List PortImage) (root : PortImage) → length (all_blocks queues) + length root.blocks ≡ length (namespace g queues root)
namespace-length g queues root =
    let a = length-append (areas g queues ++ root.blocks) (zones g queues) in
    let b = length-append (areas g queues) root.blocks in
    let c = all-length g queues in
    omega arith

-- the blocks of ports that have n each
pub all-sized : (n : ℕ) (queues : List PortImage) → All (λ (p : PortImage). length p.blocks ≡ n) queues → length (all_blocks queues) ≡ length queues * n
all-sized n [] h = omega arith
all-sized n (p ∷ ps) h =
    let a = length-append p.blocks (all_blocks ps) in
    let b : length p.blocks ≡ n = All-head (λ (q : PortImage). length q.blocks ≡ n) p ps h in
    let i = all-sized n ps (All-tail (λ (q : PortImage). length q.blocks ≡ n) p ps h) in
    let s : suc (length ps) * n ≡ n + length ps * n = omega arith in
    omega arith

pub namespace-sized : (g : Geometry) (queues : List PortImage) (root : PortImage) → length queues ≡ queues_of g → All (λ (p : PortImage). length p.blocks ≡ area_of g + zone_size g) queues → length root.blocks ≡ meta_of g
    → length (namespace g queues root) ≤ 294912
namespace-sized g queues root n each meta =
    let a = all-sized (area_of g + zone_size g) queues each in
    let b = namespace-length g queues root in
    let s : length queues * (area_of g + zone_size g) ≡ queues_of g * (area_of g + zone_size g) = ap (λ (k : ℕ). k * (area_of g + zone_size g)) n in
    let d : queues_of g * (area_of g + zone_size g) ≡ queues_of g * area_of g + queues_of g * zone_size g = omega arith in
    let m : queues_of g * area_of g ≤ 16 * area_of g = mul-le-mul_right (area_of g) g.queues_high in
    let h = g.homes_high in
    let k = g.area_high in
    omega arith

pub drive-sized : (x : DriveImage) (root : PortImage) → IsDrive x → root ≡ get_or x.ports (queues_of x.geometry) root → length (namespace x.geometry (take (queues_of x.geometry) x.ports) root) ≤ 294912
drive-sized x root h e =
    let ports = h.ports in
    let n : length (take (queues_of x.geometry) x.ports) ≡ queues_of x.geometry = length-take-le _ x.ports (omega arith) in
    let last : root ≡ root_port x = e ∙ get_or_default x.ports (queues_of x.geometry) root no_image (omega arith) in
    namespace-sized x.geometry (take (queues_of x.geometry) x.ports) root n
    (λ k d l.
    let low : k < queues_of x.geometry = omega arith in
    let inside : k < length x.ports = omega arith in
    let is : get_or (take (queues_of x.geometry) x.ports) k d ≡ get_or x.ports k no_image = get_or-take (queues_of x.geometry) x.ports k d low ∙ get_or_default x.ports k d no_image inside in
    ap (λ (p : PortImage). length p.blocks) is ∙ (h.queues k low).blocks)
    (ap (λ (p : PortImage). length p.blocks) last ∙ h.root.blocks ∙ zero-add (meta_of x.geometry))
