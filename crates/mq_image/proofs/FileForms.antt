-- An image and a file that is read as it, in either version.
use Rattle.std.proofs.Common.{get_or, ◌≡◌, ◌<◌, ℕ, inl, inr, zero-add, ◌⊎◌, ◌+◌, ◌^◌, List, [], ◌∷◌, ◌++◌, length, take, map, true, refl, sym, ap, subst, ◌∙◌, arith}
use Rattle.std.specs.Prelude.{Option, None, Some, Result, nat_eq, if◌then◌else◌}
use Rattle.std.specs.List.{All}
use Rattle.std.proofs.lemmas.Bool.{cases_Bool, eqb-false, eqb-true}
use Rattle.std.proofs.lemmas.List.{get_or-map, get_or-take, get_or_default, length-map, length-take-le, map-append, map-id, take_all, take_more}
use Rattle.mq_blocks.specs.Drive.{PortImage}
use Rattle.mq_blocks.specs.Geometry.{queues_of}
use Rattle.mq_blocks.specs.Journal.{no_image}
use Rattle.mq_blocks.specs.declared.geometry.Geometry.{Geometry}
use Rattle.mq_blocks.specs.declared.geometry.GeometryRefusal.{GeometryRefusal}
use Rattle.mq_image.specs.Drives.{AreOldPorts, HasWidths, IsDrive, IsOldFile, IsRead, emptied, without_blanks}
use Rattle.mq_image.specs.Faults.{HasFault, IsGeometryIn, area_in, fault_of, meta_in, queues_in, version_in, words_fault, zone_in}
use Rattle.mq_image.specs.File.{DriveImage, file_bytes, image_bytes, is_version, queue_ports, ring_depth, root_port, written_version}
use Rattle.mq_image.specs.Old.{AreOldWords, moved}
use Rattle.mq_image.specs.Reads.{IsQueuePort, IsRootPort}
use Rattle.mq_image.specs.declared.fault.FileFault.{FileFault}
use Rattle.mq_image.proofs.FaultsGeometries.{one_shape, same_geometry}
use Rattle.mq_image.proofs.FileUnique.{SamePorts, ports-kept, ports-same}
use Rattle.mq_image.proofs.FileWritten.{PortsShown, file-shown, no-fault, shown-of}
use Rattle.mq_image.proofs.OldWords.{words-new, words-none}

-- ---- the ports of a version as the image has them

unfoldable pub renewed : ℕ → PortImage → PortImage
renewed v p = if nat_eq v 1 then moved p else p

old-renewed : (ps : List PortImage) → map (renewed 1) ps ≡ map moved ps
unfolding renewed
old-renewed ps = refl

new-renewed : (ps : List PortImage) → map (renewed 2) ps ≡ ps
unfolding renewed
new-renewed ps = map-id ps

one-kept : (v : ℕ) (p : PortImage) → without_blanks (renewed v p) ≡ renewed v (without_blanks p)
unfolding renewed
one-kept v p = elim (cases_Bool (nat_eq v 1)) [
  | inl old ↦ rw old refl
  | inr new ↦ rw new refl
]

all-kept : (v : ℕ) (ps : List PortImage) → map without_blanks (map (renewed v) ps) ≡ map (renewed v) (map without_blanks ps)
all-kept v [] = refl
all-kept v (p ∷ ps) = ap (λ (q : PortImage). q ∷ map without_blanks (map (renewed v) ps)) (one-kept v p) ∙ ap (λ (qs : List PortImage). renewed v (without_blanks p) ∷ qs) (all-kept v ps)

-- ---- the file of an image

-- the file is of this version and has these ports, and the image is what they are read as
pub record IsFormed (v : ℕ) (queues : List PortImage) (root : PortImage) (x : DriveImage) (file : List ℕ) : Type 0 where
  pub low : v < 2 ^ 32
  pub known : is_version v ≡ true
  pub shown : PortsShown v x.geometry queues root
  pub words : v ≡ 1 → All AreOldWords queues
  pub ports_are : x.ports ≡ map (renewed v) queues ++ root ∷ []
  pub is : file ≡ file_bytes v x.geometry queues root

-- the ports of a drive
split-ports : (n : ℕ) (ports : List PortImage) → length ports ≡ n + 1 → ports ≡ take n ports ++ get_or ports n no_image ∷ []
split-ports n ports e = sym (take_all (n + 1) ports (omega arith)) ∙ take_more ports n no_image (omega arith)

root-of : (x : DriveImage) → IsDrive x → All HasWidths x.ports → IsRootPort x.geometry (root_port x).base (root_port x)
root-of x h w = record {
  blocks = h.root.blocks ∙ zero-add _;
  slots = h.root.slots;
  doorbell = h.root.words.0;
  head = h.root.words.1;
  base_is = refl;
  widths = w (queues_of x.geometry) no_image (omega (arith, h.ports));
}

pub depth-new : ring_depth written_version ≡ 4096
unfolding ring_depth
depth-new = refl

pub depth-old : ring_depth 1 ≡ 1024
unfolding ring_depth
depth-old = refl

-- what is known of a queue's port of a drive
queue-of : (x : DriveImage) → IsDrive x → All HasWidths x.ports → (k : ℕ) → k < queues_of x.geometry → IsQueuePort written_version x.geometry (get_or x.ports k no_image)
queue-of x h w k low =
    let p = h.queues k low in
    record { blocks = p.blocks; slots = p.slots ∙ sym depth-new; base = p.words; widths = w k no_image (omega (arith, low, h.ports)) }

shown-drive : (x : DriveImage) → IsDrive x → All HasWidths x.ports → PortsShown written_version x.geometry (queue_ports x) (root_port x)
shown-drive x h w =
    let n = h.ports in
    let count : length (queue_ports x) ≡ queues_of x.geometry = length-take-le (queues_of x.geometry) x.ports (omega arith) in
    shown-of written_version x.geometry (queue_ports x) (root_port x) count (λ k d l.
    let low : k < queues_of x.geometry = omega (arith, l, count) in
    let is : get_or (queue_ports x) k d ≡ get_or x.ports k no_image = get_or-take (queues_of x.geometry) x.ports k d low ∙ get_or_default x.ports k d no_image (omega (arith, low, n)) in
    subst (λ (q : PortImage). IsQueuePort written_version x.geometry q) (sym is) (queue-of x h w k low)) (root-of x h w)

pub formed-drive : (x : DriveImage) → IsDrive x → All HasWidths x.ports → IsFormed 2 (queue_ports x) (root_port x) x (image_bytes x)
formed-drive x h w = record {
  low = omega arith;
  known = refl;
  shown = shown-drive x h w;
  words = λ e. absurd (omega arith);
  ports_are = split-ports (queues_of x.geometry) x.ports h.ports ∙ ap (λ (ps : List PortImage). ps ++ root_port x ∷ []) (sym (new-renewed (queue_ports x)));
  is = refl;
}

-- the ports of a file of version 1
shown-old : (g : Geometry) (old : List PortImage) (root : PortImage) → AreOldPorts g old root → PortsShown 1 g old root
shown-old g old root h = shown-of 1 g old root h.count (λ k d l.
    let p = h.each k d l in
    let w = p.words in
    let base = h.base k d l in
    let o = w.order in
    let m = w.low in
    record {
      blocks = h.blocks k d l;
      slots = p.slots ∙ sym depth-old;
      base = base;
      widths = record { doorbell = omega arith; head = omega arith; base = omega arith; slots = p.dwords; blocks = h.bytes k d l };
    }) (record {
      blocks = h.root_is.blocks ∙ zero-add _;
      slots = h.root_is.slots;
      doorbell = h.root_is.words.0;
      head = h.root_is.words.1;
      base_is = refl;
      widths = h.root_widths;
    })

pub formed-old : (x : DriveImage) (old : List PortImage) (root : PortImage) → AreOldPorts x.geometry old root → x.ports ≡ map moved old ++ root ∷ [] → IsFormed 1 old root x (file_bytes 1 x.geometry old root)
formed-old x old root h e = record {
  low = omega arith;
  known = refl;
  shown = shown-old x.geometry old root h;
  words = λ z k d l. (h.each k d l).words;
  ports_are = e ∙ ap (λ (ps : List PortImage). ps ++ root ∷ []) (sym (old-renewed old));
  is = refl;
}

-- the old ports of an image that was read
old-ports : (x : DriveImage) (file : List ℕ) → IsDrive x → All HasWidths x.ports → (f : IsOldFile x file) → AreOldPorts x.geometry f.old (root_port x)
old-ports x file h w f = record {
  count = n;
  each = f.each;
  blocks = λ k d l. (port k d l).blocks;
  base = λ k d l. (port k d l).base;
  bytes = λ k d l. (port k d l).widths.blocks;
  root_is = h.root;
  root_widths = w (queues_of x.geometry) no_image (omega (arith, h.ports));
}
  where
    n : length f.old ≡ queues_of x.geometry
    n = sym (length-map f.old moved) ∙ ap length (sym f.moved_is) ∙ (shown-drive x h w).count

    port : (k : ℕ) (d : PortImage) → k < length f.old → IsQueuePort written_version x.geometry (moved (get_or f.old k d))
    port k d l =
        subst (λ (p : PortImage). IsQueuePort written_version x.geometry p) (ap (λ (ps : List PortImage). get_or ps k d) f.moved_is ∙ get_or-map moved f.old k d d l)
        ((shown-drive x h w).each k d (omega (arith, l, ap length f.moved_is, length-map f.old moved)))

-- what was read has a form
pub formed-read : {R : Type 0} (x : DriveImage) (file : List ℕ) → IsRead x file → ((v : ℕ) (queues : List PortImage) → IsFormed v queues (root_port x) x file → R) → R
formed-read {R} x file r use_it = by r.file_is
  where
    by : (file ≡ image_bytes x) ⊎ IsOldFile x file → R
    by (inl new) = use_it 2 (queue_ports x) (subst (IsFormed 2 (queue_ports x) (root_port x) x) (sym new) (formed-drive x r.drive r.widths))
    by (inr old) = use_it 1 old.old (subst (IsFormed 1 old.old (root_port x) x) (sym old.is)
        (formed-old x old.old (root_port x) (old-ports x file r.drive r.widths old) (split-ports (queues_of x.geometry) x.ports r.drive.ports ∙ ap (λ (ps : List PortImage). ps ++ root_port x ∷ []) old.moved_is)))

-- ---- a file has one form

formed-same-ports : (v : ℕ) (g : Geometry) (qs rs ps os : List PortImage) (u t : PortImage) → ps ≡ map (renewed v) qs ++ u ∷ [] → os ≡ map (renewed v) rs ++ t ∷ [] → SamePorts qs rs u t → map without_blanks ps ≡ map without_blanks os
formed-same-ports v g qs rs ps os u t a b same =
    each qs u ps a ∙ ap (λ (xs : List PortImage). map (renewed v) xs ++ without_blanks u ∷ []) same.queues ∙ ap (λ (p : PortImage). map (renewed v) (map without_blanks rs) ++ p ∷ []) same.root ∙ sym (each rs t os b)
  where
    each : (xs : List PortImage) (p : PortImage) (ys : List PortImage) → ys ≡ map (renewed v) xs ++ p ∷ [] → map without_blanks ys ≡ map (renewed v) (map without_blanks xs) ++ without_blanks p ∷ []
    each xs p ys e =
        ap (map without_blanks) e ∙ map-append without_blanks (map (renewed v) xs) (p ∷ []) ∙ ap (λ (zs : List PortImage). zs ++ without_blanks p ∷ []) (all-kept v xs)

pub formed-same : (v w : ℕ) (qs rs : List PortImage) (u t : PortImage) (x y : DriveImage) (file : List ℕ) → IsFormed v qs u x file → IsFormed w rs t y file → emptied x ≡ emptied y
formed-same v w qs rs u t x y file a b =
    let e : file_bytes v x.geometry qs u ≡ file_bytes w y.geometry rs t = sym a.is ∙ b.is in
    let fx = (file-shown v x.geometry qs u a.low a.shown).header in
    let fy = (file-shown w y.geometry rs t b.low b.shown).header in
    let version : v ≡ w = sym fx.version ∙ ap version_in e ∙ fy.version in
    let gx = fx.geometry in
    let gy = fy.geometry in
    let g : x.geometry ≡ y.geometry =
    same_geometry x.geometry y.geometry (gx.queues ∙ ap queues_in e ∙ sym gy.queues) (gx.area ∙ ap area_in e ∙ sym gy.area) (gx.meta ∙ ap meta_in e ∙ sym gy.meta) (gx.zone ∙ ap zone_in e ∙ sym gy.zone) in
    let first = subst (λ (k : Geometry). PortsShown v k qs u × (file_bytes v k qs u ≡ file_bytes w y.geometry rs t)) g (a.shown, e) in
    let second = subst (λ (n : ℕ). PortsShown n y.geometry qs u × (file_bytes n y.geometry qs u ≡ file_bytes w y.geometry rs t)) version first in
    let same = ports-same w y.geometry qs rs u t b.low second.0 b.shown second.1 in
    let ports = formed-same-ports w y.geometry qs rs x.ports y.ports u t (subst (λ (n : ℕ). x.ports ≡ map (renewed n) qs ++ u ∷ []) version a.ports_are) b.ports_are same in
    λ i. record { geometry = g i; ports = ports i }

-- what was read has no block of zeros
pub read-emptied : (x : DriveImage) (file : List ℕ) → IsRead x file → emptied x ≡ x
read-emptied x file r =
    let k = ports-kept written_version x.geometry (queue_ports x) (root_port x) (shown-drive x r.drive r.widths) r.kept_is in
    let whole = split-ports (queues_of x.geometry) x.ports r.drive.ports in
    let same : map without_blanks x.ports ≡ x.ports =
    ap (map without_blanks) whole ∙ map-append without_blanks (queue_ports x) (root_port x ∷ []) ∙ ap (λ (ps : List PortImage). ps ++ without_blanks (root_port x) ∷ []) k.0 ∙ ap (λ (p : PortImage). queue_ports x ++ p ∷ []) k.1 ∙ sym whole in
    λ i. record { geometry = x.geometry; ports = same i }

-- a file is read as one image
pub read-formed : (v : ℕ) (qs : List PortImage) (u : PortImage) (x y : DriveImage) (file : List ℕ) → IsFormed v qs u x file → IsRead y file → y ≡ emptied x
read-formed v qs u x y file a r = formed-read y file r (λ w rs b. sym (read-emptied y file r) ∙ formed-same w v rs qs (root_port y) u y x file b a)

pub read-once : (x y : DriveImage) (file : List ℕ) → IsRead x file → IsRead y file → x ≡ y
read-once x y file r s = formed-read x file r (λ v qs a. sym (read-emptied x file r) ∙ sym (read-formed v qs (root_port x) x y file a s))

-- ---- a file that has a form has no fault

formed-words : (v : ℕ) (queues : List PortImage) (root : PortImage) (g : Geometry) → v < 2 ^ 32 → PortsShown v g queues root → (v ≡ 1 → All AreOldWords queues) → words_fault v (file_bytes v g queues root) ≡ None
formed-words v queues root g low p w = elim (cases_Bool (nat_eq v 1)) [
  | inl old ↦ old-case v (eqb-true v 1 old) low p w
  | inr new ↦ words-new (file_bytes v g queues root) v (eqb-false v 1 new)
]
  where
    old-case : (n : ℕ) → n ≡ 1 → n < 2 ^ 32 → PortsShown n g queues root → (n ≡ 1 → All AreOldWords queues) → words_fault n (file_bytes n g queues root) ≡ None
    old-case n e l q h =
        let q₁ = subst (λ (k : ℕ). PortsShown k g queues root) e q in
        subst (λ (k : ℕ). words_fault k (file_bytes k g queues root) ≡ None) (sym e) (words-none (file_bytes 1 g queues root) g queues root no_image q₁ (file-shown 1 g queues root (omega arith) q₁) (h e))

pub formed-good : (v : ℕ) (queues : List PortImage) (root : PortImage) (x : DriveImage) (file : List ℕ) → IsFormed v queues root x file → HasFault file None
formed-good v queues root x file f = subst (λ (l : List ℕ). HasFault l None) (sym f.is) (no-fault v x.geometry queues root f.low f.known f.shown (formed-words v queues root x.geometry f.low f.shown f.words))

pub read-good : (x : DriveImage) (file : List ℕ) → IsRead x file → HasFault file None
read-good x file r = formed-read x file r (λ v queues f. formed-good v queues (root_port x) x file f)

read-geometry : (x : DriveImage) (file : List ℕ) → IsRead x file → IsGeometryIn file x.geometry
read-geometry x file r = formed-read x file r (λ v queues f. subst (λ (l : List ℕ). IsGeometryIn l x.geometry) (sym f.is) (file-shown v x.geometry queues (root_port x) f.low f.shown).header.geometry)

pub read-faulty : (x : DriveImage) (file : List ℕ) (e : FileFault) → IsRead x file → HasFault file (Some e) → ⊥
read-faulty x file e r f =
    let none = read-good x file r in
    let geometry = read-geometry x file r in
    let one : f.shape ≡ none.shape = one_shape file x.geometry f.shape geometry f.has ∙ sym (one_shape file x.geometry none.shape geometry none.has) in
    let same : ◌≡◌ {A = Option FileFault} (Some e) None = sym f.is ∙ ap (λ (s : Result Geometry GeometryRefusal). fault_of s file) one ∙ none.is in
    cc
