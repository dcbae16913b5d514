-- Ports read from a file, one behind another.
use Rattle.std.proofs.Common.{get_or, ◌≡◌, ℕ, add-zero, ◌+◌, ◌*◌, ◌^◌, ◌<◌, ◌≤◌, List, [], ◌∷◌, ◌++◌, length, refl, sym, ap, ◌∙◌, arith, length-append}
use Rattle.std.specs.Prelude.{Option}
use Rattle.std.specs.Int.{to_le_bytes, w64}
use Rattle.std.specs.List.{flat_map}
use Rattle.std.proofs.lemmas.List.{append-nil, length_push}
use Rattle.std.proofs.lemmas.List.Concat.{flat_map-append}
use Rattle.std.proofs.lemmas.List.Elements.{All-push}
use Rattle.mq_blocks.specs.Drive.{PortImage}
use Rattle.mq_blocks.specs.Windows.{number_at, window}
use Rattle.mq_blocks.specs.declared.geometry.Geometry.{Geometry}
use Rattle.mq_blocks.proofs.WindowsReadings.{bytes-number_at_8, number_at-below, window-add}
use Rattle.mq_nvme.specs.Dwords.{dword_bytes}
use Rattle.mq_image.specs.File.{all_blocks, ring_bytes, ring_depth, ring_size}
use Rattle.mq_image.specs.Places.{IsInside, IsSpan}
use Rattle.mq_image.specs.Reads.{AreAreasRead, IsAreaPort, IsAreaRead, IsPast}
use Rattle.mq_image.specs.declared.place.Place.{Place}
use Rattle.mq_image.proofs.PlacesSpans.{span-join, span-none}
use Rattle.mq_image.proofs.Versions.{rings-are, size-is}

-- ---- how far

pub past-none : (file : List ℕ) (p : Place) → IsInside p file → IsPast file p p 0
past-none file p h = record { size = refl; lba = sym (add-zero p.lba); inside = h; fault = refl; end = refl }

pub past-span : (file : List ℕ) (old new : Place) (bs : List (Option (List ℕ))) (n : ℕ) → IsSpan file old new bs → length bs ≡ n → IsPast file old new n
past-span file old new bs n s e = let l = s.lba in record { size = s.size; lba = omega arith; inside = s.inside; fault = s.fault; end = s.end }

pub past-join : (file : List ℕ) (old mid new : Place) (m n k : ℕ) → IsPast file old mid m → IsPast file mid new n → k ≡ m + n → IsPast file old new k
past-join file old mid new m n k s t e =
    let a = s.lba in
    let b = t.lba in
    record { size = t.size ∙ s.size; lba = omega arith; inside = t.inside; fault = t.fault ∙ s.fault; end = t.end ∙ s.end }

-- ---- the rings

ring-at : (file : List ℕ) (v at : ℕ) (p : PortImage) → at + ring_size v ≤ length file → ((k : ℕ) → get_or file k 0 < 256) → p.doorbell ≡ number_at 8 at file → p.head ≡ number_at 8 (at + 8) file
    → flat_map dword_bytes p.slots ≡ window file (at + 16) (64 * ring_depth v) → ring_bytes p ≡ window file at (ring_size v)
unfolding ring_bytes
ring-at file v at p room small d h s =
    let n = 64 * ring_depth v in
    let z = size-is v in
    let a : to_le_bytes w64 p.doorbell ≡ window file at 8 = ap (to_le_bytes w64) d ∙ bytes-number_at_8 at file (omega arith) small in
    let b : to_le_bytes w64 p.head ≡ window file (at + 8) 8 = ap (to_le_bytes w64) h ∙ bytes-number_at_8 (at + 8) file (omega arith) small in
    sym (ap (window file at) z ∙ window-add file at 16 n ∙ ap (λ (w : List ℕ). w ++ window file (at + 16) n) (window-add file at 8 8)
    ∙ ap (λ (w : List ℕ). (w ++ window file (at + 8) 8) ++ window file (at + 16) n) (sym a) ∙ ap (λ (w : List ℕ). (to_le_bytes w64 p.doorbell ++ w) ++ window file (at + 16) n) (sym b)
    ∙ ap (λ (w : List ℕ). (to_le_bytes w64 p.doorbell ++ to_le_bytes w64 p.head) ++ w) (sym s))

pub ring-read : (file : List ℕ) (v end at depth : ℕ) (p : PortImage) → at ≡ end → depth ≡ ring_depth v → end + ring_size v ≤ length file → ((k : ℕ) → get_or file k 0 < 256) → p.doorbell ≡ number_at 8 at file → p.head ≡ number_at 8 (at + 8) file
    → flat_map dword_bytes p.slots ≡ window file (at + 16) (64 * depth) → ring_bytes p ≡ window file end (ring_size v)
ring-read file v end at depth p here deep room small d h s =
    ring-at file v end p room small (d ∙ ap (λ (k : ℕ). number_at 8 k file) here) (h ∙ ap (λ (k : ℕ). number_at 8 (k + 8) file) here)
    (s ∙ ap (λ (k : ℕ). window file (k + 16) (64 * depth)) here ∙ ap (λ (k : ℕ). window file (end + 16) (64 * k)) deep)

-- a number that was read fits its eight bytes
pub word-below : (n at : ℕ) (file : List ℕ) → ((k : ℕ) → get_or file k 0 < 256) → n ≡ number_at 8 at file → n < 2 ^ 64
word-below n at file small e = omega (arith, e, number_at-below 8 at file small)

-- ---- the queues' ports

pub areas-none : (v : ℕ) (g : Geometry) (file : List ℕ) (p : Place) (ports : List PortImage) → ports ≡ [] → IsInside p file → AreAreasRead v g file 0 p p ports
areas-none v g file p ports e h = rw e (record {
  count_is = refl;
  each = λ k d l. absurd (omega arith);
  blocks = omega arith;
  span = span-none file p h;
  rings = let z : 0 ≡ ring_size v * 0 = omega arith in ap (window file 40) z;
})

pub areas-more : (v : ℕ) (g : Geometry) (file : List ℕ) (n : ℕ) (old mid new : Place) (ports more : List PortImage) (p : PortImage) → more ≡ ports ++ p ∷ [] → AreAreasRead v g file n old mid ports → IsAreaRead v g file n mid new p → AreAreasRead v g file (n + 1) old new more
areas-more v g file n old mid new ports more p e r s = rw e (record {
  count_is = length_push ports p ∙ ap (λ (k : ℕ). k + 1) r.count_is;
  each = All-push (λ (q : PortImage). IsAreaPort v g q) ports p r.each s.port;
  blocks = let a = length-append (all_blocks ports) p.blocks in let b : length (all_blocks (ports ++ p ∷ [])) ≡ length (all_blocks ports ++ p.blocks) = ap length all in let c = r.blocks in let d = s.port.area in omega arith;
  span = whole;
  rings = rings;
})
  where
    all : all_blocks (ports ++ p ∷ []) ≡ all_blocks ports ++ p.blocks
    all = flat_map-append (λ (q : PortImage). q.blocks) ports (p ∷ []) ∙ ap (λ (bs : List (Option (List ℕ))). all_blocks ports ++ bs) (append-nil p.blocks)

    whole : IsSpan file old new (all_blocks (ports ++ p ∷ []))
    whole = rw all (span-join file old mid new (all_blocks ports) p.blocks r.span s.span)

    rings : flat_map ring_bytes (ports ++ p ∷ []) ≡ window file 40 (ring_size v * (n + 1))
    rings =
        let z = ring_size v in
        let m : z * (n + 1) ≡ z * n + z = omega arith in
        flat_map-append ring_bytes ports (p ∷ []) ∙ ap (λ (w : List ℕ). flat_map ring_bytes ports ++ w) (append-nil (ring_bytes p)) ∙ ap (λ (w : List ℕ). w ++ ring_bytes p) r.rings
        ∙ ap (λ (w : List ℕ). window file 40 (z * n) ++ w) (s.ring ∙ ap (λ (at : ℕ). window file at z) (rings-are v n)) ∙ sym (window-add file 40 (z * n) z) ∙ ap (λ (k : ℕ). window file 40 k) (sym m)
