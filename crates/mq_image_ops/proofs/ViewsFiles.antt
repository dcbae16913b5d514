-- The file of an image shows what the image shows: it leaves out blocks of zeros alone.
use Rattle.std.proofs.Common.{◌≡◌, ◌∙◌, ℕ, zero, suc, ◌+◌, ◌-◌, ◌*◌, true, inl, inr, List, [], ◌∷◌, All, Option, None, Some, length, get_or, map, take, refl, sym, ap, arith}
use Rattle.std.proofs.lemmas.Bool.{and_parts, cases_Bool, eqb-true}
use Rattle.std.proofs.lemmas.List.{ext_get_or}
use Rattle.mq_blocks.specs.Descriptor.{journal_form}
use Rattle.mq_blocks.specs.Blocks.{block_at, content, zeros}
use Rattle.mq_blocks.specs.Drive.{PortImage}
use Rattle.mq_blocks.specs.Geometry.{queues_of, zone_of}
use Rattle.mq_blocks.specs.Journal.{home_block, image_at, shown, no_image}
use Rattle.mq_blocks.specs.declared.geometry.Geometry.{Geometry}
use Rattle.mq_blocks.proofs.BlocksZeros.{length-zeros, zeros-at}
use Rattle.mq_image.specs.Drives.{HasWidths, IsDrive, IsRead, emptied, without_blanks}
use Rattle.mq_image.specs.File.{DriveImage, IsBlockSized, image_bytes, is_blank, kept, queue_ports, root_port}
use Rattle.mq_image.proofs.FileForms.{formed-drive, read-formed}
use Rattle.mq_image_ops.specs.Views.{view_of}
use Rattle.mq_nvme.specs.Says.{says, journal_reading}

-- ---- a block of zeros

blank-at : (bytes : List ℕ) → is_blank bytes ≡ true → (k : ℕ) → get_or bytes k 0 ≡ 0
blank-at [] blank k = refl
blank-at (b ∷ bytes) blank zero = eqb-true b 0 (and_parts _ _ blank).0
blank-at (b ∷ bytes) blank (suc k) = blank-at bytes (and_parts _ _ blank).1 k

blank-zeros : (block : List ℕ) → is_blank block ≡ true → length block ≡ 4096 → zeros ≡ block
blank-zeros block blank whole = ext_get_or 0 zeros block (length-zeros ∙ sym whole) (λ k low. zeros-at k ∙ sym (blank-at block blank k))

kept-content : (b : Option (List ℕ)) → IsBlockSized b → content (kept b) ≡ content b
kept-content None has = refl
kept-content (Some block) has = elim (cases_Bool (is_blank block)) [
  | inl blank ↦ rw blank (blank-zeros block blank has)
  | inr full ↦ rw full refl
]

kept-block : (blocks : List (Option (List ℕ))) → All IsBlockSized blocks → (k : ℕ) → block_at (map kept blocks) k ≡ block_at blocks k
kept-block [] has k = refl
kept-block (b ∷ blocks) has zero = kept-content b (has 0 b (omega arith))
kept-block (b ∷ blocks) has (suc k) = kept-block blocks (λ j d low. has (suc j) d (omega (arith, low))) k

-- ---- ports

take-without : (n : ℕ) (ports : List PortImage) → take n (map without_blanks ports) ≡ map without_blanks (take n ports)
take-without zero ports = refl
take-without (suc n) [] = refl
take-without (suc n) (p ∷ ports) = ap (λ (ps : List PortImage). without_blanks p ∷ ps) (take-without n ports)

port-without : (n : ℕ) (ports : List PortImage) → get_or (map without_blanks ports) n no_image ≡ without_blanks (get_or ports n no_image)
port-without n [] = refl
port-without zero (p ∷ ports) = refl
port-without (suc n) (p ∷ ports) = port-without n ports

image-without : (ports : List PortImage) (q : ℕ) → image_at (map without_blanks ports) q ≡ without_blanks (image_at ports q)
image-without [] q = refl
image-without (p ∷ ports) zero = refl
image-without (p ∷ ports) (suc q) = image-without ports q

-- each of them has blocks, and one that isn't there has none
blocks-at : (ports : List PortImage) → All HasWidths ports → (q : ℕ) → All IsBlockSized (image_at ports q).blocks
blocks-at [] fit q = λ k d low. absurd (omega (arith, low))
blocks-at (p ∷ ports) fit zero = (fit 0 p (omega arith)).blocks
blocks-at (p ∷ ports) fit (suc q) = blocks-at ports (λ k d low. fit (suc k) d (omega (arith, low))) q

module _ (g : Geometry) (queues : List PortImage) (root : PortImage) (fit : All HasWidths queues) (root_fits : HasWidths root) where
  block-without : (q k : ℕ) → block_at (image_at (map without_blanks queues) q).blocks k ≡ block_at (image_at queues q).blocks k
  block-without q k = ap (λ (p : PortImage). block_at p.blocks k) (image-without queues q) ∙ kept-block (image_at queues q).blocks (blocks-at queues fit q) k

  home-without : (b : ℕ) (zone : Option ℕ) → home_block g (map without_blanks queues) (without_blanks root) b zone ≡ home_block g queues root b zone
  home-without b None = kept-block root.blocks root_fits.blocks b
  home-without b (Some q) = block-without q (g.area + (b - (g.meta + q * g.zone)))

  shown-without : shown journal_reading g (map without_blanks queues) (without_blanks root) ≡ shown journal_reading g queues root
  shown-without = λ i. record {
    form = journal_form;
    base = root.base;
    head = λ q. (image-without queues q i).head;
    doorbell = λ q. (image-without queues q i).doorbell;
    entry = λ q k. says (get_or (image-without queues q i).slots k []);
    area = λ q k. block-without q k i;
    home = λ b. home-without b (zone_of g b) i;
  }

widths-more : (p : PortImage) (ports : List PortImage) → HasWidths p → All HasWidths ports → All HasWidths (p ∷ ports)
widths-more p ports one rest zero d low = one
widths-more p ports one rest (suc k) d low = rest k d (omega (arith, low))

widths-of-queues : (n : ℕ) (ports : List PortImage) → All HasWidths ports → All HasWidths (take n ports)
widths-of-queues zero ports fit = λ k d low. absurd (omega (arith, low))
widths-of-queues (suc n) [] fit = λ k d low. absurd (omega (arith, low))
widths-of-queues (suc n) (p ∷ ports) fit = widths-more p (take n ports) (fit 0 p (omega arith)) (widths-of-queues n ports (λ j e less. fit (suc j) e (omega (arith, less))))

emptied-shows : (x : DriveImage) → IsDrive x → All HasWidths x.ports → view_of (emptied x) ≡ view_of x
emptied-shows x drive fit =
    let n = queues_of x.geometry in
    let many = drive.ports in
    (λ i. shown journal_reading x.geometry (take-without n x.ports i) (port-without n x.ports i))
    ∙ shown-without x.geometry (queue_ports x) (root_port x) (widths-of-queues n x.ports fit) (fit n no_image (omega arith))

-- what is read of the file of an image shows what the image shows
pub file-shows : (x y : DriveImage) → IsDrive x → All HasWidths x.ports → IsRead y (image_bytes x) → (y.geometry ≡ x.geometry) × (view_of y ≡ view_of x)
file-shows x y drive fit read =
    let same = read-formed 2 (queue_ports x) (root_port x) x y (image_bytes x) (formed-drive x drive fit) read in
    (ap (λ (z : DriveImage). z.geometry) same, ap view_of same ∙ emptied-shows x drive fit)
