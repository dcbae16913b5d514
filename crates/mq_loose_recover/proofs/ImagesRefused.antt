-- Why an image of the loose order is refused: for one cause, and for none where it is readable.
use Rattle.std.proofs.Common.{◌≡◌, ◌⊎◌, inl, inr, ap}
use Rattle.std.specs.Prelude.{IsErrOf, Err}
use Rattle.mq_blocks.specs.declared.geometry.Geometry.{Geometry}
use Rattle.mq_recover.proofs.ReadersImages.{image-refused-by, reading-refused-by, refuses-image-once-by, twice-refused-by}
use Rattle.mq_recover.specs.Drives.{DriveState}
use Rattle.mq_recover.specs.Merges.{RefusesTwice}
use Rattle.mq_recover.specs.Queues.{AreChainsReadBy, RefusesReadingBy}
use Rattle.mq_recover.specs.declared.queues.QueuesRead.{QueuesRead}
use Rattle.mq_recover.specs.declared.refusal.ImageFault.{ImageFault}
use Rattle.mq_recover.specs.declared.refusal.ImageFault.TheVariants.{OutOfMemory}
use Rattle.mq_loose_recover.proofs.ReadingExact.{loose-reader}
use Rattle.mq_loose_recover.specs.Images.{IsReadableLooseImage, RefusesLooseImage}
use Rattle.mq_loose_recover.specs.Reading.{accepts_loose, refuses_loose}

pub image-refused : (g : Geometry) (d : DriveState) (e : ImageFault) → IsReadableLooseImage g d → RefusesLooseImage g d e → ⊥
image-refused = image-refused-by accepts_loose refuses_loose loose-reader

-- a refusal of the chains, or of their numbers
pub reading-refused : (g : Geometry) (d : DriveState) (e : ImageFault) → (e ≡ OutOfMemory) ⊎ RefusesReadingBy accepts_loose refuses_loose g d e → (e ≡ OutOfMemory) ⊎ RefusesLooseImage g d e
reading-refused g d e given = elim given [ inl x ↦ inl x | inr x ↦ inr (reading-refused-by accepts_loose refuses_loose loose-reader g d e x) ]

pub twice-refused : (g : Geometry) (d : DriveState) (read : QueuesRead) (e : ImageFault) → AreChainsReadBy accepts_loose g d read → (e ≡ OutOfMemory) ⊎ RefusesTwice read.chains.items e → (e ≡ OutOfMemory) ⊎ RefusesLooseImage g d e
twice-refused g d read e all given = elim given [ inl x ↦ inl x | inr x ↦ inr (twice-refused-by accepts_loose refuses_loose loose-reader g d read e all x) ]

-- A readable image is refused only when the call runs out of memory.
pub memory-alone : (g : Geometry) (d : DriveState) (e : ImageFault) → (e ≡ OutOfMemory) ⊎ RefusesLooseImage g d e → IsReadableLooseImage g d → e ≡ OutOfMemory
memory-alone g d e given image = elim given [ inl x ↦ x | inr x ↦ absurd (image-refused g d e image x) ]

-- a refusal is the one cause
pub err-exact : (A : Type 0) (g : Geometry) (d : DriveState) (f e : ImageFault) → (f ≡ OutOfMemory) ⊎ RefusesLooseImage g d f → RefusesLooseImage g d e → IsErrOf {T = A} (Err f) e ⊎ IsErrOf {T = A} (Err f) OutOfMemory
err-exact A g d f e given r = elim given [
  | inl x ↦ inr (ap (λ (z : ImageFault). Err z) x)
  | inr x ↦ inl (ap (λ (z : ImageFault). Err z) (refuses-image-once-by accepts_loose refuses_loose loose-reader g d f e x r))
]
