-- What stands on an image does not depend on the drive that starts from it.
use Rattle.std.proofs.Common.{◌≡◌, ◌⊎◌, inl, inr, ℕ, List, Option, None, refl, sym, subst}
use Rattle.mq_blocks.specs.Descriptor.{Descriptor}
use Rattle.mq_blocks.specs.Drive.{FuseName}
use Rattle.mq_blocks.specs.Journal.{AreWhole, Shown}
use Rattle.mq_blocks.specs.declared.geometry.Geometry.{Geometry}
use Rattle.mq_image.specs.File.{DriveImage}
use Rattle.mq_image_ops.specs.Standing.{Reads, RefusesDrive}
use Rattle.mq_image_ops.specs.Views.{drive_from, view_of}
use Rattle.mq_image_ops.specs.declared.ports.Failing.{Failing}
use Rattle.mq_image_ops.proofs.Views.{started-view}
use Rattle.mq_recover.specs.Drives.{DriveState}
use Rattle.mq_recover.specs.Recovery.{IsReadPrefix}
use Rattle.mq_recover.specs.Images.{IsReadableImage, RefusesImage}
use Rattle.mq_recover.specs.declared.refusal.ImageFault.{ImageFault}
use Rattle.mq_recover.specs.declared.refusal.ImageFault.TheVariants.{OutOfMemory}
use Rattle.mq_recover.proofs.DrivesImages.{image-refused, read-readable, whole-readable}

pub refuses-of : (fuse : FuseName) (x : DriveImage) (d : DriveState) (e : ImageFault) → d ≡ drive_from fuse None x → (e ≡ OutOfMemory) ⊎ RefusesImage x.geometry d e → (e ≡ OutOfMemory) ⊎ RefusesDrive x e
refuses-of fuse x d e is (inl memory) = inl memory
refuses-of fuse x d e is (inr refuses) = inr (record { fuse = fuse; refuses = subst (λ (s : DriveState). RefusesImage x.geometry s e) is refuses })

pub readable-of : (fuse : FuseName) (fail : Option Failing) (x : DriveImage) (d : DriveState) (ds : List Descriptor) (top : ℕ) → d ≡ drive_from fuse fail x → Reads x ds top → IsReadableImage x.geometry d
readable-of fuse fail x d ds top is read =
    read-readable x.geometry d ds top (subst (λ (i : Shown). IsReadPrefix x.geometry i ds top) (sym (started-view fuse fail x d is)) read)

-- an image that is readable is not refused
pub read-refused : (x : DriveImage) (ds : List Descriptor) (top : ℕ) (e : ImageFault) → Reads x ds top → RefusesDrive x e → ⊥
read-refused x ds top e read refused =
    image-refused x.geometry (drive_from refused.fuse None x) e (readable-of refused.fuse None x (drive_from refused.fuse None x) ds top refl read) refused.refuses

-- the same under another name of the geometry
pub refuses-under : (fuse : FuseName) (g : Geometry) (x : DriveImage) (d : DriveState) (e : ImageFault) → g ≡ x.geometry → d ≡ drive_from fuse None x → (e ≡ OutOfMemory) ⊎ RefusesImage g d e → (e ≡ OutOfMemory) ⊎ RefusesDrive x e
refuses-under fuse g x d e same is refused = refuses-of fuse x d e is (subst (λ (h : Geometry). (e ≡ OutOfMemory) ⊎ RefusesImage h d e) same refused)

pub readable-under : (fuse : FuseName) (fail : Option Failing) (g : Geometry) (x : DriveImage) (d : DriveState) (ds : List Descriptor) (top : ℕ) → g ≡ x.geometry → d ≡ drive_from fuse fail x → Reads x ds top → IsReadableImage g d
readable-under fuse fail g x d ds top same is read = subst (λ (h : Geometry). IsReadableImage h d) (sym same) (readable-of fuse fail x d ds top is read)

-- the same of an image whose chains are whole
pub whole-refused : (x : DriveImage) (chains : ℕ → List Descriptor) (e : ImageFault) → AreWhole x.geometry (view_of x) chains → RefusesDrive x e → ⊥
whole-refused x chains e whole refused =
    let d = drive_from refused.fuse None x in
    image-refused x.geometry d e (whole-readable x.geometry d chains (subst (λ (i : Shown). AreWhole x.geometry i chains) (sym (started-view refused.fuse None x d refl)) whole)) refused.refuses
