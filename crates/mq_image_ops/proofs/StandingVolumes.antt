-- The volume that stands on an image.
use Rattle.std.proofs.Common.{◌≡◌, ◌≢◌, ◌⊎◌, inl, inr, ℕ, List, Option, refl, sym, ◌∙◌, ap, subst}
use Rattle.mq_blocks.specs.Descriptor.{Descriptor}
use Rattle.mq_blocks.specs.Machine.{Map}
use Rattle.mq_blocks.specs.declared.geometry.Geometry.{Geometry}
use Rattle.mq_blocks.specs.Journal.{stands}
use Rattle.mq_image.specs.File.{DriveImage}
use Rattle.mq_image_ops.specs.Refusals.{refusal_for, refusal_of}
use Rattle.mq_image_ops.specs.Standing.{AreStanding, HasNoVolume, IsStandingOf, Reads, RefusesDrive, RefusesVolume, StandsFor, not_mounted, not_readable, unmounted, unreadable, wanting}
use Rattle.mq_image_ops.specs.Views.{view_of}
use Rattle.mq_image_ops.specs.declared.refusal.StandingRefusal.{StandingRefusal}
use Rattle.mq_image_ops.specs.declared.refusal.StandingRefusal.TheVariants as standing
use Rattle.mq_image_ops.proofs.Standing.{read-refused}
use Rattle.mq_recover.specs.declared.refusal.ImageFault.{ImageFault}
use Rattle.mq_recover.specs.declared.refusal.ImageFault.TheVariants as image
use Rattle.mq_recover.proofs.DrivesImages.{read-same}
use Rattle.mq_tree.specs.Corrupt.{Refuses}
use Rattle.mq_tree.specs.Laid.{IsLaid, IsTreeOf, map_of}
use Rattle.mq_tree.specs.Trees.{IsAlike}
use Rattle.mq_tree.specs.Volume.{Things, Volume, layout, tree}
use Rattle.mq_tree.proofs.LaidUnique.{volume-once}
use Rattle.mq_tree.specs.declared.corrupt.MountRefusal.{MountRefusal}
use Rattle.mq_tree.specs.declared.corrupt.MountRefusal.TheVariants as mount
use Rattle.mq_tree.proofs.LaidMaps.{same-map, laid-along}

-- a volume has its tree
tree-of : (g : Geometry) (m : Map) (v : Volume) → IsLaid g m v → IsTreeOf g m (tree v)
tree-of g m v laid = record { places = layout v; laid = record { volume = v; laid = laid; things = λ path. refl; places = λ path. refl } }

module _ (g : Geometry) (x : DriveImage) (same : g ≡ x.geometry) (stored : List (Option (List ℕ))) (stood : IsStandingOf x stored) where
  -- what a mount of the blocks that stand finds
  pub volume-of : (t : Volume) → IsTreeOf g (map_of g stored) (tree t) → ((v : Volume) → IsLaid g (map_of g stored) v → IsAlike t v) → (v : Volume) × StandsFor x v × IsAlike t v
  volume-of t found alike =
      let laid = found.places in
      let l = found.laid in (
        l.volume,
        record { ds = stood.ds; top = stood.top; stored = stored; read = stood.read; standing = stood.blocks; laid = subst (λ (h : Geometry). IsLaid h (map_of h stored) l.volume) same l.laid },
        alike l.volume l.laid,
      )

  -- a volume that stands is on these blocks
  pub volume-laid : (v : Volume) → StandsFor x v → IsLaid g (map_of g stored) v
  volume-laid v for =
      let once : for.ds ≡ stood.ds = (read-same x.geometry (view_of x) for.ds stood.ds for.top stood.top for.read stood.read).0 in
      let blocks = stood.blocks in
      let others = for.standing in
      subst (λ (h : Geometry). IsLaid h (map_of h stored) v) (sym same)
      (laid-along x.geometry (map_of x.geometry for.stored) (map_of x.geometry stored) v
      (same-map x.geometry for.stored stored (λ b low. others.each b low ∙ ap (λ (ds : List Descriptor). stands x.geometry (view_of x) ds b) once ∙ sym (blocks.each b low)))
      for.laid)

  -- so a mount does not refuse them
  pub mounts : (v : Volume) (e : MountRefusal) → StandsFor x v → (e ≢ mount.OutOfMemory → (t : Things) → IsTreeOf g (map_of g stored) t → ⊥) → e ≢ mount.OutOfMemory → ⊥
  mounts v e for none other = none other (tree v) (tree-of g (map_of g stored) v (volume-laid v for))

  pub mount-refuses : (e : MountRefusal) → Refuses g stored e → (e ≢ mount.OutOfMemory → (t : Things) → IsTreeOf g (map_of g stored) t → ⊥) → RefusesVolume x (refusal_of e)
  mount-refuses (mount.Corrupt cause b) refuses none =
      not_mounted stood.ds stood.top stored stood.read stood.blocks
      (λ v laid. none (λ e. cc) (tree v) (tree-of g (map_of g stored) v (subst (λ (h : Geometry). IsLaid h (map_of h stored) v) (sym same) laid)))
      (subst (λ (h : Geometry). Refuses h stored (mount.Corrupt cause b)) same refuses)
  mount-refuses mount.OutOfMemory refuses none = wanting

  pub mount-wants : (v : Volume) (e : MountRefusal) → StandsFor x v → (e ≢ mount.OutOfMemory → (t : Things) → IsTreeOf g (map_of g stored) t → ⊥) → refusal_of e ≡ standing.OutOfMemory
  mount-wants v (mount.Corrupt cause b) for none = absurd (mounts v (mount.Corrupt cause b) for none (λ e. cc))
  mount-wants v mount.OutOfMemory for none = refl

-- what a reading of the image refuses
pub image-refuses : (x : DriveImage) (e : ImageFault) → (e ≡ image.OutOfMemory) ⊎ RefusesDrive x e → RefusesVolume x (refusal_for e)
image-refuses x image.OutOfMemory why = wanting
image-refuses x (image.Bad q cause) (inl e) = absurd (cc)
image-refuses x (image.Bad q cause) (inr is) = not_readable (image.Bad q cause) is
image-refuses x (image.Twice n a b) (inl e) = absurd (cc)
image-refuses x (image.Twice n a b) (inr is) = not_readable (image.Twice n a b) is
image-refuses x (image.Limit n) (inl e) = absurd (cc)
image-refuses x (image.Limit n) (inr is) = not_readable (image.Limit n) is

-- a volume that stands lies on all blocks that stand
laid-on : (x : DriveImage) (v : Volume) (ds : List Descriptor) (top : ℕ) (stored : List (Option (List ℕ))) → StandsFor x v → Reads x ds top → AreStanding x ds stored → IsLaid x.geometry (map_of x.geometry stored) v
laid-on x v ds top stored for read blocks =
    let once : for.ds ≡ ds = (read-same x.geometry (view_of x) for.ds ds for.top top for.read read).0 in
    let others = for.standing in
    laid-along x.geometry (map_of x.geometry for.stored) (map_of x.geometry stored) v
    (same-map x.geometry for.stored stored (λ b low. others.each b low ∙ ap (λ (es : List Descriptor). stands x.geometry (view_of x) es b) once ∙ sym (blocks.each b low)))
    for.laid

-- where a volume stands, nothing is refused
pub stands-refused : (x : DriveImage) (v : Volume) (r : StandingRefusal) → StandsFor x v → RefusesVolume x r → r ≢ standing.OutOfMemory → ⊥
stands-refused x v _ for (not_readable e refuses) other = read-refused x for.ds for.top e for.read refuses
stands-refused x v _ for (not_mounted ds top stored read blocks none corrupt) other = none v (laid-on x v ds top stored for read blocks)
stands-refused x v _ for wanting other = other refl

-- nor does none stand
pub stands-none : (x : DriveImage) (v : Volume) → StandsFor x v → HasNoVolume x → ⊥
stands-none x v for (unreadable e refuses) = read-refused x for.ds for.top e for.read refuses
stands-none x v for (unmounted ds top stored read blocks none) = none v (laid-on x v ds top stored for read blocks)

-- an image stands for one volume
pub stands-once : (x : DriveImage) (v w : Volume) → StandsFor x v → StandsFor x w → v ≡ w
stands-once x v w for other =
    volume-once x.geometry (map_of x.geometry other.stored) v w (laid-on x v other.ds other.top other.stored for other.read other.standing) other.laid
