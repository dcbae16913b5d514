-- What recovery of an image leaves, cut and begun again any number of times.
use Rattle.std.proofs.Common.{◌≡◌, ◌<◌, ◌∙◌, ℕ, List, [], Option, None, Some, sym, ap, subst}
use Rattle.mq_blocks.specs.Blocks.{content}
use Rattle.mq_blocks.specs.Descriptor.{Descriptor}
use Rattle.mq_blocks.specs.Geometry.{homes_of, meta_of}
use Rattle.mq_blocks.specs.Journal.{stands}
use Rattle.mq_blocks.specs.Machine.{Map}
use Rattle.mq_blocks.specs.declared.geometry.Geometry.{Geometry}
use Rattle.mq_image.specs.File.{DriveImage}
use Rattle.mq_image_ops.specs.Recovering.{EndsAs}
use Rattle.mq_image_ops.specs.Views.{view_of}
use Rattle.mq_kv.proofs.Histories.{kv-same}
use Rattle.mq_kv_buckets.proofs.StoreLaws.{bucket-low}
use Rattle.mq_kv_buckets.specs.Keys.{bucket_of}
use Rattle.mq_kv_entries.proofs.Entries.{meta-home, some-buckets}
use Rattle.mq_kv_run.specs.Recovering.{HoldsHome, LeadsTo, again, at_last, home_map}
use Rattle.mq_recover.specs.Recovery.{IsReadPrefix}
use Rattle.mq_recover.proofs.DrivesImages.{read-same}

module _ (y : DriveImage) where
  ends-whole : (x z : DriveImage) (ds : List Descriptor) (top events : ℕ) (limit cut_at : Option ℕ) (b : ℕ) → EndsAs x ds top events limit cut_at z → cut_at ≡ None → b < homes_of x.geometry → (view_of z).home b ≡ stands x.geometry (view_of x) ds b
  ends-whole x z ds top events limit None b ends is low = ends.1.homes b low
  ends-whole x z ds top events limit (Some k) b ends is low = absurd (let none : Some k ≡ None = is in cc)

  -- what is left to read of an image, and that it stands for the same
  ends-read : (x z : DriveImage) (ds : List Descriptor) (top events : ℕ) (limit cut_at : Option ℕ) → EndsAs x ds top events limit cut_at z
      → (left : List Descriptor) × IsReadPrefix z.geometry (view_of z) left top × ((b : ℕ) → b < homes_of x.geometry → stands x.geometry (view_of z) left b ≡ stands x.geometry (view_of x) ds b)
  ends-read x z ds top events limit None ends = ([], ends.1.again, λ b low. ends.1.homes b low)
  ends-read x z ds top events limit (Some k) ends = (ends.2.left, ends.2.read, ends.2.alike)

  recovered-homes : (x : DriveImage) (ds : List Descriptor) (top : ℕ) → IsReadPrefix x.geometry (view_of x) ds top → LeadsTo y x → (b : ℕ) → b < homes_of x.geometry → (view_of y).home b ≡ stands x.geometry (view_of x) ds b
  recovered-homes x ds top read (at_last limit r is none same) b low =
      let one : is.ds ≡ ds = (read-same x.geometry (view_of x) is.ds ds is.top top is.plan.read read).0 in
      ap (λ (z : DriveImage). (view_of z).home b) (sym same) ∙ (ends-whole x r.image is.ds is.top _ limit r.cut b is.ends none low ∙ ap (λ (es : List Descriptor). stands x.geometry (view_of x) es b) one)
  recovered-homes x ds top read (again limit r is later) b low =
      let one : is.ds ≡ ds = (read-same x.geometry (view_of x) is.ds ds is.top top is.plan.read read).0 in
      let left = ends-read x r.image is.ds is.top _ limit r.cut is.ends in
      let inside : b < homes_of r.image.geometry = subst (λ (g : Geometry). b < homes_of g) (sym is.geometry) low in
      recovered-homes r.image left.0 is.top left.1 later b inside
      ∙ (ap (λ (g : Geometry). stands g (view_of r.image) left.0 b) is.geometry ∙ (left.2 b low ∙ ap (λ (es : List Descriptor). stands x.geometry (view_of x) es b) one))

  pub holds-home : (x : DriveImage) (g : Geometry) (ds : List Descriptor) (top : ℕ) (m : Map) → x.geometry ≡ g → IsReadPrefix g (view_of x) ds top → ((b : ℕ) → b < meta_of g → stands g (view_of x) ds b ≡ content (m b)) → LeadsTo y x → HoldsHome g y m
  holds-home x g ds top m same read each leads = record {
    homes = homes;
    store = λ key.
        let low = bucket-low (meta_of g) key (some-buckets g) in
        kv-same (meta_of g) (home_map y) m key (homes (bucket_of (meta_of g) key) low);
  }
    where
      homes : (b : ℕ) → b < meta_of g → (view_of y).home b ≡ content (m b)
      homes b low =
          let read-own : IsReadPrefix x.geometry (view_of x) ds top = subst (λ (h : Geometry). IsReadPrefix h (view_of x) ds top) (sym same) read in
          let low-own : b < homes_of x.geometry = subst (λ (h : Geometry). b < homes_of h) (sym same) (meta-home g b low) in
          recovered-homes x ds top read-own leads b low-own ∙ (ap (λ (h : Geometry). stands h (view_of x) ds b) same ∙ each b low)
