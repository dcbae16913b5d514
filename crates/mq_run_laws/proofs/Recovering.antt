-- What recovery leaves of every power cut.
use Rattle.std.proofs.Common.{◌≡◌, ◌<◌, ◌∙◌, ℕ, ◌+◌, List, [], ◌∷◌, Option, None, Some, length, map, refl, sym, ap, subst, arith}
use Rattle.mq_blocks.specs.Descriptor.{Descriptor}
use Rattle.mq_blocks.specs.Drive.{image_of}
use Rattle.mq_blocks.specs.Geometry.{homes_of}
use Rattle.mq_blocks.specs.Journal.{Reaches, stands}
use Rattle.mq_blocks.specs.declared.geometry.Geometry.{Geometry}
use Rattle.mq_core.specs.Machine.{IsAlwaysLawful, happens}
use Rattle.mq_core.specs.declared.event.Event.{Event}
use Rattle.mq_image.specs.File.{DriveImage}
use Rattle.mq_image_ops.specs.Recovering.{EndsAs}
use Rattle.mq_image_ops.specs.Views.{view_of}
use Rattle.mq_ledger.specs.State.{IsLawful, Recovers, State}
use Rattle.mq_ledger.specs.Written.{journal_entries}
use Rattle.mq_run_laws.specs.Cuts.{ShowsVolume}
use Rattle.mq_recover.specs.Drives.{DriveState, view_over}
use Rattle.mq_recover.specs.Recovery.{IsReadPrefix, IsStartDrive}
use Rattle.mq_recover.proofs.DrivesImages.{reaches-same, read-reaches, read-same, whole-readable}
use Rattle.mq_tree.specs.Volume.{Volume}
use Rattle.mq_run_laws.specs.Recovering.{EveryCutIsRecovered, HoldsVolume, IsRecoveredThroughout, LeadsTo, RecoversTo, again, at_once, cut, whole}

-- ---- along the machine

module _ (g : Geometry) (new : DriveState) where
  homes-are : (old : DriveState) (ds : List Descriptor) → Reaches g (view_over g old) ds → RecoversTo g new old → (b : ℕ) → b < homes_of g → (view_over g new).home b ≡ stands g (view_over g old) ds b
  homes-are old ds reach (at_once prefix base is) b low =
      let same : is.ds ≡ ds = reaches-same g (view_over g old) is.ds ds refl (read-reaches g (view_over g old) is.ds base is.read) reach in
      is.recovered.homes b low ∙ ap (λ (es : List Descriptor). stands g (view_over g old) es b) same
  homes-are old ds reach (again e mid start short images later) b low =
      let left = short.stands (map image_of start.queues) (image_of start.root) images in
      let same : short.ds ≡ ds = reaches-same g (view_over g old) short.ds ds refl (read-reaches g (view_over g old) short.ds short.top short.read) reach in
      homes-are start left.0 (read-reaches g (view_over g start) left.0 short.top left.1) later b low
      ∙ (left.3 b low ∙ ap (λ (es : List Descriptor). stands g (view_over g old) es b) same)

  starts-are : (old : DriveState) → RecoversTo g new old → IsStartDrive g new
  starts-are old (at_once prefix base is) = is.start
  starts-are old (again e mid start short images later) = starts-are start later

is-recovered : (s : State) → IsLawful journal_entries s → EveryCutIsRecovered s
is-recovered s lawful d images =
    let g = s.geometry in
    let found : Recovers s (view_over g d) = lawful.safe.images (map image_of d.queues) (image_of d.root) images in
    let reach : Reaches g (view_over g d) found.ds = record { chains = found.chains; whole = found.whole; prefix = found.prefix } in
    record {
      readable = whole-readable g d found.chains found.whole;
      reached = (view_over g d).base + length found.ds;
      least = found.least;
      most = found.most;
      acknowledged = λ n is. let low = lawful.safe.acknowledged n is in let least = found.least in omega arith;
      holds = λ new leads. record {
        homes = λ x content low has. homes-are g new d found.ds reach leads x low ∙ found.stand x content low has;
        start = starts-are g new d leads;
      };
    }

pub throughout : (events : List Event) (s : State) → IsAlwaysLawful journal_entries events s → IsRecoveredThroughout events s
throughout [] s lawful = is-recovered s lawful
throughout (v ∷ vs) s lawful = (is-recovered s lawful.0, throughout vs (happens journal_entries v s) lawful.1)

-- ---- of an image

-- what is left of an image stands for the same, over any geometry that it has
module _ (y : DriveImage) where
  ends-whole : (x z : DriveImage) (ds : List Descriptor) (top events : ℕ) (limit cut_at : Option ℕ) (b : ℕ) → EndsAs x ds top events limit cut_at z → cut_at ≡ None → b < homes_of x.geometry → (view_of z).home b ≡ stands x.geometry (view_of x) ds b
  ends-whole x z ds top events limit None b ends is low = ends.1.homes b low
  ends-whole x z ds top events limit (Some k) b ends is low = absurd (let none : Some k ≡ None = is in cc)

  -- what is left to read of an image, and that it stands for the same
  ends-read : (x z : DriveImage) (ds : List Descriptor) (top events : ℕ) (limit cut_at : Option ℕ) → EndsAs x ds top events limit cut_at z
      → (left : List Descriptor) × IsReadPrefix z.geometry (view_of z) left top × ((b : ℕ) → b < homes_of x.geometry → stands x.geometry (view_of z) left b ≡ stands x.geometry (view_of x) ds b)
  ends-read x z ds top events limit None ends = ([], ends.1.again, λ b low. ends.1.homes b low)
  ends-read x z ds top events limit (Some k) ends = (ends.2.left, ends.2.read, ends.2.alike)

  recovered-homes : (x : DriveImage) (ds : List Descriptor) (top : ℕ) → IsReadPrefix x.geometry (view_of x) ds top → LeadsTo y x → (b : ℕ) → b < homes_of x.geometry → (view_of y).home b ≡ stands x.geometry (view_of x) ds b
  recovered-homes x ds top read (whole limit r is none same) b low =
      let one : is.ds ≡ ds = (read-same x.geometry (view_of x) is.ds ds is.top top is.plan.read read).0 in
      ap (λ (z : DriveImage). (view_of z).home b) (sym same) ∙ (ends-whole x r.image is.ds is.top _ limit r.cut b is.ends none low ∙ ap (λ (es : List Descriptor). stands x.geometry (view_of x) es b) one)
  recovered-homes x ds top read (cut limit r is later) b low =
      let one : is.ds ≡ ds = (read-same x.geometry (view_of x) is.ds ds is.top top is.plan.read read).0 in
      let left = ends-read x r.image is.ds is.top _ limit r.cut is.ends in
      let inside : b < homes_of r.image.geometry = subst (λ (g : Geometry). b < homes_of g) (sym is.geometry) low in
      recovered-homes r.image left.0 is.top left.1 later b inside
      ∙ (ap (λ (g : Geometry). stands g (view_of r.image) left.0 b) is.geometry ∙ (left.2 b low ∙ ap (λ (es : List Descriptor). stands x.geometry (view_of x) es b) one))

  pub holds-volume : (x : DriveImage) (g : Geometry) (ds : List Descriptor) (top : ℕ) (v : Volume) → x.geometry ≡ g → IsReadPrefix g (view_of x) ds top → ShowsVolume g (view_of x) ds v → LeadsTo y x → HoldsVolume g y v
  holds-volume x g ds top v same read shows leads = record {
    map_is = shows.map;
    laid = shows.laid;
    homes = λ b page low has.
        let read-own : IsReadPrefix x.geometry (view_of x) ds top = subst (λ (h : Geometry). IsReadPrefix h (view_of x) ds top) (sym same) read in
        let low-own : b < homes_of x.geometry = subst (λ (h : Geometry). b < homes_of h) (sym same) low in
        recovered-homes x ds top read-own leads b low-own ∙ (ap (λ (h : Geometry). stands h (view_of x) ds b) same ∙ shows.each b page has);
  }
