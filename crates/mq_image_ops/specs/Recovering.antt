-- What a recovery makes of an image, where its power may go off.
use Rattle.std.specs.Prelude.{◌≡◌, ◌⊎◌, ◌<◌, ◌≤◌, ℕ, ◌+◌, ◌*◌, List, [], ◌∷◌, length, map, Option, Some, None, nat_eq, if◌then◌else◌}
use Rattle.std.specs.List.{All}
use Rattle.std.specs.Option.{ForSome}
use Rattle.mq_blocks.specs.Descriptor.{AreRising, Descriptor}
use Rattle.mq_blocks.specs.Drive.{PortImage}
use Rattle.mq_blocks.specs.Geometry.{area_of, homes_of, queues_of}
use Rattle.mq_blocks.specs.Journal.{stands}
use Rattle.mq_blocks.specs.Machine.{Writes}
use Rattle.mq_image.specs.Drives.{HasWidths, IsDrive}
use Rattle.mq_image.specs.File.{DriveImage, queue_ports}
use Rattle.mq_image_ops.specs.Standing.{Reads}
use Rattle.mq_image_ops.specs.Views.{view_of}
use Rattle.mq_image_ops.specs.declared.recovery.RecoveredImage.{RecoveredImage}
use Rattle.mq_recover.specs.Copies.{content_of, copy_of}
use Rattle.mq_recover.specs.RecoverHomes.{written}

-- ---- what there is to recover

-- The image is readable: these are the descriptors of its prefix, newest first, and this is the greatest
-- number that it shows. Each home block that has a copy left is to be written home, in rising order, with
-- its newest copy that no later transaction revokes.
pub record IsToRecover (x : DriveImage) (ds : List Descriptor) (top : ℕ) (writes : Writes) : Type 0 where
  pub read : Reads x ds top
  pub rising : AreRising 0 (homes_of x.geometry) (map (λ w. w.0) writes)
  pub copies : (b : ℕ) → written writes b ≡ content_of (view_of x).area (area_of x.geometry) (copy_of ds b)

-- a word that changes is stored and flushed
abbrev pub word_events : (old new : ℕ) → ℕ
word_events old new = if nat_eq old new then 0 else 2

-- so is each head that is not at its doorbell
abbrev pub events_of_heads : List PortImage → ℕ
events_of_heads [] = 0
events_of_heads (p ∷ ps) = word_events p.head p.doorbell + events_of_heads ps

-- How many events a whole recovery of the image makes: the begin and the end of each home write, and the
-- store and the flush of the base and of each head, where they change.
abbrev pub events_of : DriveImage → Writes → (top : ℕ) → ℕ
events_of x writes top =
    2 * length writes + (word_events (view_of x).base top + events_of_heads (queue_ports x))

-- ---- what is left

-- After a whole recovery the home blocks hold what stood by these descriptors, the base is the greatest
-- number that was shown, and each head is at its doorbell, which is where it was. Over this base nothing is
-- left to bring home.
pub record IsAllHome (x : DriveImage) (ds : List Descriptor) (top : ℕ) (y : DriveImage) : Type 0 where
  pub homes : (b : ℕ) → b < homes_of x.geometry → (view_of y).home b ≡ stands x.geometry (view_of x) ds b
  pub base : (view_of y).base ≡ top
  pub heads : (q : ℕ) → q < queues_of x.geometry → (view_of y).head q ≡ (view_of x).doorbell q
  pub again : Reads y [] top

-- After a recovery that was cut the image is readable, shows the same greatest number, and stands for what
-- stood by these descriptors: by the same ones over the old base, or at home alone over the greatest
-- number.
pub record IsStillStanding (x : DriveImage) (ds : List Descriptor) (top : ℕ) (y : DriveImage) : Type 0 where
  pub left : List Descriptor
  pub read : Reads y left top
  pub over : (((view_of y).base ≡ (view_of x).base) × (left ≡ ds))
      ⊎ (((view_of y).base ≡ top) × (left ≡ []))
  pub alike : (b : ℕ) → b < homes_of x.geometry
      → stands x.geometry (view_of y) left b ≡ stands x.geometry (view_of x) ds b

-- How a recovery of `events` events ends whose power lasts for `limit` events, if that is given: whole if
-- it lasts for all of them, else cut after those for which it lasts.
abbrev pub EndsAs : (x : DriveImage) → (ds : List Descriptor) → (top events : ℕ)
    → (limit cut : Option ℕ) → (y : DriveImage) → Type 0
EndsAs x ds top events limit None y = ForSome limit (λ l. events ≤ l) × IsAllHome x ds top y
EndsAs x ds top events limit (Some k) y = (limit ≡ Some k) × (k < events) × IsStillStanding x ds top y

-- What is left of an image by a recovery whose power lasts for `limit` events, if that is given, and that
-- it fits its file; the prefix and the new base that it found, which are those of the image; and the number
-- of events after which it was cut, if it was.
pub record IsRecoveryOf (x : DriveImage) (limit : Option ℕ) (r : RecoveredImage) : Type 0 where
  pub ds : List Descriptor
  pub top : ℕ
  pub writes : Writes
  pub plan : IsToRecover x ds top writes
  pub prefix : r.found.prefix ≡ length ds
  pub base : r.found.base ≡ top
  pub drive : IsDrive r.image
  pub widths : All HasWidths r.image.ports
  pub geometry : r.image.geometry ≡ x.geometry
  pub doorbells : (q : ℕ) → q < queues_of x.geometry → (view_of r.image).doorbell q ≡ (view_of x).doorbell q
  pub ends : EndsAs x ds top (events_of x writes top) limit r.cut r.image
