-- The drive that starts from a recovered image.
use Rattle.std.proofs.Common.{◌≡◌, ◌<◌, ℕ, List, [], length, Option, Some, None, sym, ◌∙◌, ap, subst}
use Rattle.mq_blocks.specs.Descriptor.{Descriptor}
use Rattle.mq_blocks.specs.Drive.{FuseName, PortState}
use Rattle.mq_blocks.specs.Geometry.{queues_of}
use Rattle.mq_blocks.specs.Journal.{Shown, stands}
use Rattle.mq_blocks.specs.declared.geometry.Geometry.{Geometry}
use Rattle.mq_drive.specs.Emu.{emu_state}
use Rattle.mq_drive.specs.declared.emu.EmuPort.{EmuPort}
use Rattle.mq_drive.specs.declared.port.Ports.{Ports}
use Rattle.mq_image.specs.File.{DriveImage}
use Rattle.mq_image_ops.specs.Recovering.{EndsAs, IsAllHome, IsRecoveryOf, events_of}
use Rattle.mq_image_ops.specs.Standing.{AreStanding, StandsFor}
use Rattle.mq_image_ops.specs.Starts.{AreStarted}
use Rattle.mq_image_ops.specs.Views.{drive_from, view_of}
use Rattle.mq_image_ops.specs.declared.ports.Failing.{Failing}
use Rattle.mq_image_ops.specs.declared.recovery.RecoveredImage.{RecoveredImage}
use Rattle.mq_image_ops.proofs.Views.{start-queue, started-view, still-under}
use Rattle.mq_ledger.specs.State.{port_at}
use Rattle.mq_recover.specs.Drives.{DriveState, IsQuiescentDrive, drive_of, view_over}
use Rattle.mq_recover.specs.Recovery.{IsReadPrefix, IsStartDrive}
use Rattle.mq_recover.specs.Standing.{StandsIn}
use Rattle.mq_recover.specs.declared.standing.Standing.{Standing}
use Rattle.mq_recover.proofs.DrivesImages.{read-same}
use Rattle.mq_recover.proofs.RecoveryStarts.{starts}
use Rattle.mq_tree.specs.Laid.{IsLaid, map_of}
use Rattle.mq_tree.specs.Volume.{Volume}

-- a recovery whose power has no limit is whole
home-of : (x : DriveImage) (ds : List Descriptor) (top events : ℕ) (cut : Option ℕ) (y : DriveImage) → EndsAs x ds top events None cut y → IsAllHome x ds top y
home-of x ds top events None y ends = ends.1
home-of x ds top events (Some k) y ends = absurd (none-some ends.0)
  where
    none-some : None ≡ Some k → ⊥
    none-some e = cc

pub all-home : (x : DriveImage) (r : RecoveredImage) (recovery : IsRecoveryOf x None r) → IsAllHome x recovery.ds recovery.top r.image
all-home x r recovery = home-of x recovery.ds recovery.top (events_of x recovery.writes recovery.top) r.cut r.image recovery.ends

module _ (x : DriveImage) (r : RecoveredImage) (fuse : FuseName) (fail : Option Failing) (p : Ports EmuPort) (recovery : IsRecoveryOf x None r) (started : AreStarted fuse fail r.image p) where
  abbrev g : Geometry
  g = x.geometry

  abbrev y : DriveImage
  y = r.image

  abbrev d : DriveState
  d = drive_of emu_state p

  home : IsAllHome x recovery.ds recovery.top y
  home = all-home x r recovery

  same : g ≡ y.geometry
  same = sym recovery.geometry

  -- ---- the start

  pub still : IsQuiescentDrive g d
  still = still-under fuse fail g y d recovery.drive same started.states

  view : view_over g d ≡ view_of y
  view = subst (λ (h : Geometry). view_over h d ≡ view_of y) recovery.geometry (started-view fuse fail y d started.states)

  read : IsReadPrefix g (view_over g d) [] recovery.top
  read = subst (λ (i : Shown). IsReadPrefix g i [] recovery.top) (sym view) (subst (λ (h : Geometry). IsReadPrefix h (view_of y) [] recovery.top) recovery.geometry home.again)

  base-top : d.root.base ≡ recovery.top
  base-top = ap (λ (s : DriveState). s.root.base) started.states ∙ home.base

  pub base-found : d.root.base ≡ r.found.base
  base-found = base-top ∙ sym recovery.base

  -- a word of a queue's port is that of its image
  word-of : (f : PortState → ℕ) (h : Shown → ℕ → ℕ) → ((q : ℕ) → q < queues_of y.geometry → f (port_at (drive_from fuse fail y).queues q) ≡ h (view_of y) q) → (q : ℕ) → q < queues_of g → f (port_at d.queues q) ≡ h (view_of y) q
  word-of f h is q low = ap (λ (s : DriveState). f (port_at s.queues q)) started.states ∙ is q (subst (λ (k : Geometry). q < queues_of k) same low)

  doorbell-of : (q : ℕ) → q < queues_of g → (port_at d.queues q).doorbell ≡ (view_of y).doorbell q
  doorbell-of = word-of (λ s. s.doorbell) (λ i. i.doorbell) (λ q low. ap (λ (s : PortState). s.doorbell) (start-queue fuse fail y q recovery.drive low))

  head-of : (q : ℕ) → q < queues_of g → (port_at d.queues q).head ≡ (view_of y).head q
  head-of = word-of (λ s. s.head) (λ i. i.head) (λ q low. ap (λ (s : PortState). s.head) (start-queue fuse fail y q recovery.drive low))

  pub doorbells-kept : (q : ℕ) → q < queues_of g → (port_at d.queues q).doorbell ≡ (view_of x).doorbell q
  doorbells-kept q low = doorbell-of q low ∙ recovery.doorbells q low

  pub may-start : IsStartDrive g d
  may-start = starts g d recovery.top still (λ q low. head-of q low ∙ home.heads q low ∙ sym (doorbells-kept q low)) read base-top

  -- ---- what stands

  module _ (s : Standing) (stood : StandsIn g d s) where
    none-left : stood.0 ≡ []
    none-left = (read-same g (view_over g d) stood.0 [] stood.1 recovery.top stood.2 read).0

    top-is : stood.1 ≡ recovery.top
    top-is = (read-same g (view_over g d) stood.0 [] stood.1 recovery.top stood.2 read).1

    pub blocks-stand : AreStanding x recovery.ds s.blocks.items
    blocks-stand = record {
      count = stood.3.whole;
      each = λ b low.
          stood.3.blocks_are b low
          ∙ ap (λ (ds : List Descriptor). stands g (view_over g d) ds b) none-left
          ∙ ap (λ (i : Shown). i.home b) view
          ∙ home.homes b low;
    }

    pub none-above : (s.prefix ≡ 0) × (s.base ≡ r.found.base) × (s.top ≡ r.found.base)
    none-above = (stood.3.prefix_is ∙ ap length none-left, stood.3.base_is ∙ base-found, stood.3.top_is ∙ top-is ∙ sym recovery.base)

    pub volume-stands : (v : Volume) → IsLaid g (map_of g s.blocks.items) v → StandsFor x v
    volume-stands v laid = record {
      ds = recovery.ds;
      top = recovery.top;
      stored = s.blocks.items;
      read = recovery.plan.read;
      standing = blocks-stand;
      laid = laid;
    }
