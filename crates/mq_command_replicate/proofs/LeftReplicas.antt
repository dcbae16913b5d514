-- What a cut leaves of a replica of some lines.
use Rattle.std.proofs.Common.{◌≡◌, ◌⊎◌, ◌<◌, ◌^◌, inl, inr, ℕ, ◌+◌, List, [], ◌∷◌, ◌++◌, length, map, take, get_or, Option, refl, sym, ◌∙◌, ap, subst, arith}
use Rattle.std.proofs.Math.Logic.{∥∥₁_elim}
use Rattle.mq_block_text.specs.declared.item.BlockItem.{BlockItem}
use Rattle.mq_block_trace.specs.Lines.{live_from, map_after, named}
use Rattle.mq_blocks.specs.Descriptor.{Descriptor}
use Rattle.mq_blocks.specs.Drive.{IsImage, PortImage, PortState, image_of}
use Rattle.mq_blocks.specs.Geometry.{homes_of}
use Rattle.mq_blocks.specs.Journal.{Reaches, Shown, image_at, no_image, shown, stands}
use Rattle.mq_blocks.specs.declared.geometry.Geometry.{Geometry}
use Rattle.mq_command_blocks.specs.Live.{HoldsMap}
use Rattle.mq_command_blocks.proofs.CutsDrives.{AreTwoCut, two_cut}
use Rattle.mq_drive.specs.Emu.{emu_state}
use Rattle.mq_drive.specs.Start.{IsImageOf}
use Rattle.mq_drive.specs.declared.emu.EmuPort.{EmuPort}
use Rattle.mq_drive.specs.declared.fuse.FuseSeat.{FuseSeat}
use Rattle.mq_drive.specs.declared.port.Ports.{Ports}
use Rattle.mq_drive.specs.declared.role.Role.TheVariants.{Queue, Root}
use Rattle.mq_image.specs.Drives.{IsDrive}
use Rattle.mq_image.specs.File.{DriveImage, queue_ports, root_port}
use Rattle.mq_image_ops.specs.Cuts.{AreCutPorts, row_of}
use Rattle.mq_image_ops.specs.Standing.{IsStandingOf, RefusesDrive}
use Rattle.mq_image_ops.specs.Views.{view_of}
use Rattle.mq_image_ops.proofs.Standing.{whole-refused}
use Rattle.mq_ledger.specs.State.{port_at}
use Rattle.mq_nvme.specs.Says.{journal_reading}
use Rattle.mq_recover.specs.Drives.{DriveState, IsQuiescentDrive, drive, drive_of, view_over}
use Rattle.mq_recover.specs.declared.refusal.ImageFault.{ImageFault}
use Rattle.mq_recover.specs.declared.refusal.ImageFault.TheVariants.{OutOfMemory}
use Rattle.mq_replica.specs.Contents.{AreSame, Contents, number_in, number_of}
use Rattle.mq_recover.proofs.DrivesImages.{read-reaches}
use Rattle.mq_replica.specs.Images.{IsLeftOf, StandsAs, StandsFor}
use Rattle.mq_replica.specs.Offers.{ReplicaState}
use Rattle.mq_replica.specs.Updates.{last_home}
use Rattle.mq_command_replicate.specs.Feeds.{HasLines}
use Rattle.mq_command_replicate.specs.Replicas.{HoldsLines, IsLeftReplica, IsReplicaOf, output_of, replica_text}
use Rattle.mq_command_replicate.specs.Updates.{IsReplicaGeometry, contents_after}
use Rattle.mq_command_replicate.proofs.HeldLines.{ReadsBack, last_is, map_held, number_after, replica_homes}

-- a readable image is refused for want of memory alone
pub only_memory_left : (x : DriveImage) (e : ImageFault) → ∥ ((ds : List Descriptor) × Reaches x.geometry (view_of x) ds) ∥₁ → (e ≡ OutOfMemory) ⊎ RefusesDrive x e → e ≡ OutOfMemory
only_memory_left x e readable (inl same) = same
only_memory_left x e readable (inr refuses) = absurd (∥∥₁_elim readable (λ a b. absurd a) (λ read. whole-refused x read.1.chains e read.1.whole refuses))

own_image : (s : PortState) → IsImage s (image_of s)
own_image s = record { doorbell = refl; head = inl refl; base = inl refl; slots_len = refl; slots = λ k low settled. refl; blocks_len = refl; blocks = λ k low certain. refl }

-- what a cut leaves of a drive of one queue, where each port has one image
own_left : (g : Geometry) (s t : PortState) → g.queues ≡ 1 → IsLeftOf g (drive (s ∷ []) t) (drive (s ∷ []) t)
own_left g s t one = record {
  each = λ q low. (let z : q ≡ 0 = omega (arith, low, one) in subst (λ (k : ℕ). IsImage (port_at (s ∷ []) k) (image_at (image_of s ∷ []) k)) (sym z) (own_image s));
  root_is = own_image t;
}

module _ (reads : ReadsBack) (g : Geometry) (is : IsReplicaGeometry g) (lines : List (List BlockItem)) (first : Contents) (few : length lines < 2 ^ 32) (none : number_of g first ≡ 0) where
  -- by the descriptors of a drive that stands for the lines, they are held
  holds : (d : DriveState) (x : DriveImage) → x.geometry ≡ g → view_over g d ≡ view_of x → StandsAs g d (AreSame g (contents_after g first lines (length lines))) → (ds : List Descriptor) → Reaches x.geometry (view_of x) ds → HoldsLines lines x ds
  holds d x same view_is stood ds read =
      let seen : Reaches g (view_over g d) ds = subst (λ (i : Shown). Reaches g i ds) (sym view_is) (subst (λ (h : Geometry). Reaches h (view_of x) ds) same read) in
      let alike = stood.are ds seen in
      let homes = replica_homes g is in
      let stand_at : (b : ℕ) → b < homes_of g → stands x.geometry (view_of x) ds b ≡ contents_after g first lines (length lines) b =
      λ b low. ap (λ (h : Geometry). stands h (view_of x) ds b) same ∙ ap (λ (i : Shown). stands g i ds b) (sym view_is) ∙ alike b low in
      let last = last_is g is in
      record {
        number = ap number_in (ap (λ (h : Geometry). stands x.geometry (view_of x) ds (last_home h)) same ∙ stand_at (last_home g) (omega (arith, last, homes))) ∙ number_after reads g first lines (length lines) few none;
        holds = λ b content low some. stand_at b (omega (arith, low, homes)) ∙ map_held g first lines (length lines) is b content low some;
      }

  module _ (r : ReplicaState) (has : HasLines g first lines (length lines) r) (p : EmuPort) (ports : Ports EmuPort) (queue_is : ports.queues.items ≡ p ∷ []) (drive_is : drive_of emu_state ports ≡ r.drive) (still : IsQuiescentDrive g (drive_of emu_state ports)) (images : List PortImage) (seats : List FuseSeat) (cut : AreCutPorts 0 (row_of ports) images seats) where
    abbrev d : DriveState
    d = drive (emu_state p ∷ []) (emu_state ports.root)

    abbrev x : DriveImage
    x = record { geometry = g; ports = images }

    d_is : d ≡ r.drive
    d_is = sym (ap (λ (ps : List EmuPort). drive (map emu_state ps) (emu_state ports.root)) queue_is) ∙ drive_is

    quiet : IsQuiescentDrive g d
    quiet = subst (IsQuiescentDrive g) (ap (λ (ps : List EmuPort). drive (map emu_state ps) (emu_state ports.root)) queue_is) still

    two : AreTwoCut 0 p ports.root images seats
    two = two_cut 0 p ports.root images seats (subst (λ (ps : List EmuPort). AreCutPorts 0 (ps ++ ports.root ∷ []) images seats) queue_is cut)

    low : 0 < g.queues
    low = let one = is.queues in omega (arith, one)

    queue_left : two.queue_image ≡ image_of (emu_state p)
    queue_left = two.queue_cut.quiet (quiet.each 0 low).quiet

    root_left : two.root_image ≡ image_of (emu_state ports.root)
    root_left = two.root_cut.quiet quiet.root.quiet

    queues_are : queue_ports x ≡ two.queue_image ∷ []
    queues_are = (λ i. take (is.queues i) (two.images_are i))

    root_is : root_port x ≡ two.root_image
    root_is = (λ i. get_or (two.images_are i) (is.queues i) no_image)

    view_is : view_over g d ≡ view_of x
    view_is = sym (λ i. shown journal_reading g ((queues_are ∙ ap (λ (q : PortImage). q ∷ []) queue_left) i) ((root_is ∙ root_left) i))

    is_drive : IsDrive x
    is_drive = record {
      ports = ap length two.images_are ∙ (let one = is.queues in let e : 2 ≡ g.queues + 1 = omega (arith, one) in e);
      queues = λ q below. (
          let z : q ≡ 0 = (let one = is.queues in omega (arith, one, below)) in
          subst (λ (k : ℕ). IsImageOf g (Queue k) (get_or images k no_image)) (sym z)
          (subst (λ (l : List PortImage). IsImageOf g (Queue 0) (get_or l 0 no_image)) (sym two.images_are) (two.queue_cut.role g (Queue 0) (quiet.each 0 low).port))
          );
      root = subst (IsImageOf g Root) (sym root_is) (two.root_cut.role g Root quiet.root.port);
    }

    stood : StandsAs g d (AreSame g (contents_after g first lines (length lines)))
    stood = (subst (λ (e : DriveState). StandsFor g e (contents_after g first lines (length lines))) (sym d_is) has.stands) d (own_left g (emu_state p) (emu_state ports.root) is.queues)

    pub left_replica : IsLeftReplica lines x
    left_replica = record {
      geometry_is = is;
      drive = is_drive;
      readable = subst (λ (i : Shown). ∥ ((ds : List Descriptor) × Reaches g i ds) ∥₁) view_is stood.readable;
      hold = holds d x refl view_is stood;
      rung = sym (ap (λ (i : Shown). i.doorbell 0) view_is) ∙ ap (λ (e : DriveState). (port_at e.queues 0).doorbell) d_is ∙ has.entries;
    }

-- ---- what is read of it

module _ (lines : List (List BlockItem)) (x : DriveImage) (stored : List (Option (List ℕ))) (left : IsLeftReplica lines x) (stood : IsStandingOf x stored) where
  held : HoldsLines lines x stood.ds
  held = left.hold stood.ds (read-reaches x.geometry (view_of x) stood.ds stood.top stood.read)

  pub replica_of : IsReplicaOf lines x
  replica_of = record { geometry_is = left.geometry_is; drive = left.drive; ds = stood.ds; top = stood.top; read = stood.read; hold = held; rung = left.rung }

  pub live_held : HoldsMap stored (map_after lines (length lines))
  live_held = λ b v low some. stood.blocks.each b (let homes = replica_homes x.geometry left.geometry_is in omega (arith, homes, low)) ∙ held.holds b v low some

pub output_is : (lines : List (List BlockItem)) (reached : ℕ) (text : List ℕ) (live : List (ℕ × ℕ)) → reached ≡ length lines → text ≡ replica_text reached live → live ≡ live_from (map_after lines (length lines)) 0 named → text ≡ output_of lines
output_is lines reached text live all is live_is = is ∙ (λ i. replica_text (all i) (live_is i))
