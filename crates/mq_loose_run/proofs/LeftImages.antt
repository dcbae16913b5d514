-- The drive that starts from an image, as it is read, and the image that a cut of its power leaves.
use Rattle.std.proofs.Common.{◌≡◌, ◌<◌, ℕ, ◌+◌, cond, List, [], ◌∷◌, ◌++◌, length, map, None, refl, sym, ◌∙◌, ap, subst, arith}
use Rattle.std.proofs.lemmas.List.{length-map, map_push, take_all, take_more}
use Rattle.mq_blocks.specs.Descriptor.{Descriptor, DescriptorForm, first_place}
use Rattle.mq_blocks.specs.Drive.{FuseName, IsQuiescent, PortImage, image_of}
use Rattle.mq_blocks.specs.Geometry.{homes_of, queues_of}
use Rattle.mq_blocks.specs.Journal.{Shown, is_among, logged_copy, no_image, or_else, stands}
use Rattle.mq_blocks.specs.declared.geometry.Geometry.{Geometry}
use Rattle.mq_drive.specs.Emu.{emu_state}
use Rattle.mq_drive.specs.declared.emu.EmuPort.{EmuPort}
use Rattle.mq_drive.specs.declared.fuse.FuseSeat.{FuseSeat}
use Rattle.mq_drive.specs.declared.port.Ports.{Ports}
use Rattle.mq_image.specs.Drives.{IsDrive}
use Rattle.mq_image.specs.File.{DriveImage, queue_ports, root_port}
use Rattle.mq_image_ops.proofs.CutsRecoverings.{row-at}
use Rattle.mq_image_ops.proofs.CutsRows.{images-only}
use Rattle.mq_image_ops.proofs.Views.{started-view, still-under}
use Rattle.mq_image_ops.specs.Cuts.{AreCutPorts, row_of}
use Rattle.mq_image_ops.specs.Starts.{AreStarted}
use Rattle.mq_image_ops.specs.Views.{starts_from}
use Rattle.mq_loose_order.specs.Form.{loose_form}
use Rattle.mq_loose_recover.specs.Images.{AreLooselyWhole, IsLooselyRead, IsReadableLooseImage, loose_view}
use Rattle.mq_loose_recover.specs.Standing.{LooselyStands}
use Rattle.mq_loose_recover.specs.declared.standing.LooseStanding.{LooseStanding}
use Rattle.mq_recover.specs.Drives.{DriveState, IsQuiescentDrive, drive_of, view_over}
use Rattle.mq_loose_run.specs.Cuts.{IsReadOf, IsReadableLoose}
use Rattle.mq_loose_run.specs.Runs.{view_in}

-- whatever form the descriptors have, the same stands
pub stands_form : (g : Geometry) (i : Shown) (f : DescriptorForm) (ds : List Descriptor) (b : ℕ) → stands g (record i { form = f }) ds b ≡ stands g i ds b
stands_form g i f [] b = refl
stands_form g i f (d ∷ ds) b = ap (λ (v : List ℕ). or_else (logged_copy (i.area d.queue) g.area (first_place d) d.logged b) (cond (is_among b d.revoked) (i.home b) v)) (stands_form g i f ds b)

pub images_of : (g : Geometry) (fuse : FuseName) (n : ℕ) (is : List PortImage) → map image_of (starts_from g fuse None n is) ≡ is
images_of g fuse n [] = refl
images_of g fuse n (i ∷ is) = ap (λ (l : List PortImage). i ∷ l) (images_of g fuse (n + 1) is)

-- the ports of the queues, and then the root's
in_row : (x : DriveImage) → IsDrive x → queue_ports x ++ root_port x ∷ [] ≡ x.ports
in_row x drive =
    let long = drive.ports in
    sym (take_more x.ports (queues_of x.geometry) no_image (omega (arith, long))) ∙ take_all (queues_of x.geometry + 1) x.ports (omega (arith, long))

module _ (fuse : FuseName) (g : Geometry) (x : DriveImage) (same : g ≡ x.geometry) (drive : IsDrive x) (ports : Ports EmuPort) (started : AreStarted fuse None x ports) where
  abbrev d : DriveState
  d = drive_of emu_state ports

  pub still : IsQuiescentDrive g d
  still = still-under fuse None g x d drive same started.states

  over_same : view_over g d ≡ view_over x.geometry d
  over_same = ap (λ (h : Geometry). view_over h d) same

  view_same : (deps : ℕ → List ℕ) → loose_view deps g d ≡ view_in deps x
  view_same deps = ap (λ (i : Shown). record i { form = loose_form deps }) (over_same ∙ started-view fuse None x d started.states)

  pub readable : ((deps : ℕ → List ℕ) (g : Geometry) (d : DriveState) (chains : ℕ → List Descriptor) → AreLooselyWhole deps g (loose_view deps g d) chains → IsReadableLooseImage g d) → IsReadableLoose x → IsReadableLooseImage g d
  readable law (deps, chains, whole) =
      law deps g d chains (subst (λ (i : Shown). AreLooselyWhole deps g i chains) (sym (view_same deps)) (subst (λ (h : Geometry). AreLooselyWhole deps h (view_in deps x) chains) (sym same) whole))

  pub read_of : (s : LooseStanding) → LooselyStands g d s → IsReadOf x s.set.items s.blocks.items
  read_of s l = record {
    deps = l.deps;
    ds = l.ds;
    top = l.top;
    read = subst (λ (h : Geometry). IsLooselyRead l.deps h (view_in l.deps x) l.ds l.top) same (subst (λ (i : Shown). IsLooselyRead l.deps g i l.ds l.top) (view_same l.deps) l.read);
    set_is = l.standing.set;
    whole = l.standing.blocks.whole ∙ ap homes_of same;
    each = λ b low.
        l.standing.blocks.are b (subst (λ (h : Geometry). b < homes_of h) (sym same) low)
        ∙ sym (stands_form g (view_over g d) (loose_form l.deps) l.ds b)
        ∙ ap (λ (i : Shown). stands g i l.ds b) (view_same l.deps)
        ∙ ap (λ (h : Geometry). stands h (view_in l.deps x) l.ds b) same;
  }

  module _ (pick : ℕ) (images : List PortImage) (seats : List FuseSeat) (cut : AreCutPorts pick (row_of ports) images seats) where
    count : length ports.queues.items ≡ g.queues
    count = sym (length-map ports.queues.items emu_state) ∙ still.count

    images_same : images ≡ x.ports
    images_same =
        images-only pick (row_of ports) images seats cut (row-at g ports count (λ k s. IsQuiescent s) (λ q low. (still.each q low).quiet) still.root.quiet)
        ∙ ap (map image_of) (map_push emu_state ports.queues.items ports.root)
        ∙ ap (λ (e : DriveState). map image_of (e.queues ++ e.root ∷ [])) started.states
        ∙ map_push image_of (starts_from x.geometry fuse None 0 (queue_ports x)) _
        ∙ ap (λ (l : List PortImage). l ++ root_port x ∷ []) (images_of x.geometry fuse 0 (queue_ports x))
        ∙ in_row x drive

    pub image_same : record { geometry = g; ports = images } ≡ x
    image_same = λ i. record { geometry = same i; ports = images_same i }
