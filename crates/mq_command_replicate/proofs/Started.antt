-- A replica that is opened on the drive of zeros has no line yet.
use Rattle.std.proofs.Common.{◌≡◌, inl, inr, ◌<◌, ℕ, ◌+◌, ◌-◌, ◌*◌, ◌/◌, List, [], ◌∷◌, get_or, Option, Some, None, cond, nat_lt, replicate, refl, sym, ◌∙◌, ap, subst, arith}
use Rattle.mq_block_text.specs.declared.item.BlockItem.{BlockItem}
use Rattle.mq_blocks.specs.Blocks.{content, zeros}
use Rattle.mq_blocks.specs.Descriptor.{Descriptor}
use Rattle.mq_blocks.specs.Drive.{FuseName, PortImage, PortState}
use Rattle.mq_blocks.specs.Geometry.{queues_of, zone_of}
use Rattle.mq_blocks.specs.Journal.{AreWhole, Has, IsChain, IsTop, Reaches, Shown, home_block, image_at, no_image, stands}
use Rattle.mq_blocks.specs.declared.geometry.Geometry.{Geometry}
use Rattle.mq_drive.specs.Emu.{emu_state}
use Rattle.mq_drive.specs.declared.emu.EmuPort.{EmuPort}
use Rattle.mq_drive.specs.declared.port.Ports.{Ports}
use Rattle.mq_blocks.specs.Windows.{number_at}
use Rattle.byteorder.specs.Numbers.{little_number-reads_back}
use Rattle.mq_image.specs.File.{DriveImage, queue_ports, root_port}
use Rattle.mq_image_ops.specs.Empty.{IsBlankDrive}
use Rattle.mq_image_ops.specs.Starts.{AreStarted}
use Rattle.mq_image_ops.specs.Views.{port_from, view_of}
use Rattle.mq_image_ops.proofs.Unwritten.{IsUnwritten, whole_none}
use Rattle.mq_image_ops.proofs.Views.{queue-in, start-queue, still-under, start-view}
use Rattle.mq_ledger.specs.State.{port_at}
use Rattle.mq_recover.specs.Drives.{DriveState, drive_of, view_over}
use Rattle.mq_drive.specs.declared.role.Role.TheVariants.{Queue}
use Rattle.mq_recover.specs.Images.{IsReadableImage}
use Rattle.mq_recover.specs.Recovery.{IsReadPrefix}
use Rattle.mq_recover.proofs.DrivesImages.{whole-readable}
use Rattle.mq_replica.specs.Contents.{Contents, number_in, number_of}
use Rattle.mq_replica.specs.Offers.{IsOpenedOn, MayOpen, ReplicaState}
use Rattle.mq_replica.specs.Updates.{last_home}
use Rattle.mq_command_replicate.specs.Feeds.{HasLines}
use Rattle.mq_command_replicate.specs.Lasting.{IsFollowing, IsLasting}
use Rattle.mq_command_replicate.specs.Updates.{IsReplicaGeometry}
use Rattle.mq_command_replicate.proofs.HeldLines.{last_is}
use Rattle.mq_command_replicate.proofs.Lasting.{still_lasting}

-- ---- an image on which nothing was ever written shows no transaction

chain_none : (g : Geometry) (i : Shown) (q number place : ℕ) (ds : List Descriptor) → number ≡ 0 → IsChain g i q number place ds → ds ≡ []
chain_none g i q number place [] none chain = refl
chain_none g i q number place (d ∷ ds) none chain = absurd (let low = chain.0 in omega (arith, low, none))

none_in : (g : Geometry) (i : Shown) (chains : ℕ → List Descriptor) → IsUnwritten g i → AreWhole g i chains → (q : ℕ) (d : Descriptor) → q < g.queues → Has (chains q) d → ⊥
none_in g i chains un whole q d low has =
    let c = whole.each q low in
    let none : chains q ≡ [] = chain_none g i q c.number c.place (chains q) (c.none (un.head q low)) c.chain in
    subst (λ (ds : List Descriptor). Has ds d) none has

pub top_none : (g : Geometry) (i : Shown) (chains : ℕ → List Descriptor) (top : ℕ) → IsUnwritten g i → IsTop g i chains top → top ≡ 0
top_none g i chains top un is = elim is.shown.where_from [
  | inl at ↦ at ∙ un.base
  | inr other ↦ elim other [
    | inl in_chain ↦ absurd (none_in g i chains un is.whole in_chain.0 in_chain.1 in_chain.2 in_chain.3)
    | inr rung ↦ absurd (let e = un.doorbell rung.0 rung.3 in let low = rung.5 in omega (arith, e, low))
  ]
]

pub prefix_none : (g : Geometry) (i : Shown) (ds : List Descriptor) → IsUnwritten g i → Reaches g i ds → ds ≡ []
prefix_none g i [] un r = refl
prefix_none g i (d ∷ ds) un r = let h = r.prefix.whole d (inl refl) in absurd (none_in g i r.chains un r.whole d.queue d h.0 h.1)

-- ---- a block that says 0, and where the last block lies

zeros_number : number_in zeros ≡ 0
unfolding number_at zeros
zeros_number = little_number-reads_back 8 0 (replicate 4088 0) (omega arith)

abbrev zone_at : (b meta zone : ℕ) → Option ℕ
zone_at b meta zone = cond (nat_lt b meta) None (Some ((b - meta) / zone))

last_zone : (g : Geometry) → IsReplicaGeometry g → zone_of g 256 ≡ Some 0
last_zone g is = (λ i. zone_at 256 (is.meta i) (is.zone i))

-- ---- the drive that starts

module _ (g : Geometry) (is_replica : IsReplicaGeometry g) (f : FuseName) (x : DriveImage) (blank : IsBlankDrive g x) (ports : Ports EmuPort) (started : AreStarted f None x ports) where
  abbrev d : DriveState
  d = drive_of emu_state ports

  same : x.geometry ≡ g
  same = blank.geometry_is

  view_is : view_over g d ≡ view_of x
  view_is = ap (λ (h : Geometry). view_over h d) (sym same) ∙ ap (view_over x.geometry) started.states ∙ start-view f None x

  own : (q : ℕ) → q < g.queues → image_at (queue_ports x) q ≡ get_or x.ports q no_image
  own q low = queue-in x q (subst (λ (h : Geometry). q < h.queues) (sym same) low)

  unwritten : IsUnwritten g (view_of x)
  unwritten = record {
    base = ap (λ (h : Geometry). (get_or x.ports (queues_of h) no_image).base) same ∙ (blank.unused (queues_of g) (omega arith)).base;
    head = λ q low. ap (λ (i : PortImage). i.head) (own q low) ∙ (blank.unused q (omega (arith, low))).head;
    doorbell = λ q low. ap (λ (i : PortImage). i.doorbell) (own q low) ∙ (blank.unused q (omega (arith, low))).doorbell;
  }

  rung_none : (port_at d.queues 0).doorbell ≡ 0
  rung_none =
      let low : 0 < g.queues = (let one = is_replica.queues in omega (arith, one)) in
      let low_x : 0 < x.geometry.queues = subst (λ (h : Geometry). 0 < h.queues) (sym same) low in
      ap (λ (s : DriveState). (port_at s.queues 0).doorbell) started.states ∙ ap (λ s. s.doorbell) (start-queue f None x 0 blank.drive low_x)
      ∙ ap (λ (i : PortImage). i.doorbell) (own 0 low) ∙ (blank.unused 0 (omega arith)).doorbell

  pub may_open : MayOpen g d
  may_open = record {
    one = is_replica.queues;
    quiet = still-under f None g x d blank.drive (sym same) started.states;
    rung = (let none = rung_none in omega (arith, none));
    shown = λ ds top read.
        let seen : IsReadPrefix g (view_of x) ds top = subst (λ (i : Shown). IsReadPrefix g i ds top) view_is read in
        let none = top_none g (view_of x) seen.chains top unwritten seen.top_is in
        omega (arith, none);
  }

  pub readable : IsReadableImage g d
  readable = whole-readable g d (λ q. []) (subst (λ (i : Shown). AreWhole g i (λ q. [])) (sym view_is) (whole_none g (view_of x) unwritten))

  -- without a limit its power never ends, and no command is to fail
  pub lasting : f.limit ≡ None → IsLasting g d
  lasting none = record {
    queues = λ q low. (
        let at = start-queue f None x q blank.drive (subst (λ (h : Geometry). q < h.queues) (sym same) low) in
        let is : port_at d.queues q ≡ port_from x.geometry f None (Queue q) (image_at (queue_ports x) q) = ap (λ (s : DriveState). port_at s.queues q) started.states ∙ at in
        (ap (λ (s : PortState). s.fuse.limit) is ∙ none, ap (λ (s : PortState). s.fail) is)
        );
    root = (ap (λ (s : DriveState). s.root.fuse.limit) started.states ∙ none, ap (λ (s : DriveState). s.root.fail) started.states);
  }

  -- the last home block is zeros
  last_none : (view_of x).home 256 ≡ zeros
  last_none =
      let zone : zone_of x.geometry 256 ≡ Some 0 = ap (λ (h : Geometry). zone_of h 256) same ∙ last_zone g is_replica in
      let low : 0 < g.queues = (let one = is_replica.queues in omega (arith, one)) in
      let at : ℕ = x.geometry.area + (256 - (x.geometry.meta + 0 * x.geometry.zone)) in
      ap (home_block x.geometry (queue_ports x) (root_port x) 256) zone
      ∙ ap content (ap (λ (i : PortImage). get_or i.blocks at None) (own 0 low) ∙ blank.absent 0 at (omega arith))

  -- so the replica has reached 0
  module _ (lines : List (List BlockItem)) (r : ReplicaState) (opened : IsOpenedOn g d r) where
    abbrev pub first : Contents
    first = stands g (view_over g d) opened.ds

    pub first_number : number_of g first ≡ 0
    first_number =
        let last : last_home g ≡ 256 = last_is g is_replica in
        let none : opened.ds ≡ [] = prefix_none g (view_of x) opened.ds unwritten (subst (λ (i : Shown). Reaches g i opened.ds) view_is opened.read) in
        let held : first (last_home g) ≡ zeros =
        ap (λ (ds : List Descriptor). stands g (view_over g d) ds (last_home g)) none
        ∙ ap (λ (i : Shown). i.home (last_home g)) view_is ∙ ap (view_of x).home last ∙ last_none in
        ap number_in held ∙ zeros_number

    pub reached_none : r.reached ≡ 0
    reached_none = opened.reached ∙ first_number

    pub following : f.limit ≡ None → IsFollowing r
    following none = record {
      geometry_is = subst IsReplicaGeometry (sym opened.shape) is_replica;
      lasting = subst (λ (h : Geometry). IsLasting h r.drive) (sym opened.shape) (still_lasting g d r.drive opened.bounds (lasting none));
      stopped = opened.stopped;
    }

    pub no_lines : HasLines g first lines 0 r
    no_lines = record {
      geometry = opened.shape;
      reached = reached_none;
      stands = opened.images;
      stopped = opened.stopped;
      entries = opened.entries ∙ rung_none;
    }
