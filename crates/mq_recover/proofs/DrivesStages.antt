-- What stands at each point of a recovery.
use Rattle.std.proofs.Common.{◌≡◌, ◌<◌, ◌⊎◌, inl, inr, ⊎_elim, ℕ, ◌+◌, true, false, List, [], ◌∷◌, length, Option, Some, None, get_or, refl, sym, ◌∙◌, ap, arith}
use Rattle.std.proofs.lemmas.Bool.{cases_lt}
use Rattle.std.proofs.lemmas.List.{get_or_past}
use Rattle.mq_nvme.specs.Says.{says, journal_reading}
use Rattle.mq_blocks.specs.Blocks.{block_at}
use Rattle.mq_blocks.specs.Descriptor.{Descriptor}
use Rattle.mq_blocks.specs.Drive.{PortState, PortImage, IsImage, IsApartFrom}
use Rattle.mq_blocks.specs.Geometry.{homes_of, zone_of}
use Rattle.mq_blocks.specs.Journal.{Shown, image_at, shown, or_else, stands}
use Rattle.mq_blocks.specs.Machine.{Writes}
use Rattle.mq_blocks.specs.declared.geometry.Geometry.{Geometry}
use Rattle.mq_blocks.specs.declared.command.Command.{Command}
use Rattle.mq_ledger.specs.Sides.{home_index}
use Rattle.mq_ledger.specs.State.{port_at}
use Rattle.mq_drive.specs.Start.{area_size_of}
use Rattle.mq_recover.specs.Drives.{DriveState, IsQuiescentDrive, AreImages, view_over}
use Rattle.mq_recover.specs.Recovery.{IsReadPrefix, StandsAs}
use Rattle.mq_recover.specs.Copies.{content_of}
use Rattle.mq_recover.specs.RecoverHomes.{written}
use Rattle.mq_recover.specs.Events.{AreHomeWrites}
use Rattle.mq_recover.proofs.RecoveryCutImages.{IsSameLog, AreSameHeads, AreMovedHeads, read-along, read-raised, stands-along}
use Rattle.mq_recover.proofs.RecoverCopies.{stands-copy}
use Rattle.mq_recover.proofs.DrivesZones.{IsZone, port_in, role_in, image_in, home_in, zone-is, still-in, images-in, image-at, home-in, view-home, placed-at}

-- the block at this index is certain, and holds this
pub record IsSure (t : PortState) (k : ℕ) (v : List ℕ) : Type 0 where
  pub certain : get_or t.certain k false ≡ true
  pub is : block_at t.blocks k ≡ v

-- The log of a port is as at the start, and certain, and it posts nothing.
pub record IsKept (g : Geometry) (z : Option ℕ) (s t : PortState) : Type 0 where
  pub doorbell : t.doorbell ≡ s.doorbell
  pub flushed : t.flushed ≡ s.flushed
  pub staged : t.staged ≡ s.flushed
  pub flushed_end : t.flushed_end ≡ t.doorbell
  pub pending : t.pending ≡ []
  pub posted : t.posted ≡ []
  pub blocks_len : length t.blocks ≡ length s.blocks
  pub area : (k : ℕ) → k < area_size_of g (role_in z) → IsSure t k (block_at s.blocks k)

-- the same of all ports
pub record AreKept (g : Geometry) (s e : DriveState) : Type 0 where
  pub count : length e.queues ≡ length s.queues
  pub each : (z : Option ℕ) → IsZone g z → IsKept g z (port_in s z) (port_in e z)

-- the words of a port are as at the start, as flushed and as stored
pub record AreWordsKept (s t : PortState) : Type 0 where
  pub head : t.head ≡ s.head
  pub stored_head : t.stored_head ≡ s.head
  pub base : t.base ≡ s.base
  pub stored_base : t.stored_base ≡ s.base

-- a head is as at the start, as flushed and as stored
pub record IsHeadKept (s t : PortState) : Type 0 where
  pub head : t.head ≡ s.head
  pub stored_head : t.stored_head ≡ s.head

-- a head is as at the start, or at the doorbell
pub record IsHeadMoving (s t : PortState) : Type 0 where
  pub head : (t.head ≡ s.head) ⊎ (t.head ≡ s.doorbell)
  pub stored_head : (t.stored_head ≡ s.head) ⊎ (t.stored_head ≡ s.doorbell)

abbrev pub AreHeadsKept : Geometry → (s e : DriveState) → Type 0
AreHeadsKept g s e = (q : ℕ) → q < g.queues → IsHeadKept (port_at s.queues q) (port_at e.queues q)

abbrev pub AreHeadsMoving : Geometry → (s e : DriveState) → Type 0
AreHeadsMoving g s e = (q : ℕ) → q < g.queues → IsHeadMoving (port_at s.queues q) (port_at e.queues q)

-- Before the base is stored: the words are as at the start, and so is each block that is not written.
pub record IsGoing (g : Geometry) (s e : DriveState) (writes : Writes) : Type 0 where
  pub words : (z : Option ℕ) → IsZone g z → AreWordsKept (port_in s z) (port_in e z)
  pub homes : (x : ℕ) → x < homes_of g → written writes x ≡ None → IsSure (port_in e (zone_of g x)) (home_index g x) (home_in g s x)

pub words-heads : (g : Geometry) (s e : DriveState) → ((z : Option ℕ) → IsZone g z → AreWordsKept (port_in s z) (port_in e z)) → AreHeadsKept g s e
words-heads g s e words q own = let w = words (Some q) own in record { head = w.head; stored_head = w.stored_head }

-- all is home
abbrev pub AreHome : Geometry → (s e : DriveState) → Writes → Type 0
AreHome g s e writes = (x : ℕ) → x < homes_of g → IsSure (port_in e (zone_of g x)) (home_index g x) (or_else (written writes x) (home_in g s x))

-- All is home, and the base word is the old or the new one.
pub record IsRaising (g : Geometry) (s e : DriveState) (writes : Writes) (top : ℕ) : Type 0 where
  pub homes : AreHome g s e writes
  pub base : (e.root.base ≡ s.root.base) ⊎ (e.root.base ≡ top)
  pub stored_base : (e.root.stored_base ≡ s.root.base) ⊎ (e.root.stored_base ≡ top)
  pub heads : AreHeadsKept g s e

-- All is home, the base word is the new one, and each head is the old one or at the doorbell.
pub record IsMoving (g : Geometry) (s e : DriveState) (writes : Writes) (top : ℕ) : Type 0 where
  pub homes : AreHome g s e writes
  pub base : e.root.base ≡ top
  pub stored_base : e.root.stored_base ≡ top
  pub heads : AreHeadsMoving g s e

abbrev pub IsStage : Geometry → (s e : DriveState) → Writes → (top : ℕ) → Type 0
IsStage g s e writes top = AreKept g s e × (IsGoing g s e writes ⊎ (IsRaising g s e writes top ⊎ IsMoving g s e writes top))

-- ---- what each image shows

pub apart-none : (t : PortState) (k : ℕ) (cs : List Command) → cs ≡ [] → IsApartFrom t k cs
apart-none t k [] none = tt
apart-none t k (c ∷ cs) none = cc

certain-image : (t : PortState) (i : PortImage) (k : ℕ) (v : List ℕ) → IsImage t i → t.posted ≡ [] → k < length t.blocks → IsSure t k v → block_at i.blocks k ≡ v
certain-image t i k v image none within held = image.blocks k within (record { certain = held.certain; apart = apart-none t k t.posted none }) ∙ held.is

slots-image : (g : Geometry) (z : Option ℕ) (s t : PortState) (i : PortImage) (k : ℕ) → IsImage t i → IsKept g z s t → get_or i.slots k [] ≡ get_or s.flushed k []
slots-image g z s t i k image log =
    let same_len : length t.flushed ≡ length s.flushed = ap length log.flushed in
    let image_len = image.slots_len in
    let none : length t.pending ≡ 0 = ap length log.pending in
    let end = log.flushed_end in
    ⊎_elim
    (λ within. image.slots k within (λ c low high at. omega arith) ∙ ap (λ (l : List (List ℕ)). get_or l k []) log.flushed)
    (λ past. get_or_past i.slots k [] (omega arith) ∙ sym (get_or_past s.flushed k [] (omega arith)))
    (cases_lt k (length t.flushed))

-- what an image of a queue's port shows of its log
record IsSameQueue (g : Geometry) (s : PortState) (i : PortImage) : Type 0 where
  doorbell : i.doorbell ≡ s.doorbell
  entry : (k : ℕ) → says (get_or i.slots k []) ≡ says (get_or s.flushed k [])
  area : (k : ℕ) → k < g.area → block_at i.blocks k ≡ block_at s.blocks k

same-queue : (g : Geometry) (s : DriveState) (e : DriveState) (q : ℕ) (i : PortImage) → q < g.queues → IsQuiescentDrive g s → AreKept g s e → IsImage (port_at e.queues q) i → IsSameQueue g (port_at s.queues q) i
same-queue g s e q i own still kept image =
    let p : PortState = port_at s.queues q in
    let t : PortState = port_at e.queues q in
    let same = kept.each (Some q) own in
    let size : length p.blocks ≡ g.area + g.zone = (still.each q own).port.blocks in
    let len = same.blocks_len in
    record {
      doorbell = image.doorbell ∙ same.doorbell;
      entry = λ k. ap says (slots-image g (Some q) p t i k image same);
      area = λ k inside. certain-image t i k (block_at p.blocks k) image same.posted (omega arith) (same.area k inside);
    }

pub same-log : (g : Geometry) (s e : DriveState) (queues : List PortImage) (root : PortImage) → IsQuiescentDrive g s → AreKept g s e → AreImages g e queues root → IsSameLog g (view_over g s) (shown journal_reading g queues root)
same-log g s e queues root still kept images =
    let same = λ (q : ℕ) (own : q < g.queues). same-queue g s e q (image_at queues q) own still kept (images.each q own) in
    record {
      form = refl;
      doorbell = λ q own. (same q own).doorbell ∙ sym (ap (λ (i : PortImage). i.doorbell) (image-at s.queues q));
      entry = λ q k own. (same q own).entry k ∙ sym (ap (λ (i : PortImage). says (get_or i.slots k [])) (image-at s.queues q));
      area = λ q k own inside. (same q own).area k inside ∙ sym (ap (λ (i : PortImage). block_at i.blocks k) (image-at s.queues q));
    }

view-head : (g : Geometry) (s : DriveState) (q : ℕ) → (view_over g s).head q ≡ (port_at s.queues q).head
view-head g s q = ap (λ (i : PortImage). i.head) (image-at s.queues q)

view-doorbell : (g : Geometry) (s : DriveState) (q : ℕ) → (view_over g s).doorbell q ≡ (port_at s.queues q).doorbell
view-doorbell g s q = ap (λ (i : PortImage). i.doorbell) (image-at s.queues q)

-- where a block is certain, each image holds it
home-image : (g : Geometry) (s e : DriveState) (queues : List PortImage) (root : PortImage) (x : ℕ) (v : List ℕ) → IsQuiescentDrive g s → AreKept g s e → AreImages g e queues root → x < homes_of g
    → IsSure (port_in e (zone_of g x)) (home_index g x) v → (shown journal_reading g queues root).home x ≡ v
home-image g s e queues root x v still kept images inside certain =
    let z : Option ℕ = zone_of g x in
    let zone : IsZone g z = zone-is g x inside in
    let same = kept.each z zone in
    let len = same.blocks_len in
    let placed = placed-at g x (port_in s z) (still-in g s still z zone).port in
    let high = placed.high in
    home-in g queues root x z
    ∙ certain-image (port_in e z) (image_in queues root z) (home_index g x) v (images-in g e queues root images z zone) same.posted (omega arith) certain

-- a block that is not written is as at the start
going-home : (g : Geometry) (s e : DriveState) (writes : Writes) (queues : List PortImage) (root : PortImage) (x : ℕ) → IsQuiescentDrive g s → AreKept g s e → IsGoing g s e writes → AreImages g e queues root → x < homes_of g → written writes x ≡ None
    → (shown journal_reading g queues root).home x ≡ (view_over g s).home x
going-home g s e writes queues root x still kept going images inside none =
    home-image g s e queues root x (home_in g s x) still kept images inside (going.homes x inside none)
    ∙ sym (view-home g s x)

-- each block is what was written, else as at the start
homes-home : (g : Geometry) (s e : DriveState) (writes : Writes) (queues : List PortImage) (root : PortImage) (x : ℕ) → IsQuiescentDrive g s → AreKept g s e → AreHome g s e writes → AreImages g e queues root → x < homes_of g
    → (shown journal_reading g queues root).home x ≡ or_else (written writes x) ((view_over g s).home x)
homes-home g s e writes queues root x still kept homes images inside =
    home-image g s e queues root x (or_else (written writes x) (home_in g s x)) still kept images inside (homes x inside)
    ∙ ap (or_else (written writes x)) (sym (view-home g s x))

-- ---- what stands in each image

-- what is to be shown of one image
abbrev StandsIn : (g : Geometry) (s : DriveState) (ds : List Descriptor) (top : ℕ) (queues : List PortImage) (root : PortImage) → Type 0
StandsIn g s ds top queues root =
    (es : List Descriptor) × IsReadPrefix g (shown journal_reading g queues root) es top
    × (((root.base ≡ s.root.base) × (es ≡ ds)) ⊎ ((root.base ≡ top) × (es ≡ [])))
    × ((b : ℕ) → b < homes_of g → stands g (shown journal_reading g queues root) es b ≡ stands g (view_over g s) ds b)

over-old : (g : Geometry) (s : DriveState) (ds : List Descriptor) (top : ℕ) (writes : Writes) (queues : List PortImage) (root : PortImage) → IsReadPrefix g (view_over g s) ds top → AreHomeWrites g s ds writes
    → IsSameLog g (view_over g s) (shown journal_reading g queues root) → root.base ≡ s.root.base → AreSameHeads g (view_over g s) (shown journal_reading g queues root)
    → ((x : ℕ) → x < homes_of g → written writes x ≡ None → (shown journal_reading g queues root).home x ≡ (view_over g s).home x) → StandsIn g s ds top queues root
over-old g s ds top writes queues root read are same base head kept =
    let v : Shown = view_over g s in
    let i : Shown = shown journal_reading g queues root in (
      ds,
      read-along g v i ds top same base head read,
      inl (base, refl),
      λ b below. stands-along g v i ds b (λ d has. (read.prefix.whole d has).0) same (λ none. kept b below (are.copies b ∙ ap (content_of v.area g.area) none)),
    )

over-top : (g : Geometry) (s : DriveState) (ds : List Descriptor) (top : ℕ) (writes : Writes) (queues : List PortImage) (root : PortImage) → IsReadPrefix g (view_over g s) ds top → AreHomeWrites g s ds writes
    → IsSameLog g (view_over g s) (shown journal_reading g queues root) → root.base ≡ top → AreMovedHeads g (view_over g s) (shown journal_reading g queues root)
    → ((x : ℕ) → x < homes_of g → (shown journal_reading g queues root).home x ≡ or_else (written writes x) ((view_over g s).home x)) → StandsIn g s ds top queues root
over-top g s ds top writes queues root read are same base head homes =
    let v : Shown = view_over g s in
    let i : Shown = shown journal_reading g queues root in (
      [],
      read-raised g v i ds top same base head read,
      inr (base, refl),
      λ b below.
          homes b below
          ∙ ap (λ (o : Option (List ℕ)). or_else o (v.home b)) (are.copies b)
          ∙ sym (stands-copy g v ds b),
    )

either : (n a b m o : ℕ) → (n ≡ m) ⊎ (n ≡ o) → (m ≡ a) ⊎ (m ≡ b) → (o ≡ a) ⊎ (o ≡ b) → (n ≡ a) ⊎ (n ≡ b)
either n a b m o which first second = ⊎_elim
    (λ h. ⊎_elim (λ l. inl (h ∙ l)) (λ r. inr (h ∙ r)) first)
    (λ h. ⊎_elim (λ l. inl (h ∙ l)) (λ r. inr (h ∙ r)) second)
    which

same-heads : (g : Geometry) (s e : DriveState) (queues : List PortImage) (root : PortImage) → AreHeadsKept g s e → AreImages g e queues root → AreSameHeads g (view_over g s) (shown journal_reading g queues root)
same-heads g s e queues root heads images q own =
    let kept = heads q own in
    ⊎_elim (λ a. a ∙ kept.head) (λ b. b ∙ kept.stored_head) (images.each q own).head ∙ sym (view-head g s q)

moved-heads : (g : Geometry) (s e : DriveState) (queues : List PortImage) (root : PortImage) → AreHeadsMoving g s e → AreImages g e queues root → AreMovedHeads g (view_over g s) (shown journal_reading g queues root)
moved-heads g s e queues root heads images q own =
    let moving = heads q own in
    let p : PortState = port_at s.queues q in
    let t : PortState = port_at e.queues q in
    ⊎_elim
    (λ a. inl (a ∙ sym (view-head g s q)))
    (λ b. inr (b ∙ sym (view-doorbell g s q)))
    (either (image_at queues q).head p.head p.doorbell t.head t.stored_head (images.each q own).head moving.head moving.stored_head)

-- Over the old base, words and blocks are as at the start, but for the blocks that are written.
abbrev pub IsLeftOld : (g : Geometry) (s : DriveState) (writes : Writes) (queues : List PortImage) (root : PortImage) → Type 0
IsLeftOld g s writes queues root =
    IsSameLog g (view_over g s) (shown journal_reading g queues root) × (root.base ≡ s.root.base) × AreSameHeads g (view_over g s) (shown journal_reading g queues root)
    × ((x : ℕ) → x < homes_of g → written writes x ≡ None → (shown journal_reading g queues root).home x ≡ (view_over g s).home x)

-- Over the new base, all is home.
abbrev pub IsLeftNew : (g : Geometry) (s : DriveState) (writes : Writes) (top : ℕ) (queues : List PortImage) (root : PortImage) → Type 0
IsLeftNew g s writes top queues root =
    IsSameLog g (view_over g s) (shown journal_reading g queues root) × (root.base ≡ top) × AreMovedHeads g (view_over g s) (shown journal_reading g queues root)
    × ((x : ℕ) → x < homes_of g → (shown journal_reading g queues root).home x ≡ or_else (written writes x) ((view_over g s).home x))

going-left : (g : Geometry) (s e : DriveState) (writes : Writes) (queues : List PortImage) (root : PortImage) → IsQuiescentDrive g s → AreKept g s e → IsGoing g s e writes → AreImages g e queues root → IsLeftOld g s writes queues root
going-left g s e writes queues root still kept going images =
    let words = going.words None tt in
    let base : root.base ≡ s.root.base = ⊎_elim (λ a. a ∙ words.base) (λ b. b ∙ words.stored_base) images.root_is.base in
    (same-log g s e queues root still kept images, base, same-heads g s e queues root (words-heads g s e going.words) images, λ x inside none. going-home g s e writes queues root x still kept going images inside none)

raising-left : (g : Geometry) (s e : DriveState) (top : ℕ) (writes : Writes) (queues : List PortImage) (root : PortImage) → IsQuiescentDrive g s → AreKept g s e → IsRaising g s e writes top → AreImages g e queues root
    → IsLeftOld g s writes queues root ⊎ IsLeftNew g s writes top queues root
raising-left g s e top writes queues root still kept raising images =
    let same = same-log g s e queues root still kept images in
    let heads = same-heads g s e queues root raising.heads images in
    ⊎_elim
    (λ old. inl (same, old, heads, λ x inside none. homes-home g s e writes queues root x still kept raising.homes images inside ∙ ap (λ (o : Option (List ℕ)). or_else o ((view_over g s).home x)) none))
    (λ new. inr (same, new, λ q own. inl (heads q own), λ x inside. homes-home g s e writes queues root x still kept raising.homes images inside))
    (either root.base s.root.base top e.root.base e.root.stored_base images.root_is.base raising.base raising.stored_base)

moving-left : (g : Geometry) (s e : DriveState) (top : ℕ) (writes : Writes) (queues : List PortImage) (root : PortImage) → IsQuiescentDrive g s → AreKept g s e → IsMoving g s e writes top → AreImages g e queues root → IsLeftNew g s writes top queues root
moving-left g s e top writes queues root still kept moving images =
    let base : root.base ≡ top = ⊎_elim (λ a. a ∙ moving.base) (λ b. b ∙ moving.stored_base) images.root_is.base in
    (same-log g s e queues root still kept images, base, moved-heads g s e queues root moving.heads images, λ x inside. homes-home g s e writes queues root x still kept moving.homes images inside)

-- what each image is at each stage
pub stage-left : (g : Geometry) (s e : DriveState) (top : ℕ) (writes : Writes) (queues : List PortImage) (root : PortImage) → IsQuiescentDrive g s → IsStage g s e writes top → AreImages g e queues root
    → IsLeftOld g s writes queues root ⊎ IsLeftNew g s writes top queues root
stage-left g s e top writes queues root still stage images = ⊎_elim
    (λ going. inl (going-left g s e writes queues root still stage.0 going images))
    (λ later. ⊎_elim
    (λ raising. raising-left g s e top writes queues root still stage.0 raising images)
    (λ moving. inr (moving-left g s e top writes queues root still stage.0 moving images))
    later)
    stage.1

-- at each stage every image stands for what stood at the start
pub stage-stands : (g : Geometry) (s e : DriveState) (ds : List Descriptor) (top : ℕ) (writes : Writes) → IsQuiescentDrive g s → IsReadPrefix g (view_over g s) ds top → AreHomeWrites g s ds writes
    → IsStage g s e writes top → StandsAs g s ds top e
stage-stands g s e ds top writes still read are stage queues root images = ⊎_elim
    (λ old. over-old g s ds top writes queues root read are old.0 old.1 old.2 old.3)
    (λ new. over-top g s ds top writes queues root read are new.0 new.1 new.2 new.3)
    (stage-left g s e top writes queues root still stage images)
