-- Drives that recovery can't tell apart are read alike.
use Rattle.std.proofs.Common.{◌≡◌, ◌<◌, ◌≤◌, ◌⊎◌, inl, inr, ⊎_elim, ℕ, ◌+◌, ◌-◌, ◌*◌, ◌%◌, List, [], ◌∷◌, length, map, refl, sym, ◌∙◌, ap, subst, arith}
use Rattle.std.specs.Prelude.{Bool, Option, Some, None, slice_index_or, if◌then◌else◌}
use Rattle.mq_blocks.specs.Blocks.{block_at}
use Rattle.mq_blocks.specs.Descriptor.{Descriptor, first_place}
use Rattle.mq_blocks.specs.Drive.{PortImage, PortState, image_of}
use Rattle.mq_blocks.specs.Geometry.{homes_of, zone_of}
use Rattle.mq_blocks.specs.Journal.{AreInRow, AreWhole, Has, IsPrefix, IsTop, ShowsNumber, home_block, image_at, is_among, logged_copy, number_limit, or_else, stands}
use Rattle.mq_blocks.specs.Limits.{depth}
use Rattle.mq_blocks.specs.declared.geometry.Geometry.{Geometry}
use Rattle.mq_ledger.specs.State.{port_at}
use Rattle.mq_nvme.specs.Says.{says}
use Rattle.mq_image_laws.specs.Alike.{AreAlike, IsQueueAlike}
use Rattle.mq_recover.specs.Drives.{DriveState, view_over}
use Rattle.mq_recover.specs.Images.{RefusesImage}
use Rattle.mq_recover.specs.Recovery.{IsReadPrefix}
use Rattle.mq_recover.specs.Refusals.{AreReadable, IsReadable, RefusesQueue, RefusesSome, entry_at}
use Rattle.mq_recover.specs.declared.refusal.ImageFault.{ImageFault}
use Rattle.mq_recover.specs.declared.refusal.ImageFault.TheVariants as fault
use Rattle.mq_image_laws.proofs.AlikeQueues.{queue-back, queue-refused, readable-alike}
use Rattle.mq_recover.proofs.DrivesImages.{view-seen}
use Rattle.mq_recover.proofs.DrivesZones.{IsZone, image-at, zone-is}
use Rattle.mq_recover.proofs.RecoverReadable.{readable-shown, shown-readable}

pub alike-back : (g : Geometry) (d e : DriveState) → AreAlike g d e → AreAlike g e d
alike-back g d e h = record { queues = λ q own. queue-back (port_at d.queues q) (port_at e.queues q) (h.queues q own); base = sym h.base; blocks = sym h.blocks }

-- ---- refusals

port-along : (g : Geometry) (s : PortState) (q base other : ℕ) (ds : List Descriptor) → base ≡ other → IsReadable g s q base ds → IsReadable g s q other ds
port-along g s q base other ds e h = subst (λ (n : ℕ). IsReadable g s q n ds) e h

all-alike : (g : Geometry) (d e : DriveState) (n : ℕ) (chains : ℕ → List Descriptor) → AreAlike g d e → n ≤ g.queues → AreReadable g d n chains → AreReadable g e n chains
all-alike g d e n chains h low a q own =
    port-along g (port_at e.queues q) q d.root.base e.root.base (chains q) h.base
    (readable-alike g (port_at d.queues q) (port_at e.queues q) q d.root.base (chains q) (h.queues q (omega arith)) (a q own))

pub image-alike : (g : Geometry) (d e : DriveState) (cause : ImageFault) → AreAlike g d e → RefusesImage g d cause → RefusesImage g e cause
image-alike g d e (fault.Limit base) h r = (r.0 ∙ h.base, r.1)
image-alike g d e (fault.Bad q cause) h r =
    let b = h.base in
    let s = r.1 in
    let low = r.0 in
    let own = s.0 in
    (omega arith, (own, s.1, all-alike g d e q s.1 h (omega arith) s.2, subst (λ (n : ℕ). RefusesQueue g (port_at e.queues q) q n cause) h.base (queue-refused g (port_at d.queues q) (port_at e.queues q) q d.root.base cause (h.queues q own) s.3)))
image-alike g d e (fault.Twice number first second) h r =
    let b = h.base in
    let low = r.0 in
    (omega arith, r.1, all-alike g d e g.queues r.1 h (omega arith) r.2, r.3)
image-alike g d e fault.OutOfMemory h r = r

-- ---- what is whole

pub whole-alike : (g : Geometry) (d e : DriveState) (chains : ℕ → List Descriptor) → AreAlike g d e → AreWhole g (view_over g d) chains → AreWhole g (view_over g e) chains
whole-alike g d e chains h w =
    let b = h.base in
    let low = w.limit in
    record {
      limit = omega arith;
      each = λ q own.
          let a = shown-readable g (view_over g d) (port_at d.queues q) q d.root.base (chains q) (view-seen g d q d.root.base refl) (w.each q own) in
          let c = readable-alike g (port_at d.queues q) (port_at e.queues q) q d.root.base (chains q) (h.queues q own) a in
          readable-shown g (view_over g e) (port_at e.queues q) q e.root.base (chains q) (view-seen g e q e.root.base refl) (port-along g (port_at e.queues q) q d.root.base e.root.base (chains q) h.base c);
      once = w.once;
    }

-- the numbers that are shown
number-alike : (g : Geometry) (d e : DriveState) (chains : ℕ → List Descriptor) (n : ℕ) → AreAlike g d e → ShowsNumber g (view_over g d) chains n → ShowsNumber g (view_over g e) chains n
number-alike g d e chains n h s = ⊎_elim
    (λ is. record { where_from = inl (is ∙ h.base) })
    (λ more. ⊎_elim
    (λ has. record { where_from = inr (inl has) })
    (λ r.
    let own = r.3 in
    let q = h.queues r.0 own in
    let here = view-seen g d r.0 d.root.base refl in
    let there = view-seen g e r.0 e.root.base refl in
    let a = here.head_is in
    let b = here.doorbell_is in
    let x = there.head_is in
    let y = there.doorbell_is in
    let from = r.4 in
    let to = r.5 in
    let u = q.head in
    let v = q.doorbell in
    let entry = sym (there.entry_is (r.1 % depth)) in
    let said = sym (here.entry_is (r.1 % depth)) ∙ r.6 in
    record { where_from = inr (inr (r.0, r.1, r.2, own, omega arith, omega arith, there.entry_is (r.1 % depth) ∙ ap says (sym (q.entries r.1 (omega arith) (omega arith))) ∙ said, r.7)) })
    more)
    s.where_from

-- the same is read
pub read-alike : (g : Geometry) (d e : DriveState) (ds : List Descriptor) (top : ℕ) → AreAlike g d e → IsReadPrefix g (view_over g d) ds top → IsReadPrefix g (view_over g e) ds top
read-alike g d e ds top h read =
    let whole = whole-alike g d e read.chains h read.whole in
    let prefix = read.prefix in
    record {
      form_is = refl;
      chains = read.chains;
      whole = whole;
      prefix = record {
        row = subst (λ (b : ℕ). AreInRow b ds) h.base prefix.row;
        whole = prefix.whole;
        greatest = λ q t low has is. prefix.greatest q t low has (is ∙ ap (λ (b : ℕ). b + length ds + 1) (sym h.base));
      };
      top_is = record {
        whole = whole;
        shown = number-alike g d e read.chains top h read.top_is.shown;
        greatest = λ n shows. read.top_is.greatest n (number-alike g e d read.chains n (alike-back g d e h) shows);
      };
    }

-- ---- what stands

home-alike : (g : Geometry) (d e : DriveState) (x : ℕ) (z : Option ℕ) → AreAlike g d e → IsZone g z → home_block g (map image_of d.queues) (image_of d.root) x z ≡ home_block g (map image_of e.queues) (image_of e.root) x z
home-alike g d e x None h own = ap (λ (bs : List (Option (List ℕ))). block_at bs x) h.blocks
home-alike g d e x (Some q) h own =
    let at = λ (s : DriveState). ap (λ (i : PortImage). block_at i.blocks (g.area + (x - (g.meta + q * g.zone)))) (image-at s.queues q) in
    at d ∙ ap (λ (bs : List (Option (List ℕ))). block_at bs (g.area + (x - (g.meta + q * g.zone)))) (h.queues q own).blocks ∙ sym (at e)

area-alike : (g : Geometry) (d e : DriveState) (q : ℕ) → AreAlike g d e → q < g.queues → (view_over g d).area q ≡ (view_over g e).area q
area-alike g d e q h own =
    let a = view-seen g d q d.root.base refl in
    let b = view-seen g e q e.root.base refl in
    λ i. λ k. (a.area_is k ∙ ap (λ (bs : List (Option (List ℕ))). block_at bs k) (h.queues q own).blocks ∙ sym (b.area_is k)) i

pub stands-alike : (g : Geometry) (d e : DriveState) (ds : List Descriptor) (x : ℕ) → AreAlike g d e → ((t : Descriptor) → Has ds t → t.queue < g.queues) → x < homes_of g → stands g (view_over g d) ds x ≡ stands g (view_over g e) ds x
stands-alike g d e [] x h own low = home-alike g d e x (zone_of g x) h (zone-is g x low)
stands-alike g d e (t ∷ ts) x h own low =
    let home = home-alike g d e x (zone_of g x) h (zone-is g x low) in
    let area = area-alike g d e t.queue h (own t (inl refl)) in
    let rest = stands-alike g d e ts x h (λ u has. own u (inr has)) low in
    ap (λ (f : ℕ → List ℕ). or_else (logged_copy f g.area (first_place t) t.logged x) (if is_among x t.revoked then (view_over g d).home x else stands g (view_over g d) ts x)) area
    ∙ ap (λ (b : List ℕ). or_else (logged_copy ((view_over g e).area t.queue) g.area (first_place t) t.logged x) (if is_among x t.revoked then b else stands g (view_over g d) ts x)) home
    ∙ ap (λ (b : List ℕ). or_else (logged_copy ((view_over g e).area t.queue) g.area (first_place t) t.logged x) (if is_among x t.revoked then (view_over g e).home x else b)) rest
