-- What the images of a replica stand for.
use Rattle.std.proofs.Common.{◌≡◌, ℕ, ◌+◌, ◌<◌, ◌≤◌, List, length, map, Some, refl, sym, ap, subst, ◌∙◌, inl}
use Rattle.std.proofs.Math.Logic.{∥∥₁_elim}
use Rattle.std.specs.Coded.{Coded-set, coded_list, coded_ℕ}
use Rattle.mq_blocks.specs.Descriptor.{Descriptor}
use Rattle.mq_blocks.specs.Drive.{IsImage, PortState, image_of}
use Rattle.mq_blocks.specs.Geometry.{homes_of}
use Rattle.mq_blocks.specs.Journal.{Reaches, image_at, stands}
use Rattle.mq_blocks.specs.declared.geometry.Geometry.{Geometry}
use Rattle.mq_ledger.specs.History.{map_after, upto}
use Rattle.mq_ledger.specs.State.{Recovers, front_of, port_at, start_map}
use Rattle.mq_ledger.specs.Written.{journal_entries}
use Rattle.mq_recover.specs.Drives.{DriveState, drive, view_over}
use Rattle.mq_recover.specs.Recovery.{IsReadPrefix}
use Rattle.mq_recover.specs.Recovery as recovery
use Rattle.mq_recover.proofs.DrivesImages.{reaches-same}
use Rattle.mq_recover.proofs.DrivesZones.{image-at}
use Rattle.mq_state_laws.specs.Parts.{AreParts, Parts, state}
use Rattle.mq_state_laws.proofs.PartsAssembly.{lawful}
use Rattle.mq_replica.specs.Contents.{AreSame, Contents}
use Rattle.mq_replica.specs.Images.{AlwaysStands, IsLeftOf, StandsFor}

pub reaches_of : (g : Geometry) (d : DriveState) (ds : List Descriptor) (top : ℕ) → IsReadPrefix g (view_over g d) ds top → Reaches g (view_over g d) ds
reaches_of g d ds top read = record { chains = read.chains; whole = read.whole; prefix = read.prefix }

-- what a recovery, whole or cut short, leaves stands for what stood
pub from_recovery : (g : Geometry) (old : DriveState) (ds : List Descriptor) (top : ℕ) (new : DriveState) → recovery.StandsAs g old ds top new → StandsFor g new (stands g (view_over g old) ds)
from_recovery g old ds top new is = λ cut left.
    let (es, read, at, same) = is (map image_of cut.queues) (image_of cut.root) left in
    let it = reaches_of g cut es top read in
    record {
      readable = ∣ (es, it) ∣₁;
      are = λ fs other x low. ap (λ (hs : List Descriptor). stands g (view_over g cut) hs x) (reaches-same g (view_over g cut) fs es refl other it) ∙ same x low;
    }

-- a drive's own image is one that a cut may leave
own_of : (p : PortState) → IsImage p (image_of p)
own_of p = record {
  doorbell = refl;
  head = inl refl;
  base = inl refl;
  slots_len = refl;
  slots = λ k low settled. refl;
  blocks_len = refl;
  blocks = λ k low certain. refl;
}

pub own_image : (g : Geometry) (d : DriveState) → IsLeftOf g d d
own_image g d = record {
  each = λ q own. subst (λ i. IsImage (port_at d.queues q) i) (sym (image-at d.queues q)) (own_of (port_at d.queues q));
  root_is = own_of d.root;
}

-- a drive stands for one content at most
pub stands_once : (g : Geometry) (d : DriveState) (a b : Contents) → StandsFor g d a → StandsFor g d b → AreSame g a b
stands_once g d a b one other = λ x low.
    let mine = one d (own_image g d) in
    let its = other d (own_image g d) in
    ∥∥₁_elim mine.readable (Coded-set (coded_list coded_ℕ) _ _) (λ read. sym (its.are read.0 read.1 x low) ∙ mine.are read.0 read.1 x low)

pub stands_same : (g : Geometry) (d : DriveState) (a b : Contents) → AreSame g a b → StandsFor g d a → StandsFor g d b
stands_same g d a b same is = λ cut left. record { readable = (is cut left).readable; are = λ ds read x low. (is cut left).are ds read x low ∙ sym (same x low) }

-- ---- parts

-- what is found reaches a number, and has the map's contents after it
pub record IsFound (p : Parts) (reached : ℕ) (c : Contents) : Type 0 where
  pub least : front_of (state p) ≤ reached
  pub most : reached ≤ p.base + length p.history
  pub stand : (x : ℕ) (block : List ℕ) → x < homes_of p.geometry → map_after (start_map p.start) (upto reached p.history) x ≡ Some block → c x ≡ block

pub parts_stand : (p : Parts) (are : AreParts p) → p.entries ≡ journal_entries → (has : Contents → Type 0) → ((reached : ℕ) (c : Contents) → IsFound p reached c → has c) → AlwaysStands p.geometry (drive p.ports p.root) has
parts_stand p are written has f = λ cut left.
    let r : Recovers (state p) (view_over p.geometry cut) = recovered cut left in
    let it : Reaches p.geometry (view_over p.geometry cut) r.ds = record { chains = r.chains; whole = r.whole; prefix = r.prefix } in
    record {
      readable = ∣ (r.ds, it) ∣₁;
      are = λ ds other. subst (λ (es : List Descriptor). has (stands p.geometry (view_over p.geometry cut) es)) (reaches-same p.geometry (view_over p.geometry cut) r.ds ds refl it other)
          (f (cut.root.base + length r.ds) (stands p.geometry (view_over p.geometry cut) r.ds) (record { least = r.least; most = r.most; stand = r.stand }));
    }
  where
    recovered : (cut : DriveState) → IsLeftOf p.geometry (drive p.ports p.root) cut → Recovers (state p) (view_over p.geometry cut)
    recovered cut left = subst (λ e. Recovers (state p) (Rattle.mq_blocks.specs.Journal.shown (Rattle.mq_ledger.specs.Items.reading_of e) p.geometry (map image_of cut.queues) (image_of cut.root))) written
        ((lawful p are).safe.images (map image_of cut.queues) (image_of cut.root) (record { each = left.each; root_is = left.root_is }))
