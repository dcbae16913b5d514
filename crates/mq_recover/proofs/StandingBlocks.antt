-- What stands on the home blocks.
use Rattle.std.proofs.Common.{◌≡◌, ◌<◌, ℕ, List, length, Option, None, get_or, sym, ◌∙◌, ap, subst, arith}
use Rattle.mq_blocks.specs.Blocks.{block_at}
use Rattle.mq_blocks.specs.Descriptor.{Descriptor}
use Rattle.mq_blocks.specs.Drive.{PortState, IsApartFrom, IsCertain, index_of}
use Rattle.mq_blocks.specs.Geometry.{homes_of, home_lba, zone_of}
use Rattle.mq_blocks.specs.declared.geometry.Geometry.{Geometry}
use Rattle.mq_ledger.specs.Sides.{home_index_in}
use Rattle.mq_recover.specs.Drives.{DriveState, IsQuiescentPort, IsQuiescentDrive, view_over}
use Rattle.mq_recover.specs.Choices.{IsFoundIn}
use Rattle.mq_recover.specs.Recovering.{AreStanding, newest_of}
use Rattle.mq_recover.specs.Standing.{StandsIn}
use Rattle.mq_recover.specs.declared.copies.CopyPlace.{CopyPlace}
use Rattle.mq_recover.specs.declared.choice.Found.{Found}
use Rattle.mq_recover.specs.declared.standing.Standing.{Standing}
use Rattle.mq_recover.specs.Copies.{AreCopies}
use Rattle.mq_recover.proofs.HomeWrites.{copies-at}
use Rattle.mq_recover.proofs.RecoverCopies.{stands-copy}
use Rattle.mq_recover.proofs.DrivesZones.{port_in, role_in, IsZone, still-in, placed-in, view-home}

-- what was read is what stands on the blocks
pub blocks-standing : (g : Geometry) (d : DriveState) (copies : List (Option CopyPlace)) (blocks : List (Option (List ℕ))) → length blocks ≡ homes_of g
    → ((b : ℕ) → b < homes_of g → block_at blocks b ≡ newest_of g d (get_or copies b None) b) → (ds : List Descriptor) → AreCopies g ds copies → AreStanding g d ds blocks
blocks-standing g d copies blocks whole are ds copies_are = record {
  whole = whole;
  are = λ b below. are b below ∙ ap (λ (o : Option CopyPlace). newest_of g d o b) (copies-at g ds copies b copies_are) ∙ sym (stands-copy g (view_over g d) ds b);
}

pub standing-of : (g : Geometry) (d : DriveState) (found : Found) (s : Standing) → (is : IsFoundIn g d found) → AreStanding g d is.ds s.blocks.items → s.prefix ≡ found.recovered.prefix → s.base ≡ d.root.base → s.top ≡ found.recovered.base → StandsIn g d s
standing-of g d found s is standing prefix_is base_is top_is = (
  is.ds,
  found.recovered.base,
  is.read,
  record {
    whole = standing.whole;
    blocks_are = standing.are;
    prefix_is = prefix_is ∙ is.prefix_is;
    base_is = base_is;
    top_is = top_is;
  },
)

-- ---- a home block

-- what was read at home through the port of the block's zone
pub home-read : (g : Geometry) (d : DriveState) (z : Option ℕ) (x lba : ℕ) (p : PortState) (block : List ℕ) → IsQuiescentDrive g d → zone_of g x ≡ z → IsZone g z → port_in d z ≡ p → lba ≡ home_lba g x
    → (IsCertain p (index_of p lba) → block ≡ block_at p.blocks (index_of p lba)) → block ≡ (view_over g d).home x
home-read g d z x lba p block still zone_is zone own lba_is read =
    let s : IsQuiescentPort g (role_in z) p = subst (IsQuiescentPort g (role_in z)) own (still-in g d still z zone) in
    let placed = placed-in g z p x zone_is s.port in
    let sized = s.port.certain in
    let high = placed.high in
    let index : index_of p lba ≡ home_index_in g z x = ap (index_of p) lba_is ∙ placed.index_is in
    let certain : IsCertain p (home_index_in g z x) = record {
      certain = s.quiet.certain (home_index_in g z x) (omega (arith, sized, high));
      apart = subst (IsApartFrom p (home_index_in g z x)) (sym s.quiet.posted) tt;
    } in
    read (subst (IsCertain p) (sym index) certain)
    ∙ ap (block_at p.blocks) index
    ∙ ap (λ (t : PortState). block_at t.blocks (home_index_in g z x)) (sym own)
    ∙ ap (λ (y : Option ℕ). block_at (port_in d y).blocks (home_index_in g y x)) (sym zone_is)
    ∙ sym (view-home g d x)
