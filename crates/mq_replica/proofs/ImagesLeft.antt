-- What a second cut leaves of what a first one left.
use Rattle.std.proofs.Common.{◌≡◌, ℕ, ◌<◌, List, [], length, map, sym, subst, ◌∙◌, arith, inl, inr, ⊎_elim}
use Rattle.mq_blocks.specs.Drive.{PortState, PortImage, IsApartFrom, IsImage, image_of}
use Rattle.mq_blocks.specs.Journal.{image_at}
use Rattle.mq_blocks.specs.declared.command.Command.{Command}
use Rattle.mq_blocks.specs.declared.geometry.Geometry.{Geometry}
use Rattle.mq_blocks.proofs.DriveQuiescent.{base-of, head-of, quiet-flushed}
use Rattle.mq_ledger.specs.State.{port_at}
use Rattle.mq_drive.specs.declared.role.Role.{Role}
use Rattle.mq_recover.specs.Drives.{DriveState, IsQuiescentDrive, IsQuiescentPort}
use Rattle.mq_recover.proofs.DrivesZones.{image-at}
use Rattle.mq_replica.specs.Images.{IsLeftOf}

apart_none : (s : PortState) (k : ℕ) (cs : List Command) → cs ≡ [] → IsApartFrom s k cs
apart_none s k cs e = subst (λ (l : List Command). IsApartFrom s k l) (sym e) tt

-- an image of what a cut left of a port is an image of the port
pub image_again : (g : Geometry) (role : Role) (s c : PortState) (i : PortImage) → IsImage s (image_of c) → IsQuiescentPort g role c → IsImage c i → IsImage s i
image_again g role s c i first still second = record {
  doorbell = second.doorbell ∙ first.doorbell;
  head = (let e = head-of i.head c still.quiet second.head in ⊎_elim (λ (h : c.head ≡ s.head). inl (e ∙ h)) (λ (h : c.head ≡ s.stored_head). inr (e ∙ h)) first.head);
  base = (let e = base-of i.base c still.quiet second.base in ⊎_elim (λ (h : c.base ≡ s.base). inl (e ∙ h)) (λ (h : c.base ≡ s.stored_base). inr (e ∙ h)) first.base);
  slots_len = second.slots_len ∙ first.slots_len;
  slots = λ k low settled. second.slots k (let l = first.slots_len in omega (arith, low, l)) (quiet-flushed c k still.quiet) ∙ first.slots k low settled;
  blocks_len = second.blocks_len ∙ first.blocks_len;
  blocks = λ k low certain.
      let l = first.blocks_len in
      let within : k < length c.certain = (let m = still.port.certain in omega (arith, low, l, m)) in
      second.blocks k (omega (arith, low, l)) (record { certain = still.quiet.certain k within; apart = apart_none c k c.posted still.quiet.posted }) ∙ first.blocks k low certain;
}

-- what a cut leaves of a quiescent drive that a cut left of another is what it may leave of that
pub left_of_left : (g : Geometry) (d cut again : DriveState) → IsQuiescentDrive g cut → IsLeftOf g d cut → IsLeftOf g cut again → IsLeftOf g d again
left_of_left g d cut again still first second = record {
  each = λ q own. image_again g _ (port_at d.queues q) (port_at cut.queues q) (image_at (map image_of again.queues) q)
      (subst (λ (i : PortImage). IsImage (port_at d.queues q) i) (image-at cut.queues q) (first.each q own)) (still.each q own) (second.each q own);
  root_is = image_again g _ d.root cut.root (image_of again.root) first.root_is still.root second.root_is;
}
