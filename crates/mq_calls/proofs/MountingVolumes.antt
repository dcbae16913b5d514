-- A file system over what stands on a drive that is a start of the machine.
use Rattle.std.proofs.Common.{◌≡◌, ◌≢◌, List, refl, sym, subst, ◌∙◌}
use Rattle.mq_blocks.specs.Drive.{PortState}
use Rattle.mq_blocks.specs.declared.geometry.Geometry.{Geometry}
use Rattle.mq_drive.specs.Steps.{PortFault}
use Rattle.mq_drive.specs.declared.port.Port.{Ghosts}
use Rattle.mq_drive.specs.declared.port.Ports.{Ports}
use Rattle.mq_calls.specs.declared.entry.FileEntry.{FileEntry}
use Rattle.mq_journal.specs.Numbers.{Start}
use Rattle.mq_recover.specs.Drives.{DriveState, drive_of}
use Rattle.mq_recover.specs.Recovery.{IsStartDrive}
use Rattle.mq_recover.specs.Standing.{StandsIn}
use Rattle.mq_recover.specs.declared.standing.Standing.{Standing}
use Rattle.mq_sessions.proofs.OpeningStartReads.{stands-home, starts-over}
use Rattle.mq_tree.specs.Corrupt.{Refuses}
use Rattle.mq_tree.specs.Laid.{IsLaid, IsTreeOf, map_of}
use Rattle.mq_tree.specs.Volume.{Things, Volume, layout, tree}
use Rattle.mq_tree.proofs.LaidMaps.{laid-along, mapped, same-map}
use Rattle.mq_tree.specs.declared.corrupt.MountRefusal.{MountRefusal}
use Rattle.mq_tree.specs.declared.corrupt.MountRefusal.TheVariants as mount
use Rattle.mq_calls.specs.Mounting.{HoldsVolume, IsMountedOver, IsNotMounted, corrupt, memory}
use Rattle.mq_calls.specs.Opening.{IsOpenedOver, MayOpen}
use Rattle.mq_calls.proofs.OpeningVolume.{outside}

-- a volume that stands, is on what stands, whoever reads it
laid-on : (g : Geometry) (d : DriveState) (s : Standing) (v : Volume) → IsStartDrive g d → StandsIn g d s → HoldsVolume g d v → IsLaid g (map_of g s.blocks.items) v
laid-on g d s v start stood holds =
    let other = holds.standing in
    laid-along g (map_of g other.blocks.items) (map_of g s.blocks.items) v (same-map g other.blocks.items s.blocks.items (λ b low. stands-home g d other start holds.stands b low ∙ sym (stands-home g d s start stood b low))) holds.laid

-- a drive on which a tree stands may be opened
pub opens : (g : Geometry) (d : DriveState) (s : Standing) (t : Things) → IsStartDrive g d → StandsIn g d s → IsTreeOf g (map_of g s.blocks.items) t → MayOpen g d s
opens g d s t start stood found =
    let is = stood.3 in
    let l = found.laid in
    let stored = s.blocks.items in
    record {
      whole = is.whole;
      base = is.base_is;
      start = starts-over g d s (map_of g stored) start stood (outside g stored) (λ b page e. (mapped g stored b page e).is);
      mounts = (l.volume, l.laid);
    }

-- what is not mounted
pub refuses : (g : Geometry) (d : DriveState) (s : Standing) (e : MountRefusal) → IsStartDrive g d → StandsIn g d s → Refuses g s.blocks.items e
    → (e ≢ mount.OutOfMemory → (t : Things) → IsTreeOf g (map_of g s.blocks.items) t → ⊥) → IsNotMounted g d e
refuses g d s (mount.Corrupt cause b) start stood cause_is none =
    corrupt s stood cause_is (λ v holds. none (λ e. cc) (tree v) (tree-of (laid-on g d s v start stood holds)))
  where
    tree-of : {v : Volume} → IsLaid g (map_of g s.blocks.items) v → IsTreeOf g (map_of g s.blocks.items) (tree v)
    tree-of {v} laid = record { places = layout v; laid = record { volume = v; laid = laid; things = λ path. refl; places = λ path. refl } }
refuses g d s mount.OutOfMemory start stood cause_is none = memory

pub wanting : (g : Geometry) (d : DriveState) (e : MountRefusal) → e ≡ mount.OutOfMemory → IsNotMounted g d e
wanting g d e is = subst (IsNotMounted g d) (sym is) memory

module _ {P : Type 0} {G : Ghosts P} (state : P → PortState) (faults : P → List PortFault) where
  pub mounted : (g : Geometry) (ports : Ports P) (s : Standing) (o : Start P FileEntry G) → IsStartDrive g (drive_of state ports) → StandsIn g (drive_of state ports) s → MayOpen g (drive_of state ports) s
      → IsOpenedOver state faults g ports s o → IsMountedOver state faults g ports o
  mounted g ports s o start stood may opened = record {
    standing = s;
    stands = stood;
    homes = stands-home g (drive_of state ports) s start stood;
    opened = opened;
    volume = may.mounts.0;
    laid = may.mounts.1;
  }
