-- What becomes of a drive on which something is played, from its start to the cut of its power.
use Rattle.std.specs.Prelude.{◌≡◌, ◌≤◌, ◌^◌, ◌||◌, ℕ, zero, suc, Bool, false, List, [], ◌∷◌, Contains, Option, Some, None}
use Rattle.mq_blocks.specs.Drive.{FuseName, PortImage}
use Rattle.mq_blocks.specs.Totals.{total}
use Rattle.mq_blocks.specs.declared.geometry.Geometry.{Geometry}
use Rattle.mq_drive.specs.Emu.{emu_faults, emu_state, executed_of}
use Rattle.mq_drive.specs.Happened.{happened_in}
use Rattle.mq_drive.specs.Limits.{fails_by}
use Rattle.mq_drive.specs.contracts.emu.EmuPortPort.TheImpl.{ghosts}
use Rattle.mq_drive.specs.Steps.{PowerOff}
use Rattle.mq_drive.specs.declared.emu.EmuPort.{EmuPort}
use Rattle.mq_drive.specs.declared.fuse.FuseSeat.{FuseSeat}
use Rattle.mq_drive.specs.declared.port.Port.{Ghosts}
use Rattle.mq_drive.specs.declared.port.Ports.{Ports}
use Rattle.mq_image.specs.File.{DriveImage}
use Rattle.mq_image_ops.specs.Cuts.{AreCutPorts, row_of}
use Rattle.mq_image_ops.specs.Starts.{AreSeeded, AreStarted}
use Rattle.mq_image_ops.specs.declared.ports.Failing.{Failing}
use Rattle.mq_recover.specs.Drives.{AreBoundsKept, ArePorts, IsQuiescentDrive, drive_of}
use Rattle.mq_recover.specs.Recovery.{IsStartDrive}
use Rattle.mq_recover.specs.Standing.{StandsIn}
use Rattle.mq_recover.specs.declared.refusal.ImageFault.TheVariants as fault
use Rattle.mq_recover.specs.declared.standing.Standing.{Standing}
use Rattle.mq_image_run.specs.declared.options.DriveOptions.{DriveOptions}
use Rattle.mq_image_run.specs.declared.unplayed.Unplayed.{Unplayed}
use Rattle.mq_image_run.specs.declared.unplayed.Unplayed.TheVariants.{Image, Refused}

-- ---- what the ports show

-- what a port in memory stands for, as any port does
abbrev pub emu_ghosts : Ghosts EmuPort
emu_ghosts = ghosts

-- the command that is to fail was executed on one of them
abbrev pub has_failed : List EmuPort → Bool
has_failed [] = false
has_failed (p ∷ ps) = fails_by (emu_state p).fail (executed_of p) || has_failed ps

-- how many commands the port with this number has executed since it was made: none where no port has it
abbrev pub executed_at : List EmuPort → (port : ℕ) → ℕ
executed_at [] port = 0
executed_at (p ∷ ps) zero = executed_of p
executed_at (p ∷ ps) (suc port) = executed_at ps port

-- the given command, counted from 1, is among those that its port has executed
abbrev pub was_executed : Option Failing → List EmuPort → Bool
was_executed None ports = false
was_executed (Some f) ports = fails_by (Some f.command) (executed_at ports f.port)

-- how many events happened on them
abbrev pub events_on : List EmuPort → ℕ
events_on ports = total (λ p. happened_in (emu_state p) (emu_faults p)) ports

-- ---- before and after what is played

-- A drive is ready where its ports are as after a start, at rest, and the base that stands there is within the
-- limit of a run.
pub record IsReady (g : Geometry) (ports : Ports EmuPort) : Type 0 where
  pub still : IsQuiescentDrive g (drive_of emu_state ports)
  pub start : IsStartDrive g (drive_of emu_state ports)
  pub low : (s : Standing) → StandsIn g (drive_of emu_state ports) s → s.base ≤ 2 ^ 62

-- The new ports are those of the drive still, each with its fuse and its failing command.
pub record AreKept (g : Geometry) (old new : Ports EmuPort) : Type 0 where
  pub same_ports : ArePorts g (drive_of emu_state new)
  pub bounds : AreBoundsKept g (drive_of emu_state old) (drive_of emu_state new)

-- ---- a whole drive

module _ {T : Type 0} (Plays : Ports EmuPort → T → Ports EmuPort → Type 0) where
  -- This was played on the drive that starts from the image, with the power, the failing command and the pick that
  -- were asked for: the pick is the seed of what each port left to chance at the start. Then the power of all ports
  -- was cut, with the same pick, and their seats came back. No port had executed a command at the start: so the
  -- command that was to fail is that of this number, on the port of this number, that was executed since.
  pub record IsDriven (fuse : FuseName) (y : DriveImage) (o : DriveOptions) (played : T) (failed : Bool)
      (images : List PortImage) (seats : List FuseSeat) : Type 0 where
    pub ports : Ports EmuPort
    pub started : AreStarted fuse o.fail y ports
    pub seeded : AreSeeded y.geometry o.pick ports
    pub end : Ports EmuPort
    pub plays : Plays ports played end
    pub kept : AreKept y.geometry ports end
    pub any_failed : failed ≡ has_failed (row_of end)
    pub named : failed ≡ was_executed o.fail (row_of end)
    pub cut : AreCutPorts o.pick (row_of end) images seats

  -- What was driven, once the fuse was closed. With a limit, the events are those that happened on all ports:
  -- at most the limit, and just the limit where a port refused one for its power. Without a limit no port
  -- refused one for its power, and where the failing command was not executed either, no port has a fault.
  pub record HasStopped (fuse : FuseName) (y : DriveImage) (o : DriveOptions) (played : T) (failed : Bool)
      (images : List PortImage) (events : ℕ) : Type 0 where
    pub seats : List FuseSeat
    pub drives : IsDriven fuse y o played failed images seats
    pub happened : (l : ℕ) → fuse.limit ≡ Some l
        → (events ≡ events_on (row_of drives.end)) × (events ≤ l)
    pub off : (l : ℕ) (p : EmuPort) → fuse.limit ≡ Some l → Contains (row_of drives.end) p
        → Contains (emu_faults p) PowerOff → events ≡ l
    pub powered : (p : EmuPort) → fuse.limit ≡ None → Contains (row_of drives.end) p
        → Contains (emu_faults p) PowerOff → ⊥
    pub sound : (p : EmuPort) → fuse.limit ≡ None → failed ≡ false
        → Contains (row_of drives.end) p → emu_faults p ≡ []

-- ---- where nothing was played

-- Memory ran out, or the drive that starts from the image was refused by what was to be played.
abbrev pub IsUndriven : {E : Type 0} → (Ports EmuPort → E → Type 0) → FuseName → Option Failing → DriveImage
    → Unplayed E → Type 0
IsUndriven Refuses fuse fail y (Image e) = e ≡ fault.OutOfMemory
IsUndriven Refuses fuse fail y (Refused e) = (ports : Ports EmuPort) × AreStarted fuse fail y ports × Refuses ports e
