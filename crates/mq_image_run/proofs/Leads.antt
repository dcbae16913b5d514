-- What is played may be said by what it leads to.
use Rattle.std.proofs.Common.{Bool, List, Option, ℕ}
use Rattle.mq_blocks.specs.Drive.{FuseName, PortImage}
use Rattle.mq_drive.specs.declared.emu.EmuPort.{EmuPort}
use Rattle.mq_drive.specs.declared.fuse.FuseSeat.{FuseSeat}
use Rattle.mq_drive.specs.declared.port.Ports.{Ports}
use Rattle.mq_image.specs.File.{DriveImage}
use Rattle.mq_image_ops.specs.declared.ports.Failing.{Failing}
use Rattle.mq_image_run.specs.Drives.{HasStopped, IsDriven}
use Rattle.mq_image_run.specs.Refusals.{IsRefusedBy, IsUnplayed}
use Rattle.mq_image_run.specs.Runs.{IsPlayedOn}
use Rattle.mq_image_run.specs.declared.options.DriveOptions.{DriveOptions}
use Rattle.mq_image_run.specs.declared.ran.PlayedImage.{PlayedImage}
use Rattle.mq_image_run.specs.declared.unplayed.Unplayed.{Unplayed}
use Rattle.mq_image_run.specs.declared.unplayed.Unplayed.TheVariants.{Image, Refused}

module _ {T : Type 0} (Plays Leads : Ports EmuPort → T → Ports EmuPort → Type 0) (leads : (old : Ports EmuPort) (played : T) (new : Ports EmuPort) → Plays old played new → Leads old played new) where
  driven : (fuse : FuseName) (y : DriveImage) (o : DriveOptions) (played : T) (failed : Bool) (images : List PortImage) (seats : List FuseSeat) → IsDriven Plays fuse y o played failed images seats → IsDriven Leads fuse y o played failed images seats
  driven fuse y o played failed images seats is = record {
    ports = is.ports;
    started = is.started;
    seeded = is.seeded;
    end = is.end;
    plays = leads is.ports played is.end is.plays;
    kept = is.kept;
    any_failed = is.any_failed;
    named = is.named;
    cut = is.cut;
  }

  stopped : (fuse : FuseName) (y : DriveImage) (o : DriveOptions) (played : T) (failed : Bool) (images : List PortImage) (events : ℕ) → HasStopped Plays fuse y o played failed images events → HasStopped Leads fuse y o played failed images events
  unfolding driven
  stopped fuse y o played failed images events is = record {
    seats = is.seats;
    drives = driven fuse y o played failed images is.seats is.drives;
    happened = is.happened;
    off = is.off;
    powered = is.powered;
    sound = is.sound;
  }

  pub played-leads : (x : DriveImage) (o : DriveOptions) (r : PlayedImage T) → IsPlayedOn Plays x o r → IsPlayedOn Leads x o r
  played-leads x o r is = record {
    recovered = is.recovered;
    recovery = is.recovery;
    within = is.within;
    base_is = is.base_is;
    fuse = is.fuse;
    power = is.power;
    stops = stopped is.fuse is.recovered.image o r.played r.failed r.image.ports r.events is.stops;
    geometry = is.geometry;
    drive = is.drive;
    widths = is.widths;
  }

module _ {E : Type 0} (Refuses Leads : Ports EmuPort → E → Type 0) (leads : (ports : Ports EmuPort) (e : E) → Refuses ports e → Leads ports e) where
  refused-leads : (fail : Option Failing) (x : DriveImage) (e : E) → IsRefusedBy Refuses fail x e → IsRefusedBy Leads fail x e
  refused-leads fail x e is = record {
    recovered = is.recovered;
    recovery = is.recovery;
    within = is.within;
    fuse = is.fuse;
    ports = is.ports;
    started = is.started;
    refused = leads is.ports e is.refused;
  }

  pub unplayed-leads : (fail : Option Failing) (x : DriveImage) (e : Unplayed E) → IsUnplayed Refuses fail x e → IsUnplayed Leads fail x e
  unplayed-leads fail x (Image e) is = is
  unplayed-leads fail x (Refused e) is = refused-leads fail x e is
