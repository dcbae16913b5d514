-- The drive on which scripts are run.
use Rattle.mq_blocks.specs.declared.geometry.Geometry.{Geometry}
use Rattle.mq_calls.specs.Mounting.{IsNotMounted}
use Rattle.mq_drive.specs.Emu.{emu_state}
use Rattle.mq_drive.specs.declared.emu.EmuPort.{EmuPort}
use Rattle.mq_drive.specs.declared.port.Ports.{Ports}
use Rattle.mq_image_ops.specs.Refusals.{refusal_of}
use Rattle.mq_recover.specs.Drives.{drive_of}
use Rattle.mq_run_laws.specs.Played.{IsNotPlayed}
use Rattle.mq_tree.specs.declared.corrupt.MountRefusal.{MountRefusal}
use Rattle.mq_tree.specs.declared.corrupt.MountRefusal.TheVariants.{Corrupt, OutOfMemory}

pub not-played : (g : Geometry) (ports : Ports EmuPort) (r : MountRefusal) → IsNotMounted g (drive_of emu_state ports) r → IsNotPlayed g ports (refusal_of r)
not-played g ports OutOfMemory not = tt
not-played g ports (Corrupt cause block) not = not
