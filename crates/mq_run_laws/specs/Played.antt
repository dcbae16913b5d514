-- What scripts that are played on a drive come to.
use Rattle.std.specs.Prelude.{Bool, List}
use Rattle.mq_blocks.specs.declared.geometry.Geometry.{Geometry}
use Rattle.mq_calls.specs.Mounting.{IsNotMounted}
use Rattle.mq_calls.specs.Opening.{MayOpen}
use Rattle.mq_drive.specs.Emu.{emu_faults, emu_state}
use Rattle.mq_drive.specs.declared.emu.EmuPort.{EmuPort}
use Rattle.mq_drive.specs.declared.port.Ports.{Ports}
use Rattle.mq_image_ops.specs.declared.refusal.StandingRefusal.{StandingRefusal}
use Rattle.mq_image_ops.specs.declared.refusal.StandingRefusal.TheVariants.{Corrupt, Image, OutOfMemory}
use Rattle.mq_image_run.specs.Drives.{emu_ghosts}
use Rattle.mq_recover.specs.Drives.{drive_of}
use Rattle.mq_recover.specs.Standing.{StandsIn}
use Rattle.mq_recover.specs.declared.standing.Standing.{Standing}
use Rattle.mq_run.specs.Runs.{HasRunScripts}
use Rattle.mq_run.specs.declared.end.RunEnd.{RunEnd}
use Rattle.mq_run_laws.specs.declared.playing.Played.{Played}
use Rattle.mq_script.specs.Scripts.{Script}
use Rattle.mq_tree.specs.declared.corrupt.MountRefusal.TheVariants as mount

-- the end of a run with these ports, of which this is reported
abbrev pub with_told : RunEnd EmuPort → Ports EmuPort → Played → RunEnd EmuPort
with_told run ports p =
    record {
      ports = ports;
      entries = p.entries;
      answers = p.answers;
      pages = run.pages;
      placed = run.placed;
      next = run.next;
      finished = p.finished;
      served = run.served;
    }

-- The scripts were run over these ports and over the volume that stands there, and led to the new ports; the run
-- ended with a checkpoint where one was asked for.
pub record PlaysScripts (g : Geometry) (scripts : List Script) (finish : Bool) (ports : Ports EmuPort) (p : Played)
    (new : Ports EmuPort) : Type 0 where
  pub standing : Standing
  pub stands : StandsIn g (drive_of emu_state ports) standing
  pub opens : MayOpen g (drive_of emu_state ports) standing
  pub rest : RunEnd EmuPort
  pub ran : HasRunScripts emu_ghosts emu_state emu_faults g ports standing scripts finish (with_told rest new p)

-- why no script is run: memory runs out, or what stands on the ports holds no volume, and this is wrong at this block
abbrev pub IsNotPlayed : Geometry → Ports EmuPort → StandingRefusal → Type 0
IsNotPlayed g ports OutOfMemory = Unit {0}
IsNotPlayed g ports (Corrupt cause block) = IsNotMounted g (drive_of emu_state ports) (mount.Corrupt cause block)
IsNotPlayed g ports (Image fault) = ⊥
