-- What groups that are run on a drive come to.
use Rattle.std.specs.Prelude.{◌≡◌, ◌⊎◌, ℕ, Bool, List, Option}
use Rattle.std.specs.List.{Contains}
use Rattle.mq_blocks.specs.declared.geometry.Geometry.{Geometry}
use Rattle.mq_drive.specs.Emu.{emu_faults, emu_state}
use Rattle.mq_drive.specs.Steps.{PowerOff}
use Rattle.mq_drive.specs.declared.emu.EmuPort.{EmuPort}
use Rattle.mq_drive.specs.declared.port.Ports.{Ports}
use Rattle.mq_image_run.specs.Drives.{emu_ghosts}
use Rattle.mq_kv.specs.Opening.{IsNotOpened, MayOpen}
use Rattle.mq_kv.specs.declared.refusal.KvOpenRefusal.{KvOpenRefusal}
use Rattle.mq_kv_buckets.specs.declared.operation.KvOp.{KvOp}
use Rattle.mq_kv_run.specs.Played.{HasRunStore}
use Rattle.mq_kv_run.specs.Refusals.{IsUnopened}
use Rattle.mq_kv_run.specs.declared.driving.Played.{Played}
use Rattle.mq_kv_run.specs.declared.refusal.KvRunRefusal.{KvRunRefusal}
use Rattle.mq_kv_run.specs.declared.refusal.KvRunRefusal.TheVariants.{OutOfMemory}
use Rattle.mq_kv_run.specs.declared.storing.StoreEnd.{StoreEnd}
use Rattle.mq_recover.specs.Drives.{drive_of}
use Rattle.mq_recover.specs.Standing.{StandsIn}
use Rattle.mq_recover.specs.declared.standing.Standing.{Standing}

-- a port refused an event because its power was off
abbrev pub HaveRefused : List EmuPort → Type 0
HaveRefused ports = (p : EmuPort) × Contains ports p × Contains (emu_faults p) PowerOff

-- the end of a run with these ports, of which this is reported
abbrev pub with_told : Ports EmuPort → Played → StoreEnd EmuPort
with_told ports p = record { ports = ports; reports = p.reports; finished = p.finished }

-- The groups were run over these ports and over what stands on them, and led to the new ports.
pub record PlaysGroups (g : Geometry) (groups : List (List KvOp)) (finish : Bool) (ports : Ports EmuPort)
    (p : Played) (new : Ports EmuPort) : Type 0 where
  pub standing : Standing
  pub stands : StandsIn g (drive_of emu_state ports) standing
  pub opens : MayOpen g (drive_of emu_state ports) standing
  pub ran : HasRunStore emu_ghosts emu_state emu_faults g ports standing groups finish (with_told new p)

-- ---- where no store is opened

-- memory ran out, or a bucket of what stands is not in its form
abbrev pub IsUnopenedAt : Geometry → List (Option (List ℕ)) → KvRunRefusal → Type 0
IsUnopenedAt g stored e = (e ≡ OutOfMemory) ⊎ ((why : KvOpenRefusal) × IsUnopened why e × IsNotOpened g stored why)

-- so it is of what stands on the ports
abbrev pub IsNotPlayed : Geometry → Ports EmuPort → KvRunRefusal → Type 0
IsNotPlayed g ports e =
    (e ≡ OutOfMemory)
    ⊎ ((standing : Standing) × StandsIn g (drive_of emu_state ports) standing × IsUnopenedAt g standing.blocks.items e)
