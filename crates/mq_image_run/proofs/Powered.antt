-- Where a fuse has no limit, the power of no port has gone off; and where the failing command was not
-- executed either, no port has a fault. So nothing that was refused at the end is backed by one.
use Rattle.std.proofs.Common.{◌≡◌, ℕ, zero, suc, ◌<◌, ◌≤◌, ◌++◌, Bool, true, false, List, [], ◌∷◌, length, map, get_or, Option, Some, None, replicate, refl, sym, ap, subst, ◌∙◌, inl, inr, arith}
use Rattle.std.specs.Prelude.{Contains, slice_index_or}
use Rattle.std.proofs.lemmas.Bool.{or_parts}
use Rattle.mq_blocks.specs.Drive.{FuseName, PortImage}
use Rattle.mq_blocks.specs.Geometry.{home_lba}
use Rattle.mq_blocks.specs.declared.geometry.Geometry.{Geometry}
use Rattle.mq_blocks.proofs.Options.{none-of}
use Rattle.mq_drive.specs.Emu.{emu_faults, emu_state, executed_of}
use Rattle.mq_drive.specs.Failures.{errors_of}
use Rattle.mq_drive.specs.Faults.{IsAdded, count_of}
use Rattle.mq_drive.specs.Limits.{fails_by}
use Rattle.mq_drive.specs.Steps.{CommandError, PortFault, HomeError, PowerOff}
use Rattle.mq_drive.specs.declared.emu.EmuPort.{EmuPort}
use Rattle.mq_drive.specs.declared.failing.Failure.{Failure}
use Rattle.mq_drive.specs.declared.failing.Failure.TheVariants.{Home, Queued}
use Rattle.mq_drive.specs.declared.fuse.FuseSeat.{FuseSeat}
use Rattle.mq_drive.specs.declared.port.Ports.{Ports}
use Rattle.mq_drive.proofs.StepsFaults.{some_off}
use Rattle.mq_image.specs.Drives.{IsDrive}
use Rattle.mq_image.specs.File.{DriveImage}
use Rattle.mq_image_ops.specs.Cuts.{row_of}
use Rattle.mq_journal.specs.Draining.{report_of}
use Rattle.mq_recover.specs.Drives.{DriveFaults, faults_on}
use Rattle.mq_queue_side.specs.declared.answers.Cause.{Cause}
use Rattle.mq_queue_side.specs.declared.answers.Cause.TheVariants as cause
use Rattle.mq_queue_side.specs.declared.answers.Why.TheVariants as why
use Rattle.mq_tie.specs.Backed.{IsBehind, IsBehindAt}
use Rattle.mq_turns.specs.declared.rule.Report.{Report}
use Rattle.mq_turns.specs.declared.rule.Report.TheVariants as report
use Rattle.mq_turns.specs.declared.turn.Turn.{Turn}
use Rattle.mq_turns.specs.declared.turn.Turn.TheVariants.{Page, Root, Side}
use Rattle.mq_image_run.specs.Drives.{IsDriven, has_failed}
use Rattle.mq_image_run.specs.declared.options.DriveOptions.{DriveOptions}
use Rattle.mq_image_run.proofs.Seats.{own-fuse}

-- ---- the faults of one port

abbrev is_off : PortFault → Bool
is_off PowerOff = true
is_off (CommandError tx status) = false
is_off (HomeError lba status) = false

-- there are few of them, and none is of the power
abbrev ArePowered : List PortFault → Type 0
ArePowered faults = (length faults ≤ 1) × (count_of is_off faults ≡ 0)

errors-powered : (f : Option Failure) → ArePowered (errors_of f)
errors-powered None = (omega arith, refl)
errors-powered (Some (Queued c)) = (omega arith, refl)
errors-powered (Some (Home w)) = (omega arith, refl)

port-powered : (p : EmuPort) → (emu_state p).fuse.limit ≡ None → ArePowered (emu_faults p)
port-powered p none =
    let offs = p.device.value.power.unlimited none in
    subst (λ (n : ℕ). ArePowered (replicate n PowerOff ++ errors_of p.device.value.failure)) (sym offs) (errors-powered p.device.value.failure)

-- so no event was refused for it
port-never-off : (p : EmuPort) → (emu_state p).fuse.limit ≡ None → Contains (emu_faults p) PowerOff → ⊥
port-never-off p none off =
    let offs = p.device.value.power.unlimited none in
    let some = some_off p.device.value.power.offs p.device.value.failure off in
    omega (arith, offs, some)

-- and where the command that is to fail was not executed, there is no fault
port-sound : (p : EmuPort) → (emu_state p).fuse.limit ≡ None → fails_by (emu_state p).fail (executed_of p) ≡ false → emu_faults p ≡ []
port-sound p none fails =
    let offs = p.device.value.power.unlimited none in
    let failure : p.device.value.failure ≡ None = none-of p.device.value.failure (p.device.value.sound.counts.failure_counted ∙ (p.device.value.failing.exact ∙ fails)) in
    ap (λ (n : ℕ). replicate n PowerOff ++ errors_of p.device.value.failure) offs ∙ ap errors_of failure

-- ---- what is behind no report

-- few faults without one of the power are behind no report of the power
not-behind : (g : Geometry) (old new : List PortFault) → ArePowered new → IsBehind g report.Off old new → ⊥
not-behind g old new powered (inl many) = let few = powered.0 in absurd (omega arith)
not-behind g old new powered (inr gained) = let more = gained is_off refl in let none = powered.1 in absurd (omega arith)

abbrev always : PortFault → Bool
always f = true

not-gained : (x : PortFault) (before : List PortFault) → IsAdded x before [] → ⊥
not-gained x before gained =
    let more = gained always refl in
    let none : count_of always [] ≡ 0 = refl in
    omega (arith, more, none)

-- no faults are behind no report of a refusal
pub behind-none : (g : Geometry) (c : Cause) (before : List PortFault) → IsBehind g (report_of c) before [] → ⊥
behind-none g c before (inl many) = omega (arith, many)
behind-none g cause.Off before (inr gained) = not-gained PowerOff before gained
behind-none g (cause.Failed tx status) before (inr gained) = not-gained (CommandError tx status) before gained
behind-none g (cause.FailedHome block status) before (inr gained) = not-gained (HomeError (home_lba g block) status) before gained
behind-none g (cause.Stopped tx why.Off) before (inr gained) = not-gained PowerOff before gained
behind-none g (cause.Stopped tx (why.Status status)) before (inr gained) = not-gained (CommandError tx status) before gained

-- ---- the ports of a drive

pub unfailed : (ps : List EmuPort) → has_failed ps ≡ false → (k : ℕ) (p : EmuPort) → k < length ps → get_or ps k p ≡ p → fails_by (emu_state p).fail (executed_of p) ≡ false
unfailed [] none k p low at = absurd (omega (arith, low))
unfailed (q ∷ ps) none zero p low at =
    subst (λ (r : EmuPort). fails_by (emu_state r).fail (executed_of r) ≡ false) at (or_parts (fails_by (emu_state q).fail (executed_of q)) (has_failed ps) none).0
unfailed (q ∷ ps) none (suc k) p low at = unfailed ps (or_parts (fails_by (emu_state q).fail (executed_of q)) (has_failed ps) none).1 k p (omega (arith, low)) at

-- what holds of the faults of each port in the row holds of those of each queue, and of none
each-queue : (P : List PortFault → Type 0) → P [] → (ps : List EmuPort) (root : EmuPort) → ((p : EmuPort) → Contains (ps ++ root ∷ []) p → P (emu_faults p)) → (q : ℕ) → P (slice_index_or (map emu_faults ps) q [])
each-queue P empty [] root holds q = empty
each-queue P empty (p ∷ ps) root holds zero = holds p (0, omega arith, refl)
each-queue P empty (p ∷ ps) root holds (suc q) = each-queue P empty ps root (λ r own. holds r (let within = own.1 in (suc own.0, omega (arith, within), own.2))) q

last-in : (ps : List EmuPort) (root : EmuPort) → Contains (ps ++ root ∷ []) root
last-in [] root = (0, omega arith, refl)
last-in (p ∷ ps) root = let rest = last-in ps root in let within = rest.1 in (suc rest.0, omega (arith, within), rest.2)

-- what is behind the report of a port holds of the faults of one of them
not-at : (g : Geometry) (old : DriveFaults) (new : Ports EmuPort) (P : List PortFault → Type 0) → P [] → ((p : EmuPort) → Contains (row_of new) p → P (emu_faults p)) → (r : Report) → ((before after : List PortFault) → P after → IsBehind g r before after → ⊥) → (t : Turn) → IsBehindAt g t r old (faults_on emu_faults new) → ⊥
not-at g old new P empty holds r not (Page b) behind = behind
not-at g old new P empty holds r not (Side q) behind = not _ _ (each-queue P empty new.queues.items new.root holds q) behind.1
not-at g old new P empty holds r not Root behind = not _ _ (holds new.root (last-in new.queues.items new.root)) behind

-- where no port has a fault, none is behind the report of a refusal
pub none-behind : (g : Geometry) (old : DriveFaults) (new : Ports EmuPort) → ((p : EmuPort) → Contains (row_of new) p → emu_faults p ≡ []) → (c : Cause) (t : Turn) → IsBehindAt g t (report_of c) old (faults_on emu_faults new) → ⊥
none-behind g old new none c = not-at g old new (λ faults. faults ≡ []) refl none (report_of c) (λ before after is of. behind-none g c before (subst (IsBehind g (report_of c) before) is of))

module _ {T : Type 0} (Plays : Ports EmuPort → T → Ports EmuPort → Type 0) (fuse : FuseName) (y : DriveImage) (drive : IsDrive y) (o : DriveOptions) (played : T) (failed : Bool) (images : List PortImage) (seats : List FuseSeat) (drives : IsDriven Plays fuse y o played failed images seats) (none : fuse.limit ≡ None) where
  unlimited : (p : EmuPort) → Contains (row_of drives.end) p → (emu_state p).fuse.limit ≡ None
  unlimited p own = ap (λ (f : FuseName). f.limit) (own-fuse Plays fuse y drive o played failed images seats drives p own) ∙ none

  -- no port refused an event for its power
  pub never-off : (p : EmuPort) → Contains (row_of drives.end) p → Contains (emu_faults p) PowerOff → ⊥
  never-off p own = port-never-off p (unlimited p own)

  -- where the failing command was not executed, no port has a fault
  pub no-faults : failed ≡ false → (p : EmuPort) → Contains (row_of drives.end) p → emu_faults p ≡ []
  no-faults fine p own = port-sound p (unlimited p own) (unfailed (row_of drives.end) (sym drives.any_failed ∙ fine) own.0 p own.1 own.2)

  -- no port is behind the report that it refused for its power
  pub none-off : (g : Geometry) (t : Turn) → IsBehindAt g t report.Off (faults_on emu_faults drives.ports) (faults_on emu_faults drives.end) → ⊥
  none-off g = not-at g (faults_on emu_faults drives.ports) drives.end ArePowered (omega arith, refl) (λ p own. port-powered p (unlimited p own)) report.Off (not-behind g)

  -- and where the failing command was not executed, none is behind the report of any refusal
  pub none-refused : (g : Geometry) → failed ≡ false → (c : Cause) (t : Turn) → IsBehindAt g t (report_of c) (faults_on emu_faults drives.ports) (faults_on emu_faults drives.end) → ⊥
  none-refused g fine = none-behind g (faults_on emu_faults drives.ports) drives.end (no-faults fine)
