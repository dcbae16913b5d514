-- What the faults of a port in memory say: its power was off for a number of events, and at most one write
-- failed.
use Rattle.std.proofs.Common.{◌≡◌, ◌∙◌, ℕ, zero, suc, ◌+◌, ◌-◌, ◌<◌, ◌≤◌, ◌^◌, ◌++◌, Bool, true, false, cond, List, length, Option, Some, None, is_some, replicate, inl, inr, refl, sym, ap, arith, eq-eqb, eqb-true}
use Rattle.std.specs.Prelude.{◌&&◌, nat_eq}
use Rattle.std.specs.List.{Contains}
use Rattle.std.proofs.lemmas.Bool.{and_from, and_parts, cases_lt, le-ltb, true≢false}
use Rattle.mq_blocks.specs.declared.command.Command.{Command}
use Rattle.mq_blocks.specs.declared.command.HomeWrite.{HomeWrite}
use Rattle.mq_blocks.specs.Geometry.{home_lba, homes_of}
use Rattle.mq_blocks.specs.declared.geometry.Geometry.{Geometry}
use Rattle.mq_core.proofs.EventsPorts.{row-below}
use Rattle.mq_drive.specs.Emu.{emu_faults, emu_state, executed_of}
use Rattle.mq_drive.specs.Failures.{errors_of}
use Rattle.mq_drive.specs.Faults.{count_of}
use Rattle.mq_drive.specs.Limits.{fails_by}
use Rattle.mq_drive.specs.Slots.{index_in}
use Rattle.mq_drive.specs.Start.{IsPortOf, IsRole}
use Rattle.mq_drive.specs.Steps.{CommandError, PortFault, HomeError, PowerOff}
use Rattle.mq_drive.specs.declared.emu.EmuPort.{EmuPort}
use Rattle.mq_drive.specs.declared.failing.Failure.{Failure}
use Rattle.mq_drive.specs.declared.failing.Failure.TheVariants.{Home, Queued}
use Rattle.mq_drive.specs.declared.role.Role.{Role}
use Rattle.mq_drive.specs.declared.role.Role.TheVariants.{Queue, Root}
use Rattle.mq_drive.proofs.StepsFaults.{few_errors, contains_first}
use Rattle.mq_desk_laws.specs.Faults.{WasGained}

-- ---- a test of equality

abbrev alike : PortFault → PortFault → Bool
alike PowerOff PowerOff = true
alike PowerOff (CommandError tx status) = false
alike PowerOff (HomeError lba status) = false
alike (CommandError tx status) PowerOff = false
alike (CommandError tx status) (CommandError other last) = nat_eq tx other && nat_eq status last
alike (CommandError tx status) (HomeError lba last) = false
alike (HomeError lba status) PowerOff = false
alike (HomeError lba status) (CommandError tx last) = false
alike (HomeError lba status) (HomeError other last) = nat_eq lba other && nat_eq status last

alike-self : (x : PortFault) → alike x x ≡ true
alike-self PowerOff = refl
alike-self (CommandError tx status) = and_from (nat_eq tx tx) (nat_eq status status) (eq-eqb tx tx refl) (eq-eqb status status refl)
alike-self (HomeError lba status) = and_from (nat_eq lba lba) (nat_eq status status) (eq-eqb lba lba refl) (eq-eqb status status refl)

-- ---- the faults of a number of refused events and of at most one failed write

abbrev faults-of : ℕ → Option Failure → List PortFault
faults-of offs failure = replicate offs PowerOff ++ errors_of failure

-- what stands behind one of them
abbrev StandsIn : ℕ → Option Failure → PortFault → Type 0
StandsIn offs failure PowerOff = 0 < offs
StandsIn offs failure (CommandError tx status) = (c : Command) × (failure ≡ Some (Queued c)) × (c.tx ≡ tx) × (status ≡ 640)
StandsIn offs failure (HomeError lba status) = (w : HomeWrite) × (failure ≡ Some (Home w)) × (w.lba ≡ lba) × (status ≡ 640)

many-are : (offs : ℕ) (failure : Option Failure) → length (faults-of offs failure) ≡ offs + length (errors_of failure)
many-are zero failure = omega arith
many-are (suc n) failure = let rest = many-are n failure in omega arith

errors-alone : (f : PortFault → Bool) (offs : ℕ) (failure : Option Failure) → f PowerOff ≡ false → count_of f (faults-of offs failure) ≡ count_of f (errors_of failure)
errors-alone f zero failure none = refl
errors-alone f (suc n) failure none = (let no : cond {A = ℕ} (f PowerOff) 1 0 ≡ 0 = ap (λ (b : Bool). cond {A = ℕ} b 1 0) none in let rest = errors-alone f n failure none in omega arith)

counted-one : (b : Bool) → 0 < cond {A = ℕ} b 1 0 + 0 → b ≡ true
counted-one true some = refl
counted-one false some = absurd (omega arith)

command-stands : (tx status : ℕ) (failure : Option Failure) → 0 < count_of (alike (CommandError tx status)) (errors_of failure) → (c : Command) × (failure ≡ Some (Queued c)) × (c.tx ≡ tx) × (status ≡ 640)
command-stands tx status None some = absurd (omega arith)
command-stands tx status (Some (Queued c)) some =
    let both = and_parts (nat_eq tx c.tx) (nat_eq status 640) (counted-one (nat_eq tx c.tx && nat_eq status 640) some) in
    (c, refl, sym (eqb-true tx c.tx both.0), eqb-true status 640 both.1)
command-stands tx status (Some (Home w)) some = absurd (omega arith)

home-stands : (lba status : ℕ) (failure : Option Failure) → 0 < count_of (alike (HomeError lba status)) (errors_of failure) → (w : HomeWrite) × (failure ≡ Some (Home w)) × (w.lba ≡ lba) × (status ≡ 640)
home-stands lba status None some = absurd (omega arith)
home-stands lba status (Some (Queued c)) some = absurd (omega arith)
home-stands lba status (Some (Home w)) some =
    let both = and_parts (nat_eq lba w.lba) (nat_eq status 640) (counted-one (nat_eq lba w.lba && nat_eq status 640) some) in
    (w, refl, sym (eqb-true lba w.lba both.0), eqb-true status 640 both.1)

off-stands : (offs : ℕ) (failure : Option Failure) → 0 < count_of (alike PowerOff) (faults-of offs failure) → 0 < offs
off-stands zero None some = absurd (omega arith)
off-stands zero (Some (Queued c)) some = absurd (omega arith)
off-stands zero (Some (Home w)) some = absurd (omega arith)
off-stands (suc n) failure some = omega arith

stands-in : (offs : ℕ) (failure : Option Failure) (x : PortFault) → 0 < count_of (alike x) (faults-of offs failure) → StandsIn offs failure x
stands-in offs failure PowerOff some = off-stands offs failure some
stands-in offs failure (CommandError tx status) some = let alone = errors-alone (alike (CommandError tx status)) offs failure refl in command-stands tx status failure (omega arith)
stands-in offs failure (HomeError lba status) some = let alone = errors-alone (alike (HomeError lba status)) offs failure refl in home-stands lba status failure (omega arith)

-- ---- a port

abbrev pub offs_of : EmuPort → ℕ
offs_of p = p.device.value.power.offs

abbrev pub Stands : EmuPort → PortFault → Type 0
Stands p x = StandsIn p.device.value.power.offs p.device.value.failure x

-- a fault that it has gained stands
pub gained-stands : (p : EmuPort) (x : PortFault) (old : List PortFault) → WasGained (Some x) old (emu_faults p) → Stands p x
gained-stands p x old gained = let more = gained (alike x) (alike-self x) in stands-in p.device.value.power.offs p.device.value.failure x (omega arith)

-- where it has as many faults as a count of 64 bits can say, its power was off
pub full-off : (p : EmuPort) → 2 ^ 64 - 1 ≤ length (emu_faults p) → 0 < offs_of p
full-off p full = let many = many-are p.device.value.power.offs p.device.value.failure in let few = few_errors p.device.value.failure in omega arith

pub few-faults : (p : EmuPort) → offs_of p ≡ 0 → length (emu_faults p) < 2 ^ 64 - 1
few-faults p none = let many = many-are p.device.value.power.offs p.device.value.failure in let few = few_errors p.device.value.failure in omega arith

pub off-among : (p : EmuPort) → 0 < offs_of p → Contains (emu_faults p) PowerOff
off-among p some = contains_first p.device.value.power.offs (errors_of p.device.value.failure) some

pub never-off : (p : EmuPort) → (emu_state p).fuse.limit ≡ None → offs_of p ≡ 0
never-off p none = p.device.value.power.unlimited none

-- a port of which a write has failed has executed the command that was to fail
pub failed-by : (p : EmuPort) (f : Failure) → p.device.value.failure ≡ Some f → fails_by (emu_state p).fail (executed_of p) ≡ true
failed-by p f is = sym p.device.value.failing.exact ∙ (sym p.device.value.sound.counts.failure_counted ∙ ap is_some is)

-- where no command of it was to fail, none has
pub none-failed : (p : EmuPort) → (emu_state p).fail ≡ None → (f : Failure) → p.device.value.failure ≡ Some f → ⊥
none-failed p none f is = true≢false (sym (failed-by p f is) ∙ ap (λ (n : Option ℕ). fails_by n (executed_of p)) none)

-- ---- a home write that failed

index-low : (area_first area_size homes_first lba blocks : ℕ) → index_in area_first area_size homes_first lba < area_size + blocks → lba < homes_first + blocks
index-low area_first area_size homes_first lba blocks less = elim (cases_lt lba homes_first) [
  | inl low ↦ omega arith
  | inr high ↦ (let at = rw (le-ltb lba homes_first high) at less in omega arith)
]

-- it is of a block of the port, so of a home block
home-low : (g : Geometry) (role : Role) (p : EmuPort) (block : ℕ) → IsRole g role → IsPortOf g role (emu_state p) → home_lba g block < p.device.value.homes.first + p.device.value.homes.size → block < homes_of g
home-low g (Queue q) p block low port less =
    let first = port.homes_first in
    let size = port.homes_size in
    let zone = g.zone_low in
    let row = row-below q g.queues g.zone (g.zone - 1) low (omega arith) in
    omega arith
home-low g Root p block low port less =
    let first = port.homes_first in
    let size = port.homes_size in
    omega arith

pub home-block : (g : Geometry) (role : Role) (p : EmuPort) (w : HomeWrite) (block : ℕ) → IsRole g role → IsPortOf g role (emu_state p) → p.device.value.failure ≡ Some (Home w) → w.lba ≡ home_lba g block → block < homes_of g
home-block g role p w block low port is lba =
    let own = p.device.value.sound.writes.failure_own (Home w) is in
    let sized = p.device.value.sound.place.sized in
    let index : index_in p.device.value.area.first p.device.value.area.size p.device.value.homes.first w.lba < p.device.value.area.size + p.device.value.homes.size = (let high = own.1 in omega arith) in
    let below = index-low p.device.value.area.first p.device.value.area.size p.device.value.homes.first w.lba p.device.value.homes.size index in
    home-low g role p block low port (omega arith)
