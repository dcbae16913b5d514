-- Which command has failed.
use Rattle.std.proofs.Common.{◌≡◌, ◌∙◌, ℕ, zero, suc, ◌<◌, Bool, true, false, List, [], ◌∷◌, Option, None, Some, length, map, get_or, refl, sym, ap, arith, inl, inr}
use Rattle.std.specs.Prelude.{◌&&◌, ◌||◌, nat_le, if◌then◌else◌}
use Rattle.std.proofs.lemmas.Bool.{cases_lt, eq-eqb, lt-leb, ne_eqb, and_right}
use Rattle.std.proofs.lemmas.List.{length-map}
use Rattle.mq_blocks.specs.Drive.{FuseName, PortState}
use Rattle.mq_blocks.specs.Geometry.{queues_of}
use Rattle.mq_drive.specs.Emu.{emu_state, executed_of}
use Rattle.mq_drive.specs.Limits.{fails_by}
use Rattle.mq_drive.specs.declared.emu.EmuPort.{EmuPort}
use Rattle.mq_drive.specs.declared.port.Ports.{Ports}
use Rattle.mq_image.specs.Drives.{IsDrive}
use Rattle.mq_image.specs.File.{DriveImage}
use Rattle.mq_image_ops.specs.Cuts.{row_of}
use Rattle.mq_image_ops.specs.Starts.{AreStarted}
use Rattle.mq_image_ops.specs.Views.{command_of}
use Rattle.mq_image_ops.specs.declared.ports.Failing.{Failing}
use Rattle.mq_image_ops.proofs.CutsRecoverings.{row-at}
use Rattle.mq_image_ops.proofs.Views.{start-queue}
use Rattle.mq_ledger.specs.State.{port_at}
use Rattle.mq_recover.specs.Drives.{DriveState}
use Rattle.mq_image_run.specs.Drives.{AreKept, executed_at, has_failed, was_executed}

-- ---- ports in a row

or-none : (a : Bool) → (a || false) ≡ a
or-none true = refl
or-none false = refl

none-named : (ps : List EmuPort) → ((k : ℕ) (s : PortState) → k < length ps → (get_or (map emu_state ps) k s).fail ≡ None) → has_failed ps ≡ false
none-named [] each = refl
none-named (p ∷ ps) each = ap (λ (f : Option ℕ). fails_by f (executed_of p) || has_failed ps) (each 0 (emu_state p) (omega arith)) ∙ none-named ps (λ k s low. each (suc k) s (omega (arith, low)))

-- of a port without commands none has failed
zero-fails : (command : ℕ) → fails_by (Some command) 0 ≡ false
zero-fails command = elim (cases_lt command 1) [
  | inl low ↦ ap (λ (b : Bool). b && nat_le command 0) (lt-leb 1 command low)
  | inr high ↦ ap (λ (b : Bool). nat_le 1 command && b) (lt-leb command 0 (omega (arith, high))) ∙ and_right (nat_le 1 command) false refl
]

-- the command is that of one port, and of no other
abbrev IsNamed : (port command k : ℕ) → Option ℕ → Type 0
IsNamed port command k fail = (k ≡ port → fail ≡ Some command) × ((k ≡ port → ⊥) → fail ≡ None)

one-named : (port command : ℕ) (ps : List EmuPort) → ((k : ℕ) (s : PortState) → k < length ps → IsNamed port command k (get_or (map emu_state ps) k s).fail) → has_failed ps ≡ fails_by (Some command) (executed_at ps port)
one-named port command [] each = sym (zero-fails command)
one-named zero command (p ∷ ps) each =
    let head : (emu_state p).fail ≡ Some command = (each 0 (emu_state p) (omega arith)).0 refl in
    let rest : has_failed ps ≡ false = none-named ps (λ k s low. (each (suc k) s (omega (arith, low))).1 (λ e. omega (arith, e))) in
    ap (λ (f : Option ℕ). fails_by f (executed_of p) || has_failed ps) head ∙ ap (λ (b : Bool). fails_by (Some command) (executed_of p) || b) rest ∙ or-none (fails_by (Some command) (executed_of p))
one-named (suc port) command (p ∷ ps) each =
    let head : (emu_state p).fail ≡ None = (each 0 (emu_state p) (omega arith)).1 (λ e. omega (arith, e)) in
    ap (λ (f : Option ℕ). fails_by f (executed_of p) || has_failed ps) head
    ∙ one-named port command ps (λ k s low. let at = each (suc k) s (omega (arith, low)) in (λ e. at.0 (ap suc e), λ no. at.1 (λ e. no (omega (arith, e)))))

named-in : (fail : Option Failing) (ps : List EmuPort) → ((k : ℕ) (s : PortState) → k < length ps → (get_or (map emu_state ps) k s).fail ≡ command_of fail k) → has_failed ps ≡ was_executed fail ps
named-in None ps each = none-named ps each
named-in (Some f) ps each = one-named f.port f.command ps (λ k s low. (
  λ e. each k s low ∙ ap (λ (b : Bool). if b then Some f.command else None) (eq-eqb f.port k (sym e)),
  λ no. each k s low ∙ ap (λ (b : Bool). if b then Some f.command else None) (ne_eqb f.port k (λ e. no (sym e))),
))

-- ---- a drive

module _ (fuse : FuseName) (fail : Option Failing) (y : DriveImage) (drive : IsDrive y) (ports end : Ports EmuPort) (started : AreStarted fuse fail y ports) (kept : AreKept y.geometry ports end) where
  count : length end.queues.items ≡ queues_of y.geometry
  count = sym (length-map end.queues.items emu_state) ∙ kept.same_ports.count

  -- each port has kept the command that it was started with
  commands : (k : ℕ) (s : PortState) → k < length (row_of end) → (get_or (map emu_state (row_of end)) k s).fail ≡ command_of fail k
  commands = row-at y.geometry end count (λ k s. s.fail ≡ command_of fail k)
      (λ q low. (kept.bounds.queues q low).fail ∙ (ap (λ (s : DriveState). (port_at s.queues q).fail) started.states ∙ ap (λ (s : PortState). s.fail) (start-queue fuse fail y q drive low)))
      (kept.bounds.root.fail ∙ ap (λ (s : DriveState). s.root.fail) started.states)

  pub named-is : has_failed (row_of end) ≡ was_executed fail (row_of end)
  named-is = named-in fail (row_of end) commands
