-- What the calls on the queues answer, where no command is to fail.
use Rattle.std.proofs.Common.{◌≡◌, ◌⊎◌, ℕ, zero, suc, List, [], ◌∷◌, length, map, get_or, Option, None, Err, refl, sym, ◌∙◌, ap, subst, inl, inr, arith}
use Rattle.mq_blocks.specs.Machine.{Writes}
use Rattle.mq_blocks.proofs.Options.{none-of}
use Rattle.mq_drive.specs.Emu.{emu_faults, emu_state}
use Rattle.mq_drive.specs.Failures.{failed_of}
use Rattle.mq_drive.specs.Limits.{fails_by}
use Rattle.mq_drive.specs.declared.emu.EmuPort.{EmuPort}
use Rattle.mq_drive.specs.declared.port.Port.{Ghosts}
use Rattle.mq_loose_queues.specs.Commits.{Commits, MayCommit}
use Rattle.mq_loose_queues.specs.Drains.{IsDrainOf}
use Rattle.mq_loose_queues.specs.Queues.{QueuesState, StoredSide, at_queue, parts_state, stored_state}
use Rattle.mq_loose_queues.specs.declared.parts.Parts.{Parts}
use Rattle.mq_loose_queues.specs.declared.refusal.LooseRefusal.{LooseRefusal}
use Rattle.mq_loose_queues.specs.declared.refusal.LooseRefusal.TheVariants as refused
use Rattle.mq_queue_side.specs.Drained.{kept_after}
use Rattle.mq_queue_side.specs.declared.answers.Cause.{Cause}
use Rattle.mq_queue_side.specs.declared.answers.Cause.TheVariants as cause
use Rattle.mq_queue_side.specs.declared.answers.Why.{Why}
use Rattle.mq_queue_side.specs.declared.side.QueueSide.{QueueSide}
use Rattle.mq_loose_run.specs.Steps.{CommitsTo, DrainsTo, IsQuiet}
use Rattle.mq_loose_run.specs.declared.running.Stop.{Stop}
use Rattle.mq_loose_run.specs.declared.running.Stop.TheVariants as stop
use Rattle.mq_loose_run.proofs.OneSide.{no_failures}

-- ---- a commit

pub memory_or_power : (v w : QueuesState) (q : ℕ) (ws : Writes) (frees : List ℕ) (e : LooseRefusal) → MayCommit v q (length ws) (length frees) → Commits v q ws frees (Err e) w → (e ≡ refused.OutOfMemory) ⊎ ((tx : ℕ) × (e ≡ refused.Off tx))
memory_or_power v w q ws frees (refused.Stopped tx) may is = absurd (let n = sym may.runs ∙ is.0.1 in cc)
memory_or_power v w q ws frees (refused.TooLarge count limit) may is = absurd (let few = may.few in let many = is.0.1 in let e = is.0.2 in omega (arith, few, many, e))
memory_or_power v w q ws frees refused.Area may is = absurd (is.0.2 may.area)
memory_or_power v w q ws frees refused.Ring may is = absurd (is.0.3 may.ring)
memory_or_power v w q ws frees refused.OutOfMemory may is = inl refl
memory_or_power v w q ws frees (refused.Off tx) may is = inr (tx, refl)

pub commit_stops : (v w : QueuesState) (q : ℕ) (ws : Writes) (frees : List ℕ) (e : LooseRefusal) (s : Stop) → (s ≡ stop.Off → (tx : ℕ) × (e ≡ refused.Off tx)) → Commits v q ws frees (Err e) w → CommitsTo {A = ℕ} v q ws frees (Err s) w
commit_stops v w q ws frees e stop.Off off is = (let o = off refl in (o.0, subst (λ (f : LooseRefusal). Commits v q ws frees (Err f) w) o.1 is))
commit_stops v w q ws frees e stop.OutOfMemory off is = tt

-- ---- a drain

pub power_alone : (v w : QueuesState) (q : ℕ) (e : Cause) → IsQuiet v q → (at_queue w q).side.port.failed ≡ [] → IsDrainOf v q (Err e) w → e ≡ cause.Off
power_alone v w q cause.Off quiet clean d = refl
power_alone v w q (cause.Failed tx status) quiet clean d = absurd (d.drains.ends.0 (no_failures d.drains.failures (at_queue v q).side.port.failed (at_queue w q).side.port.failed clean d.drains.takes.failed))
power_alone v w q (cause.Stopped tx why) quiet clean d =
    let none : kept_after None d.drains.failures ≡ None = ap (kept_after None) d.drains.ends.0 in
    absurd (let n = sym none ∙ sym (ap (λ (k : Option (ℕ × Why)). kept_after k d.drains.failures) quiet.kept) ∙ sym d.drains.takes.kept ∙ d.drains.ends.1 in cc)
power_alone v w q (cause.FailedHome block status) quiet clean d = absurd d.drains.ends

pub drain_stops : (A : Type 0) (v w : QueuesState) (q : ℕ) (s : Stop) → s ≡ stop.Off → IsDrainOf v q (Err cause.Off) w → DrainsTo {A = A} v q (Err s) w
drain_stops A v w q s is d = subst (λ (t : Stop). DrainsTo {A = A} v q (Err t) w) (sym is) d

-- ---- no command fails

port_clean : (p : EmuPort) → (emu_state p).fail ≡ None → (emu_state p).failed ≡ []
port_clean p none =
    let failure : p.device.value.failure ≡ None = none-of p.device.value.failure (p.device.value.sound.counts.failure_counted ∙ p.device.value.failing.exact ∙ ap (λ (o : Option ℕ). fails_by o p.device.value.failing.executed) none) in
    ap failed_of failure

module _ {G : Ghosts EmuPort} where
  clean_at : (xs : List (QueueSide EmuPort (Unit {0}) G)) (q : ℕ) (d : StoredSide) → d.side.port.failed ≡ [] → (get_or (map (stored_state emu_state emu_faults) xs) q d).side.port.fail ≡ None → (get_or (map (stored_state emu_state emu_faults) xs) q d).side.port.failed ≡ []
  clean_at [] q d none fail = none
  clean_at (x ∷ xs) zero d none fail = port_clean x.pmr.port fail
  clean_at (x ∷ xs) (suc q) d none fail = clean_at xs q d none fail

  pub queue_clean : (p : Parts EmuPort G) (q : ℕ) → (at_queue (parts_state emu_state emu_faults p) q).side.port.fail ≡ None → (at_queue (parts_state emu_state emu_faults p) q).side.port.failed ≡ []
  queue_clean p q fail = clean_at p.sides.items q _ refl fail
