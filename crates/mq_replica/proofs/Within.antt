-- Bounds of what a replica holds hold for greater ones.
use Rattle.std.proofs.Common.{◌≡◌, ◌<◌, ◌≤◌, ◌+◌, ◌*◌, ◌^◌, ℕ, List, Option, Some, None, Result, Ok, Err, arith, refl, subst, length, map}
use Rattle.std.proofs.Math.Logic.{∥∥₁_elim, ∥∥₁_map, ∥∥₁_prop}
use Rattle.mq_blocks.specs.Drive.{PortState}
use Rattle.mq_blocks.specs.declared.geometry.Geometry.{Geometry}
use Rattle.mq_drive.specs.Steps.{PortFault}
use Rattle.mq_drive.specs.declared.port.Port.{Ghosts}
use Rattle.mq_drive.specs.declared.port.Ports.{Ports}
use Rattle.mq_recover.specs.Drives.{IsQuiescentDrive, drive_of}
use Rattle.std.proofs.lemmas.List.{length-map}
use Rattle.std.specs.Coded.{Coded-set, coded_ℕ}
use Rattle.mq_replica.proofs.Propositions.{quiet_drive-prop}
use Rattle.mq_replica.specs.Held.{IsHeld, IsKeeping, IsReady, IsWithin, reached_by}
use Rattle.mq_replica.specs.declared.held.Held.{Held}
use Rattle.mq_replica.specs.declared.update.OfferRefusal.{OfferRefusal}
use Rattle.mq_replica.specs.declared.held.Held.TheVariants.{Opened, Apart, Stopped}

pub no_keeping : ∥ ⊥ ∥₁ → ⊥
no_keeping is = ∥∥₁_elim is (λ (x : ⊥). absurd x) (λ x. x)

module _ {Q : Type 0} {G : Ghosts Q} (state : Q → PortState) (faults : Q → List PortFault) where
  pub within_upto : (g : Geometry) (doorbell top : ℕ) (doorbell' top' : ℕ) (held : Held Q G) → doorbell ≤ doorbell' → top ≤ top' → IsWithin state faults g doorbell top held → IsWithin state faults g doorbell' top' held
  within_upto g doorbell top doorbell' top' (Opened o) d t within = (omega (arith, within.0, d), omega (arith, within.1, t))
  within_upto g doorbell top doorbell' top' (Apart ports) d t low = record {
    rung = (let l = low.rung in omega (arith, l, d));
    shown = λ ds n read. (let l = low.shown ds n read in omega (arith, l, t));
  }
  within_upto g doorbell top doorbell' top' (Stopped ports) d t within = within

  pub within_more : (g : Geometry) (doorbell top : ℕ) (held : Held Q G) → IsWithin state faults g doorbell top held → IsWithin state faults g (doorbell + 4096) (top + 1) held
  within_more g doorbell top held within = within_upto g doorbell top (doorbell + 4096) (top + 1) held (omega arith) (omega arith) within

  held_more : (g : Geometry) (offers : ℕ) (held : Held Q G) → IsHeld state faults g offers held → IsHeld state faults g (offers + 1) held
  held_more g offers held is = (
      let d : (2 ^ 62 + 4096 * offers) + 4096 ≡ 2 ^ 62 + 4096 * (offers + 1) = omega arith in
      let t : (2 ^ 62 + offers) + 1 ≡ 2 ^ 62 + (offers + 1) = omega arith in
      record {
        ready = is.ready;
        within = subst (λ (n : ℕ). IsWithin state faults g n (2 ^ 62 + (offers + 1)) held) d (subst (λ (n : ℕ). IsWithin state faults g ((2 ^ 62 + 4096 * offers) + 4096) n held) t (within_more g _ _ held is.within));
      })

  -- one more offer leaves what is held as it is
  pub keeping_more : (g : Geometry) (offers : ℕ) (held : Option (Held Q G)) → ∥ IsKeeping state faults g offers held ∥₁ → ∥ IsKeeping state faults g (offers + 1) held ∥₁
  keeping_more g offers None is = is
  keeping_more g offers (Some held) is = ∥∥₁_map is (held_more g offers held)

  pub ready_kept : (g : Geometry) (offers : ℕ) (held : Held Q G) → ∥ IsKeeping state faults g offers (Some held) ∥₁ → ∥ IsReady state faults g held ∥₁
  ready_kept g offers held is = ∥∥₁_map is (λ h. h.ready)

  -- after so few offers it is low enough for one more
  pub low_kept : (g : Geometry) (offers : ℕ) (held : Held Q G) → offers < 2 ^ 48 → ∥ IsKeeping state faults g offers (Some held) ∥₁ → ∥ IsWithin state faults g (2 ^ 62 + 4096 * 2 ^ 48) (2 ^ 62 + 2 ^ 48) held ∥₁
  low_kept g offers held few is = ∥∥₁_map is (λ h. within_upto g (2 ^ 62 + 4096 * offers) (2 ^ 62 + offers) (2 ^ 62 + 4096 * 2 ^ 48) (2 ^ 62 + 2 ^ 48) held (omega (arith, few)) (omega (arith, few)) h.within)

  -- what an offer leaves is held
  held_after : (g : Geometry) (offers : ℕ) (new : Held Q G) → IsReady state faults g new → IsWithin state faults g ((2 ^ 62 + 4096 * offers) + 4096) ((2 ^ 62 + offers) + 1) new → IsHeld state faults g (offers + 1) new
  held_after g offers new ready within = record { ready = ready; within = within_upto g _ _ (2 ^ 62 + 4096 * (offers + 1)) (2 ^ 62 + (offers + 1)) new (omega arith) (omega arith) within }

  pub keeping_after : (g : Geometry) (offers : ℕ) (old new : Held Q G) → ∥ IsKeeping state faults g offers (Some old) ∥₁ → ∥ IsReady state faults g new ∥₁ → ((doorbell top : ℕ) → IsWithin state faults g doorbell top old → ∥ IsWithin state faults g (doorbell + 4096) (top + 1) new ∥₁) → ∥ IsKeeping state faults g (offers + 1) (Some new) ∥₁
  keeping_after g offers old new is ready within = ∥∥₁_elim is ∥∥₁_prop (λ h. ∥∥₁_elim ready ∥∥₁_prop (λ r. ∥∥₁_map (within _ _ h.within) (λ w. held_after g offers new r w)))

-- each port is there, and nothing is under way on those of a replica that runs
pub one_apart : {Q : Type 0} (state : Q → PortState) (g : Geometry) (ports : Ports Q) → ∥ (g.queues ≡ 1) × IsQuiescentDrive g (drive_of state ports) ∥₁ → length ports.queues.items ≡ 1
one_apart state g ports is = ∥∥₁_elim is (Coded-set coded_ℕ _ _) (λ r. (let n : length (map state ports.queues.items) ≡ length ports.queues.items = length-map ports.queues.items state in let c = r.1.count in let q = r.0 in omega (arith, n, c, q)))

pub quiet_apart : {Q : Type 0} (state : Q → PortState) (g : Geometry) (ports : Ports Q) → ∥ (g.queues ≡ 1) × IsQuiescentDrive g (drive_of state ports) ∥₁ → IsQuiescentDrive g (drive_of state ports)
quiet_apart state g ports is = ∥∥₁_elim is (quiet_drive-prop g _) (λ r. r.1)

pub one_stopped : {Q : Type 0} (ports : Ports Q) → ∥ length ports.queues.items ≡ 1 ∥₁ → length ports.queues.items ≡ 1
one_stopped ports is = ∥∥₁_elim is (Coded-set coded_ℕ _ _) (λ r. r)

-- a refusal leaves the number
pub not_ok : (r : Result ℕ OfferRefusal) (reached : ℕ) → ((n : ℕ) → r ≡ Ok n → ⊥) → reached_by reached r ≡ reached
not_ok (Ok n) reached not = absurd (not n refl)
not_ok (Err e) reached not = refl
