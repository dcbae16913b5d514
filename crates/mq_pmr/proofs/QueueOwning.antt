-- A queue's port stays that of the queue.
use Rattle.std.proofs.Common.{◌≡◌, ◌≤◌, ℕ, List, [], ◌∷◌, length, Result, Ok, Err, inl, inr, ⊎_elim, refl, sym, ap, subst, arith, length-append}
use Rattle.std.proofs.lemmas.Bool.{cases_eq}
use Rattle.mq_blocks.specs.Drive.{PortState, staged_end, after_stage, after_flush, after_ring, after_store_head}
use Rattle.mq_blocks.specs.declared.geometry.Geometry.{Geometry}
use Rattle.mq_nvme.specs.Completion.{status_of}
use Rattle.mq_drive.specs.Steps.{PortFault, StepGives, HomeGives}
use Rattle.mq_drive.specs.declared.port.Off.{Off}
use Rattle.mq_drive.specs.declared.port.Step.{Step}
use Rattle.mq_drive.specs.declared.port.Step.TheVariants.{Idle, Done}
use Rattle.mq_drive.specs.declared.port.HomeStep.{HomeStep}
use Rattle.mq_drive.specs.declared.port.HomeStep.TheVariants as home
use Rattle.mq_drive.specs.declared.role.Role.TheVariants.{Queue}
use Rattle.mq_drive.proofs.StartRolePorts.{stage-port, flush-port, ring-port, word-port, step-port, home-port}
use Rattle.mq_pmr.specs.Queue.{IsRingOf}

pub same_ring : (g : Geometry) (q : ℕ) (s new : PortState) → new ≡ s → IsRingOf g q s → IsRingOf g q new
same_ring g q s new is own = subst (IsRingOf g q) (sym is) own

pub stage_ring : (g : Geometry) (q : ℕ) (s new : PortState) (entry : List ℕ) (tx lba : ℕ) (block : List ℕ) → new ≡ after_stage s entry tx lba block → IsRingOf g q s → IsRingOf g q new
stage_ring g q s new entry tx lba block is own = same_ring g q (after_stage s entry tx lba block) new is (record {
  port = stage-port g (Queue q) s entry tx lba block own.flushed own.port;
  flushed = let more = length-append s.pending (record { count = staged_end s; tx = tx; lba = lba; block = block } ∷ []) in omega (arith, more, own.flushed);
})

pub flush_ring : (g : Geometry) (q : ℕ) (s new : PortState) → new ≡ after_flush s → IsRingOf g q s → IsRingOf g q new
flush_ring g q s new is own = same_ring g q (after_flush s) new is (record { port = flush-port g (Queue q) s own.port; flushed = omega arith })

pub rung_ring : (g : Geometry) (q : ℕ) (s new : PortState) → new ≡ after_ring s → IsRingOf g q s → IsRingOf g q new
rung_ring g q s new is own = same_ring g q (after_ring s) new is (record { port = ring-port g (Queue q) s own.port; flushed = omega (arith, own.flushed) })

pub stored_ring : (g : Geometry) (q : ℕ) (s new : PortState) (head : ℕ) → new ≡ after_store_head s head → IsRingOf g q s → IsRingOf g q new
stored_ring g q s new head is own =
    same_ring g q (after_store_head s head) new is (record { port = word-port g (Queue q) s head s.stored_base (after_store_head s head).events own.port; flushed = own.flushed })

-- what no step and no home write changes
pub record SameEnds (s new : PortState) : Type 0 where
  pub flushed : new.flushed_end ≡ s.flushed_end
  pub doorbell : new.doorbell ≡ s.doorbell
  pub pending : new.pending ≡ s.pending

same_ends : (s new t : PortState) → new ≡ t → SameEnds s t → SameEnds s new
same_ends s new t is same = subst (SameEnds s) (sym is) same

step_ends : (s new : PortState) (faults more : List PortFault) (r : Result Step Off) → StepGives s faults r new more → SameEnds s new
step_ends s new faults more (Ok Idle) gives = same_ends s new s gives.1 (record { flushed = refl; doorbell = refl; pending = refl })
step_ends s new faults more (Ok (Done c)) gives = elim (cases_eq (status_of c) 0) [
  | inl good ↦ same_ends s new _ (gives.success good).0 (record { flushed = refl; doorbell = refl; pending = refl })
  | inr bad ↦ same_ends s new _ (gives.error bad).0 (record { flushed = refl; doorbell = refl; pending = refl })
]
step_ends s new faults more (Err x) gives = same_ends s new s gives.1 (record { flushed = refl; doorbell = refl; pending = refl })

pub home_ends : (s new : PortState) (faults more : List PortFault) (lba : ℕ) (block : List ℕ) (r : Result HomeStep Off) → HomeGives s faults lba block r new more → SameEnds s new
home_ends s new faults more lba block (Ok home.Done) gives = same_ends s new _ gives.0 (record { flushed = refl; doorbell = refl; pending = refl })
home_ends s new faults more lba block (Ok (home.Error status)) gives = same_ends s new _ gives.1 (record { flushed = refl; doorbell = refl; pending = refl })
home_ends s new faults more lba block (Err x) gives = ⊎_elim
    (λ same. same_ends s new _ same (record { flushed = refl; doorbell = refl; pending = refl }))
    (λ begun. same_ends s new _ begun (record { flushed = refl; doorbell = refl; pending = refl }))
    gives.0

still_flushed : (s new : PortState) → SameEnds s new → s.flushed_end ≤ staged_end s → new.flushed_end ≤ staged_end new
still_flushed s new same was =
    let long : length new.pending ≡ length s.pending = ap length same.pending in
    omega (arith, same.flushed, same.doorbell, long, was)

pub step_ring : (g : Geometry) (q : ℕ) (s new : PortState) (faults more : List PortFault) (r : Result Step Off) → StepGives s faults r new more → IsRingOf g q s → IsRingOf g q new
step_ring g q s new faults more r gives own =
    record { port = step-port g (Queue q) s new faults more r gives own.port; flushed = still_flushed s new (step_ends s new faults more r gives) own.flushed }

pub home_ring : (g : Geometry) (q : ℕ) (s new : PortState) (faults more : List PortFault) (lba : ℕ) (block : List ℕ) (r : Result HomeStep Off) → HomeGives s faults lba block r new more → IsRingOf g q s → IsRingOf g q new
home_ring g q s new faults more lba block r gives own =
    record { port = home-port g (Queue q) s new faults more lba block r gives own.port; flushed = still_flushed s new (home_ends s new faults more lba block r gives) own.flushed }
