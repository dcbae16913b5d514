-- A fault that was gained stays among the faults.
use Rattle.std.proofs.Common.{◌≡◌, ℕ, ◌+◌, ◌≤◌, Bool, cond, List, ◌∷◌, length, Option, Some, None, sym, refl, ap, subst, ◌∙◌, inl, inr, arith, length-append}
use Rattle.std.specs.Prelude.{Result, Ok, Err}
use Rattle.std.proofs.lemmas.Bool.{cases_lt, le-leb, lt-leb}
use Rattle.mq_blocks.proofs.Totals.{total_append}
use Rattle.mq_drive.specs.Faults.{count_of, AreMore, IsAdded}
use Rattle.mq_blocks.specs.Drive.{PortState}
use Rattle.mq_drive.specs.Steps.{PortFault, Gains, HomeGives, IsWithOneMore, CommandError, HomeError, PowerOff}
use Rattle.mq_drive.specs.declared.port.Off as drive
use Rattle.mq_drive.specs.declared.port.HomeStep.{HomeStep}
use Rattle.mq_drive.specs.declared.port.HomeStep.TheVariants as home
use Rattle.mq_queue_side.specs.Drained.{kept_with}
use Rattle.mq_queue_side.specs.Told.{IsKeptAmong, IsTold, fault_of}
use Rattle.mq_queue_side.specs.declared.answers.Why.{Why}
use Rattle.mq_queue_side.specs.declared.answers.Why.TheVariants.{Status, Off}

pub one_more : (x : PortFault) (old new : List PortFault) (f : PortFault → Bool) → IsWithOneMore x old new → count_of f new ≡ count_of f old + cond (f x) 1 0
one_more x old new f more =
    let one : PortFault → ℕ = λ y. cond (f y) 1 0 in
    let a : count_of f old ≡ count_of f more.before + count_of f more.after = ap (count_of f) more.old_is ∙ total_append one more.before more.after in
    let b : count_of f new ≡ count_of f more.before + (cond (f x) 1 0 + count_of f more.after) = ap (count_of f) more.new_is ∙ total_append one more.before (x ∷ more.after) in
    omega arith

longer : (x : PortFault) (old new : List PortFault) → IsWithOneMore x old new → length old ≤ length new
longer x old new more =
    let a : length old ≡ length more.before + length more.after = ap length more.old_is ∙ length-append more.before more.after in
    let b : length new ≡ length more.before + length (x ∷ more.after) = ap length more.new_is ∙ length-append more.before (x ∷ more.after) in
    omega arith

more_still : (first : List PortFault) (x : PortFault) (old new : List PortFault) → IsWithOneMore x old new → AreMore first old → AreMore first new
more_still first x old new one more f = let a = one_more x old new f one in let b = more f in omega arith

added_still : (first : List PortFault) (y x : PortFault) (old new : List PortFault) → IsWithOneMore x old new → IsAdded y first old → IsAdded y first new
added_still first y x old new one added f e = let a = one_more x old new f one in let b = added f e in omega arith

added_now : (first : List PortFault) (x : PortFault) (old new : List PortFault) → IsWithOneMore x old new → AreMore first old → IsAdded x first new
added_now first x old new one more f e = let a = one_more x old new f one in let b = more f in let c : cond {A = ℕ} (f x) 1 0 ≡ 1 = ap (λ (t : Bool). cond {A = ℕ} t 1 0) e in omega arith

among_still : (first : List PortFault) (x : PortFault) (old new : List PortFault) (kept : Option (ℕ × Why)) → IsWithOneMore x old new → IsKeptAmong first old kept → IsKeptAmong first new kept
among_still first x old new None one added = tt
among_still first x old new (Some w) one added = added_still first (fault_of w.0 w.1) x old new one added

-- what is kept, and a fault more
pub told_more : (first : List PortFault) (x : PortFault) (old new : List PortFault) (kept : Option (ℕ × Why)) → Gains x old new → IsTold first old kept → IsTold first new kept
told_more first x old new kept (inl one) (inl full) = inl (let l = longer x old new one in omega arith)
told_more first x old new kept (inl one) (inr told) = inr (record { more = more_still first x old new one told.more; added = among_still first x old new kept one told.added })
told_more first x old new kept (inr full) told = subst (λ fs. IsTold first fs kept) (sym full.1) told

-- the fault itself is kept
pub told_kept : (first : List PortFault) (old new : List PortFault) (kept : Option (ℕ × Why)) (n : ℕ) (w : Why) → Gains (fault_of n w) old new → IsTold first old kept → IsTold first new (Some (n, w))
told_kept first old new kept n w (inl one) (inl full) = inl (let l = longer (fault_of n w) old new one in omega arith)
told_kept first old new kept n w (inl one) (inr told) = inr (record { more = more_still first (fault_of n w) old new one told.more; added = added_now first (fault_of n w) old new one told.more })
told_kept first old new kept n w (inr full) told = inl (let e : length new ≡ length old = ap length full.1 in let l = full.0 in omega (arith, e, l))

-- of a command that failed, and what is kept, the one that is kept then
pub told_new : (first : List PortFault) (old new : List PortFault) (kept : Option (ℕ × Why)) (tx status : ℕ) → Gains (CommandError tx status) old new → IsTold first old kept → IsTold first new (kept_with kept tx status)
told_new first old new None tx status gains told = told_kept first old new None tx (Status status) gains told
told_new first old new (Some (n, Off)) tx status gains told = told_kept first old new (Some (n, Off)) tx (Status status) gains told
told_new first old new (Some (n, Status s)) tx status gains told = elim (cases_lt tx n) [
  | inl less ↦ rw (lt-leb n tx less) (told_kept first old new (Some (n, Status s)) tx (Status status) gains told)
  | inr more ↦ rw (le-leb n tx more) (told_more first (CommandError tx status) old new (Some (n, Status s)) gains told)
]

pub told_same : (first : List PortFault) (old new : List PortFault) (a b : Option (ℕ × Why)) → new ≡ old → b ≡ a → IsTold first old a → IsTold first new b
told_same first old new a b faults kept told = rw (faults, kept) told

-- a home write
pub told_home : (first : List PortFault) (old new : PortState) (faults more : List PortFault) (lba : ℕ) (block : List ℕ) (result : Result HomeStep drive.Off) (kept : Option (ℕ × Why)) → HomeGives old faults lba block result new more → IsTold first faults kept → IsTold first more kept
told_home first old new faults more lba block (Ok home.Done) kept gives told = told_same first faults more kept kept gives.1 refl told
told_home first old new faults more lba block (Ok (home.Error status)) kept gives told = told_more first (HomeError lba status) faults more kept gives.2 told
told_home first old new faults more lba block (Err off) kept gives told = told_more first PowerOff faults more kept gives.1 told
