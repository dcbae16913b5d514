-- A run of events of a machine, one by one.
use Rattle.std.proofs.Common.{◌≡◌, ℕ, suc, ◌+◌, List, ◌∷◌, length, Err, refl, subst, arith}
use Rattle.mq_ledger.specs.State.{State}
use Rattle.mq_core.specs.Answers.{Answers, refusal_at}
use Rattle.mq_core.specs.Runs.{run_by, AreAllowedBy, IsRefusedBy, IsRefusalBy}
use Rattle.mq_core.specs.declared.event.CoreRefusal.{CoreRefusal}
use Rattle.mq_core.specs.declared.event.CoreRefusal.TheVariants.{NotAllowed, OutOfMemory}
use Rattle.mq_core.proofs.MachineLifts.{Machine}

-- The first `index` events have happened, and those that are left lead from here to where all
-- of them lead from the start.
pub record Leads (m : Machine) (vs : List m.Event) (start : State) (rest : List m.Event) (s : State) (index : ℕ) : Type 0 where
  pub done : run_by m.happens rest s ≡ run_by m.happens vs start
  pub allowed : AreAllowedBy m.Allowed m.happens rest s → AreAllowedBy m.Allowed m.happens vs start
  pub refused : (n : ℕ) → IsRefusedBy m.Allowed m.happens rest s n → IsRefusedBy m.Allowed m.happens vs start (index + n)
  pub index_is : index + length rest ≡ length vs

pub leads_start : (m : Machine) (vs rest : List m.Event) (start : State) → rest ≡ vs → Leads m vs start rest start 0
leads_start m vs rest start same =
    record {
      done = subst (λ ws. run_by m.happens rest start ≡ run_by m.happens ws start) same refl;
      allowed = λ a. subst (λ ws. AreAllowedBy m.Allowed m.happens ws start) same a;
      refused = λ n r. (let e : n ≡ 0 + n = omega arith in subst (λ k. IsRefusedBy m.Allowed m.happens vs start k) e (subst (λ ws. IsRefusedBy m.Allowed m.happens ws start n) same r));
      index_is = subst (λ ws. 0 + length rest ≡ length ws) same (omega arith);
    }

pub leads_next : (m : Machine) (vs : List m.Event) (start : State) (v : m.Event) (rest : List m.Event) (s : State) (index : ℕ) → Leads m vs start (v ∷ rest) s index → m.Allowed v s → Leads m vs start rest (m.happens v s) (index + 1)
leads_next m vs start v rest s index l may =
    record {
      done = l.done;
      allowed = λ a. l.allowed (may, a);
      refused = λ n r. (let e : index + suc n ≡ index + 1 + n = omega arith in subst (λ k. IsRefusedBy m.Allowed m.happens vs start k) e (l.refused (suc n) (may, r)));
      index_is = omega (arith, l.index_is);
    }

pub refused_there : (m : Machine) (vs : List m.Event) (start : State) (v : m.Event) (rest : List m.Event) (s new : State) (index : ℕ) (refusal : CoreRefusal) → Leads m vs start (v ∷ rest) s index → Answers (m.Allowed v s) (m.happens v s) s new (Err refusal) → IsRefusalBy m.Allowed m.happens vs start (refusal_at index refusal)
refused_there m vs start v rest s new index (NotAllowed n) l a = (let e : index + 0 ≡ index = omega arith in subst (λ k. IsRefusedBy m.Allowed m.happens vs start k) e (l.refused 0 a.1))
refused_there m vs start v rest s new index OutOfMemory l a = tt
