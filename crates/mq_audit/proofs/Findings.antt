-- What is found of a trace.
use Rattle.std.proofs.Common.{◌≡◌, ℕ, Bool, ◌+◌, ◌-◌, ◌<◌, ◌≤◌, ◌^◌, List, length, sym, ◌∙◌, ap, subst, refl, arith}
use Rattle.std.specs.Prelude.{filter, not, Result, Ok, Err, IfOk}
use Rattle.std.specs.List.{range_with_len}
use Rattle.std.proofs.lemmas.Bool.{false≢true}
use Rattle.mq_blocks.specs.Journal.{is_among}
use Rattle.mq_core.specs.Machine.{run, AreAllowed, IsRefusal}
use Rattle.mq_core.specs.Reach.{ReachBetween, IsReached}
use Rattle.mq_core.specs.declared.event.CoreRefusal.{CoreRefusal}
use Rattle.mq_core.specs.declared.event.CoreRefusal.TheVariants.{NotAllowed, OutOfMemory}
use Rattle.mq_ledger.specs.Plain.{plain}
use Rattle.mq_ledger.specs.State.{State, front_of}
use Rattle.mq_audit.specs.Findings.{Accepts, Finds, HasTold, IsLow, IsSummary, Refuses, end_of, told_in}
use Rattle.mq_audit.specs.Traces.{Trace, start_of}
use Rattle.mq_audit.specs.declared.finding.Finding.{Finding}
use Rattle.mq_audit.specs.declared.finding.Finding.TheVariants.{Accepted, Refused}
use Rattle.mq_audit.proofs.Runs.{refused_inside, run_base, run_drawn, run_told}

pub summary_is :
    (s : State) (told : List Bool) (last front base : ℕ) (waits : List ℕ) (least greatest : ℕ) → base ≡ s.base → last ≡ s.base + length s.history → front ≡ front_of s → HasTold s.base s.acknowledged told
    → ((ns : List ℕ) → HasTold base ns told → waits ≡ filter (λ n. not (is_among n ns)) (range_with_len (base + 1) (last - base)))
    → ReachBetween plain s least greatest → IsReached plain s least → IsReached plain s greatest → IsSummary s (last - base) (front - base) waits least greatest
summary_is s told last front base waits least greatest same last_is front_is table untold between low high =
    let drawn : last - base ≡ length s.history = omega (arith, same, last_is) in
    record {
      drawn_is = drawn;
      done_is = omega (arith, same, front_is);
      unacknowledged_are =
          untold s.acknowledged (subst (λ b. HasTold b s.acknowledged told) (sym same) table)
          ∙ (λ i. filter (λ n. not (is_among n s.acknowledged)) (range_with_len (same i + 1) (drawn i)));
      between = between;
      least_is_reached = low;
      greatest_is_reached = high;
    }

-- ---- the last state

module _ (t : Trace) (first last : State) (began : first ≡ start_of t) (ran : last ≡ run plain t.events first) where
  pub end_is : last ≡ end_of t
  end_is = ran ∙ ap (run plain t.events) began

  pub end_base : t.base ≡ last.base
  end_base = sym (ap (λ (s : State). s.base) end_is ∙ run_base plain t.events (start_of t))

  pub end_drawn : length last.history ≤ length t.events
  end_drawn = (let most = run_drawn plain t.events (start_of t) in let same = ap (λ (s : State). length s.history) end_is in omega (arith, most, same))

  pub end_told : last.acknowledged ≡ told_in t.events
  end_told = ap (λ (s : State). s.acknowledged) end_is ∙ run_told plain t.events (start_of t)

  pub end_table : (told : List Bool) → HasTold t.base (told_in t.events) told → HasTold last.base last.acknowledged told
  end_table told table = subst (λ ns. HasTold last.base ns told) (sym end_told) (subst (λ b. HasTold b (told_in t.events) told) end_base table)

-- ---- findings

pub finds_accepted : {E : Type 0} (t : Trace) (s : State) (count : ℕ) (r : Result Finding E) → s ≡ end_of t → count ≡ length t.events → AreAllowed plain t.events (start_of t) → IfOk r (Accepts s count) → IfOk r (Finds t)
finds_accepted t s count (Ok (Accepted events drawn done waits least greatest)) is counted allowed a = (allowed, a.0 ∙ counted, subst (λ u. IsSummary u drawn done waits.items least greatest) is a.1)
finds_accepted t s count (Ok (Refused line)) is counted allowed a = absurd a
finds_accepted t s count (Err e) is counted allowed a = tt

pub finds_refused : {E : Type 0} (t : Trace) (refusal : CoreRefusal) (r : Result Finding E) → IsRefusal plain t.events (start_of t) refusal → Refuses refusal r → IfOk r (Finds t)
finds_refused t (NotAllowed index) r refused is = subst (λ u. IfOk u (Finds t)) (sym is) (index, refl, refused)
finds_refused t OutOfMemory (Ok f) refused is = absurd (false≢true is)
finds_refused t OutOfMemory (Err e) refused is = tt

pub refused_low : (t : Trace) (refusal : CoreRefusal) → length t.events < 2 ^ 63 → IsRefusal plain t.events (start_of t) refusal → IsLow refusal
refused_low t (NotAllowed index) few refused = omega (arith, few, refused_inside plain t.events (start_of t) index refused)
refused_low t OutOfMemory few refused = tt
