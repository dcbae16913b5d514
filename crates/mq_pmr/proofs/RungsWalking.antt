-- Passing transactions that lead and are done.
use Rattle.std.proofs.Common.{◌≡◌, ◌<◌, ◌≤◌, ℕ, Bool, true, false, List, [], ◌∷◌, refl, sym, ◌∙◌, ap, subst, arith, cond, inl, inr}
use Rattle.std.proofs.lemmas.Bool.{cases_lt}
use Rattle.mq_pmr.specs.Rungs.{AreEnds, TellsDone, Walks, last_leading, left_after}
use Rattle.mq_pmr.specs.Slots.{AllDone, done_at}
use Rattle.mq_pmr.specs.declared.rungs.Rung.{Rung}
use Rattle.mq_pmr.specs.declared.slots.SlotRecord.{SlotRecord}

-- some of them are passed, and what is left leads on to the same
pub record Onward (slots : List SlotRecord) (limit from : ℕ) (last : Rung) (ts : List Rung) (to : ℕ) (new : Rung) (left : List Rung) : Type 0 where
  pub up : from ≤ to
  pub all : AllDone slots from to
  pub high : to ≤ limit
  pub low : new.end ≤ to
  pub rises : last.end ≤ new.end
  pub ends : AreEnds new.end limit left
  pub leads : (passes : ℕ → Bool) → TellsDone passes limit slots from → last_leading passes new left ≡ last_leading passes last ts
  pub leaves : (passes : ℕ → Bool) → TellsDone passes limit slots from → left_after passes left ≡ left_after passes ts

pub onward-start : (slots : List SlotRecord) (limit from : ℕ) (last : Rung) (ts : List Rung) → AreEnds last.end limit ts → last.end ≤ from → from ≤ limit → Onward slots limit from last ts from last ts
onward-start slots limit from last ts ends low high = record {
  up = omega arith;
  all = λ n least less. absurd (omega (arith, least, less));
  high = high;
  low = low;
  rises = omega arith;
  ends = ends;
  leads = λ passes tells. refl;
  leaves = λ passes tells. refl;
}

pub all_joined : (slots : List SlotRecord) (from mid to : ℕ) → AllDone slots from mid → AllDone slots mid to → AllDone slots from to
all_joined slots from mid to first second n least less = elim (cases_lt n mid) [
  | inl below ↦ first n least below
  | inr above ↦ second n above less
]

pub ends_high : (low limit : ℕ) (ts : List Rung) → AreEnds low limit ts → low ≤ limit
ends_high low limit [] ends = ends
ends_high low limit (t ∷ ts) ends = omega (arith, ends.0, ends_high t.end limit ts ends.1)

pub first_end : (low limit : ℕ) (next : Rung) (rest all : List Rung) → all ≡ next ∷ rest → AreEnds low limit all → next.end ≤ limit
first_end low limit next rest all is ends = ends_high next.end limit rest (subst (AreEnds low limit) is ends).1

-- the next one is passed too
pub onward_next : (slots : List SlotRecord) (limit from : ℕ) (last : Rung) (ts : List Rung) (to more : ℕ) (new next : Rung) (left rest : List Rung)
    → Onward slots limit from last ts to new left → left ≡ next ∷ rest → to ≤ more → AllDone slots to more → more ≤ limit → next.end ≤ more
    → Onward slots limit from last ts more next rest
onward_next slots limit from last ts to more new next left rest on is up all high end =
    let ends = subst (AreEnds new.end limit) is on.ends in
    let done : AllDone slots from more = all_joined slots from to more on.all all in
    let passed : (passes : ℕ → Bool) → TellsDone passes limit slots from → passes next.end ≡ true = λ passes tells.
    tells.yes next.end (omega (arith, high, end)) (λ n least less. done n least (omega (arith, less, end))) in
    record {
      up = omega (arith, on.up, up);
      all = done;
      high = high;
      low = end;
      rises = omega (arith, on.rises, ends.0);
      ends = ends.1;
      leads = λ passes tells.
          sym (ap (λ (b : Bool). cond b (last_leading passes next rest) new) (passed passes tells))
          ∙ ap (last_leading passes new) (sym is) ∙ on.leads passes tells;
      leaves = λ passes tells.
          sym (ap (λ (b : Bool). cond b (left_after passes rest) (next ∷ rest)) (passed passes tells))
          ∙ ap (left_after passes) (sym is) ∙ on.leaves passes tells;
    }

-- none is left
pub onward_none : (slots : List SlotRecord) (limit from : ℕ) (last : Rung) (ts : List Rung) (to : ℕ) (new : Rung) (left : List Rung)
    → Onward slots limit from last ts to new left → left ≡ [] → Walks slots limit from last ts to new left
onward_none slots limit from last ts to new left on none = record {
  up = on.up;
  all = on.all;
  high = on.high;
  low = on.low;
  rises = on.rises;
  ends = on.ends;
  leads = λ passes tells. sym (ap (last_leading passes new) none) ∙ on.leads passes tells;
  leaves = λ passes tells. none ∙ sym (ap (left_after passes) none) ∙ on.leaves passes tells;
}

-- an entry of the next one is not done
pub onward_stops : (slots : List SlotRecord) (limit from : ℕ) (last : Rung) (ts : List Rung) (to more : ℕ) (new next : Rung) (left rest : List Rung)
    → Onward slots limit from last ts to new left → left ≡ next ∷ rest → to ≤ more → AllDone slots to more → more ≤ limit → more < next.end → done_at slots more ≡ false
    → Walks slots limit from last ts more new left
onward_stops slots limit from last ts to more new next left rest on is up all high short left_open =
    let ends = subst (AreEnds new.end limit) is on.ends in
    let stopped : (passes : ℕ → Bool) → TellsDone passes limit slots from → passes next.end ≡ false = λ passes tells.
    tells.no next.end more (ends_high next.end limit rest ends.1) (omega (arith, on.up, up)) short left_open in
    record {
      up = omega (arith, on.up, up);
      all = all_joined slots from to more on.all all;
      high = high;
      low = omega (arith, on.low, up);
      rises = on.rises;
      ends = on.ends;
      leads = λ passes tells.
          sym (ap (λ (b : Bool). cond b (last_leading passes next rest) new) (stopped passes tells))
          ∙ ap (last_leading passes new) (sym is) ∙ on.leads passes tells;
      leaves = λ passes tells.
          is ∙ sym (ap (λ (b : Bool). cond b (left_after passes rest) (next ∷ rest)) (stopped passes tells))
          ∙ ap (left_after passes) (sym is) ∙ on.leaves passes tells;
    }
