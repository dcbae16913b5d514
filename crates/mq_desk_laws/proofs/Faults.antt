-- A port that gains faults, and what is charged to them.
use Rattle.std.proofs.Common.{◌≡◌, ◌⊎◌, ℕ, ◌-◌, ◌≤◌, ◌^◌, ◌&&◌, Bool, true, cond, List, [], ◌∷◌, length, Option, Some, None, refl, ap, inl, inr, arith}
use Rattle.mq_blocks.specs.declared.geometry.Geometry.{Geometry}
use Rattle.mq_drive.specs.Faults.{count_of, AreMore}
use Rattle.mq_drive.specs.Steps.{PortFault}
use Rattle.mq_turns.specs.Lists.{Each}
use Rattle.mq_turns.specs.Words.{same_turn}
use Rattle.mq_turns.specs.declared.rule.Charge.{Charge}
use Rattle.mq_turns.specs.declared.turn.Turn.{Turn}
use Rattle.mq_turns.proofs.Lists.{each_map}
use Rattle.mq_turns.proofs.WordsChanges.{same_turn-same}
use Rattle.mq_desk_laws.specs.Faults.{AreCharged, IsBacked, WasGained, fault_of, named_by, of_kind, passes}

all_counted : (xs : List PortFault) → count_of (λ x. true) xs ≡ length xs
all_counted [] = refl
all_counted (x ∷ xs) = let ih = all_counted xs in omega arith

longer : (old new : List PortFault) → AreMore old new → length old ≤ length new
longer old new more = let a = more (λ x. true) in let b = all_counted old in let c = all_counted new in omega arith

gained_still : (o : Option PortFault) (first old new : List PortFault) → AreMore old new → WasGained o first old → WasGained o first new
gained_still None first old new more gained = gained
gained_still (Some x) first old new more gained = λ f is. let a = gained f is in let b = more f in omega arith

named_still : (g : Geometry) (t : Turn) (first old new : List PortFault) → AreMore old new → (cs : List Charge) → Each (λ c. c.port ≡ t → WasGained (named_by g c.report) first old) cs → Each (λ c. c.port ≡ t → WasGained (named_by g c.report) first new) cs
named_still g t first old new more cs = each_map _ _ (λ c gained mine. gained_still (named_by g c.report) first old new more (gained mine)) cs

-- with more faults all charges are backed as before
pub charged_more : (g : Geometry) (t : Turn) (cs : List Charge) (first old new : List PortFault) → AreMore old new → AreCharged g t cs first old → AreCharged g t cs first new
charged_more g t cs first old new more (inl full) = inl (let l = longer old new more in omega arith)
charged_more g t cs first old new more (inr was) = inr (record {
  more = λ f. let a = was.more f in let b = more f in omega arith;
  counts = λ f. let a = was.counts f in let b = more (of_kind f) in omega arith;
  named = named_still g t first old new more cs was.named;
})

-- and one charge more where a fault of its kind is new
pub charged_backed : (g : Geometry) (c : Charge) (cs : List Charge) (first old new : List PortFault) → AreCharged g c.port cs first old → (2 ^ 64 - 1 ≤ length new) ⊎ IsBacked g c.report first old new → AreCharged g c.port (c ∷ cs) first new
charged_backed g c cs first old new was (inl full) = inl full
charged_backed g c cs first old new (inl full) (inr backed) = inl (let l = longer old new backed.more in omega arith)
charged_backed g c cs first old new (inr was) (inr backed) = inr (record {
  more = λ f. let a = was.more f in let b = backed.more f in omega arith;
  counts = λ f.
      let a = was.counts f in
      let b = backed.kind f in
      let s : cond {A = ℕ} (same_turn c.port c.port && passes (of_kind f) (fault_of g c.report)) 1 0 ≡ cond {A = ℕ} (passes (of_kind f) (fault_of g c.report)) 1 0 = ap (λ (z : Bool). cond {A = ℕ} (z && passes (of_kind f) (fault_of g c.report)) 1 0) (same_turn-same c.port) in
      omega arith;
  named = ((λ mine. backed.named), named_still g c.port first old new backed.more cs was.named);
})
