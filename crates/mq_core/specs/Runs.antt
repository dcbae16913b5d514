-- Runs of a machine over states of the journal, by where each of its events is allowed and what it changes.
use Rattle.std.specs.Prelude.{ℕ, zero, suc, List, [], ◌∷◌}
use Rattle.mq_ledger.specs.State.{State}
use Rattle.mq_core.specs.declared.event.CoreRefusal.{CoreRefusal}
use Rattle.mq_core.specs.declared.event.CoreRefusal.TheVariants.{NotAllowed, OutOfMemory}

abbrev pub run_by : {V : Type 0} → (V → State → State) → List V → State → State
run_by after [] s = s
run_by after (v ∷ vs) s = run_by after vs (after v s)

-- each event is allowed where it happens
abbrev pub AreAllowedBy : {V : Type 0} → (V → State → Type 0) → (V → State → State) → List V → State → Type 0
AreAllowedBy may after [] s = Unit {0}
AreAllowedBy may after (v ∷ vs) s = may v s × AreAllowedBy may after vs (after v s)

-- this holds before, after and between the events
abbrev pub HoldsAlways : {V : Type 0} → (State → Type 0) → (V → State → State) → List V → State → Type 0
HoldsAlways holds after [] s = holds s
HoldsAlways holds after (v ∷ vs) s = holds s × HoldsAlways holds after vs (after v s)

-- the event at this index is the first that isn't allowed where it happens
abbrev pub IsRefusedBy : {V : Type 0} → (V → State → Type 0) → (V → State → State) → List V → State → ℕ → Type 0
IsRefusedBy may after [] s n = ⊥
IsRefusedBy may after (v ∷ vs) s zero = may v s → ⊥
IsRefusedBy may after (v ∷ vs) s (suc n) = may v s × IsRefusedBy may after vs (after v s) n

-- why a run is refused: an event isn't allowed, or out of memory
abbrev pub IsRefusalBy : {V : Type 0} → (V → State → Type 0) → (V → State → State) → List V → State → CoreRefusal → Type 0
IsRefusalBy may after vs s (NotAllowed n) = IsRefusedBy may after vs s n
IsRefusalBy may after vs s OutOfMemory = Unit {0}
