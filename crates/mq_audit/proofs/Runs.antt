-- What runs of events leave and tell.
use Rattle.std.proofs.Common.{◌≡◌, ℕ, zero, suc, Option, Some, None, ◌+◌, ◌<◌, ◌≤◌, List, [], ◌∷◌, length, ◌∙◌, ap, refl, arith}
use Rattle.mq_blocks.specs.Drive.{PortState}
use Rattle.mq_blocks.specs.Geometry.{zone_of}
use Rattle.mq_core.specs.Events.{with_port, begin_home, end_home, content_at}
use Rattle.mq_core.specs.Machine.{happens, run, IsRefusedAt}
use Rattle.mq_core.specs.declared.event.Event.{Event}
use Rattle.mq_core.specs.declared.event.Event.TheVariants.{Draw, Stage, Flush, Ring, Complete, FailCommand, StoreHead, FlushHead, Clear, Acknowledge, WriteHome, HomeDone, StoreBase, FlushBase}
use Rattle.mq_ledger.specs.Items.{Entries}
use Rattle.mq_ledger.specs.State.{State, port_of}
use Rattle.mq_audit.specs.Findings.{told_more, told_after}

-- ---- a write on the port of a block

port_base : (s : State) (z : Option ℕ) (p : PortState) → (with_port s z p).base ≡ s.base
port_base s None p = refl
port_base s (Some q) p = refl

port_history : (s : State) (z : Option ℕ) (p : PortState) → (with_port s z p).history ≡ s.history
port_history s None p = refl
port_history s (Some q) p = refl

port_acknowledged : (s : State) (z : Option ℕ) (p : PortState) → (with_port s z p).acknowledged ≡ s.acknowledged
port_acknowledged s None p = refl
port_acknowledged s (Some q) p = refl

-- ---- runs

-- no event changes the base
step_base : (e : Entries) (v : Event) (s : State) → (happens e v s).base ≡ s.base
step_base e (Draw t) s = refl
step_base e (Stage q) s = refl
step_base e (Flush q) s = refl
step_base e (Ring q) s = refl
step_base e (Complete q c) s = refl
step_base e (FailCommand q c) s = refl
step_base e (StoreHead q h) s = refl
step_base e (FlushHead q) s = refl
step_base e (Clear q low) s = refl
step_base e (Acknowledge n) s = refl
step_base e (WriteHome x) s = port_base s (zone_of s.geometry x) _
step_base e (HomeDone x) s = port_base s (zone_of s.geometry x) _
step_base e (StoreBase b) s = refl
step_base e FlushBase s = refl

pub run_base : (e : Entries) (vs : List Event) (s : State) → (run e vs s).base ≡ s.base
run_base e [] s = refl
run_base e (v ∷ vs) s = run_base e vs (happens e v s) ∙ step_base e v s

-- an event draws at most one transaction
step_drawn : (e : Entries) (v : Event) (s : State) → length (happens e v s).history ≤ length s.history + 1
step_drawn e (Draw t) s = omega arith
step_drawn e (Stage q) s = omega arith
step_drawn e (Flush q) s = omega arith
step_drawn e (Ring q) s = omega arith
step_drawn e (Complete q c) s = omega arith
step_drawn e (FailCommand q c) s = omega arith
step_drawn e (StoreHead q h) s = omega arith
step_drawn e (FlushHead q) s = omega arith
step_drawn e (Clear q low) s = omega arith
step_drawn e (Acknowledge n) s = omega arith
step_drawn e (WriteHome x) s = omega (arith, ap length (port_history s (zone_of s.geometry x) (begin_home s.geometry x (content_at s x) (port_of s (zone_of s.geometry x)))))
step_drawn e (HomeDone x) s = omega (arith, ap length (port_history s (zone_of s.geometry x) (end_home s.geometry x (content_at s x) (port_of s (zone_of s.geometry x)))))
step_drawn e (StoreBase b) s = omega arith
step_drawn e FlushBase s = omega arith

pub run_drawn : (e : Entries) (vs : List Event) (s : State) → length (run e vs s).history ≤ length s.history + length vs
run_drawn e [] s = omega arith
run_drawn e (v ∷ vs) s = omega (arith, run_drawn e vs (happens e v s), step_drawn e v s)

-- a refused event is one of the list
pub refused_inside : (e : Entries) (vs : List Event) (s : State) (n : ℕ) → IsRefusedAt e vs s n → n < length vs
refused_inside e [] s n r = absurd r
refused_inside e (v ∷ vs) s zero r = omega arith
refused_inside e (v ∷ vs) s (suc n) r = omega (arith, refused_inside e vs (happens e v s) n r.1)

-- ---- what is told

step_told : (e : Entries) (v : Event) (s : State) → (happens e v s).acknowledged ≡ told_more v s.acknowledged
step_told e (Draw t) s = refl
step_told e (Stage q) s = refl
step_told e (Flush q) s = refl
step_told e (Ring q) s = refl
step_told e (Complete q c) s = refl
step_told e (FailCommand q c) s = refl
step_told e (StoreHead q h) s = refl
step_told e (FlushHead q) s = refl
step_told e (Clear q low) s = refl
step_told e (Acknowledge n) s = refl
step_told e (WriteHome x) s = port_acknowledged s (zone_of s.geometry x) _
step_told e (HomeDone x) s = port_acknowledged s (zone_of s.geometry x) _
step_told e (StoreBase b) s = refl
step_told e FlushBase s = refl

-- a run acknowledges what its events tell
pub run_told : (e : Entries) (vs : List Event) (s : State) → (run e vs s).acknowledged ≡ told_after vs s.acknowledged
run_told e [] s = refl
run_told e (v ∷ vs) s = run_told e vs (happens e v s) ∙ ap (told_after vs) (step_told e v s)
