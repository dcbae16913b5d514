-- The loose machine: its events, where each is allowed, what each changes, and whole runs.
use Rattle.std.specs.Prelude.{◌≡◌, ◌<◌, ℕ, true, List}
use Rattle.mq_blocks.specs.Journal.{is_among}
use Rattle.mq_ledger.specs.Items.{Entries}
use Rattle.mq_ledger.specs.State.{State, from_at, port_at}
use Rattle.mq_core.specs.Events.{us_of, MayStage, MayFlush, MayRing, MayEnd, MayStoreHead, MayStoreBase}
use Rattle.mq_core.specs.declared.event.CoreRefusal.{CoreRefusal}
use Rattle.mq_core.specs.Machine as machine
use Rattle.mq_core.specs.declared.event.Event.{Event}
use Rattle.mq_core.specs.declared.event.Event.TheVariants as journal
use Rattle.mq_core.specs.Runs.{run_by, AreAllowedBy, HoldsAlways, IsRefusedBy, IsRefusalBy}
use Rattle.mq_loose.specs.Guards.{entries_in, settled, tx_of, MayDrawLoose, MayWriteHome}
use Rattle.mq_loose.specs.Safe.{IsSafe}
pub use Rattle.mq_loose.specs.declared.event.LooseEvent.{LooseEvent}
pub use Rattle.mq_loose.specs.declared.event.LooseEvent.TheVariants.{Draw, Stage, Flush, Ring, Complete, FailCommand, StoreHead, FlushHead, Acknowledge, WriteHome, HomeDone, StoreBase, FlushBase}

-- as an event of the journal's machine
abbrev pub event_of : LooseEvent → Event
event_of (Draw t) = journal.Draw (tx_of t)
event_of (Stage q) = journal.Stage q
event_of (Flush q) = journal.Flush q
event_of (Ring q) = journal.Ring q
event_of (Complete q c) = journal.Complete q c
event_of (FailCommand q c) = journal.FailCommand q c
event_of (StoreHead q h) = journal.StoreHead q h
event_of (FlushHead q) = journal.FlushHead q
event_of (Acknowledge n) = journal.Acknowledge n
event_of (WriteHome x) = journal.WriteHome x
event_of (HomeDone x) = journal.HomeDone x
event_of (StoreBase b) = journal.StoreBase b
event_of FlushBase = journal.FlushBase

abbrev pub happens : Entries → LooseEvent → State → State
happens e v s = machine.happens (entries_in e s) (event_of v) s

abbrev pub IsAllowed : Entries → LooseEvent → State → Type 0
IsAllowed e (Draw t) s = MayDrawLoose e s (tx_of t) t.deps
IsAllowed e (Stage q) s =
    (q < s.geometry.queues) × MayStage (from_at s.starts q) (us_of s q) (port_at s.ports q)
IsAllowed e (Flush q) s =
    (q < s.geometry.queues) × MayFlush (from_at s.starts q) (us_of s q) (port_at s.ports q)
IsAllowed e (Ring q) s =
    (q < s.geometry.queues) × MayRing (from_at s.starts q) (us_of s q) (port_at s.ports q)
IsAllowed e (Complete q c) s = (q < s.geometry.queues) × MayEnd c (port_at s.ports q)
IsAllowed e (FailCommand q c) s = (q < s.geometry.queues) × MayEnd c (port_at s.ports q)
IsAllowed e (StoreHead q h) s =
    (q < s.geometry.queues) × MayStoreHead (from_at s.starts q) (us_of s q) (port_at s.ports q) h
IsAllowed e (FlushHead q) s = q < s.geometry.queues
IsAllowed e (Acknowledge n) s = settled s n ≡ true
IsAllowed e (WriteHome x) s = MayWriteHome s x
IsAllowed e (HomeDone x) s = is_among x s.writing ≡ true
IsAllowed e (StoreBase b) s = MayStoreBase e s b
IsAllowed e FlushBase s = Unit {0}

abbrev pub run : Entries → List LooseEvent → State → State
run e vs s = run_by (λ v t. happens e v t) vs s

-- each event is allowed where it happens
abbrev pub AreAllowed : Entries → List LooseEvent → State → Type 0
AreAllowed e vs s = AreAllowedBy (λ v t. IsAllowed e v t) (λ v t. happens e v t) vs s

-- the state is safe before, after and between the events
abbrev pub IsAlwaysSafe : Entries → List LooseEvent → State → Type 0
IsAlwaysSafe e vs s = HoldsAlways (λ t. IsSafe e t) (λ v t. happens e v t) vs s

-- the event at this index is the first that isn't allowed where it happens
abbrev pub IsRefusedAt : Entries → List LooseEvent → State → ℕ → Type 0
IsRefusedAt e vs s n = IsRefusedBy (λ v t. IsAllowed e v t) (λ v t. happens e v t) vs s n

-- why a run is refused: an event isn't allowed, or out of memory
abbrev pub IsRefusal : Entries → List LooseEvent → State → CoreRefusal → Type 0
IsRefusal e vs s r = IsRefusalBy (λ v t. IsAllowed e v t) (λ v t. happens e v t) vs s r
