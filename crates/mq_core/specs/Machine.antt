-- The machine: its events, where each is allowed, what each changes, and whole runs.
use Rattle.std.specs.Prelude.{◌≡◌, ◌<◌, ◌≤◌, ℕ, true, List, slice_index_or}
use Rattle.mq_blocks.specs.Journal.{is_among}
use Rattle.mq_ledger.specs.Items.{Entries}
use Rattle.mq_ledger.specs.State.{State, IsLawful, known_of, front_of, from_at, port_at}
use Rattle.mq_ledger.specs.KnownJournal.{MayDraw}
use Rattle.mq_core.specs.Events.{us_of, draw, stage, flush, ring, complete, fail_command, store_head, clear, acknowledge, write_home, home_done, store_base, flush_base, HasRoom, MayStage, MayFlush, MayRing, MayEnd, MayStoreHead, MayClear, MayWriteHome, MayStoreBase}
pub use Rattle.mq_core.specs.declared.event.Event.{Event}
use Rattle.mq_core.specs.declared.event.CoreRefusal.{CoreRefusal}
use Rattle.mq_core.specs.Runs.{run_by, AreAllowedBy, HoldsAlways, IsRefusedBy, IsRefusalBy}
pub use Rattle.mq_core.specs.declared.event.Event.TheVariants.{Draw, Stage, Flush, Ring, Complete, FailCommand, StoreHead, FlushHead, Clear, Acknowledge, WriteHome, HomeDone, StoreBase, FlushBase}

abbrev pub happens : Entries → Event → State → State
happens e (Draw t) s = draw t s
happens e (Stage q) s = stage e q s
happens e (Flush q) s = flush q s
happens e (Ring q) s = ring q s
happens e (Complete q c) s = complete q c s
happens e (FailCommand q c) s = fail_command q c s
happens e (StoreHead q h) s = store_head q h s
happens e (FlushHead q) s = flush q s
happens e (Clear q low) s = clear q low s
happens e (Acknowledge n) s = acknowledge n s
happens e (WriteHome x) s = write_home x s
happens e (HomeDone x) s = home_done x s
happens e (StoreBase b) s = store_base b s
happens e FlushBase s = flush_base s

abbrev pub IsAllowed : Entries → Event → State → Type 0
IsAllowed e (Draw t) s =
    MayDraw (known_of e s) t
    × HasRoom s.geometry (from_at s.starts t.queue) s.root.base (us_of s t.queue) t
    (port_at s.ports t.queue)
    × (slice_index_or s.marks t.queue 0 ≤ t.number)
IsAllowed e (Stage q) s =
    (q < s.geometry.queues) × MayStage (from_at s.starts q) (us_of s q) (port_at s.ports q)
IsAllowed e (Flush q) s =
    (q < s.geometry.queues) × MayFlush (from_at s.starts q) (us_of s q) (port_at s.ports q)
IsAllowed e (Ring q) s =
    (q < s.geometry.queues) × MayRing (from_at s.starts q) (us_of s q) (port_at s.ports q)
IsAllowed e (Complete q c) s = (q < s.geometry.queues) × MayEnd c (port_at s.ports q)
IsAllowed e (FailCommand q c) s = (q < s.geometry.queues) × MayEnd c (port_at s.ports q)
IsAllowed e (StoreHead q h) s =
    (q < s.geometry.queues) × MayStoreHead (from_at s.starts q) (us_of s q) (port_at s.ports q) h
IsAllowed e (FlushHead q) s = q < s.geometry.queues
IsAllowed e (Clear q low) s = MayClear s q low
IsAllowed e (Acknowledge n) s = n ≤ front_of s
IsAllowed e (WriteHome x) s = MayWriteHome s x
IsAllowed e (HomeDone x) s = is_among x s.writing ≡ true
IsAllowed e (StoreBase b) s = MayStoreBase e s b
IsAllowed e FlushBase s = Unit {0}

abbrev pub run : Entries → List Event → State → State
run e vs s = run_by (λ v t. happens e v t) vs s

-- each event is allowed where it happens
abbrev pub AreAllowed : Entries → List Event → State → Type 0
AreAllowed e vs s = AreAllowedBy (λ v t. IsAllowed e v t) (λ v t. happens e v t) vs s

-- the state is lawful before, after and between the events
abbrev pub IsAlwaysLawful : Entries → List Event → State → Type 0
IsAlwaysLawful e vs s = HoldsAlways (λ t. IsLawful e t) (λ v t. happens e v t) vs s

-- the event at this index is the first that isn't allowed where it happens
abbrev pub IsRefusedAt : Entries → List Event → State → ℕ → Type 0
IsRefusedAt e vs s n = IsRefusedBy (λ v t. IsAllowed e v t) (λ v t. happens e v t) vs s n

-- why a run is refused: an event isn't allowed, or out of memory
abbrev pub IsRefusal : Entries → List Event → State → CoreRefusal → Type 0
IsRefusal e vs s r = IsRefusalBy (λ v t. IsAllowed e v t) (λ v t. happens e v t) vs s r
