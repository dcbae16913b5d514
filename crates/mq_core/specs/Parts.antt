-- The parts of a machine that both orders have: what is known of ledger, ports and root, and what the answer of an
-- event on the port of a queue says.
use Rattle.std.specs.Prelude.{◌≡◌, ◌<◌, ℕ, Bool, List, [], ◌∷◌, Result, length, reverse, slice_set}
use Rattle.mq_blocks.specs.Drive.{PortState}
use Rattle.mq_blocks.specs.Geometry.{zone_of}
use Rattle.mq_ledger.specs.Items.{Entries}
use Rattle.mq_ledger.specs.KnownJournal.{KnownJournal, LogOk}
use Rattle.mq_ledger.specs.Records.{Ledger}
use Rattle.mq_ledger.specs.Sides.{SideOk, RootOk}
use Rattle.mq_ledger.specs.State.{State, front_of, known_of, port_at}
use Rattle.mq_core.specs.Answers.{Answers}
use Rattle.mq_core.specs.Events.{us_of, begin_home, content_at, end_home, without}
use Rattle.mq_core.specs.Homes.{ports_after, root_after}
use Rattle.mq_core.specs.declared.event.CoreRefusal.{CoreRefusal}
use Rattle.mq_core.specs.declared.machine.parts.Parts.{Parts}

abbrev pub state_with : Ledger → List PortState → PortState → List ℕ → List ℕ → List ℕ → State
state_with ledger ports root marks writing acknowledged = record {
  geometry = ledger.geometry;
  start = ledger.start;
  base = ledger.base;
  starts = ledger.starts;
  history = ledger.history;
  ports = ports;
  root = root;
  marks = marks;
  writing = writing;
  acknowledged = acknowledged;
}

-- the state of these parts, where nothing is marked, under way or acknowledged
abbrev pub parts : Ledger → List PortState → PortState → State
parts ledger ports root = state_with ledger ports root [] [] []

abbrev pub whole : Parts → State
whole p = parts p.ledger.now p.ports.now p.root.now

-- what is known of the state, where the contents of these blocks at these numbers are due
abbrev pub known_with : Entries → (ℕ → ℕ → Bool) → State → KnownJournal
known_with e due s = record (known_of e s) { due = due }

pub record HasSides (e : Entries) (due : ℕ → ℕ → Bool) (s : State) : Type 0 where
  pub log : LogOk (known_with e due s)
  pub ports : length s.ports ≡ s.geometry.queues
  pub sides : (q : ℕ) → q < s.geometry.queues → SideOk (known_with e due s) q (us_of s q) (port_at s.ports q)
  pub root : RootOk (known_with e due s) s.root

-- the parts fit one another, whatever content is due at home
pub record AreHeld (front : ℕ) (s : State) : Type 0 where
  pub entries : Entries
  pub due : ℕ → ℕ → Bool
  pub sides : HasSides entries due s
  pub front_is : front ≡ front_of s

-- the ports fit the ledger, with some root
pub record AreSides (l : Ledger) (ports : List PortState) : Type 0 where
  pub root : PortState
  pub held : AreHeld l.front (parts l ports root)

-- whatever the port shows
abbrev pub Always : PortState → Type 0
Always p = Unit {0}

-- what the port of a queue answers, as one of these ports
abbrev pub QueueAnswers : Ledger → ℕ → (PortState → Type 0) → (PortState → PortState) → List PortState → List PortState → Result (Unit {0}) CoreRefusal → Type 0
QueueAnswers l q allowed after old new r =
    Answers ((q < l.geometry.queues) × allowed (port_at old q)) (slice_set old q (after (port_at old q))) old new r

-- with these home writes under way, the newest last
abbrev pub under : Ledger → List PortState → PortState → List ℕ → State
under l ports root writing = state_with l ports root [] (reverse writing) []

-- a home write of the block's content begins there, or ends
abbrev pub home_begun : Ledger → List PortState → PortState → List ℕ → ℕ → State
home_begun l ports root writing x =
    (let after = begin_home l.geometry x (content_at (parts l ports root) x) in
    state_with l (ports_after after (zone_of l.geometry x) ports)
    (root_after after (zone_of l.geometry x) root) [] (x ∷ reverse writing) [])

abbrev pub home_ended : Ledger → List PortState → PortState → List ℕ → ℕ → State
home_ended l ports root writing x =
    (let after = end_home l.geometry x (content_at (parts l ports root) x) in
    state_with l (ports_after after (zone_of l.geometry x) ports)
    (root_after after (zone_of l.geometry x) root) [] (without x (reverse writing)) [])
