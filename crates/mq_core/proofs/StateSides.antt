-- What the facts of a state say of its log and its ports, whatever content is due at home.
use Rattle.mq_ledger.specs.Items.{Entries}
use Rattle.mq_ledger.specs.State.{State, Facts, known_of}
pub use Rattle.mq_core.specs.Parts.{HasSides, known_with}

pub sides_of : (e : Entries) (s : State) → Facts e s → HasSides e (known_of e s).due s
sides_of e s f = record { log = f.log; ports = f.ports; sides = f.sides; root = f.root }
