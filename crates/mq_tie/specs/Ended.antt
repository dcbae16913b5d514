-- What lies on a desk over the ports of a journal while nobody holds anything, as the parts of a state.
use Rattle.std.specs.Prelude.{◌≡◌, ◌≤◌, ℕ, true, List, length, map, slice_get, Some}
use Rattle.mq_blocks.specs.Drive.{PortState}
use Rattle.mq_blocks.specs.Journal.{is_among}
use Rattle.mq_ledger.specs.KnownJournal.{front}
use Rattle.mq_ledger.specs.Written.{journal_entries}
use Rattle.mq_desk_laws.specs.Pages.{due_by}
use Rattle.mq_state_laws.specs.Parts.{Parts}
use Rattle.mq_turns.specs.Marks.{is_claimed}
use Rattle.mq_desk_laws.specs.Groups.{GroupView}
use Rattle.mq_desk_laws.specs.Rule.{DeskState, IsOk, IsSide, IsRoot, core_of, geometry_of, history_of}
use Rattle.mq_desk_laws.specs.Values.{Values}

module _ {Q R E : Type 0} (values : Values Q R E) (group : GroupView E) where
  -- what is known on the desk, over these ports of the queues and of the root
  abbrev pub parts_over : DeskState values group → List PortState → PortState → List ℕ → Parts
  parts_over K ports root acknowledged = record {
    geometry = geometry_of values group K;
    entries = journal_entries;
    start = map (λ c. c.content) K.opening.pages;
    base = K.opening.base;
    starts = map (λ w. (values.port w).doorbell) K.opening.sides;
    history = history_of values group K;
    done = λ t ts. is_claimed t.queue t.number K.claims;
    due = due_by K.opening.base K.ended;
    word = K.word;
    ports = ports;
    root = root;
    acknowledged = acknowledged;
  }

  abbrev pub parts : DeskState values group → List Q → R → List ℕ → Parts
  parts K sides root acknowledged = parts_over K (map values.port sides) (values.root root) acknowledged

  -- The values are what the rule says of them, and each acknowledged number is known to be done.
  pub record HasEnded (K : DeskState values group) (all : List Q) (top : R) (told : List ℕ) : Type 0 where
    pub ok : IsOk values group K
    pub many : length all ≡ (geometry_of values group K).queues
    pub sides : (q : ℕ) (w : Q) → slice_get all q ≡ Some w → IsSide values group q K w
    pub root : IsRoot values group K top
    pub acknowledged : (n : ℕ) → is_among n told ≡ true → n ≤ front (core_of values group K)
