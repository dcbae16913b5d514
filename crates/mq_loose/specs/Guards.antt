-- The entries of a loose state, which numbers are settled in it, and the guards that are its own.
use Rattle.std.specs.Prelude.{◌≡◌, ◌<◌, ◌≤◌, ℕ, ◌+◌, Bool, true, false, List, [], length, Some}
use Rattle.mq_blocks.specs.Geometry.{homes_of}
use Rattle.mq_blocks.specs.Journal.{is_among}
use Rattle.mq_ledger.specs.History.{blocks_of, map_after, last, IsAt}
use Rattle.mq_ledger.specs.Items.{Entries}
use Rattle.mq_ledger.specs.KnownJournal.{KnownJournal, MayDraw}
use Rattle.mq_ledger.specs.State.{State, IsStart, is_done, from_at, known_of, port_at, start_map}
use Rattle.mq_ledger.specs.declared.tx.Tx.{Tx}
use Rattle.mq_core.specs.Events.{us_of, HasRoom}
use Rattle.mq_loose_order.specs.Dependence.{closure, depends_on, deps_of}
use Rattle.mq_loose_order.specs.Form.{loose_form, loose_limit}
use Rattle.mq_loose.specs.declared.event.LooseTx.{LooseTx}

-- as a transaction that writes nothing directly and revokes nothing
abbrev pub tx_of : LooseTx → Tx
tx_of t = record {
  number = t.number;
  queue = t.queue;
  logged = t.logged;
  direct = [];
  revoked = [];
  freed = t.freed;
}

-- These entries, with descriptors that list on what the transactions of the state's history depend.
abbrev pub entries_in : Entries → State → Entries
entries_in e s = record { entry = e.entry; says = e.says; form = loose_form (deps_of s.base s.history) }

-- What the ports' own facts are about: the ring, the commands and the area. No content is due at home by
-- them; what is at home is said of the whole state.
abbrev pub side_known : Entries → State → KnownJournal
side_known e s = record (known_of (entries_in e s) s) { due = λ x v. false }

-- it and all on which it depends, step by step, are done
abbrev pub settled : State → ℕ → Bool
settled s = λ n. closure (is_done s.starts s.ports) s.base s.history n

-- nothing is drawn yet
abbrev pub IsLooseStart : Entries → State → Type 0
IsLooseStart e s = IsStart (entries_in e s) s

-- it is the next transaction, it names few blocks, and it fits into ring and area
pub record IsDrawable (e : Entries) (s : State) (t : Tx) : Type 0 where
  pub may : MayDraw (side_known e s) t
  pub few : length t.logged + length t.freed ≤ loose_limit
  pub room : HasRoom s.geometry (from_at s.starts t.queue) s.root.base (us_of s t.queue) t
      (port_at s.ports t.queue)

-- and it depends on exactly these numbers
pub record MayDrawLoose (e : Entries) (s : State) (t : Tx) (deps : List ℕ) : Type 0 where
  pub fits : IsDrawable e s t
  pub deps_are : deps ≡ depends_on s.base t s.history

-- the block is in the map, and its last change logged it, is settled, and is above the stored base
pub record MayWriteHome (s : State) (x : ℕ) : Type 0 where
  pub block : x < homes_of s.geometry
  pub there : (content : List ℕ) × (map_after (start_map s.start) s.history x ≡ Some content)
  pub low : s.root.stored_base < last s.base s.history x
  pub settled_is : settled s (last s.base s.history x) ≡ true
  pub logged : (t : Tx) (ts : List Tx) → IsAt t ts s.history → t.number ≡ last s.base s.history x
      → is_among x (blocks_of t.logged) ≡ true
