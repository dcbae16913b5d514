-- What the staging of a transaction makes of a queue's port.
use Rattle.std.specs.Prelude.{ℕ, ◌+◌, ◌%◌, zero, suc, Bool, true, false, List, [], ◌∷◌, ◌++◌, slice_set}
use Rattle.mq_blocks.specs.Drive.{PortState, Owns, counted, staged_end}
use Rattle.mq_blocks.specs.Limits.{depth}
use Rattle.mq_blocks.specs.declared.command.Command.{Command}
use Rattle.mq_nvme.specs.Entry.{entry_of}

-- what a transaction stages: Lbas with what is written there, the commit request last
abbrev pub Items : Type 0
Items = List (ℕ × List ℕ)

abbrev pub is_last : Items → Bool
is_last [] = true
is_last (i ∷ is) = false

-- the entry of an item at a count, before the rest of its transaction
abbrev pub entry_at : ℕ → ℕ → ℕ → Items → List ℕ
entry_at tx at lba rest = entry_of record { tx = tx; slot = at % depth; lba = lba; commit = is_last rest }

-- the slots with the first k entries of a transaction from this count on
abbrev pub slots_with : List (List ℕ) → ℕ → ℕ → ℕ → Items → List (List ℕ)
slots_with slots tx at zero items = slots
slots_with slots tx at (suc k) [] = slots
slots_with slots tx at (suc k) (i ∷ is) =
    slots_with (slice_set slots (at % depth) (entry_at tx at i.0 is)) tx (at + 1) k is

-- its first k commands
abbrev pub commands_of : ℕ → ℕ → ℕ → Items → List Command
commands_of tx at zero items = []
commands_of tx at (suc k) [] = []
commands_of tx at (suc k) (i ∷ is) =
    record { count = at; tx = tx; lba = i.0; block = i.1 } ∷ commands_of tx (at + 1) k is

-- the first k items of a transaction are staged
abbrev pub after_some : PortState → ℕ → ℕ → Items → PortState
after_some s tx k items = record s {
  staged = slots_with s.staged tx (staged_end s) k items;
  pending = s.pending ++ commands_of tx (staged_end s) k items;
  events = counted s.events k;
}

-- the port has the blocks to which the items go
abbrev pub OwnsAll : PortState → Items → Type 0
OwnsAll s [] = Unit {0}
OwnsAll s (i ∷ is) = Owns s i.0 × OwnsAll s is
