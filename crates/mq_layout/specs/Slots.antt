-- The slots of a directory's block: 272 bytes each, 15 in a block.
use Rattle.std.specs.Prelude.{◌<◌, ℕ, ◌+◌, ◌-◌, ◌*◌, ◌^◌, List, [], ◌∷◌, ◌++◌, length, Option, Some, None, slice_index, nat_eq, nat_lt, if◌then◌else◌}
use Rattle.std.specs.Int.{to_le_bytes, w32}
use Rattle.mq_blocks.specs.Windows.{window, Shows}
use Rattle.mq_layout.specs.Fields.{field, first, nonzero, refused, zero_bytes}
use Rattle.mq_layout.specs.Names.{IsName, is_name}
use Rattle.mq_layout.specs.declared.refusal.LayoutCause.TheVariants.{Used, Length, Name}
use Rattle.mq_layout.specs.declared.refusal.LayoutRefusal.{LayoutRefusal}
use Rattle.mq_layout.specs.declared.slot.Slot.{Slot}

-- an entry of a directory
pub record Entry : Type 0 where
  pub inode : ℕ
  pub name : List ℕ

pub record IsEntry (e : Entry) : Type 0 where
  pub inode : e.inode < 2 ^ 32
  pub name : IsName e.name

-- inode, used, length, zeros, name, zeros
unfoldable pub slot_bytes : Entry → List ℕ
slot_bytes e =
    to_le_bytes w32 e.inode ++ (1 ∷ length e.name ∷ []) ++ zero_bytes 10 ++ e.name
    ++ zero_bytes (256 - length e.name)

-- an unused slot is all zeros
abbrev pub ShowsSlot : List ℕ → ℕ → Option Entry → Type 0
ShowsSlot block at None = Shows block (272 * at) (zero_bytes 272)
ShowsSlot block at (Some e) = IsEntry e × Shows block (272 * at) (slot_bytes e)

-- the entry that a slot as it was read stands for
abbrev pub entry_of : List ℕ → ℕ → Option Slot → Option Entry
entry_of block at None = None
entry_of block at (Some s) = Some (record { inode = s.inode; name = window block (272 * at + 16) s.length })

-- what is wrong with a used slot from an offset on, where the name has this length
unfoldable pub wrong_used : (count : ℕ) → ℕ → List ℕ → Option LayoutRefusal
wrong_used count from block = first (
    field Length (from + 5) (nat_lt 0 count) ∷
    nonzero 1 10 (from + 6) block ∷
    field Name (from + 16) (is_name (window block (from + 16) count)) ∷
    nonzero 1 (256 - count) (from + 16 + count) block ∷ [])

-- what is wrong with a slot from an offset on
unfoldable pub wrong_from : ℕ → List ℕ → Option LayoutRefusal
wrong_from from block =
    if nat_eq (slice_index block (from + 4)) 0 then nonzero 1 272 from block
    else (if nat_eq (slice_index block (from + 4)) 1
    then wrong_used (slice_index block (from + 5)) from block else Some (refused Used (from + 4)))

abbrev pub wrong_slot : List ℕ → ℕ → Option LayoutRefusal
wrong_slot block at = wrong_from (272 * at) block
