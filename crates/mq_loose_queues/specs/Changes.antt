-- The table of the home blocks: of each, its last change, and whether it is in the map.
use Rattle.std.specs.Prelude.{◌≡◌, ◌<◌, ℕ, true, false, List, [], ◌∷◌, length, Option, is_some, slice_index_or, slice_set}
use Rattle.mq_blocks.specs.Geometry.{homes_of}
use Rattle.mq_blocks.specs.Machine.{Writes}
use Rattle.mq_blocks.specs.declared.geometry.Geometry.{Geometry}
use Rattle.mq_ledger.specs.History.{blocks_of, last, map_after}
use Rattle.mq_ledger.specs.State.{start_map}
use Rattle.mq_ledger.specs.declared.tx.Tx.{Tx}
use Rattle.mq_loose_order.specs.Dependence.{with_last}
use Rattle.mq_loose_queues.specs.declared.changes.Change.{Change}

-- where nothing has changed the block
abbrev pub first_change : ℕ → Change
first_change base = record { number = base; is_there = true }

abbrev pub change_at : ℕ → List Change → ℕ → Change
change_at base table x = slice_index_or table x (first_change base)

-- each of these blocks was changed so
abbrev pub with_changes : List ℕ → Change → List Change → List Change
with_changes [] c table = table
with_changes (x ∷ xs) c table = with_changes xs c (slice_set table x c)

-- a commit of this number writes these blocks and frees these
abbrev pub after_commit : (number : ℕ) → Writes → (frees : List ℕ) → List Change → List Change
after_commit number ws frees table =
    with_changes frees (record { number = number; is_there = false })
    (with_changes (blocks_of ws) (record { number = number; is_there = true }) table)

-- these rising numbers with the last one above the base that changed each of the blocks
abbrev pub with_changed : ℕ → List Change → List ℕ → List ℕ → List ℕ
with_changed base table [] ns = ns
with_changed base table (x ∷ xs) ns =
    with_last base (change_at base table x).number (with_changed base table xs ns)

-- the table is right after these transactions, from this map on
pub record AreChanges (g : Geometry) (start : List (Option (List ℕ))) (base : ℕ) (h : List Tx)
    (table : List Change) : Type 0 where
  pub whole : length table ≡ homes_of g
  pub number : (x : ℕ) → x < homes_of g → (change_at base table x).number ≡ last base h x
  pub there : (x : ℕ) → x < homes_of g
      → (change_at base table x).is_there ≡ is_some (map_after (start_map start) h x)
