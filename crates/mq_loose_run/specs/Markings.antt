-- Which blocks are in the map after some of the commits of a text.
use Rattle.std.specs.Prelude.{◌≡◌, ◌<◌, ℕ, Bool, true, false, List, ◌∷◌, length, slice_index_or, if◌then◌else◌}
use Rattle.mq_block_text.specs.declared.item.BlockItem.{BlockItem}
use Rattle.mq_block_trace.specs.Lines.{empty_map}
use Rattle.mq_block_trace.specs.Marks.{AreMarks}
use Rattle.mq_blocks.specs.Journal.{is_among}
use Rattle.mq_ledger.specs.History.{map_after}
use Rattle.mq_ledger.specs.declared.tx.Tx.{Tx}
use Rattle.mq_loose_order.specs.Dependence.{kept}
use Rattle.mq_loose_text.specs.Meaning.{after_line, tx_of}
use Rattle.mq_loose_text.specs.declared.line.LooseLine.{LooseLine}
use Rattle.mq_loose_run.specs.declared.marks.Marking.{Marking}

-- texts may name each of these blocks
abbrev pub AreNamed : List ℕ → Type 0
AreNamed blocks = (b : ℕ) → is_among b blocks ≡ true → b < 256

-- the marks after those of these blocks are set so
abbrev pub AreMarkedTo : Bool → (blocks : List ℕ) → (before after : List Bool) → Type 0
AreMarkedTo is blocks before after =
    (b : ℕ) → b < 256
    → slice_index_or after b false ≡ (if is_among b blocks then is else slice_index_or before b false)

-- the marks after these transactions, and after those of them in a set
pub record IsMarking (set : List ℕ) (h : List Tx) (m : Marking) : Type 0 where
  pub number : m.number ≡ length h
  pub all_whole : length m.all.items ≡ 256
  pub all : AreMarks (map_after empty_map h) m.all.items
  pub kept_whole : length m.kept.items ≡ 256
  pub kept_are : AreMarks (map_after empty_map (kept (λ n. is_among n set) h)) m.kept.items

-- whatever was committed, these items are so on a queue
abbrev pub MarksCommit : List BlockItem → (set : List ℕ) → (old new : Marking) → Type 0
MarksCommit is set old new = (h : List Tx) (q : ℕ) → IsMarking set h old → IsMarking set (tx_of h q is ∷ h) new

-- whatever was committed, the line is run
abbrev pub MarksLine : LooseLine → (set : List ℕ) → (old new : Marking) → Type 0
MarksLine l set old new = (h : List Tx) → IsMarking set h old → IsMarking set (after_line l h) new
