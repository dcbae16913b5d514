-- What a commit's line does with the blocks.
use Rattle.std.specs.Prelude.{◌≡◌, Bool, List, length}
use Rattle.mq_block_text.specs.declared.item.BlockItem.{BlockItem}
use Rattle.mq_block_trace.specs.Lines.{named, set_in, writes_from}
use Rattle.mq_block_trace.specs.Marks.{AreMarked, AreMarks}
use Rattle.mq_blocks.specs.Machine.{Map}
use Rattle.mq_loose_text.specs.Meaning.{freed_from}
use Rattle.mq_loose_run.specs.declared.items.Items.{Items}

-- It writes the blocks that it sets, frees those of the map that it frees, and these are the marks after it.
pub record AreItems (line : List BlockItem) (marks : List Bool) (i : Items) : Type 0 where
  pub writes : i.writes.items ≡ writes_from (set_in line) 0 named
  pub frees : (m : Map) → AreMarks m marks → i.frees.items ≡ freed_from m line 0 named
  pub whole : length i.marks.items ≡ 256
  pub marked : AreMarked line marks i.marks.items
