use Rattle.std.proofs.Common.{◌≡◌, take}
use Rattle.std.specs.Prelude.{map}
use Rattle.mq_block_text.specs.Text.{item_text, AreGoodItems}
use Rattle.mq_block_text.proofs.TextLines.{IsTable}
use Rattle.mq_block_text.proofs.line.read_items.Given as goal

-- the words so far are these items, and the table has the blocks that they name
abbrev pub invariant-loop-word : goal.invariant-loop-word
invariant-loop-word l = record {
  told : map (λ x. x.now) (take l.word-index l.words) ≡ map item_text l.items.items;
  good : AreGoodItems l.items.items;
  table : IsTable l.named l.items.items;
}
