use Rattle.std.proofs.Common.{◌≡◌, ◌+◌, ◌≤◌, length, take}
use Rattle.std.specs.Prelude.{map}
use Rattle.mq_block_text.specs.Text.{line_text, AreGoodLines, places_of}
use Rattle.mq_block_text.proofs.whole.read_lines.Given as goal

-- the texts so far are these lines, and the rest of the area is room
abbrev pub invariant-loop-text : goal.invariant-loop-text
invariant-loop-text l = record {
  told : map (λ x. x.now) (take l.text-index l.texts) ≡ map line_text l.lines.items;
  good : AreGoodLines l.lines.items;
  room : places_of l.lines.items + l.room ≡ 1024;
  few : length l.lines.items ≤ 1024;
}
