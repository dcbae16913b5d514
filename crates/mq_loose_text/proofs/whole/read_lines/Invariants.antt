use Rattle.std.proofs.Common.{◌≡◌, length, take}
use Rattle.std.specs.Prelude.{map}
use Rattle.mq_loose_text.specs.Text.{IsGoodText, line_text}
use Rattle.mq_loose_text.proofs.Rooms.{HasRoom}
use Rattle.mq_loose_text.proofs.whole.read_lines.Given as goal

-- the texts so far are these lines, and the rest of each area is room
abbrev pub invariant-loop-text : goal.invariant-loop-text
invariant-loop-text l = record {
  told : map (λ x. x.now) (take l.text-index l.texts) ≡ map line_text l.lines.items;
  good : IsGoodText l.lines.items;
  whole : length l.room ≡ 4;
  room : HasRoom l.lines.items l.room;
  count : length l.lines.items ≡ l.text-index;
}
