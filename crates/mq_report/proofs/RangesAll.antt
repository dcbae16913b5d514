-- Numbers that were read one by one are in their range, together with replies that are bytes and good names.
use Rattle.std.proofs.Common.{List, [], ◌∷◌}
use Rattle.std.specs.List.{All}
use Rattle.std.proofs.lemmas.List.Elements.{All-head, All-tail}
use Rattle.mq_report.specs.Lines.{Line}
use Rattle.mq_report.specs.Ranges.{AreFit, AreSmall, HaveFitReplies, IsFit, IsSmallLine, IsSmallTold}
use Rattle.mq_report.specs.declared.line.Told.{Told}

pub are-fit : (ls : List Line) → HaveFitReplies ls → All IsSmallLine ls → AreFit ls
are-fit [] fit small = tt
are-fit (l ∷ ls) fit small = (
  All-head (λ (m : Line). All IsFit m.replies) l ls fit,
  All-head IsSmallLine l ls small,
  are-fit ls (All-tail (λ (m : Line). All IsFit m.replies) l ls fit) (All-tail IsSmallLine l ls small),
)

pub are-small : (ts : List Told) → All IsSmallTold ts → AreSmall ts
are-small [] small = tt
are-small (t ∷ ts) small = (All-head IsSmallTold t ts small, are-small ts (All-tail IsSmallTold t ts small))
