use Rattle.std.proofs.Common.{◌≡◌, ◌++◌, drop, map, take}
use Rattle.std.specs.List.{All}
use Rattle.mq_report.specs.Ranges.{IsSmallTold}
use Rattle.mq_report.specs.Texts.{spelled, told_line}
use Rattle.mq_report.proofs.answers.put_answers.Given as goal

-- with the lines of those that are left, it is the whole text; the numbers of those before are small
abbrev pub invariant-loop-told : goal.invariant-loop-told
invariant-loop-told l = record {
  text : l.out.items ++ spelled (map told_line (drop l.told-index l.answers)) ≡ l.initial.out.items ++ spelled (map told_line l.answers);
  small : All IsSmallTold (take l.told-index l.answers);
}
