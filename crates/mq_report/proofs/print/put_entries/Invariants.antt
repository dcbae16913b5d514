use Rattle.std.proofs.Common.{◌≡◌, ◌++◌, drop, take}
use Rattle.std.specs.List.{All}
use Rattle.mq_report.specs.Ranges.{IsSmallLine}
use Rattle.mq_report.specs.Texts.{entry_lines, spelled}
use Rattle.mq_report.proofs.print.put_entries.Given as goal

-- with the lines of those that are left, it is the whole text; the numbers of those before are small
abbrev pub invariant-loop-line : goal.invariant-loop-line
invariant-loop-line l = record {
  text : l.out.items ++ spelled (entry_lines (drop l.line-index l.entries)) ≡ l.initial.out.items ++ spelled (entry_lines l.entries);
  small : All IsSmallLine (take l.line-index l.entries);
}
