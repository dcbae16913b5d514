use Rattle.std.proofs.Common.{◌≡◌, ◌≤◌, [], length}
use Rattle.mq_script.specs.Reading.{groups_in}
use Rattle.mq_script.proofs.Scripts.{answers, ReadSo}
use Rattle.mq_script.proofs.read.read_groups.Given as goal

-- the lines so far are read into these groups, and into these requests of one that has not ended
abbrev pub invariant-loop-text : goal.invariant-loop-text
invariant-loop-text l = record {
  counted : l.line ≡ l.text-index;
  few : length l.text-items ≤ 16777217;
  read : ReadSo l.text-items (groups_in 0 [] (answers l.text-items)) l.text-index l.groups.items l.requests.items;
}
