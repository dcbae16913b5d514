use Rattle.std.proofs.Common.{◌≡◌, ◌<◌, ◌≤◌, ◌^◌, length}
use Rattle.mq_kv_text.specs.Files.{lines_so_far}
use Rattle.mq_kv_text.proofs.FilesRead.{HasRead}
use Rattle.mq_kv_text.proofs.read.read_lines.Given as goal

-- the lines so far are those of these groups, and of these operations of one that has not ended
abbrev pub invariant-loop-text : goal.invariant-loop-text
invariant-loop-text l = record {
  counted : l.line ≡ l.text-index;
  inside : l.text-index ≤ length l.text-items;
  few : length l.text-items < 2 ^ 63;
  read : HasRead l.text-items l.text-index (lines_so_far l.groups.items l.ops.items);
}
