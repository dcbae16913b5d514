use Rattle.std.proofs.Common.{◌≤◌, ◌/◌}
use Rattle.mq_exec.specs.Overwrites.{IsOverwritten}
use Rattle.mq_inodes.specs.Edits.{IsOver}
use Rattle.mq_exec.proofs.rewrite.overwrite.Given as goal

abbrev pub invariant-loop-place : goal.invariant-loop-place
invariant-loop-place l = record {
  over : IsOver l.fn.working l.working;
  first : l.at / 4096 ≤ l.place;
  written : IsOverwritten l.fn.working l.working l.blocks l.at l.bytes l.place;
}
