use Rattle.std.proofs.Common.{◌≡◌, ◌≤◌, map, take, length}
use Rattle.std.specs.Prelude.{vec_capacity}
use Rattle.mq_tie.proofs.closing.done_of.Given as goal

abbrev pub invariant-loop-side : goal.invariant-loop-side
invariant-loop-side g l = record {
  made : l.done.items ≡ map (λ s. s.done) (take l.side-index l.sides);
  long : length l.done.items ≡ l.side-index;
  room : length l.sides ≤ vec_capacity l.done;
}
