use Rattle.std.proofs.Common.{◌≡◌, ◌+◌, ◌≤◌, List, length, vec_capacity}
use Rattle.std.specs.Prelude.{ℕ, Option}
use Rattle.mq_notices.specs.Notices.{Merged, notices_from}
use Rattle.mq_notices.proofs.Interleaving.{MergesOn}
use Rattle.mq_notices.proofs.merging.merge.Given as goal

abbrev pub invariant-loop-index : goal.invariant-loop-index
invariant-loop-index l = record {
  on : (pushed : List (Option ℕ)) → Merged l.mine l.theirs (notices_from 0 pushed) → MergesOn l.mine l.theirs l.index l.a l.b l.into.items pushed;
  places : l.a + l.b ≡ l.index;
  first_in : l.a ≤ length l.mine;
  second_in : l.b ≤ length l.theirs;
  few : length l.into.items ≤ l.index;
  room : vec_capacity l.into ≡ vec_capacity l.fn.into;
}
