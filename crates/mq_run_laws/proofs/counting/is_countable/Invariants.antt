use Rattle.std.proofs.Common.{◌≡◌, ℕ, ◌<◌, ◌^◌, Some, length}
use Rattle.std.specs.Prelude.{slice_get}
use Rattle.mq_script.specs.Scripts.{Group}
use Rattle.mq_run_laws.proofs.counting.is_countable.Given as goal

-- the requests of the groups before can be counted
abbrev pub invariant-loop-group : goal.invariant-loop-group
invariant-loop-group l = (i : ℕ) (group : Group) → i < l.group-index → slice_get l.group-items i ≡ Some group → length group.requests < 2 ^ 32
