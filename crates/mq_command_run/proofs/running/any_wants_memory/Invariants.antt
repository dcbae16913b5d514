use Rattle.std.proofs.Common.{◌≡◌, drop}
use Rattle.mq_command_run.specs.RunsScripts.{are_wanting}
use Rattle.mq_command_run.proofs.running.any_wants_memory.Given as goal

-- it depends on those that are left
abbrev pub invariant-loop-told : goal.invariant-loop-told
invariant-loop-told l = are_wanting l.answers ≡ are_wanting (drop l.told-index l.answers)
