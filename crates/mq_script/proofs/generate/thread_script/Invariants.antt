use Rattle.std.proofs.Common.{◌≡◌, ◌+◌, ◌-◌, ◌++◌}
use Rattle.mq_script.specs.Workloads.{groups_from, script_of}
use Rattle.mq_script.proofs.generate.thread_script.Given as goal

-- with those that are left, the groups are all
abbrev pub invariant-loop-number : goal.invariant-loop-number
invariant-loop-number l = l.all.items ++ groups_from (l.fn.groups - l.number) l.fn.thread (l.number + 1) l.fn.groups l.rng ≡ (script_of l.fn.seed l.fn.thread l.fn.groups).groups
