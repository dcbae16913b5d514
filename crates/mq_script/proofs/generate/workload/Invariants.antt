use Rattle.std.proofs.Common.{◌≡◌, ◌-◌, ◌++◌}
use Rattle.mq_script.specs.Workloads.{scripts_from, workload_of}
use Rattle.mq_script.proofs.generate.workload.Given as goal

-- with those of the threads that are left, the scripts are all
abbrev pub invariant-loop-thread : goal.invariant-loop-thread
invariant-loop-thread l = l.scripts.items ++ scripts_from (l.fn.threads - l.thread) l.fn.seed l.thread l.fn.groups ≡ workload_of l.fn.seed l.fn.threads l.fn.groups
