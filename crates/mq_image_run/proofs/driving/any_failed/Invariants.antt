use Rattle.std.proofs.Common.{◌≡◌, drop, ◌++◌, ◌∷◌, []}
use Rattle.mq_image_run.specs.Drives.{has_failed}
use Rattle.mq_image_ops.specs.Cuts.{row_of}
use Rattle.mq_image_run.proofs.driving.any_failed.Given as goal

-- none of those before has failed
abbrev pub invariant-loop-port : goal.invariant-loop-port
invariant-loop-port l = has_failed (row_of l.ports) ≡ has_failed (drop l.port-index l.port-items ++ l.ports.root ∷ [])
