use Rattle.std.proofs.Common.{◌≡◌, take}
use Rattle.std.specs.Prelude.{map}
use Rattle.mq_script.proofs.path.read_path.Given as goal

-- the names so far are these parts
abbrev pub invariant-loop-part : goal.invariant-loop-part
invariant-loop-part l = l.names.items ≡ map (λ x. x.now) (take l.part-index l.part-items)
