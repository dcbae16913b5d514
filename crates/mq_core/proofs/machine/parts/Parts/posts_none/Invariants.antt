use Rattle.std.proofs.Common.{◌≡◌, drop}
use Rattle.mq_core.specs.Bases.{post_none}
use Rattle.mq_core.specs.Parts.{whole}
use Rattle.mq_core.proofs.machine.parts.Parts.posts_none.Given as goal

-- the rest of the ports decides
abbrev pub invariant-loop-port : goal.invariant-loop-port
invariant-loop-port l = post_none (whole l.self) l.base l.self.ports.now ≡ post_none (whole l.self) l.base (drop l.port-index l.self.ports.now)
