use Rattle.std.proofs.Common.{take}
use Rattle.mq_inodes.specs.Released.{Releases}
use Rattle.mq_inodes.proofs.working.Working.release.Given as goal

abbrev pub invariant-loop-b : goal.invariant-loop-b
invariant-loop-b l = Releases l.fn.self l.self (take l.b-index l.blocks)
