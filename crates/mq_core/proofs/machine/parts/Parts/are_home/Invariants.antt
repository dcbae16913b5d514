use Rattle.std.proofs.Common.{◌≡◌, ◌<◌, ℕ, List, Some}
use Rattle.mq_blocks.specs.Geometry.{zone_of, home_lba}
use Rattle.mq_ledger.specs.State.{port_of}
use Rattle.mq_core.specs.Bases.{due_at, Holds}
use Rattle.mq_core.specs.Parts.{whole}
use Rattle.mq_core.proofs.machine.parts.Parts.are_home.Given as goal

-- the blocks so far hold what is due
abbrev pub invariant-loop-block : goal.invariant-loop-block
invariant-loop-block l = (let s = whole l.self in (x : ℕ) (content : List ℕ) → x < l.block → due_at s l.base x ≡ Some content → Holds (port_of s (zone_of s.geometry x)) (home_lba s.geometry x) content)
