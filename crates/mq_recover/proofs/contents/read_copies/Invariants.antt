use Rattle.std.proofs.Common.{◌≡◌, ◌++◌, drop}
use Rattle.mq_blocks.specs.Geometry.{area_of}
use Rattle.mq_recover.specs.Drives.{states, view_over}
use Rattle.mq_recover.specs.RecoverHomes.{writes_from}
use Rattle.mq_recover.proofs.contents.read_copies.Given as goal

-- the writes so far and those of the copies that follow are all
abbrev pub invariant-loop-b : goal.invariant-loop-b
invariant-loop-b g l =
    let area = (view_over l.fn.geometry (states g.P.Port.state l.ports.queues.items l.ports.root)).area in
    l.writes.items ++ writes_from area (area_of l.fn.geometry) l.b (drop l.b l.copies) ≡ writes_from area (area_of l.fn.geometry) 0 l.fn.copies
