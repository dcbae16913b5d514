use Rattle.std.proofs.Common.{refl}
use Rattle.mq_blocks.specs.Geometry.{meta_of}
use Rattle.mq_inodes.specs.Pages.{held_pages, view_of}
use Rattle.mq_inodes.proofs.Differences.{differs, freed_of, have-kinds, taken-end, write_of}
use Rattle.mq_inodes.proofs.working.Working.difference.Goals as goal

pub returns-clause-differs : goal.returns-clause-differs
unfolding view_of
returns-clause-differs c =
    let w = c.args.self in
    let view = held_pages w.held.now.cells in
    let es = w.changed.entries in
    let none = c.in-None.ensures.steps.0 in
    differs w view c.loop-b.writes.items c.loop-b.frees.items (λ b. refl) c.into_iter-b-iterator.ensures.into_iter_gives.5
    (taken-end (write_of (meta_of w.geometry) view) c.loop-b.writes.items c.loop-b.b-iterator es c.loop-b.invariant.writes none)
    (taken-end (freed_of view) c.loop-b.frees.items c.loop-b.b-iterator es c.loop-b.invariant.frees none)

pub returns-clause-kinds : goal.returns-clause-kinds
returns-clause-kinds c =
    let w = c.args.self in
    let view = held_pages w.held.now.cells in
    have-kinds w view c.loop-b.writes.items c.into_iter-b-iterator.ensures.into_iter_gives.5
    (taken-end (write_of (meta_of w.geometry) view) c.loop-b.writes.items c.loop-b.b-iterator w.changed.entries c.loop-b.invariant.writes c.in-None.ensures.steps.0)
