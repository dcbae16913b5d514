use Rattle.std.proofs.Common.{◌<◌, ◌^◌, None}
use Rattle.mq_area.specs.declared.descriptor.PlaceIs.TheVariants.{Index}
use Rattle.mq_recover.specs.Refusals.{AreFoundBy}
use Rattle.mq_recover.proofs.chain.follow_from.Given as goal

-- these were found, and the next is expected
abbrev pub invariant-loop-number : goal.invariant-loop-number
invariant-loop-number g l = record {
  fits : l.number < 2 ^ 64;
  found : AreFoundBy g.D.Descriptors.accepts l.fn.geometry (g.P.Port.state l.port) l.fn.queue l.fn.base l.fn.start.number (Index l.fn.index) None l.transactions.items l.number l.place l.newest;
}

abbrev pub decreases-loop-number : goal.decreases-loop-number
decreases-loop-number g l = l.number
