use Rattle.std.proofs.Common.{inr, arith}
use Rattle.mq_recover.specs.Refusals.{ChainOutside}
use Rattle.mq_recover.proofs.chain.follow.Goals as goal

pub returns-in-None-clause-refused : goal.returns-in-None-clause-refused
returns-in-None-clause-refused g c = inr (ChainOutside (omega (arith, c.if-newest-base.false, c.base.view_is)) c.in-None.ensures)
