use Rattle.mq_core.proofs.machine.bases.store_base.Goals as goal

pub returns : goal.returns
returns c = (c.may_store_base.ensures.0 c.if-not-may_store_base.false, c.store_base.ensures)
