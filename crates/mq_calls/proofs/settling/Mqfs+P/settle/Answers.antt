use Rattle.mq_turns.specs.AtDesk.{view}
use Rattle.mq_calls.proofs.Helping.{still-at-ease}
use Rattle.mq_calls.proofs.settling.Mqfs+P.settle.Goals as goal

pub returns-clause-ready : goal.returns-clause-ready
returns-clause-ready g c = still-at-ease (view c.args.helper.now.chair) (view c.settle.new.aide.chair) c.settle.ensures.reads c.requires.ready
