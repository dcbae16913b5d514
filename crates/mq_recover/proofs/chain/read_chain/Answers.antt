use Rattle.std.proofs.Common.{sym, ◌∙◌}
use Rattle.mq_recover.proofs.RecoverReadable.{own-port, chain-shown, chain-refused, chain-complete, chain-exact}
use Rattle.mq_recover.proofs.chain.read_chain.Goals as goal

pub returns-clause-ok : goal.returns-clause-ok
returns-clause-ok g c = chain-shown c.args.geometry _ _ c.args.base _ (own-port c.args.geometry (g.P.Port.state c.args.port.now) _ c.requires.port (sym c.in-Queue.is ∙ c.role.ensures)) c.read_own.ensures.ok

pub returns-clause-refused : goal.returns-clause-refused
returns-clause-refused g c = chain-refused c.args.geometry _ _ c.args.base _ (own-port c.args.geometry (g.P.Port.state c.args.port.now) _ c.requires.port (sym c.in-Queue.is ∙ c.role.ensures)) c.read_own.ensures.refused

pub returns-clause-complete : goal.returns-clause-complete
returns-clause-complete g c = chain-complete c.args.geometry _ _ c.args.base _ (own-port c.args.geometry (g.P.Port.state c.args.port.now) _ c.requires.port (sym c.in-Queue.is ∙ c.role.ensures)) c.read_own.ensures.ok c.read_own.ensures.refused

pub returns-clause-exact : goal.returns-clause-exact
returns-clause-exact g c = chain-exact c.args.geometry _ _ c.args.base _ (own-port c.args.geometry (g.P.Port.state c.args.port.now) _ c.requires.port (sym c.in-Queue.is ∙ c.role.ensures)) c.read_own.ensures.ok c.read_own.ensures.refused
