use Rattle.mq_queue_side.proofs.Roots.{root_stays, root_goes}
use Rattle.mq_queue_side.proofs.root.Root.write_home.Goals as goal

pub returns-clause-stays : goal.returns-clause-stays
returns-clause-stays g c = root_stays (g.P.Port.state c.args.self.now.port) (g.P.Port.state c.write_home.new.self) (g.P.Port.faults c.args.self.now.port) (g.P.Port.faults c.write_home.new.self) c.args.lba c.args.block c.write_home.result c.write_home.ensures

pub returns-clause-goes : goal.returns-clause-goes
returns-clause-goes g c = root_goes (g.P.Port.state c.args.self.now.port) (g.P.Port.state c.write_home.new.self) (g.P.Port.faults c.args.self.now.port) (g.P.Port.faults c.write_home.new.self) c.args.lba c.args.block c.write_home.result c.write_home.ensures
