use Rattle.mq_script.proofs.Spelled.{agrees_spells}
use Rattle.mq_script.proofs.read.read_script.Goals as goal

pub returns-clause-spelled : goal.returns-clause-spelled
returns-clause-spelled c = agrees_spells c.args.bytes.now c.read_groups.result c.read_groups.ensures
