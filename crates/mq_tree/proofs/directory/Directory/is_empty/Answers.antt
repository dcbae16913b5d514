use Rattle.mq_tree.proofs.DirectoriesTwins.{empty-names}
use Rattle.mq_tree.proofs.directory.Directory.is_empty.Goals as goal

pub returns : goal.returns
returns c = empty-names c.self.inside.links.entries c.args.self.now c.is_empty.result c.self.view_is c.is_empty.ensures
