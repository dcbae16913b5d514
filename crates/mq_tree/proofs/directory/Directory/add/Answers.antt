use Rattle.mq_tree.proofs.Directories.{added, led}
use Rattle.mq_tree.proofs.directory.Directory.add.Goals as goal

pub returns-clause-is_new : goal.returns-clause-is_new
returns-clause-is_new c = added c.self.inside.links.entries c.insert.new.self.entries c.args.self.now c.in_ok-key.key c.args.name.now c.args.inode c.in_ok-before.before c.is_none.result c.self.view_is c.in_ok-key.ensures.items c.in_ok-before.ensures.old c.in_ok-before.ensures.entries c.is_none.ensures

pub returns-clause-leads : goal.returns-clause-leads
returns-clause-leads c = led c.self.inside.links.entries c.insert.new.self.entries c.args.self.now c.in_ok-key.key c.args.name.now c.args.inode c.self.view_is c.in_ok-key.ensures.items c.in_ok-before.ensures.entries
