use Rattle.std.proofs.Common.{ap, ◌∙◌}
use Rattle.mq_tree.specs.Trees.{kept}
use Rattle.mq_tree.proofs.TreesWalkways.{content-at}
use Rattle.mq_tree.proofs.tree.Tree.content_at.Goals as goal

pub returns : goal.returns
returns c = content-at c.deref.result.now c.args.self.now c.args.place c.get.result (ap kept c.deref.ensures.value ∙ c.self.view_is) c.get.ensures.lookup
