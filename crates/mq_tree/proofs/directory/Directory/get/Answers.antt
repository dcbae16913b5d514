use Rattle.std.proofs.Common.{◌∙◌, ap}
use Rattle.mq_tree.specs.Volume.{find}
use Rattle.mq_tree.proofs.Directories.{find-lookup}
use Rattle.mq_tree.proofs.directory.Directory.get.Goals as goal

pub returns : goal.returns
returns c = c.copied.ensures ∙ c.get.ensures.value ∙ find-lookup c.self.inside.links.entries c.args.name.now ∙ ap (find c.args.name.now) c.self.view_is
