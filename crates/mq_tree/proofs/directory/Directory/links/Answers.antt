use Rattle.std.proofs.Common.{ap, map}
use Rattle.mq_tree.specs.Directories.{as_slots}
use Rattle.mq_tree.specs.ListText.{entry_of_link}
use Rattle.mq_tree.proofs.ListText.{links-sorted}
use Rattle.mq_tree.proofs.directory.Directory.links.Goals as goal

pub returns : goal.returns
returns c = links-sorted c.self.inside.links.entries (map entry_of_link c.loop-name.found.items) c.args.self.now (as_slots c.loop-name.name-iterator) c.len.ensures.ordered c.self.view_is c.loop-name.invariant (ap as_slots c.in-None.ensures.steps.0)
