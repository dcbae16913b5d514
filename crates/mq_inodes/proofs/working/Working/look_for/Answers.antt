use Rattle.std.proofs.lemmas.Result.{on_ok_weaker}
use Rattle.mq_inodes.specs.Pages.{pages_of}
use Rattle.mq_inodes.proofs.MissingPages.{all-held}
use Rattle.mq_inodes.proofs.working.Working.look_for.Goals as goal

pub returns-clause-ok : goal.returns-clause-ok
returns-clause-ok c = on_ok_weaker c.look_for_all.result (all-held (pages_of c.args.self.now) c.args.blocks.now c.requires) c.look_for_all.ensures.ok
