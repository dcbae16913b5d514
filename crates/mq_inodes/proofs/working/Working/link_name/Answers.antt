use Rattle.std.proofs.Common.{List, ℕ, ap, ◌∙◌}
use Rattle.mq_inodes.specs.Dirs.{slots_at}
use Rattle.mq_inodes.specs.Pages.{pages_of}
use Rattle.mq_tree.specs.Requests.{unused}
use Rattle.mq_inodes.proofs.working.Working.link_name.Goals as goal

pub link_name_at-requires-clause-slot : goal.link_name_at-requires-clause-slot
link_name_at-requires-clause-slot c = c.unused-unused.ensures ∙ ap (λ (bs : List ℕ). unused 0 (slots_at (pages_of c.args.self.now) bs)) c.deref.ensures.value
