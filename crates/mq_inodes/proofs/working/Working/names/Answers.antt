use Rattle.std.proofs.Common.{rules}
use Rattle.std.proofs.lemmas.List.Sorted.{answers_always}
use Rattle.mq_inodes.specs.Dirs.{slots_at}
use Rattle.mq_inodes.specs.Pages.{pages_of}
use Rattle.mq_inodes.proofs.DirsSorting.{before, names-ordered, sorted-names}
use Rattle.mq_inodes.proofs.working.Working.names.Goals as goal

pub returns : goal.returns
returns c =
    sorted-names (slots_at (pages_of c.args.self.now) c.args.blocks.now) c.in_ok-names.names.items c.sort_by.new.self.items c.in_ok-names.ensures c.sort_by.ensures.permutation
    (c.in_ok-sort_by.ensures.sorted before names-ordered (answers_always _ _ _ (λ f a r k q. search rules)))
