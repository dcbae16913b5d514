use Rattle.std.proofs.Common.{ap, length, sym, rules, ◌∙◌, ◌≡◌}
use Rattle.mq_tree.proofs.TreesKeeping.{length-kept}
use Rattle.mq_tree.proofs.tree.Tree.count.Goals as goal

pub returns : goal.returns
returns c =
    let n : c.len.result ≡ length c.self.inside.contents.items = search rules in
    n ∙ sym (length-kept c.self.inside.contents.items) ∙ ap length c.self.view_is
