use Rattle.std.proofs.Common.{◌≡◌, ◌∙◌, ap, arith}
use Rattle.mq_tree.specs.Counts.{counts_of, counts_of_volume}
use Rattle.mq_tree.specs.Trees.{body_kept}
use Rattle.mq_tree.specs.Volume.{Body, Volume, body}
use Rattle.mq_tree.specs.declared.counts.TreeCounts.{TreeCounts}
use Rattle.mq_tree.proofs.CountsSums.{root-counted}
use Rattle.mq_tree.proofs.tree.Tree.counts.Goals as goal

pub overflow_sub-counts : goal.overflow_sub-counts
overflow_sub-counts c =
    let all : c.counts_of_all-counts.result.directories ≡ (counts_of_volume c.args.self.now).directories =
    ap (λ (t : TreeCounts). t.directories) c.counts_of_all-counts.ensures ∙ ap (λ (v : Volume). (counts_of_volume v).directories) c.contents.ensures.is in
    let one : (counts_of (body c.args.self.now 0)).directories ≡ 1 =
    ap (λ (b : Body). (counts_of b).directories) (c.in-Some-Dir.ensures ∙ ap body_kept c.in-Some-Dir.field-0-is) in
    let counted = root-counted c.args.self.now in
    omega (arith, all, one, counted)
