use Rattle.std.proofs.Common.{ap, arith}
use Rattle.mq_tree.specs.declared.counts.TreeCounts.{TreeCounts}
use Rattle.mq_check.proofs.Counted.{small, totals}
use Rattle.mq_check.proofs.checks.judge_tree.Goals as goal

pub overflow_cast-result : goal.overflow_cast-result
overflow_cast-result c =
    let low = small c.args.geometry c.args.blocks.now c.args.tree.now c.requires.tree c.requires.alike in
    let is = ap (λ (t : TreeCounts). t.directories) c.counts-counts.ensures in
    omega (arith, low, is)

pub overflow_add-result : goal.overflow_add-result
overflow_add-result c =
    let low = small c.args.geometry c.args.blocks.now c.args.tree.now c.requires.tree c.requires.alike in
    let is = ap (λ (t : TreeCounts). t.directories) c.counts-counts.ensures in
    omega (arith, low, is)

pub overflow_cast-result-2 : goal.overflow_cast-result-2
overflow_cast-result-2 c =
    let low = small c.args.geometry c.args.blocks.now c.args.tree.now c.requires.tree c.requires.alike in
    let is = ap (λ (t : TreeCounts). t.files) c.counts-counts.ensures in
    omega (arith, low, is)

pub returns : goal.returns
returns c = record {
  tree = _;
  is = c.requires.tree;
  totals = λ v laid.
      let all = totals c.args.geometry c.args.blocks.now c.args.tree.now v laid (c.requires.alike v laid) in
      let dirs = ap (λ (t : TreeCounts). t.directories) c.counts-counts.ensures in
      let files = ap (λ (t : TreeCounts). t.files) c.counts-counts.ensures in
      let first = all.directories in
      let second = all.numbers in
      let third = all.used in
      let blocks = c.marked_blocks.ensures in
      record { directories = omega (arith, dirs, first); numbers = omega (arith, files, second); used = omega (arith, blocks, third) };
}
