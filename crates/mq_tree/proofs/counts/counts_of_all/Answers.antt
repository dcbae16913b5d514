use Rattle.std.proofs.Common.{◌^◌, ap, arith}
use Rattle.mq_tree.specs.Counts.{counts_of}
use Rattle.mq_tree.specs.declared.counts.TreeCounts.{TreeCounts}
use Rattle.mq_tree.specs.Trees.{kept}
use Rattle.mq_tree.proofs.CountsSums.{counts-are, few-directories, few-files, more-below, sum-more, sum-whole}
use Rattle.mq_tree.proofs.counts.counts_of_all.Goals as goal

pub overflow_add-counts : goal.overflow_add-counts
overflow_add-counts c =
    let low = more-below (λ b. (counts_of b).directories) (2 ^ 64) c.args.contents.now c.loop-content.content-index _ _ c.content-item.result
    (few-directories (kept c.args.contents.now) c.requires.few) c.loop-content-test.true c.content-item.is c.loop-content.invariant.directories (ap (λ (t : TreeCounts). t.directories) c.counts_of_one-one.ensures) in
    omega (arith, low)

pub overflow_add-counts-in-loop-content : goal.overflow_add-counts-in-loop-content
overflow_add-counts-in-loop-content c =
    let low = more-below (λ b. (counts_of b).files) (2 ^ 64) c.args.contents.now c.loop-content.content-index _ _ c.content-item.result
    (few-files (kept c.args.contents.now) c.requires.few) c.loop-content-test.true c.content-item.is c.loop-content.invariant.files (ap (λ (t : TreeCounts). t.files) c.counts_of_one-one.ensures) in
    omega (arith, low)

pub overflow_add-counts-in-loop-content-2 : goal.overflow_add-counts-in-loop-content-2
overflow_add-counts-in-loop-content-2 c =
    let low = more-below (λ b. (counts_of b).bytes) (2 ^ 64) c.args.contents.now c.loop-content.content-index _ _ c.content-item.result
    c.requires.bytes c.loop-content-test.true c.content-item.is c.loop-content.invariant.bytes (ap (λ (t : TreeCounts). t.bytes) c.counts_of_one-one.ensures) in
    omega (arith, low)

pub loop-content-preserved : goal.loop-content-preserved
loop-content-preserved c = record {
  directories = sum-more (λ b. (counts_of b).directories) c.args.contents.now c.loop-content.content-index _ _ c.content-item.result c.loop-content-test.true c.content-item.is c.loop-content.invariant.directories (ap (λ (t : TreeCounts). t.directories) c.counts_of_one-one.ensures);
  files = sum-more (λ b. (counts_of b).files) c.args.contents.now c.loop-content.content-index _ _ c.content-item.result c.loop-content-test.true c.content-item.is c.loop-content.invariant.files (ap (λ (t : TreeCounts). t.files) c.counts_of_one-one.ensures);
  bytes = sum-more (λ b. (counts_of b).bytes) c.args.contents.now c.loop-content.content-index _ _ c.content-item.result c.loop-content-test.true c.content-item.is c.loop-content.invariant.bytes (ap (λ (t : TreeCounts). t.bytes) c.counts_of_one-one.ensures);
}

pub returns : goal.returns
returns c =
    let past = c.loop-content-test.false in
    let end = c.loop-content.auto.content-index-end in
    let i = c.loop-content.content-index in
    let cs = c.args.contents.now in
    let directories = sum-whole (λ b. (counts_of b).directories) cs i c.loop-content.counts.directories (λ low. absurd (omega arith)) end c.loop-content.invariant.directories in
    let files = sum-whole (λ b. (counts_of b).files) cs i c.loop-content.counts.files (λ low. absurd (omega arith)) end c.loop-content.invariant.files in
    let bytes = sum-whole (λ b. (counts_of b).bytes) cs i c.loop-content.counts.bytes (λ low. absurd (omega arith)) end c.loop-content.invariant.bytes in
    counts-are c.loop-content.counts _ _ _ directories files bytes
