use Rattle.std.proofs.Common.{◌≡◌, take}
use Rattle.std.specs.List.{sum_by}
use Rattle.mq_tree.specs.Counts.{counts_of}
use Rattle.mq_tree.specs.Trees.{body_kept}
use Rattle.mq_tree.proofs.counts.counts_of_all.Given as goal

abbrev pub invariant-loop-content : goal.invariant-loop-content
invariant-loop-content l = record {
  directories : l.counts.directories ≡ sum_by (λ c. (counts_of (body_kept c)).directories) (take l.content-index l.contents);
  files : l.counts.files ≡ sum_by (λ c. (counts_of (body_kept c)).files) (take l.content-index l.contents);
  bytes : l.counts.bytes ≡ sum_by (λ c. (counts_of (body_kept c)).bytes) (take l.content-index l.contents);
}
