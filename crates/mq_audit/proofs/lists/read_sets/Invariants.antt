use Rattle.std.proofs.Common.{◌≡◌, ◌≤◌, ℕ, List, drop}
use Rattle.std.specs.Prelude.{map}
use Rattle.mq_blocks.specs.Geometry.{homes_of}
use Rattle.mq_audit.specs.Lists.{rising_in, content_in, sets_in}
use Rattle.mq_audit.proofs.ListsReading.{before}
use Rattle.mq_audit.proofs.lists.read_sets.Given as goal

-- the words so far are these blocks, and the next is not below this one
abbrev pub invariant-loop-word : goal.invariant-loop-word
invariant-loop-word l = record {
  low : l.low ≤ homes_of l.geometry;
  read : sets_in l.geometry 0 (map (λ w. w.now) l.words) ≡ before l.sets.items (rising_in (λ (s : ℕ × List ℕ). s.0) (content_in l.geometry) l.low (map (λ w. w.now) (drop l.word-index l.words)));
}
