use Rattle.std.proofs.Common.{◌≡◌, ℕ, List, ◌+◌}
use Rattle.std.specs.Prelude.{filter, not}
use Rattle.std.specs.List.{range_with_len}
use Rattle.mq_blocks.specs.Journal.{is_among}
use Rattle.mq_audit.specs.Findings.{HasTold}
use Rattle.mq_audit.proofs.finding.untold.Given as goal

-- those so far
abbrev pub invariant-loop-at : goal.invariant-loop-at
invariant-loop-at l = (ns : List ℕ) → HasTold l.base ns l.told → l.waiting.items ≡ filter (λ n. not (is_among n ns)) (range_with_len (l.base + 1) l.at)
