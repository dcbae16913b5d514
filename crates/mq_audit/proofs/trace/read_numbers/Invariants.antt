use Rattle.std.proofs.Common.{◌≡◌, drop}
use Rattle.std.specs.Prelude.{map}
use Rattle.mq_audit.specs.Traces.{numbers_in}
use Rattle.mq_audit.proofs.ListsReading.{before}
use Rattle.mq_audit.proofs.trace.read_numbers.Given as goal

-- the words so far are these numbers
abbrev pub invariant-loop-word : goal.invariant-loop-word
invariant-loop-word l = numbers_in (map (λ w. w.now) l.words) ≡ before l.numbers.items (numbers_in (map (λ w. w.now) (drop l.word-index l.words)))
