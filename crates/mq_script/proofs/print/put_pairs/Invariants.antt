use Rattle.std.proofs.Common.{◌≡◌, ◌++◌, drop}
use Rattle.mq_script.specs.Printing.{pairs_text}
use Rattle.mq_script.proofs.print.put_pairs.Given as goal

-- with the text of those that are left, it is the whole text
abbrev pub invariant-loop-byte : goal.invariant-loop-byte
invariant-loop-byte l = l.out.items ++ pairs_text (drop l.byte-index l.bytes) ≡ l.initial.out.items ++ pairs_text l.bytes
