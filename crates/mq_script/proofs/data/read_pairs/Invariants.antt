use Rattle.std.proofs.Common.{◌≡◌, ◌*◌, drop}
use Rattle.mq_script.specs.Words.{pairs_in}
use Rattle.mq_script.proofs.WordsData.{with_front}
use Rattle.mq_script.proofs.data.read_pairs.Given as goal

-- these bytes, and those of the pairs that are left, are all
abbrev pub invariant-loop-i : goal.invariant-loop-i
invariant-loop-i l = with_front l.bytes.items (pairs_in (drop (2 * l.i) l.digits)) ≡ pairs_in l.digits
