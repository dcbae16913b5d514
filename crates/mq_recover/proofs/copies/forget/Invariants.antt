use Rattle.std.proofs.Common.{◌≡◌, drop, length}
use Rattle.mq_recover.specs.Copies.{forgotten}
use Rattle.mq_recover.proofs.copies.forget.Given as goal

-- what is left leads to the same copies
abbrev pub invariant-loop-b : goal.invariant-loop-b
invariant-loop-b l = record {
  goes_on : forgotten l.copies (drop l.b-index l.revoked) ≡ forgotten l.fn.copies l.revoked;
  same : length l.copies ≡ length l.fn.copies;
}
