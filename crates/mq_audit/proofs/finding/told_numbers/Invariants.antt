use Rattle.std.proofs.Common.{◌≡◌, ℕ, List, length, drop}
use Rattle.mq_audit.specs.Findings.{HasTold, told_after, told_in}
use Rattle.mq_audit.proofs.finding.told_numbers.Given as goal

-- the table says what the events so far tell
abbrev pub invariant-loop-event : goal.invariant-loop-event
invariant-loop-event l = record {
  long : length l.told.items ≡ length l.events;
  numbers : List ℕ;
  left : told_in l.events ≡ told_after (drop l.event-index l.events) numbers;
  table : HasTold l.base numbers l.told.items;
}
