use Rattle.std.proofs.Common.{◌≡◌, ◌+◌, drop, length}
use Rattle.mq_recover.specs.Copies.{noted}
use Rattle.mq_recover.proofs.copies.note.Given as goal

-- what is left leads to the same copies
abbrev pub invariant-loop-b : goal.invariant-loop-b
invariant-loop-b l = record {
  goes_on : noted l.copies l.queue l.place (drop l.b-index l.logged) ≡ noted l.fn.copies l.queue l.first l.logged;
  place_is : l.place ≡ l.first + l.b-index;
  same : length l.copies ≡ length l.fn.copies;
}
