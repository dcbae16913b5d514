use Rattle.std.proofs.Common.{◌≡◌, ◌<◌, ℕ, length, Some}
use Rattle.mq_tie.specs.Stored.{IsNoted, drawn_at, stored_by}
use Rattle.mq_tie.proofs.order.order_of.Given as goal

abbrev pub invariant-loop-queue : goal.invariant-loop-queue
invariant-loop-queue g l = record {
  long : length l.order.items ≡ l.count;
  noted : (queue place : ℕ) (d : _) → queue < l.queue → drawn_at (stored_by l.sides) (record { queue = queue; place = place }) ≡ Some d → IsNoted (stored_by l.sides) l.base l.order.items d.number;
}
