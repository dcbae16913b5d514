use Rattle.std.proofs.Common.{◌≡◌, ◌<◌, ℕ, length, Some}
use Rattle.mq_tie.specs.Stored.{IsNoted, drawn_at, stored_by}
use Rattle.mq_tie.proofs.order.note_queue.Given as goal

abbrev pub invariant-loop-place : goal.invariant-loop-place
invariant-loop-place g l = record {
  long : length l.order.items ≡ length l.initial.order.items;
  kept : (n : ℕ) → IsNoted (stored_by l.sides) l.base l.initial.order.items n → IsNoted (stored_by l.sides) l.base l.order.items n;
  noted : (place : ℕ) (d : _) → place < l.place → drawn_at (stored_by l.sides) (record { queue = l.queue; place = place }) ≡ Some d → IsNoted (stored_by l.sides) l.base l.order.items d.number;
}
