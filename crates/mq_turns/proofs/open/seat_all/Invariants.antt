use Rattle.std.proofs.Common.{◌≡◌, ℕ, ◌+◌, ◌-◌, ◌≤◌, [], Some, vec_len, vec_capacity}
use Rattle.std.specs.Prelude.{slice_get}
use Rattle.mq_turns.specs.Desk.{opening_of, laying, fresh}
use Rattle.mq_turns.proofs.open.seat_all.Given as goal

abbrev pub invariant-loop : goal.invariant-loop
invariant-loop g l = record {
  table : l.place.table_id ≡ l.top.table_id;
  rest : l.place.me ≡ (laying (opening_of l.top.key) (l.chairs - (l.counter - 1)) (l.counter - 1) 0, []);
  range : (1 ≤ l.counter) × (l.counter ≤ l.chairs);
  list : (vec_len l.list + 1 ≡ l.counter) × (l.chairs ≤ vec_capacity l.list);
  each : (i : ℕ) (ch : _) → slice_get l.list.items i ≡ Some ch → (ch.place.table_id ≡ l.top.table_id) × (ch.place.me.0 ≡ fresh (opening_of l.top.key) i);
}
