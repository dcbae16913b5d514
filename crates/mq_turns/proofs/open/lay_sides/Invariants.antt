use Rattle.std.proofs.Common.{◌≡◌, ℕ, ◌+◌, ◌≤◌, [], Some, length, vec_len}
use Rattle.std.specs.Prelude.{slice_get}
use Rattle.mq_turns.specs.Desk.{opening_of, laying}
use Rattle.mq_turns.proofs.open.lay_sides.Given as goal

abbrev pub invariant-loop-side : goal.invariant-loop-side
invariant-loop-side g l = record {
  table : l.place.table_id ≡ l.initial.place.table_id;
  holds : l.place.me ≡ (laying (opening_of l.top.key) l.top.key.chairs 0 (l.pages + vec_len l.sides), []);
  short : vec_len l.sides ≤ length l.top.key.sides.value.items;
  front : (q : ℕ) (x : _) → slice_get l.sides.items q ≡ Some x → slice_get l.top.key.sides.value.items q ≡ Some x;
}

abbrev pub decreases-loop-side : goal.decreases-loop-side
decreases-loop-side g l = vec_len l.sides
