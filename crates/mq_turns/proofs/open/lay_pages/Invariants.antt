use Rattle.std.proofs.Common.{◌≡◌, ℕ, ◌≤◌, [], Some, length, vec_len}
use Rattle.std.specs.Prelude.{slice_get}
use Rattle.mq_turns.specs.Desk.{opening_of, laying}
use Rattle.mq_turns.proofs.open.lay_pages.Given as goal

abbrev pub invariant-loop-page : goal.invariant-loop-page
invariant-loop-page g l = record {
  table : l.place.table_id ≡ l.initial.place.table_id;
  holds : l.place.me ≡ (laying (opening_of l.top.key) l.top.key.chairs 0 (vec_len l.pages), []);
  short : vec_len l.pages ≤ length l.top.key.pages.value.items;
  front : (b : ℕ) (x : _) → slice_get l.pages.items b ≡ Some x → slice_get l.top.key.pages.value.items b ≡ Some x;
}

abbrev pub decreases-loop-page : goal.decreases-loop-page
decreases-loop-page g l = vec_len l.pages
