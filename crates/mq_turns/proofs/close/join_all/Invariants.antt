use Rattle.std.proofs.Common.{◌≡◌, ℕ, ◌+◌, ◌<◌, ◌≤◌, ◌++◌, [], map, vec_len}
use Rattle.std.specs.Prelude.{All}
use Rattle.mq_blocks.specs.Totals.{total}
use Rattle.mq_turns.specs.Lists.{Each}
use Rattle.mq_turns.specs.Desk.{drawn_of, read_of, charged_of, IsInOrder}
use Rattle.mq_turns.specs.AtDesk.{view}
use Rattle.mq_turns.proofs.close.join_all.Given as goal

abbrev pub invariant-loop-other : goal.invariant-loop-other
invariant-loop-other g l = record {
  table : (l.place.table_id ≡ l.initial.place.table_id) × (l.place.id ≡ l.initial.place.id) × (l.place.me.1 ≡ []) × (l.place.me.0.held ≡ []) × (0 < l.place.me.0.parts);
  theirs : All (λ ch. (ch.place.table_id ≡ l.top.table_id) × ((view ch).held ≡ [])) l.chairs.items;
  order : Each (IsInOrder g.M.Machine.meaning) (map (λ ch. view ch) l.chairs.items) → Each (IsInOrder g.M.Machine.meaning) (map (λ ch. view ch) l.initial.chairs.items);
  parts : l.place.me.0.parts + total (λ v. v.parts) (map (λ ch. view ch) l.chairs.items) ≡ l.initial.place.me.0.parts + total (λ v. v.parts) (map (λ ch. view ch) l.initial.chairs.items);
  drawn : l.place.me.0.drawn ++ drawn_of (map (λ ch. view ch) l.chairs.items) ≡ l.initial.place.me.0.drawn ++ drawn_of (map (λ ch. view ch) l.initial.chairs.items);
  charged : l.place.me.0.reading.charged ++ charged_of (map (λ ch. view ch) l.chairs.items) ≡ l.initial.place.me.0.reading.charged ++ charged_of (map (λ ch. view ch) l.initial.chairs.items);
  done : (n : ℕ) → l.place.me.0.reading.done ≤ n → Each (λ v. v.reading.done ≤ n) (map (λ ch. view ch) l.chairs.items) → (l.initial.place.me.0.reading.done ≤ n) × Each (λ v. v.reading.done ≤ n) (map (λ ch. view ch) l.initial.chairs.items);
  based : (n : ℕ) → l.place.me.0.reading.base ≤ n → Each (λ v. v.reading.base ≤ n) (map (λ ch. view ch) l.chairs.items) → (l.initial.place.me.0.reading.base ≤ n) × Each (λ v. v.reading.base ≤ n) (map (λ ch. view ch) l.initial.chairs.items);
  seen : (n : ℕ) → l.place.me.0.seen ≤ n → Each (λ v. v.seen ≤ n) (map (λ ch. view ch) l.chairs.items) → (l.initial.place.me.0.seen ≤ n) × Each (λ v. v.seen ≤ n) (map (λ ch. view ch) l.initial.chairs.items);
  read : l.place.me.0.read ++ read_of (map (λ ch. view ch) l.chairs.items) ≡ l.initial.place.me.0.read ++ read_of (map (λ ch. view ch) l.initial.chairs.items);
}

abbrev pub decreases-loop-other : goal.decreases-loop-other
decreases-loop-other g l = vec_len l.chairs
