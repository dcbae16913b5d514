use Rattle.std.proofs.Common.{◌≡◌, ◌+◌, ℕ, [], length, All}
use Rattle.mq_drive.specs.Fuse.{above, below}
use Rattle.mq_blocks.specs.Totals.{total}
use Rattle.mq_drive.proofs.fuse.join_all.Given as goal

-- what is joined and what is left are together what there was
abbrev pub invariant-loop-other : goal.invariant-loop-other
invariant-loop-other l = record {
  table : (l.place.table_id ≡ l.initial.place.table_id) × (l.place.id ≡ l.initial.place.id) × (l.place.me.1 ≡ []);
  theirs : All (λ s. s.place.table_id ≡ l.shared.table_id) l.seats.items;
  count : l.place.me.0.seats + length l.seats.items ≡ l.initial.place.me.0.seats + length l.initial.seats.items;
  below : (n : ℕ) → below n l.place.me.0.drawn + total (λ s. below n s.place.me.0.drawn) l.seats.items ≡ below n l.initial.place.me.0.drawn + total (λ s. below n s.place.me.0.drawn) l.initial.seats.items;
  above : (n : ℕ) → above n l.place.me.0.drawn + total (λ s. above n s.place.me.0.drawn) l.seats.items ≡ above n l.initial.place.me.0.drawn + total (λ s. above n s.place.me.0.drawn) l.initial.seats.items;
}

abbrev pub decreases-loop-other : goal.decreases-loop-other
decreases-loop-other l = goal.left-loop-other l
