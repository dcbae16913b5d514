use Rattle.std.proofs.Common.{◌≡◌, ◌≤◌, ◌+◌, ◌-◌, [], length, vec_capacity, All}
use Rattle.mq_drive.specs.Fuse.{fresh}
use Rattle.mq_drive.proofs.fuse.seat_all.Given as goal

abbrev pub invariant-loop : goal.invariant-loop
invariant-loop l = record {
  place : (l.place.table_id ≡ l.shared.table_id) × (l.place.me ≡ (fresh (l.ports - (l.counter - 1)), []));
  count : (1 ≤ l.counter) × (l.counter ≤ l.ports) × (length l.seats.items + 1 ≡ l.counter) × (l.ports ≤ vec_capacity l.seats);
  seats : All (λ s. (s.place.table_id ≡ l.shared.table_id) × (s.limit ≡ l.limit) × (s.place.me.0.drawn ≡ [])) l.seats.items;
}
