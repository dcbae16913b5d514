use Rattle.std.proofs.Common.{◌≡◌, ◌≤◌, length}
use Rattle.std.specs.Prelude.{vec_capacity}
use Rattle.std.specs.List.{All}
use Rattle.mq_sessions.specs.Seats.{IsEquipped}
use Rattle.mq_sessions.proofs.seats.equip.Given as goal

abbrev pub invariant-loop : goal.invariant-loop
invariant-loop l = record {
  count : length l.kits.items ≡ l.counter;
  room : l.count ≤ vec_capacity l.kits;
  each : All (λ kit. IsEquipped l.geometry kit.0) l.kits.items;
}
