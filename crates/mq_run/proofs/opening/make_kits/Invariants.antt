use Rattle.std.proofs.Common.{◌≡◌, length, map, take}
use Rattle.std.specs.List.{All}
use Rattle.mq_run.specs.Pairs.{AreOpen}
use Rattle.mq_run.specs.Seating.{room_for, room_of}
use Rattle.mq_run.proofs.opening.make_kits.Given as goal

abbrev pub invariant-loop-script : goal.invariant-loop-script
invariant-loop-script l = record {
  room : map (λ k. room_of k.told k.reads k.line) l.kits.items ≡ map (λ s. room_for (length s.groups)) (take l.script-index l.scripts);
  opened : All (λ k. AreOpen k.line k.announcing k.listening) l.kits.items;
}
