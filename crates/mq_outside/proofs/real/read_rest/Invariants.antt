use Rattle.std.proofs.Common.{◌≡◌, ◌≤◌, ℕ, List, ◌++◌, length}
use Rattle.std.specs.Io.KnownBytes.{Consumes}
use Rattle.mq_outside.specs.Outside.{load_limit}
use Rattle.mq_outside.proofs.real.read_rest.Given as goal

abbrev pub invariant-loop : goal.invariant-loop
invariant-loop g l =
    (length l.bytes.items ≤ load_limit)
    × ((got : List ℕ) × (l.bytes.items ≡ l.initial.bytes.items ++ got)
    × Consumes (g.F.Read.remaining l.initial.file) (g.F.Read.remaining l.file) got)
