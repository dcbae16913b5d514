-- What a list has adds to its total.
use Rattle.std.proofs.Common.{ℕ, ◌≤◌, List, sym}
use Rattle.std.specs.Prelude.{Contains}
use Rattle.atomic_table.proofs.Lists.{at_index}
use Rattle.mq_blocks.specs.Totals.{total}
use Rattle.mq_blocks.proofs.Totals.{total_one}

pub total_contains : {A : Type 0} (f : A → ℕ) (l : List A) (x : A) → Contains l x → f x ≤ total f l
total_contains f l x has = total_one f l has.0 x (at_index l has.0 x has.1 (sym has.2))
