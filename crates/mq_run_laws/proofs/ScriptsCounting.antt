-- Scripts whose groups and requests can be counted.
use Rattle.std.proofs.Common.{◌≡◌, ℕ, ◌<◌, ◌≤◌, ◌^◌, List, length, get_or, arith, refl}
use Rattle.std.proofs.lemmas.Option.{slice_get_read}
use Rattle.mq_run.specs.Playing.{IsShort}
use Rattle.mq_script.specs.Scripts.{Group}

-- a group with more requests than can be counted
pub long-group : (groups : List Group) (i : ℕ) (group : Group) → i < length groups → group ≡ get_or groups i group → 2 ^ 32 ≤ length group.requests → IsShort groups → ⊥
long-group groups i group low is long short = let few = short.each i group (slice_get_read groups (length groups) i group refl low is) in omega (arith, few, long)
