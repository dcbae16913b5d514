use Rattle.std.proofs.Common.{ℕ, List, Option, subst}
use Rattle.mq_blocks.specs.Geometry.{meta_of}
use Rattle.mq_kv.specs.Opening.{AreFormed, memory}
use Rattle.mq_kv.proofs.opening.Kv+P.open.Goals as goal

pub returns-in-Err-open_formed-clause-refused : goal.returns-in-Err-open_formed-clause-refused
returns-in-Err-open_formed-clause-refused g c =
    memory (subst (λ (stored : List (Option (List ℕ))). AreFormed (meta_of c.args.geometry) stored) c.deref.ensures.value c.in_default.ensures.formed)
