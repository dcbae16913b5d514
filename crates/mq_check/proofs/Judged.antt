-- Verdicts from what a mount answered.
use Rattle.std.proofs.Common.{◌≡◌, ◌≢◌, ℕ, subst}
use Rattle.std.specs.Prelude.{Result, Ok, Err, IfOk}
use Rattle.mq_blocks.specs.declared.geometry.Geometry.{Geometry}
use Rattle.mq_check.specs.Verdicts.{HasNoTree, Judges, Repeats}
use Rattle.mq_check.specs.declared.verdict.Verdict.{Verdict}
use Rattle.mq_check.specs.declared.verdict.Verdict.TheVariants.{Sound, Unsound}
use Rattle.mq_tree.specs.Decoded.{Stored}
use Rattle.mq_tree.specs.Phases.{RefusesByPhase}
use Rattle.mq_tree.specs.declared.corrupt.CorruptCause.{CorruptCause}
use Rattle.mq_tree.specs.declared.corrupt.PhaseRefusal.{PhaseRefusal}
use Rattle.mq_tree.specs.declared.corrupt.PhaseRefusal.TheVariants.{Found, OutOfMemory}

found-other : (r : PhaseRefusal) (phase : ℕ) (cause : CorruptCause) (b : ℕ) → r ≡ Found phase cause b → r ≢ OutOfMemory
found-other r phase cause b is other = cc

-- what a mount found is the verdict
pub repeated : (g : Geometry) (s : Stored) (r : PhaseRefusal) (v : Verdict) → Repeats r v → RefusesByPhase g s r → (r ≢ OutOfMemory → HasNoTree g s) → Judges g s v
repeated g s r (Sound dirs files blocks) is first none = absurd is
repeated g s r (Unsound phase cause b) is first none = (subst (RefusesByPhase g s) is first, none (found-other r phase cause b is))

-- what holds of one verdict by what holds of the other
pub along : {T E : Type 0} (P Q : T → Type 0) (x : Result T E) → ((v : T) → P v → Q v) → IfOk x P → IfOk x Q
along P Q (Ok v) f h = f v h
along P Q (Err e) f h = tt
