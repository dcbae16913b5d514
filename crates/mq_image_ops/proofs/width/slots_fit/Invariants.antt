use Rattle.std.proofs.Common.{◌≡◌, ℕ, ◌<◌, List, Some}
use Rattle.std.specs.Prelude.{slice_get}
use Rattle.mq_nvme.specs.Dwords.{AreDwords}
use Rattle.mq_image_ops.proofs.width.slots_fit.Given as goal

-- the slots before fit
abbrev pub invariant-loop-entry : goal.invariant-loop-entry
invariant-loop-entry l = (i : ℕ) (e : List ℕ) → i < l.entry-index → slice_get l.slots i ≡ Some e → AreDwords 16 e
