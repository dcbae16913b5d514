use Rattle.std.proofs.Common.{◌≡◌, ℕ, ◌<◌, List, Option, Some}
use Rattle.std.specs.Prelude.{slice_get}
use Rattle.mq_image.specs.File.{IsBlockSized}
use Rattle.mq_image_ops.proofs.width.blocks_fit.Given as goal

-- the blocks before fit
abbrev pub invariant-loop-block : goal.invariant-loop-block
invariant-loop-block l = (i : ℕ) (b : Option (List ℕ)) → i < l.block-index → slice_get l.blocks i ≡ Some b → IsBlockSized b
