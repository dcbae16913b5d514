-- Home writes that have begun.
use Rattle.std.proofs.Common.{◌≡◌, ℕ, true, List, [], ◌∷◌, ◌++◌, inl, inr, refl, eqb}
use Rattle.std.proofs.lemmas.Bool.{cases_Bool, eq-eqb}
use Rattle.mq_blocks.specs.Drive.{holds_write}
use Rattle.mq_blocks.specs.declared.command.HomeWrite.{HomeWrite}

pub begun_new : (lba : ℕ) (ws : List HomeWrite) (w : HomeWrite) → w.lba ≡ lba → holds_write lba (ws ++ w ∷ []) ≡ true
begun_new lba [] w e = rw (eq-eqb w.lba lba e) refl
begun_new lba (v ∷ ws) w e = elim (cases_Bool (eqb v.lba lba)) [
  | inl same ↦ rw same refl
  | inr other ↦ rw other (begun_new lba ws w e)
]
