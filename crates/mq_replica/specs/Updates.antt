-- The updates of a history: what each writes, and which may be offered.
use Rattle.std.specs.Prelude.{◌≡◌, ◌⊎◌, ◌<◌, ◌≤◌, ℕ, ◌-◌, List, [], ◌∷◌, length}
use Rattle.mq_blocks.specs.Descriptor.{AreRising}
use Rattle.mq_blocks.specs.Geometry.{homes_of, write_limit}
use Rattle.mq_blocks.specs.Machine.{Writes}
use Rattle.mq_blocks.specs.declared.geometry.Geometry.{Geometry}
use Rattle.mq_ledger.specs.History.{blocks_of}

-- the last home block, which says how far a replica has come
abbrev pub last_home : Geometry → ℕ
last_home g = homes_of g - 1

-- the most writes of an update: a transaction of the replica writes the last home block too
abbrev pub update_limit : Geometry → ℕ
update_limit g = write_limit g - 1

-- each of these blocks is below a number
abbrev pub AreBelow : ℕ → List ℕ → Type 0
AreBelow high [] = Unit {0}
AreBelow high (b ∷ bs) = (b < high) × AreBelow high bs

-- this is the first of the blocks that isn't below it
abbrev pub IsFirstNotBelow : ℕ → List ℕ → ℕ → Type 0
IsFirstNotBelow high [] block = ⊥
IsFirstNotBelow high (b ∷ bs) block =
    ((high ≤ b) × (b ≡ block)) ⊎ ((b < high) × IsFirstNotBelow high bs block)

-- the writes have rising blocks
abbrev pub AreWritesRising : Writes → Type 0
AreWritesRising ws = (high : ℕ) × AreRising 0 high (blocks_of ws)

-- all writes are of blocks below the last one, and there are few enough
pub record AreWritesFit (g : Geometry) (ws : Writes) : Type 0 where
  pub below : AreBelow (last_home g) (blocks_of ws)
  pub few : length ws ≤ update_limit g
