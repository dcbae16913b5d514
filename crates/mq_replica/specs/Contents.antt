-- What the home blocks hold, after the updates of a history, and what the last of them says.
use Rattle.std.specs.Prelude.{◌≡◌, ◌<◌, ℕ, zero, suc, ◌-◌, List, [], ◌∷◌, nat_eq, if◌then◌else◌}
use Rattle.std.specs.Int.{to_le_bytes, w64}
use Rattle.mq_blocks.specs.Blocks.{zeros}
use Rattle.mq_blocks.specs.Geometry.{homes_of}
use Rattle.mq_blocks.specs.Journal.{or_else}
use Rattle.mq_blocks.specs.Machine.{Writes, write_of}
use Rattle.mq_blocks.specs.Windows.{number_at, written}
use Rattle.mq_blocks.specs.declared.geometry.Geometry.{Geometry}
use Rattle.mq_replica.specs.Updates.{last_home}
use Rattle.mq_replica.specs.declared.update.Update.{Update}

-- the bytes of each home block
abbrev pub Contents : Type 0
Contents = ℕ → List ℕ

-- the home blocks hold the same
abbrev pub AreSame : Geometry → Contents → Contents → Type 0
AreSame g c f = (x : ℕ) → x < homes_of g → f x ≡ c x

-- ---- the last block

-- a block that says a number: its eight bytes, the least first, and zeros
unfoldable pub numbered_block : ℕ → List ℕ
numbered_block n = written zeros 0 (to_le_bytes w64 n)

-- the number that a block says
abbrev pub number_in : List ℕ → ℕ
number_in block = number_at 8 0 block

-- the number that the last block says
abbrev pub number_of : Geometry → Contents → ℕ
number_of g c = number_in (c (last_home g))

-- ---- updates

-- after these writes
abbrev pub with_writes : Writes → Contents → Contents
with_writes ws c x = or_else (write_of ws x) (c x)

-- after an update, as a replica keeps it: its number goes into the last block
abbrev pub after_update : Geometry → Update → Contents → Contents
after_update g u c x =
    if nat_eq x (last_home g) then numbered_block u.number else with_writes u.writes c x

-- after the first n of these, the oldest first, but for the last block
abbrev pub after_first : ℕ → List Update → Contents → Contents
after_first zero us c = c
after_first (suc n) [] c = c
after_first (suc n) (u ∷ us) c = after_first n us (with_writes u.writes c)

-- the home blocks below the last hold what stands there after the number that the last block says, where
-- these are the updates after a base, from these contents on
abbrev pub IsUpToNumber : Geometry → (base : ℕ) → List Update → Contents → Contents → Type 0
IsUpToNumber g base us first c =
    (x : ℕ) → x < last_home g → c x ≡ after_first (number_of g c - base) us first x
