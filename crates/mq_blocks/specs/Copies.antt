-- Where what a queue writes goes: copies in its journal area, and blocks at home.
use Rattle.std.specs.Prelude.{ℕ, ◌+◌, List, [], ◌∷◌}
use Rattle.mq_blocks.specs.Geometry.{area_lba, home_lba}
use Rattle.mq_blocks.specs.Machine.{Writes}
use Rattle.mq_blocks.specs.declared.geometry.Geometry.{Geometry}

-- copies in the journal area of a queue, from a place on
abbrev pub copies_at : Geometry → ℕ → ℕ → Writes → List (ℕ × List ℕ)
copies_at g q place [] = []
copies_at g q place (w ∷ ws) = (area_lba g q place, w.1) ∷ copies_at g q (place + 1) ws

-- blocks at home
abbrev pub directs_of : Geometry → Writes → List (ℕ × List ℕ)
directs_of g [] = []
directs_of g (w ∷ ws) = (home_lba g w.0, w.1) ∷ directs_of g ws
