-- A fuse and its seats, as contracts see them.
use Rattle.std.specs.Prelude.{◌≡◌, ◌⊎◌, ◌<◌, ◌≤◌, ℕ, List, ◌∷◌, Option, Some, None}
use Rattle.atomic_table.specs.Seated.{TableId}
use Rattle.mq_blocks.specs.Drive.{FuseName}
use Rattle.mq_drive.specs.Fuse.{above}
use Rattle.mq_drive.specs.declared.fuse.Fuse.{Fuse}
use Rattle.mq_drive.specs.declared.fuse.FuseSeat.{FuseSeat}

-- the numbers that identify a table
abbrev pub numbers_of : TableId → List ℕ
numbers_of t = t.words ∷ t.slots ∷ t.views_name ∷ t.atom ∷ t.block ∷ t.offset ∷ t.slot_names

-- which fuse it is
abbrev pub name_of : Fuse → FuseName
name_of f = record { limit = f.limit; table = numbers_of f.table.shared.table_id }

-- how many seats it has
abbrev pub ports_of : Fuse → ℕ
ports_of f = f.table.shared.key.seats

-- of which fuse the seat is
abbrev pub fuse_of : FuseSeat → FuseName
fuse_of s = record { limit = s.limit; table = numbers_of s.place.table_id }

-- the tickets that the seat drew, the last first
abbrev pub tickets_of : FuseSeat → List ℕ
tickets_of s = s.place.me.0.drawn

-- an event happens: no ticket was at or above the limit, and the event's own one is not; without a
-- limit no ticket is drawn
abbrev pub Happens : Option ℕ → List ℕ → List ℕ → Type 0
Happens None old new = new ≡ old
Happens (Some limit) old new = (above limit old ≡ 0) × ((t : ℕ) × (t < limit) × (new ≡ t ∷ old))

-- an event is refused: an earlier ticket or the event's own one is at or above the limit
abbrev pub IsRefused : Option ℕ → List ℕ → List ℕ → Type 0
IsRefused None old new = ⊥
IsRefused (Some limit) old new =
    ((0 < above limit old) × (new ≡ old))
    ⊎ ((above limit old ≡ 0) × ((t : ℕ) × (limit ≤ t) × (new ≡ t ∷ old)))
