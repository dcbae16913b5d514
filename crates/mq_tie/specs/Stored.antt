-- What the sides of all queues store, and where the entry of each number is found there.
use Rattle.std.specs.Prelude.{◌≡◌, ◌<◌, ◌≤◌, ℕ, suc, ◌+◌, ◌-◌, List, [], ◌∷◌, map, Option, Some, None, slice_get, slice_index_or}
use Rattle.mq_drive.specs.declared.port.Port.{Ghosts}
use Rattle.mq_queue_side.specs.declared.drawn.Drawn.{Drawn}
use Rattle.mq_queue_side.specs.declared.side.QueueSide.{QueueSide}
use Rattle.mq_tie.specs.declared.ended.EntryPlace.{EntryPlace}

-- of each queue, the oldest first
abbrev pub stored_by : {P E : Type 0} {G : Ghosts P} → List (QueueSide P E G) → List (List (Drawn E))
stored_by sides = map (λ s. s.stored.items) sides

-- what is stored there
abbrev pub drawn_at : {E : Type 0} → List (List (Drawn E)) → EntryPlace → Option (Drawn E)
drawn_at lists s = slice_get (slice_index_or lists s.queue []) s.place

-- the entries that are stored at these places, each with its number
abbrev pub with_found : {E : Type 0} → Option (Drawn E) → List (ℕ × E) → List (ℕ × E)
with_found None hs = hs
with_found (Some d) hs = (d.number, d.entry) ∷ hs

abbrev pub entries_at : {E : Type 0} → List (List (Drawn E)) → List EntryPlace → List (ℕ × E)
entries_at lists [] = []
entries_at lists (s ∷ ss) = with_found (drawn_at lists s) (entries_at lists ss)

module _ {E : Type 0} (lists : List (List (Drawn E))) where
  -- the numbers of all that is stored are among the `count` that follow the base
  abbrev pub AreWithin : (base count : ℕ) → Type 0
  AreWithin base count =
      (s : EntryPlace) (d : Drawn E) → drawn_at lists s ≡ Some d
      → (base < d.number) × (d.number ≤ base + count)

  -- the entry of the number is stored
  pub record HasStored (n : ℕ) : Type 0 where
    pub entry_place : EntryPlace
    pub drawn : Drawn E
    pub found : drawn_at lists entry_place ≡ Some drawn
    pub number : drawn.number ≡ n

  -- it is noted where the entry of the number is stored
  pub record IsNoted (base : ℕ) (order : List EntryPlace) (n : ℕ) : Type 0 where
    pub above : base < n
    pub entry_place : EntryPlace
    pub at : slice_get order (n - suc base) ≡ Some entry_place
    pub drawn : Drawn E
    pub found : drawn_at lists entry_place ≡ Some drawn
    pub number : drawn.number ≡ n
