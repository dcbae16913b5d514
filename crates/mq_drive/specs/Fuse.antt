-- The tickets of a fuse: what its seats know, and the rule.
--
-- A fuse has one word, the counter, from which each event draws a ticket.
use Rattle.std.specs.Prelude.{◌≡◌, ◌<◌, ◌≤◌, ℕ, ◌+◌, ◌^◌, Bool, true, false, List, [], ◌∷◌, ◌++◌, slice_index, nat_lt, nat_le, nat_eq}
use mathlib.Core.Option.{some}
use lib.ListN.{get_elem?}
use Rattle.atomic_table.specs.Table.{State, Me, Step}
use Rattle.mq_blocks.specs.Totals.{total}
use Rattle.mq_drive.specs.declared.tickets.Tickets.{Tickets}

abbrev pub tick : Bool → ℕ
tick true = 1
tick false = 0

-- how often the ticket stands in the list
abbrev pub times : ℕ → List ℕ → ℕ
times t [] = 0
times t (d ∷ ds) = tick (nat_eq d t) + times t ds

-- how many tickets are below the limit, and how many are not
abbrev pub below : ℕ → List ℕ → ℕ
below limit [] = 0
below limit (d ∷ ds) = tick (nat_lt d limit) + below limit ds

abbrev pub above : ℕ → List ℕ → ℕ
above limit [] = 0
above limit (d ∷ ds) = tick (nat_le limit d) + above limit ds

-- the tickets before the last
abbrev pub earlier : List ℕ → List ℕ
earlier [] = []
earlier (t ∷ ts) = ts

-- a view of `seats` seats that have drawn nothing
abbrev pub fresh : ℕ → Tickets
fresh seats = record { seats = seats; drawn = [] }

-- two views are one
abbrev pub joined : Tickets → Tickets → Tickets
joined v w = record { seats = v.seats + w.seats; drawn = v.drawn ++ w.drawn }

-- a view has at most one ticket at or above the limit for each of its seats
pub record Fits (limit : ℕ) (v : Tickets) : Type 0 where
  pub few : above limit v.drawn ≤ v.seats
  pub idle : v.seats ≡ 0 → v.drawn ≡ []

-- the tickets of all views are the numbers below the counter, each once
pub record Lawful (limit seats : ℕ) (s : State (Unit {0}) Tickets) : Type 0 where
  pub one_word : (n : ℕ) × (s.words ≡ n ∷ [])
  pub once : (t : ℕ) → total (λ v. times t v.drawn) s.views ≡ tick (nat_lt t (slice_index s.words 0))
  pub whole : total (λ v. v.seats) s.views ≡ seats
  pub each : (j : ℕ) (v : Tickets) → get_elem? s.views j ≡ some v → Fits limit v
  pub small : (limit ≤ 2 ^ 63) × (seats < 2 ^ 32)

-- what holds after the one step: the counter's number is the seat's next ticket, and all its tickets differ
abbrev pub drew : Step (Unit {0}) → Me (Unit {0}) Tickets → ℕ → Me (Unit {0}) Tickets → Type 0
drew st me n me' =
    (me' ≡ (record { seats = me.0.seats; drawn = n ∷ me.0.drawn }, me.1))
    × ((m : ℕ) → below m (n ∷ me.0.drawn) ≤ m)
