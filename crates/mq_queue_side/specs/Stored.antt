-- What a side stores of each transaction that was drawn on its queue, and which plans fit beside them.
use Rattle.std.specs.Prelude.{◌≡◌, ◌<◌, ◌≤◌, ◌↔◌, ◌^◌, ℕ, ◌+◌, ◌-◌, List, [], ◌∷◌, length, map, reverse, nat_le, if◌then◌else◌}
use Rattle.mq_blocks.specs.Descriptor.{DescriptorForm, further_for}
use Rattle.mq_blocks.specs.Limits.{usable_depth}
use Rattle.mq_blocks.specs.Drive.{PortState, staged_end}
use Rattle.mq_blocks.specs.Journal.{number_limit}
use Rattle.mq_ledger.specs.Items.{next}
use Rattle.mq_ledger.specs.declared.tx.Tx.{Tx}
use Rattle.mq_revoke.specs.Placed.{Placed}
use Rattle.mq_queue_side.specs.Commits.{Commit, NumberedCommit, descriptor_size, numbered_with}
use Rattle.mq_queue_side.specs.declared.answers.Fit.{Fit}
use Rattle.mq_queue_side.specs.declared.answers.Fit.TheVariants.{Ring, Area}
use Rattle.mq_queue_side.specs.declared.drawn.Drawn.{Drawn}

-- a transaction's number, and the place behind its descriptor
pub record Row : Type 0 where
  pub number : ℕ
  pub next : ℕ

-- the rows of what is stored, newest first
abbrev pub rows_of : {E : Type 0} → List (Drawn E) → List Row
rows_of stored = reverse (map (λ d. record { number = d.number; next = d.next }) stored)

-- the rows of these transactions
abbrev pub rows_for : List Tx → List Row
rows_for [] = []
rows_for (t ∷ ts) = record { number = t.number; next = next (t ∷ ts) } ∷ rows_for ts

-- exactly these transactions are stored
abbrev pub AreStored : {E : Type 0} → List Tx → List (Drawn E) → Type 0
AreStored us stored = rows_of stored ≡ rows_for us

-- the place behind the last of them, and the number of the last
abbrev pub next_in : List Row → ℕ
next_in [] = 0
next_in (r ∷ rs) = r.next

abbrev pub newest_in : List Row → ℕ
newest_in [] = 0
newest_in (r ∷ rs) = r.number

-- the place behind the last of those that a base covers
abbrev pub covered_in : ℕ → List Row → ℕ
covered_in base [] = 0
covered_in base (r ∷ rs) = if nat_le r.number base then r.next else covered_in base rs

-- the blocks of its queue's area that a plan takes, and the slots of its ring
abbrev pub places_in : Placed → ℕ
places_in plan = length plan.logged + descriptor_size (length plan.logged) (length plan.revoked)

abbrev pub slots_in : Placed → ℕ
slots_in plan =
    length plan.logged + length plan.direct + descriptor_size (length plan.logged) (length plan.revoked)

-- the copies and the descriptor have room in an area beside what the base doesn't cover
abbrev pub FitsArea : ℕ → ℕ → List Row → Placed → Type 0
FitsArea area base rows plan = next_in rows + places_in plan ≤ covered_in base rows + area

-- the entries have room in the ring
abbrev pub FitsRing : PortState → Placed → Type 0
FitsRing p plan = slots_in plan ≤ usable_depth - (staged_end p - p.head)

-- the places of the transaction's blocks, and the counts of the entries, are within the bounds of numbers
pub record IsBounded (rows : List Row) (p : PortState) (plan : Placed) : Type 0 where
  pub places : next_in rows
      + (length plan.logged + further_for (length plan.logged + length plan.revoked))
      < 2 ^ 62
  pub end : staged_end p + slots_in plan ≤ number_limit

pub record FitIs (area base : ℕ) (rows : List Row) (p : PortState) (plan : Placed)
    (fit : Fit) : Type 0 where
  pub area_lacks : (fit ≡ Area) ↔ (FitsArea area base rows plan → ⊥)
  pub ring_lacks : (fit ≡ Ring) ↔ (FitsArea area base rows plan × (FitsRing p plan → ⊥))

-- a commit that is numbered next
abbrev pub numbered_in : DescriptorForm → ℕ → ℕ → List Row → Commit → NumberedCommit
numbered_in form queue number rows commit =
    numbered_with form commit queue number (next_in rows) (next_in rows - 1) (newest_in rows)
