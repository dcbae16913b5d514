-- The rows of what is stored, newest first.
use Rattle.std.proofs.Common.{◌≡◌, ℕ, suc, ◌+◌, ◌-◌, ◌<◌, List, [], ◌∷◌, ◌++◌, length, map, reverse, take, get_or, refl, ap, ◌∙◌, arith}
use Rattle.std.proofs.Math.Seq.{take-suc}
use Rattle.std.proofs.lemmas.List.{map-append, reverse-append}
use Rattle.mq_blocks.specs.Descriptor.{DescriptorForm}
use Rattle.mq_ledger.specs.Items.{next, place_before, place_for, descriptor_blocks}
use Rattle.mq_ledger.specs.declared.tx.Tx.{Tx}
use Rattle.mq_queue_side.specs.Commits.{commit_of, commit_of_tx, descriptor_size, numbered_with}
use Rattle.mq_queue_side.specs.Stored.{Row, rows_of, rows_for, AreStored, next_in, numbered_in}
use Rattle.mq_queue_side.specs.declared.drawn.Drawn.{Drawn}
use Rattle.mq_queue_side.proofs.SideDraws.{next_is, newest_is}

module _ {E : Type 0} where
  abbrev pub row_of : Drawn E → Row
  row_of d = record { number = d.number; next = d.next }

  -- one more is the newest
  pub rows_more : (stored : List (Drawn E)) (d : Drawn E) → rows_of (stored ++ d ∷ []) ≡ row_of d ∷ rows_of stored
  rows_more stored d = ap reverse (map-append row_of stored (d ∷ [])) ∙ reverse-append (map row_of stored) (row_of d ∷ [])

  -- of the first ones
  pub rows_take : (stored : List (Drawn E)) (at : ℕ) (d : Drawn E) → at < length stored → rows_of (take (suc at) stored) ≡ row_of (get_or stored at d) ∷ rows_of (take at stored)
  rows_take stored at d within = ap rows_of (take-suc stored at d within) ∙ rows_more (take at stored) (get_or stored at d)

  pub stored_more : (t : Tx) (us : List Tx) (stored : List (Drawn E)) (entry : E) → AreStored us stored
      → AreStored (t ∷ us) (stored ++ record { number = t.number; next = next_in (rows_of stored) + (length t.logged + descriptor_size (length t.logged) (length t.revoked)); entry = entry } ∷ [])
  stored_more t us stored entry are =
      let d : Drawn E = record { number = t.number; next = next_in (rows_of stored) + (length t.logged + descriptor_size (length t.logged) (length t.revoked)); entry = entry } in
      let behind : next_in (rows_of stored) ≡ next us = ap next_in are ∙ next_is us in
      rows_more stored d ∙ (λ i. record { number = t.number; next = behind i + (length t.logged + descriptor_size (length t.logged) (length t.revoked)) } ∷ are i)

-- the place of the last descriptor is right before the next place
last_place : (us : List Tx) → next us - 1 ≡ place_before us
last_place [] = refl
last_place (t ∷ ts) = (let e : next ts + (length t.logged + descriptor_blocks t) - 1 ≡ place_for t ts = omega arith in e)

pub numbering : (form : DescriptorForm) (t : Tx) (us : List Tx) → numbered_in form t.queue t.number (rows_for us) (commit_of_tx t) ≡ commit_of form t us
numbering form t us =
    let place : next_in (rows_for us) - 1 ≡ place_before us = ap (λ (n : ℕ). n - 1) (next_is us) ∙ last_place us in
    λ i. numbered_with form (commit_of_tx t) t.queue t.number (next_is us i) (place i) (newest_is us i)
