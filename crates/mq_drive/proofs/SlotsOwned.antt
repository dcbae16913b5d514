-- A block of the port stands among its blocks.
use Rattle.std.proofs.Common.{◌≡◌, ◌<◌, ◌≤◌, ◌⊎◌, ⊎_elim, ℕ, ◌+◌, ◌^◌, arith}
use Rattle.std.proofs.lemmas.Bool.Decides.{nat_tests}
use Rattle.mq_drive.specs.Slots.{index_in}

pub record IsWithin (area_first area_size homes_first blocks lba : ℕ) : Type 0 where
  pub low : area_first ≤ lba
  pub small : lba < 2 ^ 32
  pub index : index_in area_first area_size homes_first lba < blocks

pub within_area : (area_first area_size homes_first homes_size blocks lba : ℕ) → area_first + area_size ≤ homes_first → homes_first + homes_size ≤ 2 ^ 32 → area_size + homes_size ≡ blocks
    → area_first ≤ lba → lba < area_first + area_size → IsWithin area_first area_size homes_first blocks lba
within_area af sz hf hs n lba order end sized low high = record {
  low = low;
  small = omega arith;
  index = grind (arith, nat_tests);
}

pub within_homes : (area_first area_size homes_first homes_size blocks lba : ℕ) → area_first + area_size ≤ homes_first → homes_first + homes_size ≤ 2 ^ 32 → area_size + homes_size ≡ blocks
    → homes_first ≤ lba → lba < homes_first + homes_size → IsWithin area_first area_size homes_first blocks lba
within_homes af sz hf hs n lba order end sized low high = record {
  low = omega arith;
  small = omega arith;
  index = grind (arith, nat_tests);
}

pub within : (area_first area_size homes_first homes_size blocks lba : ℕ) → area_first + area_size ≤ homes_first → homes_first + homes_size ≤ 2 ^ 32 → area_size + homes_size ≡ blocks
    → ((area_first ≤ lba) × (lba < area_first + area_size)) ⊎ ((homes_first ≤ lba) × (lba < homes_first + homes_size)) → IsWithin area_first area_size homes_first blocks lba
within af sz hf hs n lba order end sized own = ⊎_elim
    (λ area. within_area af sz hf hs n lba order end sized area.0 area.1)
    (λ homes. within_homes af sz hf hs n lba order end sized homes.0 homes.1)
    own
