-- A link that loses and repeats what is sent, as the words of a seed decide.
use Rattle.std.specs.Prelude.{ℕ, zero, suc, ◌%◌, nat_eq, if◌then◌else◌}
use Rattle.rand_core.specs.Pcg32Seed.{pcg32_seed}
use Rattle.rand_pcg.specs.Lcg.{Lcg}
use Rattle.rand_pcg.specs.Pcg.{pcg64, pcg64_of_seed}
use Rattle.mq_command_replicate.specs.declared.link.Arrival.{Arrival}
use Rattle.mq_command_replicate.specs.declared.link.Arrival.TheVariants.{Once, Twice}

-- the generator of a seed
abbrev pub link_of : (seed : ℕ) → Lcg
link_of seed = pcg64_of_seed (pcg32_seed 32 seed)

-- after so many losses in a row what is sent next comes through
unfoldable pub losses_in_a_row : ℕ
losses_in_a_row = 64

-- How often it comes through what is sent, and the generator then, where so many losses in a row are left.
-- The rest of a word by 4 decides about one sending: 0 loses it, 1 lets it come twice, else it comes once.
abbrev pub arrivals_left : (left : ℕ) → Lcg → Arrival × Lcg
arrivals_left zero words = (Once, words)
arrivals_left (suc left) words =
    let next = pcg64 words in
    if nat_eq (next.0 % 4) 0 then arrivals_left left next.1
    else if nat_eq (next.0 % 4) 1 then (Twice, next.1)
    else (Once, next.1)

unfoldable pub arrival_of : Lcg → Arrival × Lcg
arrival_of words = arrivals_left losses_in_a_row words
