-- The scripts of a generated workload: each thread makes, writes, cuts and removes files in a
-- directory of its own.
use Rattle.std.specs.Prelude.{ℕ, zero, suc, ◌+◌, ◌/◌, ◌%◌, ◌^◌, ◌||◌, ◌==◌, nat_le, if◌then◌else◌, List, [], ◌∷◌, ◌++◌, codes, decimal, replicate}
use Rattle.rand_core.specs.Pcg32Seed.{pcg32_seed}
use Rattle.rand_pcg.specs.Lcg.{Lcg}
use Rattle.rand_pcg.specs.Pcg.{pcg64, pcg64_of_seed}
use Rattle.mq_tree.specs.declared.request.Request.{Request}
use Rattle.mq_tree.specs.declared.request.Request.TheVariants.{Mkdir, Create, Write, Truncate, Unlink}
use Rattle.mq_script.specs.Scripts.{Group, Script}
use Rattle.mq_script.specs.declared.group.End.{End}
use Rattle.mq_script.specs.declared.group.End.TheVariants.{Fsync, Fatomic}

-- the generator of a thread, whose seed is the sum, which wraps
abbrev pub generator_of : (seed thread : ℕ) → Lcg
generator_of seed thread = pcg64_of_seed (pcg32_seed 32 ((seed + thread) % 2 ^ 64))

-- the directory of a thread
abbrev pub directory_of : ℕ → List (List ℕ)
directory_of thread = (codes "t" ++ decimal thread) ∷ []

-- one of 16 files in it
abbrev pub file_of : (thread file : ℕ) → List (List ℕ)
file_of thread file = (codes "t" ++ decimal thread) ∷ (codes "f" ++ decimal file) ∷ []

-- `count` bytes of this value, at this offset of a file that may be new
abbrev pub writing : (path : List (List ℕ)) → (offset count byte : ℕ) → List Request
writing path offset count byte = Create path ∷ Write path offset (replicate count byte) ∷ []

-- the requests that a word of the generator chooses
abbrev pub requests_of : (thread word : ℕ) → List Request
requests_of thread word =
    let path = file_of thread (word % 16) in
    if nat_le (word / 16 % 4) 1
    then writing path (word / 2 ^ 20 % 20000) (word / 64 % 9000) (word / 2 ^ 40 % 256)
    else if word / 16 % 4 == 2 then Truncate path (word / 64 % 9000) ∷ []
    else Unlink path ∷ []

-- each fourth group is durable, and the last
abbrev pub end_of : (number groups : ℕ) → End
end_of number groups = if (number % 4 == 0) || (number == groups) then Fsync else Fatomic

-- `left` groups, from this number on
abbrev pub groups_from : (left thread number groups : ℕ) → Lcg → List Group
groups_from zero thread number groups rng = []
groups_from (suc left) thread number groups rng =
    record { requests = requests_of thread (pcg64 rng).0; end = end_of number groups }
    ∷ groups_from left thread (number + 1) groups (pcg64 rng).1

abbrev pub script_of : (seed thread groups : ℕ) → Script
script_of seed thread groups =
    record {
      groups = record { requests = Mkdir (directory_of thread) ∷ []; end = Fsync }
          ∷ groups_from groups thread 1 groups (generator_of seed thread);
    }

-- `left` scripts, from this thread on
abbrev pub scripts_from : (left seed thread groups : ℕ) → List Script
scripts_from zero seed thread groups = []
scripts_from (suc left) seed thread groups =
    script_of seed thread groups ∷ scripts_from left seed (thread + 1) groups

abbrev pub workload_of : (seed threads groups : ℕ) → List Script
workload_of seed threads groups = scripts_from threads seed 0 groups
