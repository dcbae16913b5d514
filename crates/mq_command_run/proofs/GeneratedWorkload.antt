-- The scripts of a workload: as many as threads, each ending with `fsync`, and what they write are bytes.
use Rattle.std.proofs.Common.{◌≡◌, ◌∙◌, ℕ, zero, suc, ◌+◌, ◌/◌, ◌%◌, ◌^◌, ◌<◌, Bool, true, false, List, [], ◌∷◌, length, refl, ap, arith}
use Rattle.std.specs.Prelude.{slice_index_or, nat_le, if◌then◌else◌, ◌==◌, ◌||◌}
use Rattle.std.specs.List.{All}
use Rattle.std.proofs.lemmas.Bool.{eq-eqb}
use Rattle.rand_pcg.specs.Lcg.{Lcg}
use Rattle.rand_pcg.specs.Pcg.{pcg64}
use Rattle.mq_command_run.specs.Generated.{EndDurable}
use Rattle.mq_run_laws.specs.Histories.{AreOfBytes}
use Rattle.mq_run_laws.proofs.LawsSpelled.{filled-bytes}
use Rattle.mq_script.specs.Scripts.{Group}
use Rattle.mq_script.specs.Workloads.{end_of, groups_from, requests_of, script_of, scripts_from, workload_of, writing}
use Rattle.mq_script.specs.declared.group.End.TheVariants.{Fatomic, Fsync}
use Rattle.mq_tree.specs.Kept.{HasBytes}
use Rattle.mq_tree.specs.declared.request.Request.TheVariants.{Truncate, Unlink}

-- ---- how many

scripts-count : (left seed thread groups : ℕ) → length (scripts_from left seed thread groups) ≡ left
scripts-count zero seed thread groups = refl
scripts-count (suc left) seed thread groups = ap suc (scripts-count left seed (thread + 1) groups)

pub workload-count : (seed threads groups : ℕ) → length (workload_of seed threads groups) ≡ threads
workload-count seed threads groups = scripts-count threads seed 0 groups

groups-count : (left thread number groups : ℕ) (rng : Lcg) → length (groups_from left thread number groups rng) ≡ left
groups-count zero thread number groups rng = refl
groups-count (suc left) thread number groups rng = ap suc (groups-count left thread (number + 1) groups (pcg64 rng).1)

-- ---- bytes

written : (path : List (List ℕ)) (offset count byte : ℕ) → byte < 256 → All HasBytes (writing path offset count byte)
written path offset count byte low zero d inside = tt
written path offset count byte low (suc zero) d inside = filled-bytes count byte low
written path offset count byte low (suc (suc k)) d inside = absurd (omega arith)

chosen : (path : List (List ℕ)) (offset count byte : ℕ) (writes cuts : Bool) → byte < 256
    → All HasBytes (if writes then writing path offset count byte else if cuts then Truncate path count ∷ [] else Unlink path ∷ [])
chosen path offset count byte true cuts low k d inside = written path offset count byte low k d inside
chosen path offset count byte false true low zero d inside = tt
chosen path offset count byte false true low (suc k) d inside = absurd (omega arith)
chosen path offset count byte false false low zero d inside = tt
chosen path offset count byte false false low (suc k) d inside = absurd (omega arith)

requests-bytes : (thread word : ℕ) → All HasBytes (requests_of thread word)
requests-bytes thread word = chosen _ (word / 2 ^ 20 % 20000) (word / 64 % 9000) (word / 2 ^ 40 % 256) (nat_le (word / 16 % 4) 1) (word / 16 % 4 == 2) (omega arith)

groups-bytes : (left thread number groups : ℕ) (rng : Lcg) (k : ℕ) (d : Group) → k < length (groups_from left thread number groups rng) → All HasBytes (slice_index_or (groups_from left thread number groups rng) k d).requests
groups-bytes zero thread number groups rng k d inside = absurd (omega arith)
groups-bytes (suc left) thread number groups rng zero d inside = requests-bytes thread (pcg64 rng).0
groups-bytes (suc left) thread number groups rng (suc k) d inside = groups-bytes left thread (number + 1) groups (pcg64 rng).1 k d (omega arith)

script-bytes : (seed thread groups k : ℕ) (d : Group) → k < length (script_of seed thread groups).groups → All HasBytes (slice_index_or (script_of seed thread groups).groups k d).requests
script-bytes seed thread groups zero d inside zero e within = tt
script-bytes seed thread groups zero d inside (suc j) e within = absurd (omega arith)
script-bytes seed thread groups (suc k) d inside j e within = groups-bytes groups thread 1 groups _ k d (omega arith) j e within

scripts-bytes : (left seed thread groups : ℕ) → AreOfBytes (scripts_from left seed thread groups)
scripts-bytes zero seed thread groups s k is = absurd (omega arith)
scripts-bytes (suc left) seed thread groups zero k is = script-bytes seed thread groups k _ is
scripts-bytes (suc left) seed thread groups (suc s) k is = scripts-bytes left seed (thread + 1) groups s k is

pub workload-bytes : (seed threads groups : ℕ) → AreOfBytes (workload_of seed threads groups)
workload-bytes seed threads groups = scripts-bytes threads seed 0 groups

-- ---- the last groups

either : (b : Bool) → (b || true) ≡ true
either true = refl
either false = refl

-- the last group of all
last-end : (number groups : ℕ) → number ≡ groups → end_of number groups ≡ Fsync
last-end number groups same =
    ap (λ (b : Bool). if (number % 4 == 0) || b then Fsync else Fatomic) (eq-eqb number groups same) ∙ ap (λ (b : Bool). if b then Fsync else Fatomic) (either (number % 4 == 0))

groups-end : (left thread number groups : ℕ) (rng : Lcg) (k : ℕ) (d : Group) → number + left ≡ groups + 1 → k + 1 ≡ length (groups_from left thread number groups rng) → (slice_index_or (groups_from left thread number groups rng) k d).end ≡ Fsync
groups-end zero thread number groups rng k d sum last = absurd (omega (arith, last))
groups-end (suc zero) thread number groups rng zero d sum last = last-end number groups (omega (arith, sum))
groups-end (suc (suc left)) thread number groups rng zero d sum last = absurd (omega (arith, last))
groups-end (suc left) thread number groups rng (suc k) d sum last = groups-end left thread (number + 1) groups (pcg64 rng).1 k d (omega (arith, sum)) (omega (arith, last))

script-end : (seed thread groups k : ℕ) (d : Group) → k + 1 ≡ length (script_of seed thread groups).groups → (slice_index_or (script_of seed thread groups).groups k d).end ≡ Fsync
script-end seed thread groups zero d last = refl
script-end seed thread groups (suc k) d last = groups-end groups thread 1 groups _ k d (omega arith) (omega (arith, last))

scripts-end : (left seed thread groups : ℕ) → EndDurable (scripts_from left seed thread groups)
scripts-end zero seed thread groups s k last = absurd (omega (arith, last))
scripts-end (suc left) seed thread groups zero k last = script-end seed thread groups k _ last
scripts-end (suc left) seed thread groups (suc s) k last = scripts-end left seed (thread + 1) groups s k last

pub workload-end : (seed threads groups : ℕ) → EndDurable (workload_of seed threads groups)
workload-end seed threads groups = scripts-end threads seed 0 groups
