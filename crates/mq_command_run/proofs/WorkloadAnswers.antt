-- A group of a workload is refused only since memory ran out: it asks nothing, it writes few blocks, and no drive's
-- cause can occur.
use Rattle.std.proofs.Common.{◌≡◌, ◌≢◌, ℕ, zero, suc, ◌+◌, ◌*◌, ◌/◌, ◌%◌, ◌^◌, ◌<◌, ◌≤◌, Bool, true, false, cond, List, [], ◌∷◌, length, refl, sym, subst, arith}
use Rattle.std.specs.Prelude.{Err, Ok, Result, slice_index_or, nat_le, nat_lt, if◌then◌else◌, ◌==◌, ◌||◌}
use Rattle.std.specs.List.{Contains}
use Rattle.std.proofs.lemmas.List.{length-replicate}
use Rattle.rand_pcg.specs.Lcg.{Lcg}
use Rattle.rand_pcg.specs.Pcg.{pcg64}
use Rattle.mq_blocks.specs.Geometry.{meta_of, queues_of}
use Rattle.mq_blocks.specs.declared.geometry.Geometry.{Geometry}
use Rattle.mq_blocks.proofs.DescriptorLimits.{limit-low}
use Rattle.mq_queue_side.specs.declared.answers.CallCause.{CallCause}
use Rattle.mq_queue_side.specs.declared.answers.CallCause.TheVariants.{Changes, Drive, OutOfMemory, TooLarge}
use Rattle.mq_queue_side.specs.declared.answers.Refusal.{Refusal}
use Rattle.mq_command_run.specs.Generated.{IsForMemory, IsPlayed, IsShape, WorkloadsAreRefusedForMemory, sessions_alone}
use Rattle.mq_command_run.proofs.GeneratedWorkload.{workload-bytes, workload-count}
use Rattle.mq_command_run.proofs.TouchesRequests.{AreSmall, group-touches}
use Rattle.mq_command_run.proofs.TouchesWrites.{few-writes}
use Rattle.mq_run_laws.specs.Answers.{IsCause, IsLarge, group_told}
use Rattle.mq_run_laws.specs.Groups.{IsGroup, group_at}
use Rattle.mq_run_laws.specs.Histories.{AreOfBytes}
use Rattle.mq_run_laws.specs.Legal.{IsRun, group_of, next, volume_at}
use Rattle.mq_run_laws.proofs.LawsSpelled.{filled-bytes, has-script}
use Rattle.mq_run_laws.specs.declared.ran.ImageRun.{ImageRun}
use Rattle.mq_report.specs.Lines.{Line}
use Rattle.mq_report.specs.declared.line.Told.{Told}
use Rattle.mq_run_laws.specs.Causes.{ports_of}
use Rattle.mq_run_laws.specs.Images.{KeepsPromise, RunsKeepTheirPromise}
use Rattle.mq_run_laws.proofs.Complete.{never-drive}
use Rattle.mq_script.specs.Scripts.{Group, Script}
use Rattle.mq_script.specs.Workloads.{end_of, groups_from, script_of, scripts_from, workload_of, writing}
use Rattle.mq_script.specs.declared.group.End.{End}
use Rattle.mq_script.specs.declared.group.End.TheVariants.{Ask, Fatomic, Fsync}
use Rattle.mq_tree.specs.Requests.{after_group}
use Rattle.mq_tree.specs.Sound.{IsSound}
use Rattle.mq_tree.specs.Volume.{Volume}
use Rattle.mq_tree.specs.declared.request.Request.TheVariants.{Truncate, Unlink}
use Rattle.mq_tree.proofs.KeptSteps.{group-sound}

-- ---- the groups of a workload

-- a group of at most two small requests, which does not ask
record IsPlain (group : Group) : Type 0 where
  small : AreSmall group.requests
  few : length group.requests ≤ 2
  acts : group.end ≢ Ask

chosen : (path : List (List ℕ)) (offset count byte : ℕ) (writes cuts : Bool) (end : End) → offset < 20000 → count < 9000 → byte < 256 → end ≢ Ask
    → IsPlain (record { requests = if writes then writing path offset count byte else if cuts then Truncate path count ∷ [] else Unlink path ∷ []; end = end })
chosen path offset count byte true cuts end at most low acts =
    (let long = length-replicate count byte in record { small = (tt, tt, (omega (arith, at, most, long), filled-bytes count byte low, tt)); few = omega arith; acts = acts })
chosen path offset count byte false true end at most low acts = record { small = (omega (arith, most), tt, tt); few = omega arith; acts = acts }
chosen path offset count byte false false end at most low acts = record { small = (tt, tt, tt); few = omega arith; acts = acts }

either-acts : (b : Bool) → (if b then Fsync else Fatomic) ≡ Ask → ⊥
either-acts true e = absurd (cc)
either-acts false e = absurd (cc)

groups-plain : (left thread number groups : ℕ) (rng : Lcg) (k : ℕ) (d : Group) → k < length (groups_from left thread number groups rng) → IsPlain (slice_index_or (groups_from left thread number groups rng) k d)
groups-plain zero thread number groups rng k d inside = absurd (omega (arith, inside))
groups-plain (suc left) thread number groups rng zero d inside =
    let word : ℕ = (pcg64 rng).0 in
    chosen _ (word / 2 ^ 20 % 20000) (word / 64 % 9000) (word / 2 ^ 40 % 256) (nat_le (word / 16 % 4) 1) (word / 16 % 4 == 2) (end_of number groups) (omega arith) (omega arith) (omega arith) (either-acts ((number % 4 == 0) || (number == groups)))
groups-plain (suc left) thread number groups rng (suc k) d inside = groups-plain left thread (number + 1) groups (pcg64 rng).1 k d (omega (arith, inside))

durable-acts : Fsync ≡ Ask → ⊥
durable-acts e = absurd (cc)

script-plain : (seed thread groups k : ℕ) (d : Group) → k < length (script_of seed thread groups).groups → IsPlain (slice_index_or (script_of seed thread groups).groups k d)
script-plain seed thread groups zero d inside = record { small = (tt, tt, tt); few = omega arith; acts = durable-acts }
script-plain seed thread groups (suc k) d inside = groups-plain groups thread 1 groups _ k d (omega (arith, inside))

scripts-plain : (left seed thread groups s k : ℕ) → IsGroup (scripts_from left seed thread groups) s k → IsPlain (group_at (scripts_from left seed thread groups) s k)
scripts-plain zero seed thread groups s k is = absurd (omega (arith, is))
scripts-plain (suc left) seed thread groups zero k is = script-plain seed thread groups k _ is
scripts-plain (suc left) seed thread groups (suc s) k is = scripts-plain left seed (thread + 1) groups s k is

-- ---- no group is too large

either-sound : (g : Geometry) (b : Bool) (v w : Volume) → IsSound g v → IsSound g w → IsSound g (cond b v w)
either-sound g true v w s t = s
either-sound g false v w s t = t

-- the volume at each number is sound
at-sound : (g : Geometry) (scripts : List Script) (v : Volume) (base : ℕ) (lines : List Line) (n : ℕ) → IsSound g v → AreOfBytes scripts → IsRun g scripts v base lines → IsSound g (volume_at g scripts v lines n)
at-sound g scripts v base [] n s bytes run = s
at-sound g scripts v base (l ∷ ls) n s bytes run =
    let later = group-sound g l.session v (group_of scripts l).requests s run.0.queue (bytes l.session l.group run.0.of) in
    either-sound g (nat_lt n l.number) v (volume_at g scripts (next g scripts v l) ls n) s (at-sound g scripts (next g scripts v l) l.number ls n later bytes run.1)

never-large : (g : Geometry) (scripts : List Script) (v : Volume) (base : ℕ) (lines : List Line) (t : Told) (count : ℕ) → IsSound g v → AreOfBytes scripts → IsRun g scripts v base lines → meta_of g ≤ 34 → t.session < queues_of g → IsPlain (group_told scripts t) → IsLarge g scripts v base lines t count → ⊥
never-large g scripts v base lines t count s bytes run meta low plain large =
    let u = volume_at g scripts v lines large.at in
    let rs = (group_told scripts t).requests in
    let touches = group-touches g t.session u rs (at-sound g scripts v base lines large.at s bytes run) low plain.small in
    let most = few-writes g u (after_group g t.session u rs) (9 * length rs) count touches large.writes in
    let few = plain.few in
    let limit = limit-low g in
    let many = large.many in
    omega (arith, meta, most, few, limit, many)

-- ---- a run of a workload

module _ (keeps : RunsKeepTheirPromise) (seed threads groups : ℕ) (g : Geometry) (r : ImageRun) (few : threads ≤ 16) (shape : IsShape threads g) (played : IsPlayed g (workload_of seed threads groups) r) where
  abbrev scripts : List Script
  scripts = workload_of seed threads groups

  abbrev here : Geometry
  here = played.start.geometry

  shape-here : IsShape threads here
  shape-here = subst (λ (h : Geometry). IsShape threads h) (sym played.empty.geometry_is) shape

  bytes : AreOfBytes scripts
  bytes = workload-bytes seed threads groups

  promise : KeepsPromise played.start scripts sessions_alone r
  promise = keeps played.start scripts sessions_alone r played.run bytes

  module _ (t : Told) (c : Contains r.answers.items t) where
    of : IsGroup scripts t.session t.group
    of = promise.answered.of t c

    plain : IsPlain (group_told scripts t)
    plain = scripts-plain threads seed 0 groups t.session t.group of

    low : t.session < queues_of here
    low = let script = has-script scripts t.session t.group of in let many = workload-count seed threads groups in let queues = shape-here.queues in omega (arith, script, many, queues)

    by-cause : (f : Refusal) (cause : CallCause) → t.answer ≡ Err f → f.cause ≡ cause → IsCause here scripts promise.volume r.base r.entries.items promise.reached t cause → f.cause ≡ OutOfMemory
    by-cause f OutOfMemory bad is why = is
    by-cause f (TooLarge count limit) bad is why =
        let meta = shape-here.meta in
        absurd (never-large here scripts promise.volume r.base r.entries.items t count promise.starts.laid.sound bytes promise.legal.run (omega (arith, few, meta)) low plain why.0)
    by-cause f (Changes index) bad is why = absurd (plain.acts why.asks)
    by-cause f (Drive cause) bad is why = absurd (never-drive here sessions_alone r (ports_of played.run) refl refl (promise.backed played.run) t f cause c bad is)

    for-memory : (answer : Result ℕ Refusal) → t.answer ≡ answer → IsForMemory answer
    for-memory (Ok n) is = tt
    for-memory (Err f) is = by-cause f f.cause is refl ((promise.caused t c).refused f is).cause_is

pub refused-for-memory : RunsKeepTheirPromise → WorkloadsAreRefusedForMemory
refused-for-memory keeps seed threads groups g r few shape played t c = for-memory keeps seed threads groups g r few shape played t c t.answer refl
