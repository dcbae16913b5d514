-- What an emulated port leaves to chance: which posted command is executed next, and what a cut of
-- the power leaves of what is not certain. Each choice takes a word of a generator.
use Rattle.std.specs.Prelude.{◌≡◌, ◌≢◌, ◌⊎◌, ℕ, zero, suc, ◌+◌, ◌-◌, ◌*◌, ◌%◌, ◌^◌, ◌==◌, not, nat_lt, if◌then◌else◌, List, [], ◌∷◌, ◌++◌, length, map, Option, Some, None, Result, Ok, Err, slice_index_or, slice_set}
use Rattle.std.specs.List.{filter}
use Rattle.rand_core.specs.Pcg32Seed.{pcg32_seed}
use Rattle.rand_core.specs.Steps.{fill_via_u64}
use Rattle.rand_pcg.specs.Lcg.{Lcg}
use Rattle.rand_pcg.specs.Pcg.{pcg64, pcg64_of_seed}
use Rattle.mq_blocks.specs.Drive.{PortState, PortImage, staged_end, index_of, after_begin}
use Rattle.mq_blocks.specs.Limits.{depth}
use Rattle.mq_blocks.specs.declared.command.Command.{Command}
use Rattle.mq_blocks.specs.declared.command.HomeWrite.{HomeWrite}
use Rattle.mq_nvme.specs.Completion.{status_of}
use Rattle.mq_drive.specs.Steps.{PortFault, Ends}
use Rattle.mq_drive.specs.declared.port.Off.{Off}
use Rattle.mq_drive.specs.declared.port.Step.{Step}
use Rattle.mq_drive.specs.declared.port.Step.TheVariants.{Idle, Done}
use Rattle.mq_drive.specs.declared.port.HomeStep.{HomeStep}
use Rattle.mq_drive.specs.declared.port.HomeStep.TheVariants as home

-- ---- words and bytes

-- the generator of the port of this number, whose seed is the sum, which wraps
unfoldable pub generator_of : (seed number : ℕ) → Lcg
generator_of seed number = pcg64_of_seed (pcg32_seed 32 ((seed + number) % 2 ^ 64))

-- an index below `count`; if `count` is 1, no word of the generator is taken
unfoldable pub chosen : (count : ℕ) → Lcg → ℕ × Lcg
chosen count rng = if count == 1 then (0, rng) else ((pcg64 rng).0 % count, (pcg64 rng).1)

-- one of two numbers; where they are the same, no word of the generator is taken
unfoldable pub either_of : (old new : ℕ) → Lcg → ℕ × Lcg
either_of old new rng =
    if old == new then (old, rng) else (if (pcg64 rng).0 % 2 == 1 then new else old, (pcg64 rng).1)

-- the next bytes
unfoldable pub next_bytes : (count : ℕ) → Lcg → List ℕ × Lcg
next_bytes count rng = fill_via_u64 pcg64 count rng

-- the old value, the new one, or the next that the generator gives, by a word modulo 3
unfoldable pub torn : {A : Type 0} → (next : Lcg → A × Lcg) → (old new : A) → Lcg → A × Lcg
torn next old new rng =
    let word = (pcg64 rng).0 % 3 in
    let after = (pcg64 rng).1 in
    if word == 0 then (old, after) else if word == 1 then (new, after) else next after

-- ---- the order of execution

-- what chance has of a port
pub record Chance : Type 0 where
  -- the port's number
  pub number : ℕ
  -- the generator that chooses the commands to execute
  pub order : Lcg
  -- the failed commands, and the home writes that have begun and not ended in the order in which they
  -- began, after each of which no write of its block was completed
  pub failed : List Command
  pub begun : List HomeWrite

-- a write of this block has completed: its failed commands and begun home writes no longer count
abbrev pub without : PortState → (lba : ℕ) → Chance → Chance
without s lba r = record r {
  failed = filter (λ c. not (index_of s c.lba == index_of s lba)) r.failed;
  begun = filter (λ w. not (index_of s w.lba == index_of s lba)) r.begun;
}

-- the command that has ended is the chosen one of those that were posted
pub record IsChosen (old : PortState) (faults : List PortFault) (r : Chance) (c : List ℕ)
    (new : PortState) (more : List PortFault) (q : Chance) : Type 0 where
  pub ends : Ends old faults c new more
  pub at : ends.at ≡ (chosen (length old.posted) r.order).0
  pub success : status_of c ≡ 0
      → q ≡ record (without old ends.command.lba r) { order = (chosen (length old.posted) r.order).1 }
  pub error : status_of c ≢ 0
      → q
      ≡ record r
      { order = (chosen (length old.posted) r.order).1; failed = r.failed ++ ends.command ∷ [] }

-- what a step takes of chance
abbrev pub StepChooses : PortState → List PortFault → Chance → Result Step Off → PortState
    → List PortFault → Chance → Type 0
StepChooses old faults r (Ok (Done c)) new more q = IsChosen old faults r c new more q
StepChooses old faults r (Ok Idle) new more q = q ≡ r
StepChooses old faults r (Err _) new more q = q ≡ r

-- a home write has begun, and not ended
abbrev pub with_begun : (lba : ℕ) → (block : List ℕ) → Chance → Chance
with_begun lba block r = record r { begun = r.begun ++ record { lba = lba; block = block } ∷ [] }

-- what a home write leaves to chance
abbrev pub HomeChooses : PortState → Chance → (lba : ℕ) → (block : List ℕ) → Result HomeStep Off
    → PortState → Chance → Type 0
HomeChooses old r lba block (Ok home.Done) new q = q ≡ without old lba r
HomeChooses old r lba block (Ok (home.Error status)) new q = q ≡ with_begun lba block r
HomeChooses old r lba block (Err _) new q =
    ((new ≡ old) × (q ≡ r)) ⊎ ((new ≡ after_begin old lba block) × (q ≡ with_begun lba block r))

-- ---- what a cut leaves

-- the dwords of bytes, the least significant byte first
abbrev pub dwords_of : List ℕ → List ℕ
dwords_of (a ∷ b ∷ c ∷ d ∷ bytes) = (a + 2 ^ 8 * b + 2 ^ 16 * c + 2 ^ 24 * d) ∷ dwords_of bytes
dwords_of bytes = []

-- the slot of the next 64 bytes
unfoldable pub next_slot : Lcg → List ℕ × Lcg
next_slot rng = (dwords_of (next_bytes 64 rng).0, (next_bytes 64 rng).1)

-- the block of the next 4,096 bytes
unfoldable pub next_block : Lcg → Option (List ℕ) × Lcg
next_block rng = (Some (next_bytes 4096 rng).0, (next_bytes 4096 rng).1)

-- the slots of `left` counts, from `count` on
abbrev pub torn_slots : (left count : ℕ) → (staged slots : List (List ℕ)) → Lcg → List (List ℕ) × Lcg
torn_slots zero count staged slots rng = (slots, rng)
torn_slots (suc left) count staged slots rng =
    let k = count % depth in
    let slot = torn next_slot (slice_index_or slots k []) (slice_index_or staged k []) rng in
    torn_slots left (count + 1) staged (slice_set slots k slot.0) slot.1

-- the block at this place, of which a write may have changed what it held
abbrev pub torn_block : List (Option (List ℕ)) → (at : ℕ) → (block : List ℕ) → Lcg
    → List (Option (List ℕ)) × Lcg
torn_block blocks at block rng =
    let held = torn next_block (slice_index_or blocks at None) (Some block) rng in
    (slice_set blocks at held.0, held.1)

-- the blocks of these writes, one after another
abbrev pub torn_blocks : (place : ℕ → ℕ) → List HomeWrite → List (Option (List ℕ)) → Lcg
    → List (Option (List ℕ)) × Lcg
torn_blocks place [] blocks rng = (blocks, rng)
torn_blocks place (w ∷ writes) blocks rng =
    let held = torn_block blocks (place w.lba) w.block rng in
    torn_blocks place writes held.0 held.1

-- one more command, at its place by count
abbrev pub with_command : Command → List Command → List Command
with_command c [] = c ∷ []
with_command c (d ∷ commands) =
    if nat_lt c.count d.count then c ∷ d ∷ commands else d ∷ with_command c commands

-- those that failed among those that are posted, by count
abbrev pub by_count : (failed posted : List Command) → List Command
by_count [] posted = posted
by_count (c ∷ failed) posted = with_command c (by_count failed posted)

abbrev pub writes_of : List Command → List HomeWrite
writes_of commands = map (λ c. record { lba = c.lba; block = c.block }) commands

-- the writes whose blocks are uncertain
abbrev pub in_doubt : PortState → Chance → List HomeWrite
in_doubt s r = writes_of (by_count r.failed s.posted) ++ r.begun

-- The image that a cut leaves. A new generator chooses the slots that are staged and not flushed, by
-- count, then the head and the base, where stored and not flushed, and then the uncertain blocks.
abbrev pub cut_of : PortState → Chance → (pick : ℕ) → PortImage
cut_of s r pick =
    let slots = torn_slots (staged_end s - s.flushed_end) s.flushed_end s.staged s.flushed
    (generator_of pick r.number) in
    let head = either_of s.head s.stored_head slots.1 in
    let base = either_of s.base s.stored_base head.1 in
    let blocks = torn_blocks (index_of s) (in_doubt s r) s.blocks base.1 in
    record { doorbell = s.doorbell; head = head.0; base = base.0; slots = slots.0; blocks = blocks.0 }
