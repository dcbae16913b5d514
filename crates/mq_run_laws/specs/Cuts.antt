-- What a history leaves on a drive: from which images it starts, and which images are cuts of it.
use Rattle.std.specs.Prelude.{◌≡◌, ◌<◌, ◌≤◌, ℕ, ◌+◌, Bool, true, false, List, [], ◌∷◌, ◌++◌, ◌&&◌, length, Option, Some, nat_eq}
use Rattle.std.specs.List.{Contains}
use Rattle.mq_blocks.specs.Blocks.{block_at}
use Rattle.mq_blocks.specs.Descriptor.{Descriptor, further_for}
use Rattle.mq_blocks.specs.Geometry.{homes_of, queues_of}
use Rattle.mq_blocks.specs.Journal.{Shown, stands}
use Rattle.mq_blocks.specs.Machine.{Map}
use Rattle.mq_blocks.specs.declared.geometry.Geometry.{Geometry}
use Rattle.mq_run_laws.specs.Answers.{IsAcknowledged, IsOf, is_good}
use Rattle.mq_run_laws.specs.Legal.{Writes, newest, next, volume_at}
use Rattle.mq_recover.specs.Recovery.{IsReadPrefix}
use Rattle.mq_report.specs.Lines.{Line}
use Rattle.mq_report.specs.declared.line.Told.{Told}
use Rattle.mq_script.specs.Scripts.{Script}
use Rattle.mq_tree.specs.Laid.{IsLaid, map_of}
use Rattle.mq_tree.specs.Volume.{Volume}

-- ---- where a history starts

-- these are the contents of all home blocks, by the descriptors
pub record AreHomeContents (g : Geometry) (i : Shown) (ds : List Descriptor)
    (stored : List (Option (List ℕ))) : Type 0 where
  pub whole : length stored ≡ homes_of g
  pub each : (b : ℕ) → b < homes_of g → block_at stored b ≡ stands g i ds b

-- recovery of the image gives this base, and leaves this volume on the home blocks
pub record Starts (g : Geometry) (i : Shown) (base : ℕ) (v : Volume) : Type 0 where
  pub ds : List Descriptor
  pub read : IsReadPrefix g i ds base
  pub stored : List (Option (List ℕ))
  pub standing : AreHomeContents g i ds stored
  pub laid : IsLaid g (map_of g stored) v

-- ---- where it is cut

-- each block of the volume's map stands with the map's content
pub record ShowsVolume (g : Geometry) (i : Shown) (ds : List Descriptor) (v : Volume) : Type 0 where
  pub map : Map
  pub laid : IsLaid g map v
  pub each : (b : ℕ) (page : List ℕ) → map b ≡ Some page → stands g i ds b ≡ page

-- The image is a cut of the history. It is readable, and so rung whole; it reaches a number r of the
-- history, and stands for the volume at r. All that was acknowledged is at most r. No number that it shows
-- is above the last one, so that the next run goes on from there.
pub record IsCut (g : Geometry) (scripts : List Script) (v : Volume) (base : ℕ) (lines : List Line)
    (answers : List Told) (i : Shown) (r : ℕ) : Type 0 where
  pub ds : List Descriptor
  pub top : ℕ
  pub read : IsReadPrefix g i ds top
  pub reaches : r ≡ i.base + length ds
  pub least : base ≤ r
  pub most : r ≤ newest base lines
  pub stand : ShowsVolume g i ds (volume_at g scripts v lines r)
  pub acknowledged : (n : ℕ) → IsAcknowledged scripts answers n → n ≤ r
  pub top_most : top ≤ newest base lines

-- ---- doorbells

-- the line is a commit of this queue
abbrev pub is_on : ℕ → Line → Bool
is_on q l = l.commit && nat_eq l.session q

-- A commit has an entry for each block that it writes, one for its descriptor, and one for the descriptor's
-- further block, if it has that. No line tells how many blocks the descriptor lists, but they are at most
-- those that the commit writes.
abbrev pub HasShare : Geometry → (old new : Volume) → (is_on : Bool) → (sum rest : ℕ) → Type 0
HasShare g v w false sum rest = sum ≡ rest
HasShare g v w true sum rest =
    (count : ℕ) × (more : ℕ) × Writes g v w count × (more ≤ further_for count)
    × (sum ≡ count + 1 + more + rest)

-- the commits of a queue among these lines have this number of entries in all
abbrev pub HasEntries : Geometry → List Script → (queue : ℕ) → Volume → List Line → ℕ → Type 0
HasEntries g scripts q v [] sum = sum ≡ 0
HasEntries g scripts q v (l ∷ ls) sum =
    (rest : ℕ) × HasEntries g scripts q (next g scripts v l) ls rest
    × HasShare g v (next g scripts v l) (is_on q l) sum rest

-- The doorbell went on from the old value by the entries of the queue's commits in a prefix of the lines,
-- which has every commit of the queue whose group was answered well.
pub record IsRung (g : Geometry) (scripts : List Script) (v : Volume) (lines : List Line)
    (answers : List Told) (q : ℕ) (old new : ℕ) : Type 0 where
  pub sent : List Line
  pub unsent : List Line
  pub parts : lines ≡ sent ++ unsent
  pub sum : ℕ
  pub entries : HasEntries g scripts q v sent sum
  pub doorbell : new ≡ old + sum
  pub good : (l : Line) (t : Told)
      → Contains unsent l
      → is_on q l ≡ true
      → Contains answers t
      → IsOf t l.session l.group
      → is_good t.answer ≡ false

-- ---- a clean image

-- The base is n, which is the greatest number that the image shows; no transaction is above it, and each
-- head is at its doorbell.
pub record IsClean (g : Geometry) (i : Shown) (n : ℕ) : Type 0 where
  pub base_is : i.base ≡ n
  pub read : IsReadPrefix g i [] n
  pub heads : (q : ℕ) → q < queues_of g → i.head q ≡ i.doorbell q
