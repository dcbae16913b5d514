-- A history of entries on a map: the volumes that lie on its maps, and the lines that report it.
use Rattle.std.specs.Prelude.{◌≡◌, ◌≢◌, ◌<◌, ◌≤◌, ℕ, ◌+◌, true, false, List, [], ◌∷◌, length}
use Rattle.std.specs.List.{All}
use Rattle.mq_blocks.specs.Geometry.{queues_of, write_limit}
use Rattle.mq_blocks.specs.Machine.{Map, after}
use Rattle.mq_blocks.specs.declared.geometry.Geometry.{Geometry}
use Rattle.mq_exec.specs.Moves.{Moves}
use Rattle.mq_calls.specs.Entries.{RanUndrawn, Does, freed_by, tx_of, volume_after, written_by}
use Rattle.mq_calls.specs.declared.entry.FileEntry.{FileEntry}
use Rattle.mq_ledger.specs.History.{change_of}
use Rattle.mq_run_laws.specs.Groups.{IsGroup, group_at}
use Rattle.mq_run_laws.specs.Legal.{group_of}
use Rattle.mq_report.specs.Lines.{Line}
use Rattle.mq_script.specs.Scripts.{Script}
use Rattle.mq_tree.specs.Kept.{HasBytes}
use Rattle.mq_tree.specs.Requests.{replies}
use Rattle.mq_tree.specs.Volume.{Volume}

-- ---- the entries, the oldest first

-- the map after their transactions
abbrev pub map_after : Map → List FileEntry → Map
map_after m [] = m
map_after m (e ∷ es) = map_after (after m (change_of (tx_of e))) es

-- the volume after their groups
abbrev pub volume_through : Geometry → Volume → List FileEntry → Volume
volume_through g v [] = v
volume_through g v (e ∷ es) = volume_through g (volume_after g v e) es

-- each does what it says on the map after those before it
abbrev pub AllDo : Geometry → Map → List FileEntry → Type 0
AllDo g m [] = Unit {0}
AllDo g m (e ∷ es) = Does g m e × AllDo g (after m (change_of (tx_of e))) es

-- ---- an entry on a volume

-- Its group is answered on the volume as the entry says, and writes and frees there just what the entry
-- says.
pub record RunsOn (g : Geometry) (v : Volume) (e : FileEntry) : Type 0 where
  pub queue : e.session < queues_of g
  pub answered : e.replies ≡ replies g e.session v e.requests
  pub moves : Moves g v (volume_after g v e) (written_by e) (freed_by e)

-- and it changes the volume
pub record ChangesOn (g : Geometry) (v : Volume) (e : FileEntry) : Type 0 where
  pub runs : RunsOn g v e
  pub changes : volume_after g v e ≢ v

-- or leaves it as it is
pub record StaysOn (g : Geometry) (v : Volume) (e : FileEntry) : Type 0 where
  pub runs : RunsOn g v e
  pub stays : volume_after g v e ≡ v

-- the entry neither writes nor frees
pub record WritesNothing (e : FileEntry) : Type 0 where
  pub writes : written_by e ≡ []
  pub frees : freed_by e ≡ []

-- ---- lines

-- what the scripts write are bytes
abbrev pub AreOfBytes : List Script → Type 0
AreOfBytes scripts = (s k : ℕ) → IsGroup scripts s k → All HasBytes (group_at scripts s k).requests

-- the line reports the entry, which is one of its group
pub record TellsOf (scripts : List Script) (l : Line) (e : FileEntry) : Type 0 where
  pub of : IsGroup scripts l.session l.group
  pub session_is : e.session ≡ l.session
  pub requests_are : e.requests ≡ (group_of scripts l).requests
  pub replies_are : e.replies ≡ l.replies
  pub end_is : l.end ≡ (group_of scripts l).end

-- the line is the commit of the entry on this map, with the number after n
pub record IsCommitOf (g : Geometry) (scripts : List Script) (m : Map) (n : ℕ) (e : FileEntry)
    (l : Line) : Type 0 where
  pub commit : l.commit ≡ true
  pub number : l.number ≡ n + 1
  pub tells : TellsOf scripts l e
  pub does : Does g m e
  pub few : length (written_by e) ≤ write_limit g

-- the line is the read of the entry on this map, at the number n
pub record IsReadOf (g : Geometry) (scripts : List Script) (m : Map) (n : ℕ) (e : FileEntry)
    (l : Line) : Type 0 where
  pub commit : l.commit ≡ false
  pub number : l.number ≡ n
  pub tells : TellsOf scripts l e
  pub asks : RanUndrawn g m e
  pub quiet : WritesNothing e

-- The lines, from this map and number on: the commits of the entries, one after another, and between them
-- the reads.
pub data AreLinesOf (g : Geometry) (scripts : List Script) : Map → ℕ → List FileEntry → List Line
    → Type 0 where
  none : {m : Map} {n : ℕ} → AreLinesOf g scripts m n [] []
  commit : {m : Map} {n : ℕ} {es : List FileEntry} {ls : List Line} (e : FileEntry) (l : Line)
      → IsCommitOf g scripts m n e l
      → AreLinesOf g scripts (after m (change_of (tx_of e))) (n + 1) es ls
      → AreLinesOf g scripts m n (e ∷ es) (l ∷ ls)
  read : {m : Map} {n : ℕ} {es : List FileEntry} {ls : List Line} (e : FileEntry) (l : Line)
      → IsReadOf g scripts m n e l
      → AreLinesOf g scripts m n es ls
      → AreLinesOf g scripts m n es (l ∷ ls)
