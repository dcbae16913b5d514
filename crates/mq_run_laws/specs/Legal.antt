-- A history: which volume stands after each number, and which lists of commits and reads are legal.
use Rattle.std.specs.Prelude.{◌≡◌, ◌≢◌, ◌<◌, ◌≤◌, ℕ, ◌+◌, Bool, true, false, List, [], ◌∷◌, length, nat_lt, if◌then◌else◌}
use Rattle.std.specs.List.{AllPairs}
use Rattle.mq_blocks.specs.Geometry.{queues_of, write_limit}
use Rattle.mq_blocks.specs.declared.geometry.Geometry.{Geometry}
use Rattle.mq_exec.specs.Moves.{Moves}
use Rattle.mq_run_laws.specs.Groups.{IsGroup, group_at}
use Rattle.mq_pages.specs.declared.page.Write.{Write}
use Rattle.mq_report.specs.Lines.{Line}
use Rattle.mq_script.specs.Scripts.{Group, Script}
use Rattle.mq_tree.specs.Requests.{after_group, replies}
use Rattle.mq_tree.specs.Volume.{Volume}

-- the group that a line reports
abbrev pub group_of : List Script → Line → Group
group_of scripts l = group_at scripts l.session l.group

-- the volume after it
abbrev pub next : Geometry → List Script → Volume → Line → Volume
next g scripts v l = after_group g l.session v (group_of scripts l).requests

-- ---- a run

-- a commit has the next number, a read the last one
abbrev pub number_after : ℕ → (commit : Bool) → ℕ
number_after n true = n + 1
number_after n false = n

-- On the volume at a number, the line gives what its group is answered there. It is a commit if the group
-- changes the volume, and a read if it does not.
pub record IsStep (g : Geometry) (scripts : List Script) (v : Volume) (n : ℕ) (l : Line) : Type 0 where
  pub of : IsGroup scripts l.session l.group
  pub queue : l.session < queues_of g
  pub end_is : l.end ≡ (group_of scripts l).end
  pub number : l.number ≡ number_after n l.commit
  pub answered : l.replies ≡ replies g l.session v (group_of scripts l).requests
  pub changes : l.commit ≡ true → next g scripts v l ≢ v
  pub stays : l.commit ≡ false → next g scripts v l ≡ v

-- from this volume and number on, each line is a step from where those before it led
abbrev pub IsRun : Geometry → List Script → Volume → ℕ → List Line → Type 0
IsRun g scripts v n [] = Unit {0}
IsRun g scripts v n (l ∷ ls) = IsStep g scripts v n l × IsRun g scripts (next g scripts v l) l.number ls

-- ---- how much a group writes

-- from one volume to the other, `count` blocks are written
pub record Writes (g : Geometry) (v w : Volume) (count : ℕ) : Type 0 where
  pub writes : List Write
  pub frees : List ℕ
  pub moves : Moves g v w writes frees
  pub many : length writes ≡ count

-- no more than one transaction may write
abbrev pub WritesFew : Geometry → Volume → Volume → Type 0
WritesFew g v w = (count : ℕ) × Writes g v w count × (count ≤ write_limit g)

-- so does the group of each line
abbrev pub AllWriteFew : Geometry → List Script → Volume → List Line → Type 0
AllWriteFew g scripts v [] = Unit {0}
AllWriteFew g scripts v (l ∷ ls) =
    WritesFew g v (next g scripts v l) × AllWriteFew g scripts (next g scripts v l) ls

-- ---- a legal list

-- From a volume and a base, the lines are a run; each session's groups stand in their order, none twice;
-- and none writes more than a transaction may.
pub record IsLegal (g : Geometry) (scripts : List Script) (v : Volume) (base : ℕ)
    (lines : List Line) : Type 0 where
  pub run : IsRun g scripts v base lines
  pub sessions : AllPairs (λ l m. l.session ≡ m.session → l.group < m.group) lines
  pub few : AllWriteFew g scripts v lines

-- ---- the volume at a number

-- the volume after the lines up to this number
abbrev pub volume_at : Geometry → List Script → Volume → List Line → ℕ → Volume
volume_at g scripts v [] n = v
volume_at g scripts v (l ∷ ls) n =
    if nat_lt n l.number then v else volume_at g scripts (next g scripts v l) ls n

-- the last number, or the base where nothing was committed
abbrev pub newest : ℕ → List Line → ℕ
newest base [] = base
newest base (l ∷ ls) = newest l.number ls
