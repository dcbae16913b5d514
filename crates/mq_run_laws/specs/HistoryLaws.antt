-- What holds of legal runs and of cuts, in one statement each.
use Rattle.std.specs.Prelude.{◌≡◌, ◌≢◌, ◌<◌, ◌≤◌, ◌+◌, ◌-◌, ◌++◌, ℕ, true, List, [], ◌∷◌, length, reverse, slice_index_or, take, Some}
use Rattle.std.specs.List.{All, Contains}
use Rattle.mq_blocks.specs.Descriptor.{Descriptor}
use Rattle.mq_blocks.specs.Geometry.{homes_of}
use Rattle.mq_blocks.specs.Journal.{Shown, number_limit, stands}
use Rattle.mq_blocks.specs.Machine.{Map}
use Rattle.mq_blocks.specs.declared.geometry.Geometry.{Geometry}
use Rattle.mq_calls.specs.Entries.{RanUndrawn, volume_after}
use Rattle.mq_calls.specs.Group.{file_group}
use Rattle.mq_calls.specs.declared.entry.FileEntry.{FileEntry}
use Rattle.mq_ledger.specs.History as ledger
use Rattle.mq_run_laws.specs.Answers.{AreAnswered, AreCaused, HasCommit, IsCaused, IsAcknowledged, IsOf, TellErrors, is_good}
use Rattle.mq_run_laws.specs.Cuts.{HasShare, IsClean, IsCut, IsRung, ShowsVolume, Starts, is_on}
use Rattle.mq_run_laws.specs.Histories.{AllDo, AreLinesOf, AreOfBytes, ChangesOn, WritesNothing, RunsOn, StaysOn, map_after, volume_through}
use Rattle.mq_run_laws.specs.Legal.{AllWriteFew, IsLegal, IsRun, Writes, newest, volume_at}
use Rattle.mq_run_laws.specs.SmallRun.{as_changing, as_failed, as_large, as_read, asking_scripts, only_asking, small_answers, small_lines, small_scripts, small_told, stopped_ask, swapped, two, well_asked}
use Rattle.mq_report.specs.Lines.{Line}
use Rattle.mq_report.specs.declared.line.Told.{Told}
use Rattle.mq_desk_laws.specs.Rule as rule
use Rattle.mq_desk_laws.specs.Rule.{history}
use Rattle.mq_desk_laws.specs.Values.{Values}
use Rattle.mq_script.specs.Scripts.{Script}
use Rattle.mq_script.specs.Spelled.{Spells}
use Rattle.mq_queue_side.specs.declared.answers.Why.{Why}
use Rattle.mq_tree.specs.Empty.{empty_volume}
use Rattle.mq_tree.specs.Kept.{HasBytes}
use Rattle.mq_tree.specs.Laid.{IsLaid}
use Rattle.mq_tree.specs.Sound.{IsSound}
use Rattle.mq_tree.specs.Volume.{Volume}

-- ---- volumes and maps

abbrev pub SoundVolumesLie : Type 0
SoundVolumesLie = (g : Geometry) (v : Volume) → IsSound g v → (m : Map) × IsLaid g m v

abbrev pub VolumesHaveOneMap : Type 0
VolumesHaveOneMap =
    (g : Geometry) (m n : Map) (v : Volume)
    → IsLaid g m v
    → IsLaid g n v
    → (b : ℕ)
    → m b ≡ n b

-- the same if the maps only agree block by block
abbrev pub MapsHaveOneVolume : Type 0
MapsHaveOneVolume =
    (g : Geometry) (m n : Map) (v w : Volume)
    → IsLaid g m v
    → IsLaid g n w
    → ((b : ℕ) → m b ≡ n b)
    → v ≡ w

-- so each block of each of its maps stands
abbrev pub StandingVolumesStand : Type 0
StandingVolumesStand =
    (g : Geometry) (i : Shown) (ds : List Descriptor) (v : Volume) (m : Map) (b : ℕ) (page : List ℕ)
    → ShowsVolume g i ds v
    → IsLaid g m v
    → m b ≡ Some page
    → stands g i ds b ≡ page

-- ---- the numbers of a run

abbrev pub EachNumberHasACommit : Type 0
EachNumberHasACommit =
    (g : Geometry) (scripts : List Script) (v : Volume) (base : ℕ) (lines : List Line) (n : ℕ)
    → IsRun g scripts v base lines
    → base < n
    → n ≤ newest base lines
    → HasCommit lines n

abbrev pub LinesHaveNumbersWithin : Type 0
LinesHaveNumbersWithin =
    (g : Geometry) (scripts : List Script) (v : Volume) (base : ℕ) (lines : List Line) (l : Line)
    → IsRun g scripts v base lines
    → Contains lines l
    → (base ≤ l.number) × (l.number ≤ newest base lines)

-- later lines have no lesser numbers, and later commits have greater ones
abbrev pub NumbersNeverFall : Type 0
NumbersNeverFall =
    (g : Geometry) (scripts : List Script) (v : Volume) (base : ℕ) (before after : List Line) (l m : Line)
    → IsRun g scripts v base (before ++ l ∷ after)
    → Contains after m
    → (l.number ≤ m.number) × (m.commit ≡ true → l.number < m.number)

-- a commit whose group was answered well has moved the doorbell of its queue
abbrev pub GoodCommitsAreRung : Type 0
GoodCommitsAreRung =
    (g : Geometry) (scripts : List Script) (v : Volume) (lines : List Line) (answers : List Told)
    (q old new : ℕ) (l : Line) (t : Told)
    → IsRung g scripts v lines answers q old new
    → Contains lines l
    → is_on q l ≡ true
    → Contains answers t
    → IsOf t l.session l.group
    → is_good t.answer ≡ true
    → old < new

-- ---- from one run to the next

abbrev pub ImagesStartOnce : Type 0
ImagesStartOnce =
    (g : Geometry) (i : Shown) (base other : ℕ) (v w : Volume)
    → Starts g i base v
    → Starts g i other w
    → (base ≡ other) × (v ≡ w)

-- a cut at r starts with the volume at r, and with a base that is not above the last number
abbrev pub CutsStartTheNextRun : Type 0
CutsStartTheNextRun =
    (g : Geometry) (scripts : List Script) (v w : Volume) (base other r : ℕ) (lines : List Line)
    (answers : List Told) (i : Shown)
    → IsCut g scripts v base lines answers i r
    → Starts g i other w
    → (w ≡ volume_at g scripts v lines r) × (other ≤ newest base lines)

-- the image has each block of the volume at home
abbrev pub IsAtHome : Geometry → Shown → Volume → Type 0
IsAtHome g i v = (m : Map) (b : ℕ) (page : List ℕ) → IsLaid g m v → m b ≡ Some page → i.home b ≡ page

abbrev pub CleanCutsAreAtHome : Type 0
CleanCutsAreAtHome =
    (g : Geometry) (scripts : List Script) (v : Volume) (base r : ℕ) (lines : List Line)
    (answers : List Told) (i : Shown)
    → IsCut g scripts v base lines answers i r
    → IsClean g i (newest base lines)
    → (r ≡ newest base lines) × IsAtHome g i (volume_at g scripts v lines (newest base lines))

-- ---- a history of entries

abbrev pub HistoriesLie : Type 0
HistoriesLie =
    (g : Geometry) (m : Map) (v : Volume) (es rest : List FileEntry)
    → IsLaid g m v
    → AllDo g m (es ++ rest)
    → IsLaid g (map_after m es) (volume_through g v es)

abbrev pub EntriesChangeTheVolume : Type 0
EntriesChangeTheVolume =
    (g : Geometry) (m : Map) (v : Volume) (es rest : List FileEntry) (e : FileEntry)
    → IsLaid g m v
    → AllDo g m (es ++ e ∷ rest)
    → ChangesOn g (volume_through g v es) e

-- an entry that asked on a map ran on the volume there
abbrev pub EntriesAskOnTheVolume : Type 0
EntriesAskOnTheVolume =
    (g : Geometry) (m : Map) (v : Volume) (e : FileEntry)
    → IsLaid g m v
    → RanUndrawn g m e
    → RunsOn g v e

-- and left it as it was where it neither writes nor frees, and what its requests write are bytes
abbrev pub QuietEntriesStay : Type 0
QuietEntriesStay =
    (g : Geometry) (m : Map) (v : Volume) (e : FileEntry)
    → IsLaid g m v
    → RanUndrawn g m e
    → WritesNothing e
    → All HasBytes e.requests
    → StaysOn g v e

-- the same where the next volume lies on some map
abbrev pub QuietEntriesStayOnMaps : Type 0
QuietEntriesStayOnMaps =
    (g : Geometry) (m n : Map) (v : Volume) (e : FileEntry)
    → IsLaid g m v
    → RanUndrawn g m e
    → WritesNothing e
    → IsLaid g n (volume_after g v e)
    → StaysOn g v e

-- the lines of a history are a run
abbrev pub HistoriesAreRuns : Type 0
HistoriesAreRuns =
    (g : Geometry) (scripts : List Script) (m : Map) (v : Volume) (base : ℕ) (es : List FileEntry)
    (lines : List Line)
    → AreOfBytes scripts
    → IsLaid g m v
    → AreLinesOf g scripts m base es lines
    → IsRun g scripts v base lines × AllWriteFew g scripts v lines

-- and the volume at a number lies on the map after the entries up to it
abbrev pub VolumesAtNumbersLie : Type 0
VolumesAtNumbersLie =
    (g : Geometry) (scripts : List Script) (m : Map) (v : Volume) (base n : ℕ) (es : List FileEntry)
    (lines : List Line)
    → AreOfBytes scripts
    → IsLaid g m v
    → AreLinesOf g scripts m base es lines
    → IsLaid g (map_after m (take (n - base) es)) (volume_at g scripts v lines n)

abbrev pub HistoriesEndAtTheNewest : Type 0
HistoriesEndAtTheNewest =
    (g : Geometry) (scripts : List Script) (m : Map) (base : ℕ) (es : List FileEntry) (lines : List Line)
    → AreLinesOf g scripts m base es lines
    → newest base lines ≡ base + length es

-- ---- changes

-- from a sound volume to another some number of blocks is written
abbrev pub ChangesHaveACount : Type 0
ChangesHaveACount =
    (g : Geometry) (v w : Volume) → IsSound g v → IsSound g w → (count : ℕ) × Writes g v w count

-- and no other number
abbrev pub ChangesHaveOneCount : Type 0
ChangesHaveOneCount =
    (g : Geometry) (v w : Volume) (count other : ℕ)
    → Writes g v w count
    → Writes g v w other
    → count ≡ other

-- which are home blocks, each once
abbrev pub ChangesAreOfHomes : Type 0
ChangesAreOfHomes = (g : Geometry) (v w : Volume) (count : ℕ) → Writes g v w count → count ≤ homes_of g

-- a commit of at most so many blocks as one block of a descriptor lists has one entry more than those
abbrev pub FewBlocksHaveOneMore : Type 0
FewBlocksHaveOneMore =
    (g : Geometry) (v w : Volume) (count sum rest : ℕ)
    → Writes g v w count
    → count ≤ 1010
    → HasShare g v w true sum rest
    → sum ≡ count + 1 + rest

-- ---- images that there are

abbrev pub HasDoorbells : (ℕ → ℕ) → Type 0
HasDoorbells bells = (q : ℕ) → bells q ≤ number_limit

-- for each sound volume, base and doorbells there is a clean image from which a run starts with them
abbrev pub EachVolumeStartsARun : Type 0
EachVolumeStartsARun =
    (g : Geometry) (v : Volume) (n : ℕ) (bells : ℕ → ℕ)
    → IsSound g v
    → n ≤ number_limit
    → HasDoorbells bells
    → (i : Shown) × Starts g i n v × IsClean g i n × ((q : ℕ) → i.doorbell q ≡ bells q)

-- and for each run that ends in one a clean image that is a cut at its last number
abbrev pub EachRunHasACut : Type 0
EachRunHasACut =
    (g : Geometry) (scripts : List Script) (v : Volume) (base : ℕ) (lines : List Line)
    (answers : List Told) (bells : ℕ → ℕ)
    → IsRun g scripts v base lines
    → IsSound g (volume_at g scripts v lines (newest base lines))
    → newest base lines ≤ number_limit
    → HasDoorbells bells
    → ((n : ℕ) → IsAcknowledged scripts answers n → n ≤ newest base lines)
    → (i : Shown) × IsCut g scripts v base lines answers i (newest base lines)
    × IsClean g i (newest base lines) × ((q : ℕ) → i.doorbell q ≡ bells q)

-- ---- a small run, and wrong reports of it

abbrev pub TheSmallRunIsLegal : Type 0
TheSmallRunIsLegal = IsLegal two small_scripts (empty_volume two) 0 small_lines

abbrev pub TheSmallRunIsAnswered : Type 0
TheSmallRunIsAnswered =
    AreAnswered small_scripts small_lines small_answers
    × AreCaused two small_scripts (empty_volume two) 0 small_lines 1 small_answers

-- some clean image is a cut of it, with the doorbell of its commit
abbrev pub TheSmallRunIsCut : Type 0
TheSmallRunIsCut =
    (i : Shown)
    × IsCut two small_scripts (empty_volume two) 0 small_lines small_answers i 1
    × IsClean two i 1
    × IsRung two small_scripts (empty_volume two) small_lines small_answers 0 0 (i.doorbell 0)
    × (0 < i.doorbell 0)

-- an answer without its line
abbrev pub NoLineIsLeftOut : Type 0
NoLineIsLeftOut = AreAnswered small_scripts [] small_answers → ⊥

-- no answers, or two for one group
abbrev pub NoAnswerIsLeftOut : Type 0
NoAnswerIsLeftOut = (ls : List Line) → AreAnswered small_scripts ls [] → ⊥

abbrev pub NoGroupIsAnsweredTwice : Type 0
NoGroupIsAnsweredTwice = (ls : List Line) → AreAnswered small_scripts ls (small_told ∷ small_told ∷ []) → ⊥

-- a commit as a read
abbrev pub NoCommitIsARead : Type 0
NoCommitIsARead = IsRun two small_scripts (empty_volume two) 0 (as_read ∷ []) → ⊥

-- other replies
abbrev pub NoRepliesAreSwapped : Type 0
NoRepliesAreSwapped = IsRun two asking_scripts (empty_volume two) 0 (swapped ∷ []) → ⊥

-- a number twice
abbrev pub NoNumberComesTwice : Type 0
NoNumberComesTwice =
    (g : Geometry) (ss : List Script) (v : Volume) (n : ℕ) (l m : Line)
    → l.commit ≡ true
    → m.commit ≡ true
    → IsRun g ss v n (l ∷ m ∷ [])
    → l.number ≡ m.number
    → ⊥

-- a refusal whose cause does not hold
abbrev pub NoSmallGroupIsLarge : Type 0
NoSmallGroupIsLarge =
    (ls : List Line) (reached count : ℕ)
    → IsCaused two small_scripts (empty_volume two) 0 ls reached (as_large count) → ⊥

abbrev pub NoGroupChangesByItself : Type 0
NoGroupChangesByItself =
    (ls : List Line) (reached index : ℕ)
    → IsCaused two small_scripts (empty_volume two) 0 ls reached (as_changing index) → ⊥

-- a good answer to a group that asks, with a request that may change something
abbrev pub NoChangeIsAsked : Type 0
NoChangeIsAsked =
    (ls : List Line) (reached : ℕ) → IsCaused two only_asking (empty_volume two) 0 ls reached well_asked
    → ⊥

-- a refusal of a group that drew its number, for a transaction after it
abbrev pub NoLaterOneStopsAGroup : Type 0
NoLaterOneStopsAGroup =
    (ls : List Line) (reached tx status : ℕ)
    → 1 < tx
    → IsCaused two small_scripts (empty_volume two) 0 ls reached (as_failed tx status)
    → ⊥

-- for one that was reached
abbrev pub NoReachedOneFails : Type 0
NoReachedOneFails =
    (ls : List Line) (reached tx status : ℕ)
    → tx ≤ reached
    → IsCaused two small_scripts (empty_volume two) 0 ls reached (as_failed tx status)
    → ⊥

-- or with another status
abbrev pub NoOtherStatusFails : Type 0
NoOtherStatusFails =
    (tx status : ℕ) → status ≢ 640 → TellErrors two (as_failed tx status ∷ []) → ⊥

-- a group that asks, stopped by the drive
abbrev pub NoAskIsStopped : Type 0
NoAskIsStopped =
    (ls : List Line) (reached tx : ℕ) (why : Why)
    → IsCaused two only_asking (empty_volume two) 0 ls reached (stopped_ask tx why)
    → ⊥

-- ---- scripts

-- a text spells each script
abbrev pub AreSpelled : List Script → Type 0
AreSpelled scripts =
    (s : ℕ) → s < length scripts
    → (text : List ℕ) × Spells text (slice_index_or scripts s (record { groups = [] }))

abbrev pub SpelledScriptsAreOfBytes : Type 0
SpelledScriptsAreOfBytes = (scripts : List Script) → AreSpelled scripts → AreOfBytes scripts

-- ---- the log of a desk, the newest entry first

module _ {Q R : Type 0} (values : Values Q R FileEntry) where
  -- its entries do what they say, the oldest first
  abbrev pub LogsDo : Type 0
  LogsDo =
      (g : Geometry) (start : Map) (base : ℕ) (es : List FileEntry)
      → rule.IsLegalHistory values file_group g start base es
      → AllDo g start (reverse es)

  -- and lead to the map after its transactions
  abbrev pub LogsLead : Type 0
  LogsLead =
      (start : Map) (base : ℕ) (es : List FileEntry)
      → ledger.map_after start (history values file_group base es) ≡ map_after start (reverse es)
