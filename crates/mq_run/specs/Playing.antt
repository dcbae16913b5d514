-- What the groups of a script come to, one after another, on one session.
use Rattle.std.specs.Prelude.{◌≡◌, ◌⊎◌, ◌↔◌, ◌<◌, ◌≤◌, ◌++◌, ◌-◌, ◌^◌, ℕ, suc, Bool, true, false, List, [], ◌∷◌, length, Option, Some, None, Result, Ok, Err, slice_get, vec_capacity}
use Rattle.std.specs.declared.vec.Vec.{Vec}
use Rattle.mq_blocks.specs.Drive.{PortState}
use Rattle.mq_blocks.specs.declared.geometry.Geometry.{Geometry}
use Rattle.mq_calls.specs.Acts.{Answer, Call, GoesOn, HasActed, IsRefused, ReadsOnly}
use Rattle.mq_calls.specs.Asking.{IsFirstChange, IsNotAnswered, refusal_at}
use Rattle.mq_calls.specs.Calling.{call_by}
use Rattle.mq_calls.specs.Synchronizing.{IsDurable, IsNotDurable}
use Rattle.mq_queue_side.specs.declared.answers.Refusal.{Refusal}
use Rattle.mq_drive.specs.Steps.{PortFault}
use Rattle.mq_drive.specs.declared.port.Port.{Ghosts}
use Rattle.mq_calls.specs.declared.entry.FileEntry.{FileEntry}
use Rattle.mq_journal.specs.Numbers.{Seat}
use Rattle.mq_notices.specs.declared.line.Line.{Line as NoticeLine}
use Rattle.mq_report.specs.Sessions.{ends_session}
use Rattle.mq_report.specs.declared.line.Line.{Line}
use Rattle.mq_report.specs.declared.line.Told.{Told}
use Rattle.mq_run.specs.Helping.{AreServed}
use Rattle.mq_script.specs.Scripts.{Group}
use Rattle.mq_script.specs.declared.group.End.{End}
use Rattle.mq_script.specs.declared.group.End.TheVariants.{Ask, Fatomic, Fsync}
use Rattle.mq_tree.specs.declared.request.Reply.{Reply}
use Rattle.mq_tree.specs.declared.request.Request.{Request}

abbrev pub is_durable : End → Bool
is_durable Fsync = true
is_durable Fatomic = false
is_durable Ask = false

-- the call by which a session asks its k-th group
abbrev pub call_at : (session k : ℕ) → Group → Call
call_at session k group = call_by session k (is_durable group.end) group.requests

-- ---- answers

-- what is reported of a group that was answered so
abbrev pub answered : Result Answer Refusal → Result ℕ Refusal
answered (Ok a) = Ok a.at
answered (Err r) = Err r

abbrev pub told_of : (session k : ℕ) → End → Result Answer Refusal → Told
told_of session k end answer = record { session = session; group = k; end = end; answer = answered answer }

-- the number that a group has drawn which was answered well
abbrev pub sent_at : (at : ℕ) → (drew : Bool) → Option ℕ
sent_at at true = Some at
sent_at at false = None

abbrev pub sent_number : Result Answer Refusal → Option ℕ
sent_number (Ok a) = sent_at a.at a.drew
sent_number (Err r) = None

-- the answers are those of all groups, or the last of them ends the session; no other does
pub record AreAnswers (groups : ℕ) (told : List Told) : Type 0 where
  pub most : length told ≤ groups
  pub before : (i : ℕ) (t : Told) → slice_get told i ≡ Some t → suc i < length told
      → ends_session t.answer ≡ false
  pub all : (length told ≡ groups)
      ⊎ ((t : Told) × (slice_get told (length told - 1) ≡ Some t) × (ends_session t.answer ≡ true))

-- The groups can be counted in 32 bits, and so can the requests of each.
pub record IsShort (groups : List Group) : Type 0 where
  pub few : length groups < 2 ^ 32
  pub each : (i : ℕ) (group : Group) → slice_get groups i ≡ Some group → length group.requests < 2 ^ 32

-- Nothing was reported yet. There is room for what is reported of each group, for its line, and for a notice
-- of it.
pub record HasRoom {Z : Type 0} (groups : List Group) (told : Vec Told Z)
    (reads : Vec Line Z) (notices : NoticeLine) : Type 0 where
  pub told_none : told.items ≡ []
  pub told_room : length groups ≤ vec_capacity told
  pub reads_none : reads.items ≡ []
  pub reads_room : length groups ≤ vec_capacity reads
  pub notices_room : length groups ≤ notices.count

-- ---- one group

-- A group that asks is refused with `Changes` exactly where a request of it may change the tree, by the
-- first one.
abbrev pub TellsOfChanges : End → List Request → Result ℕ Refusal → Type 0
TellsOfChanges Fsync requests answer = Unit {0}
TellsOfChanges Fatomic requests answer = Unit {0}
TellsOfChanges Ask requests answer =
    (index : ℕ) → IsFirstChange requests index ↔ (answer ≡ Err (refusal_at index))

-- the line of a group that was read
pub record IsReadLine (session k : ℕ) (end : End) (at : ℕ) (replies : List Reply) (l : Line) : Type 0 where
  pub number : l.number ≡ at
  pub commit : l.commit ≡ false
  pub session_is : l.session ≡ session
  pub group : l.group ≡ k
  pub end_is : l.end ≡ end
  pub replies_are : l.replies ≡ replies

-- the lines that a group has which was answered so
abbrev pub AreLinesAt : (session k : ℕ) → End → (at : ℕ) → (drew : Bool) → List Reply → List Line → Type 0
AreLinesAt session k end at true replies lines = lines ≡ []
AreLinesAt session k end at false replies lines =
    (l : Line) × IsReadLine session k end at replies l × (lines ≡ l ∷ [])

abbrev pub AreLines : (session k : ℕ) → End → Result Answer Refusal → List Line → Type 0
AreLines session k end (Ok a) lines = AreLinesAt session k end a.at a.drew a.replies.items lines
AreLines session k end (Err r) lines = lines ≡ []

-- the number of a group that drew and was answered well: such a group has no line of its own
abbrev pub sent_by : Result ℕ Refusal → List Line → List ℕ
sent_by (Ok at) [] = at ∷ []
sent_by (Ok at) (l ∷ ls) = []
sent_by (Err r) lines = []

module _ {P : Type 0} {G : Ghosts P} (state : P → PortState) (faults : P → List PortFault) where
  -- the group was done as its end asks
  abbrev pub IsDone : Geometry → End → Call → (at : ℕ) → (drew : Bool) → List Reply → Seat P FileEntry G
      → Seat P FileEntry G → Type 0
  IsDone g Fsync c at drew replies old new = IsDurable state faults g c at drew replies old new
  IsDone g Fatomic c at drew replies old new = HasActed state faults g c at drew replies old new
  IsDone g Ask c at drew replies old new = (drew ≡ false) × ReadsOnly c replies at old new

  abbrev pub IsNotDone : Geometry → End → Call → Refusal → Seat P FileEntry G → Seat P FileEntry G → Type 0
  IsNotDone g Fsync c r old new = IsNotDurable state faults g c old new r.cause r.drawn
  IsNotDone g Fatomic c r old new = IsRefused state faults g c old new r.cause r.drawn
  IsNotDone g Ask c r old new = IsNotAnswered c.requests old new r.cause r.drawn

  -- What a group came to, and the line that it has if it was read: the line of a commit is made of the
  -- history.
  abbrev pub Comes : Geometry → (session k : ℕ) → Group → Result ℕ Refusal → List Line
      → Seat P FileEntry G → Seat P FileEntry G → Type 0
  Comes g session k group (Ok at) [] old new =
      (replies : List Reply) × IsDone g group.end (call_at session k group) at true replies old new
  Comes g session k group (Ok at) (l ∷ []) old new =
      (replies : List Reply) × IsReadLine session k group.end at replies l
      × IsDone g group.end (call_at session k group) at false replies old new
  Comes g session k group (Ok at) (l ∷ m ∷ ls) old new = ⊥
  Comes g session k group (Err r) [] old new = IsNotDone g group.end (call_at session k group) r old new
  Comes g session k group (Err r) (l ∷ ls) old new = ⊥

  -- what is reported of it
  pub record IsTold (g : Geometry) (session k : ℕ) (group : Group) (t : Told) (lines : List Line)
      (old new : Seat P FileEntry G) : Type 0 where
    pub session_is : t.session ≡ session
    pub group_is : t.group ≡ k
    pub end : t.end ≡ group.end
    pub comes : Comes g session k group t.answer lines old new
    pub changes : TellsOfChanges group.end group.requests t.answer
    pub goes : GoesOn old new

  -- ---- the groups of a script

  -- The first groups were asked, one after another: the answers, the lines of those that were read, the
  -- numbers of those that drew and were answered well, and the numbers of the notices that the session
  -- served itself after one of its groups.
  pub data Plays (g : Geometry) (session : ℕ) (groups : List Group)
      (from : Seat P FileEntry G) : (k : ℕ)
      → List Told → List Line → (sent served : List ℕ) → Seat P FileEntry G → Type 0 where
    begins : Plays g session groups from 0 [] [] [] [] from
    goes : {k : ℕ} {told : List Told} {lines more : List Line} {sent served : List ℕ}
        {old new : Seat P FileEntry G} {group : Group} {t : Told}
        → Plays g session groups from k told lines sent served old → slice_get groups k ≡ Some group
        → IsTold g session k group t more old new
        → Plays g session groups from (suc k) (told ++ t ∷ []) (lines ++ more)
        (sent ++ sent_by t.answer more) served new
    serves : {k : ℕ} {told : List Told} {lines : List Line} {sent served more : List ℕ}
        {old new : Seat P FileEntry G}
        → Plays g session groups from k told lines sent served old
        → AreServed state faults session old more new
        → Plays g session groups from k told lines sent (served ++ more) new

  -- The session has played its script.
  pub record HasPlayed (g : Geometry) (session : ℕ) (groups : List Group) (told : List Told)
      (lines : List Line) (sent served : List ℕ) (old new : Seat P FileEntry G) : Type 0 where
    pub plays : Plays g session groups old (length told) told lines sent served new
    pub answers : AreAnswers (length groups) told
