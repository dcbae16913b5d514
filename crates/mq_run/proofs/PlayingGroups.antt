-- The groups of a script, asked one after another: one more of them, and the last.
use Rattle.std.proofs.Common.{◌≡◌, ◌↔◌, ◌<◌, ◌≤◌, ◌-◌, ◌++◌, ◌∙◌, ℕ, suc, zero, refl, sym, ap, subst, inl, inr, arith, length-append, List, [], ◌∷◌, get_or, length}
use Rattle.std.specs.Prelude.{Bool, true, false, Option, None, Some, Result, Ok, Err, IfOk, IfErr, slice_get}
use Rattle.std.specs.List.{All}
use Rattle.std.proofs.lemmas.List.Elements.{All-append}
use Rattle.std.proofs.lemmas.Option.{get_or_from_slice_get, slice_get_read, slice_get_within}
use Rattle.mq_blocks.specs.Drive.{PortState}
use Rattle.mq_blocks.specs.declared.geometry.Geometry.{Geometry}
use Rattle.mq_calls.specs.Acts.{Answer, GoesOn}
use Rattle.mq_calls.specs.Asking.{IsFirstChange, refusal_at}
use Rattle.mq_queue_side.specs.declared.answers.Refusal.{Refusal}
use Rattle.mq_drive.specs.Steps.{PortFault}
use Rattle.mq_drive.specs.declared.port.Port.{Ghosts}
use Rattle.mq_calls.specs.declared.entry.FileEntry.{FileEntry}
use Rattle.mq_journal.specs.Numbers.{Seat}
use Rattle.mq_report.specs.Sessions.{ends_session}
use Rattle.mq_report.specs.declared.line.Line.{Line}
use Rattle.mq_report.specs.declared.line.Told.{Told}
use Rattle.mq_script.specs.Scripts.{Group}
use Rattle.mq_script.specs.declared.group.End.{End}
use Rattle.mq_script.specs.declared.group.End.TheVariants.{Ask}
use Rattle.mq_tree.specs.declared.request.Reply.{Reply}
use Rattle.mq_tree.specs.declared.request.Request.{Request}
use Rattle.mq_notices.specs.Notices.{with_number}
use Rattle.mq_run.specs.Helping.{AreServed}
use Rattle.mq_run.specs.Playing.{AreAnswers, AreLines, AreLinesAt, Comes, IsDone, IsNotDone, IsReadLine, IsTold, HasPlayed, Plays, TellsOfChanges, answered, begins, call_at, goes, sent_at, sent_by, sent_number, serves, told_of}

-- ---- lists

pub get-left : {A : Type 0} (xs ys : List A) (i : ℕ) → i < length xs → slice_get (xs ++ ys) i ≡ slice_get xs i
get-left [] ys i h = absurd (omega arith)
get-left (x ∷ xs) ys zero h = refl
get-left (x ∷ xs) ys (suc i) h = get-left xs ys i (omega arith)

pub get-end : {A : Type 0} (xs : List A) (y : A) → slice_get (xs ++ y ∷ []) (length xs) ≡ Some y
get-end [] y = refl
get-end (x ∷ xs) y = get-end xs y

pub get-last : {A : Type 0} (xs : List A) (y : A) → slice_get (xs ++ y ∷ []) (length (xs ++ y ∷ []) - 1) ≡ Some y
get-last xs y =
    let n : length (xs ++ y ∷ []) - 1 ≡ length xs = omega (arith, length-append xs (y ∷ [])) in
    ap (slice_get (xs ++ y ∷ [])) n ∙ get-end xs y

pub read-element : {A : Type 0} (xs : List A) (i : ℕ) (x : A) → i < length xs → x ≡ get_or xs i x → slice_get xs i ≡ Some x
read-element xs i x within is = slice_get_read xs (length xs) i x refl within is

pub same-element : {A : Type 0} (xs : List A) (i : ℕ) (x y : A) → x ≡ get_or xs i x → slice_get xs i ≡ Some y → x ≡ y
same-element xs i x y is at = is ∙ get_or_from_slice_get xs i y x at

pub group-at : (groups inside : List Group) (i : ℕ) (x : Group) → inside ≡ groups → i < length inside → x ≡ get_or inside i x → slice_get groups i ≡ Some x
group-at groups inside i x same within is = subst (λ (xs : List Group). slice_get xs i ≡ Some x) same (read-element inside i x within is)

-- ---- answers

-- the session goes on after it
abbrev pub Stays : Told → Type 0
Stays t = ends_session t.answer ≡ false

pub stays-at : (told : List Told) (i : ℕ) (t : Told) → All Stays told → slice_get told i ≡ Some t → Stays t
stays-at told i t a at = subst Stays (get_or_from_slice_get told i t t at) (a i t (slice_get_within told i t at))

pub none-stays : (told : List Told) → told ≡ [] → All Stays told
none-stays told e = subst (λ (x : List Told). All Stays x) (sym e) (λ k d within. absurd (omega arith))

one : (t : Told) → Stays t → All Stays (t ∷ [])
one t on zero d within = on
one t on (suc i) d within = absurd (omega arith)

pub stays-on : (told : List Told) (t : Told) → All Stays told → ends_session t.answer ≡ false → All Stays (told ++ t ∷ [])
stays-on told t a on = All-append Stays told (t ∷ []) a (one t on)

pub all-answered : (groups : ℕ) (told : List Told) → All Stays told → length told ≡ groups → AreAnswers groups told
all-answered groups told a e = record {
  most = omega arith;
  before = λ i t at within. stays-at told i t a at;
  all = inl e;
}

pub ended : (groups : ℕ) (told : List Told) (t : Told) → All Stays told → length told < groups → ends_session t.answer ≡ true → AreAnswers groups (told ++ t ∷ [])
ended groups told t a few last = record {
  most = omega (arith, length-append told (t ∷ []));
  before = λ i u at within.
      let h : i < length told = omega (arith, length-append told (t ∷ [])) in
      stays-at told i u a (sym (get-left told (t ∷ []) i h) ∙ at);
  all = inr (t, get-last told t, last);
}

-- ---- groups that ask

abbrev told-as : Refusal → Result ℕ Refusal
told-as r = Err r

abbrev refused-as : Refusal → Result Answer Refusal
refused-as r = Err r

refusal-in : (r s : Refusal) → refused-as r ≡ refused-as s → r ≡ s
refusal-in r s e = cc

refusal-told : (r s : Refusal) → told-as r ≡ told-as s → r ≡ s
refusal-told r s e = cc

-- what `ask` says of changes
pub tells-asked : (requests : List Request) (answer : Result Answer Refusal) → ((i : ℕ) → IsFirstChange requests i ↔ (answer ≡ Err (refusal_at i))) → TellsOfChanges Ask requests (answered answer)
tells-asked requests (Ok a) h i = (λ first. let e = (h i).0 first in absurd (cc), λ e. absurd (cc))
tells-asked requests (Err r) h i = (
  λ first. let e = (h i).0 first in ap told-as (refusal-in r (refusal_at i) e),
  λ e. (h i).1 (ap refused-as (refusal-told r (refusal_at i) e)),
)

-- ---- one more group

pub read-line : (session k : ℕ) (end : End) (answer : Result Answer Refusal) (a : Answer) (l : Line) → answer ≡ Ok a → a.drew ≡ false → IsReadLine session k end a.at a.replies.items l → AreLines session k end answer (l ∷ [])
read-line session k end answer a l is drew line =
    let P : Result Answer Refusal → Type 0 = λ x. AreLines session k end x (l ∷ []) in
    let Q : Bool → Type 0 = λ b. AreLinesAt session k end a.at b a.replies.items (l ∷ []) in
    subst P (sym is) (subst Q (sym drew) (l, line, refl))

module _ {P : Type 0} {G : Ghosts P} (state : P → PortState) (faults : P → List PortFault) (g : Geometry) (session k : ℕ) (group : Group) (v w : Seat P FileEntry G) where
  comes-at : (at : ℕ) (drew : Bool) (replies : List Reply) (more : List Line) → IsDone state faults g group.end (call_at session k group) at drew replies v w → AreLinesAt session k group.end at drew replies more → Comes state faults g session k group (Ok at) more v w
  comes-at at true replies more d e =
      let F : List Line → Type 0 = λ ls. Comes state faults g session k group (Ok at) ls v w in
      subst F (sym e) (replies, d)
  comes-at at false replies more d (l, is, e) =
      let F : List Line → Type 0 = λ ls. Comes state faults g session k group (Ok at) ls v w in
      subst F (sym e) (replies, is, d)

  comes : (answer : Result Answer Refusal) (more : List Line) → IfOk answer (λ a. IsDone state faults g group.end (call_at session k group) a.at a.drew a.replies.items v w) → IfErr answer (λ r. IsNotDone state faults g group.end (call_at session k group) r v w) → AreLines session k group.end answer more → Comes state faults g session k group (answered answer) more v w
  comes (Ok a) more d n lines = comes-at a.at a.drew a.replies.items more d lines
  comes (Err r) more d n lines =
      let F : List Line → Type 0 = λ ls. Comes state faults g session k group (Err r) ls v w in
      subst F (sym lines) n

  -- what is reported of a group that was asked
  pub told-by : (q n : ℕ) (answer : Result Answer Refusal) (more : List Line) → q ≡ session → n ≡ k → IfOk answer (λ a. IsDone state faults g group.end (call_at q n group) a.at a.drew a.replies.items v w) → IfErr answer (λ r. IsNotDone state faults g group.end (call_at q n group) r v w) → TellsOfChanges group.end group.requests (answered answer) → GoesOn v w → AreLines session k group.end answer more → IsTold state faults g session k group (told_of session k group.end answer) more v w
  told-by q n answer more qs nk d e changes goes_on are =
      let D : ℕ → ℕ → Type 0 = λ a b. IfOk answer (λ x. IsDone state faults g group.end (call_at a b group) x.at x.drew x.replies.items v w) in
      let N : ℕ → ℕ → Type 0 = λ a b. IfErr answer (λ r. IsNotDone state faults g group.end (call_at a b group) r v w) in
      let d2 = subst (D session) nk (subst (λ (a : ℕ). D a n) qs d) in
      let e2 = subst (N session) nk (subst (λ (a : ℕ). N a n) qs e) in
      record {
        session_is = refl;
        group_is = refl;
        end = refl;
        comes = comes answer more d2 e2 are;
        changes = changes;
        goes = goes_on;
      }

-- the number that a group has sent, by the answer and by its lines
sent-read : (session k : ℕ) (end : End) (at : ℕ) (drew : Bool) (replies : List Reply) (more : List Line) → AreLinesAt session k end at drew replies more → with_number (sent_at at drew) [] ≡ sent_by (Ok at) more
sent-read session k end at true replies more are = ap (λ (ls : List Line). sent_by (Ok at) ls) (sym are)
sent-read session k end at false replies more (l, line, are) = ap (λ (ls : List Line). sent_by (Ok at) ls) (sym are)

pub sent-is : (session k : ℕ) (end : End) (answer : Result Answer Refusal) (more : List Line) → AreLines session k end answer more → with_number (sent_number answer) [] ≡ sent_by (answered answer) more
sent-is session k end (Ok a) more are = sent-read session k end a.at a.drew a.replies.items more are
sent-is session k end (Err r) more are = refl

-- a group has sent at most one number
pub one-number : (sent : Option ℕ) → length (with_number sent []) ≤ 1
one-number None = omega arith
one-number (Some n) = omega arith

-- a group that ends the session has sent nothing
pub none-sent : (answer : Result ℕ Refusal) (more : List Line) → ends_session answer ≡ true → sent_by answer more ≡ []
none-sent (Ok at) more ends = absurd (cc)
none-sent (Err r) more ends = refl

module _ {P : Type 0} {G : Ghosts P} (state : P → PortState) (faults : P → List PortFault) (g : Geometry) (session : ℕ) (groups : List Group) (from : Seat P FileEntry G) where
  -- the same, by equal lists
  pub plays-as : (k : ℕ) (told told2 : List Told) (lines lines2 : List Line) (sent sent2 served served2 : List ℕ) (w : Seat P FileEntry G) → told2 ≡ told → lines2 ≡ lines → sent2 ≡ sent → served2 ≡ served → Plays state faults g session groups from k told lines sent served w → Plays state faults g session groups from k told2 lines2 sent2 served2 w
  plays-as k told told2 lines lines2 sent sent2 served served2 w t l s m p =
      subst (λ (z : List Told × List Line × List ℕ × List ℕ). Plays state faults g session groups from k z.0 z.1 z.2 z.3 w) (λ i. (sym t i, sym l i, sym s i, sym m i)) p

  pub none-played : (told : List Told) (lines : List Line) (sent served : List ℕ) → told ≡ [] → lines ≡ [] → sent ≡ [] → served ≡ [] → Plays state faults g session groups from 0 told lines sent served from
  none-played told lines sent served t l s m = plays-as 0 [] told [] lines [] sent [] served from t l s m begins

  -- one more group
  pub goes-on : (k : ℕ) (told told2 : List Told) (lines more lines2 : List Line) (sent sent2 served : List ℕ) (v w : Seat P FileEntry G) (group : Group) (t : Told) → Plays state faults g session groups from k told lines sent served v → slice_get groups k ≡ Some group → IsTold state faults g session k group t more v w → told2 ≡ told ++ t ∷ [] → lines2 ≡ lines ++ more → sent2 ≡ sent ++ sent_by t.answer more → Plays state faults g session groups from (suc k) told2 lines2 sent2 served w
  goes-on k told told2 lines more lines2 sent sent2 served v w group t p at is told_are lines_are sent_are =
      plays-as (suc k) (told ++ t ∷ []) told2 (lines ++ more) lines2 (sent ++ sent_by t.answer more) sent2 served served w told_are lines_are sent_are refl (goes p at is)

  -- notices that the session served itself
  pub serves-on : (k : ℕ) (told : List Told) (lines : List Line) (sent served served2 more : List ℕ) (v w : Seat P FileEntry G) → Plays state faults g session groups from k told lines sent served v → AreServed state faults session v more w → served2 ≡ served ++ more → Plays state faults g session groups from k told lines sent served2 w
  serves-on k told lines sent served served2 more v w p is served_are = plays-as k told told lines lines sent sent (served ++ more) served2 w refl refl refl served_are (serves p is)

  pub has-played : (k : ℕ) (told : List Told) (lines : List Line) (sent served : List ℕ) (w : Seat P FileEntry G) → Plays state faults g session groups from k told lines sent served w → length told ≡ k → AreAnswers (length groups) told → HasPlayed state faults g session groups told lines sent served from w
  has-played k told lines sent served w p n a = record {
    plays = subst (λ (x : ℕ). Plays state faults g session groups from x told lines sent served w) (sym n) p;
    answers = a;
  }

  -- the session has served the last notices after its script
  pub has-served : (told told2 : List Told) (lines lines2 : List Line) (sent sent2 served served2 more : List ℕ) (v w : Seat P FileEntry G) → told2 ≡ told → lines2 ≡ lines → sent2 ≡ sent → HasPlayed state faults g session groups told lines sent served from v → AreServed state faults session v more w → served2 ≡ served ++ more → HasPlayed state faults g session groups told2 lines2 sent2 served2 from w
  has-served told told2 lines lines2 sent sent2 served served2 more v w t l s h is served_are =
      let plays = plays-as (length told) told told2 lines lines2 sent sent2 (served ++ more) served2 w t l s served_are (serves h.plays is) in
      has-played (length told) told2 lines2 sent2 served2 w plays (ap length t) (subst (λ (x : List Told). AreAnswers (length groups) x) (sym t) h.answers)
