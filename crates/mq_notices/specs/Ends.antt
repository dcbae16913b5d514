-- What both ends of a line know between their calls.
use Rattle.std.specs.Prelude.{◌≡◌, ◌⊎◌, ◌<◌, ◌≤◌, ℕ, true, List, [], length, Option, vec_capacity}
use Rattle.crossbeam_queue.specs.Passes.{IsPassOf, view}
use Rattle.mq_notices.specs.Notices.{HasLast, all_of, numbers_in, numbers_of, some_of}
use Rattle.mq_notices.specs.declared.helper.HelperEnd.{HelperEnd}
use Rattle.mq_notices.specs.declared.line.Line.{Line}
use Rattle.mq_notices.specs.declared.session.SessionEnd.{SessionEnd}

-- ---- the session

-- the numbers of what the session has pushed
abbrev pub pushed_by : SessionEnd → List (Option ℕ)
pushed_by e = (view e.pass).pushed

-- the numbers that the session has announced, in their order
abbrev pub announced : SessionEnd → List ℕ
announced e = numbers_in (pushed_by e)

-- the numbers of the notices that the session took itself, in their order
abbrev pub served_by_session : SessionEnd → List ℕ
served_by_session e = numbers_of e.taken.items

-- The end is the session's, knows what the session has taken, and has room for all notices.
pub record IsAtWork (l : Line) (e : SessionEnd) : Type 0 where
  pub queue : IsPassOf l.queue e.pass
  pub session : (view e.pass).session ≡ true
  pub taken : (view e.pass).mine ≡ e.taken.items
  pub next : e.pushed ≡ length (pushed_by e)
  pub room : l.count < vec_capacity e.taken
  pub none : e.numbers.items ≡ []
  pub spare : l.count < vec_capacity e.numbers

-- The session may push, and has not pushed the last notice.
pub record IsOpen (l : Line) (e : SessionEnd) : Type 0 where
  pub work : IsAtWork l e
  pub pushed : pushed_by e ≡ some_of (announced e)
  pub few : length (announced e) ≤ l.count

-- The session has pushed the last notice.
pub record HasFinished (l : Line) (e : SessionEnd) : Type 0 where
  pub work : IsAtWork l e
  pub pushed : pushed_by e ≡ all_of (announced e)
  pub few : length (announced e) ≤ l.count

-- ---- the helper

-- the numbers of the notices that the helper took, in their order
abbrev pub served_by_helper : HelperEnd → List ℕ
served_by_helper e = numbers_of e.taken.items

-- The end is the helper's, knows what the helper has taken, and has room for all notices.
pub record IsHelping (l : Line) (e : HelperEnd) : Type 0 where
  pub queue : IsPassOf l.queue e.pass
  pub helper : (view e.pass).helper ≡ true
  pub taken : (view e.pass).theirs ≡ e.taken.items
  pub room : l.count < vec_capacity e.taken

-- The helper has taken nothing yet.
pub record IsFresh (l : Line) (e : HelperEnd) : Type 0 where
  pub helping : IsHelping l e
  pub none : e.taken.items ≡ []

-- The helper has taken the last notice, or as many as there can be.
pub record HasHelped (l : Line) (e : HelperEnd) : Type 0 where
  pub helping : IsHelping l e
  pub ended : HasLast e.taken.items ⊎ (l.count < length e.taken.items)
