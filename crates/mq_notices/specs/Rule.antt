-- The rule of a queue of notices.
use Rattle.std.specs.Prelude.{◌≡◌, ℕ, Bool, true, List, ◌++◌, Option}
use mathlib.Core.Option.{some}
use lib.ListN.{get_elem?}
use Rattle.mq_notices.specs.Notices.{Merged, notices_from}
use Rattle.mq_notices.specs.declared.notice.Notice.{Notice}
use Rattle.mq_notices.specs.declared.rule.Log.{Log}

abbrev pub log : (session helper : Bool) → List (Option ℕ) → (mine theirs : List Notice) → Log
log s h pushed mine theirs =
    record { session = s; helper = h; pushed = pushed; mine = mine; theirs = theirs }

-- One pass at most is the session's, which knows what was pushed and what it has taken itself; and one at
-- most is the helper's, which knows what it has taken.
pub record Fits (session helper : ℕ) (pushed : List (Option ℕ)) (mine theirs : List Notice)
    (port : ℕ) (v : Log) : Type 0 where
  pub as_session : v.session ≡ true → (port ≡ session) × (v.pushed ≡ pushed) × (v.mine ≡ mine)
  pub as_helper : v.helper ≡ true → (port ≡ helper) × (v.theirs ≡ theirs)

-- The queue holds notices with consecutive indexes that end right below the number of pushes. Those below
-- were taken, each once and in their order, by the session or by the helper.
pub record IsQueued (items : List Notice) (views : List Log) : Type 0 where
  pub session : ℕ
  pub helper : ℕ
  pub pushed : List (Option ℕ)
  pub mine : List Notice
  pub theirs : List Notice
  pub taken : List Notice
  pub merged : Merged mine theirs taken
  pub whole : taken ++ items ≡ notices_from 0 pushed
  pub each : (port : ℕ) (v : Log) → get_elem? views port ≡ some v
      → Fits session helper pushed mine theirs port v

-- What the two have taken, with what is left in the queue, is what was pushed.
pub record AreTaken (pushed : List (Option ℕ)) (mine theirs items : List Notice) : Type 0 where
  pub taken : List Notice
  pub merged : Merged mine theirs taken
  pub whole : taken ++ items ≡ notices_from 0 pushed
