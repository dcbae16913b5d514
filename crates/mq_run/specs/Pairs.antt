-- Both ends of a line of notices, before a script is played and after it.
use Rattle.std.specs.Prelude.{◌≡◌, []}
use Rattle.mq_notices.specs.Ends.{HasFinished, HasHelped, IsFresh, IsOpen, announced, served_by_session}
use Rattle.mq_notices.specs.declared.helper.HelperEnd.{HelperEnd}
use Rattle.mq_notices.specs.declared.line.Line.{Line}
use Rattle.mq_notices.specs.declared.session.SessionEnd.{SessionEnd}

-- nothing was announced, and nothing was taken
pub record AreOpen (line : Line) (announcing : SessionEnd) (listening : HelperEnd) : Type 0 where
  pub session : IsOpen line announcing
  pub none : announced announcing ≡ []
  pub idle : served_by_session announcing ≡ []
  pub fresh : IsFresh line listening

-- the session has given its last notice, and its helper has taken that one or all that there can be
pub record AreDone (line : Line) (announcing : SessionEnd) (listening : HelperEnd) : Type 0 where
  pub finished : HasFinished line announcing
  pub helped : HasHelped line listening
