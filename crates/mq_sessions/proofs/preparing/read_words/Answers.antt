use Rattle.std.proofs.Common.{sym, subst}
use Rattle.mq_turns.specs.AtDesk.{start_of, view}
use Rattle.mq_turns.specs.Desk.{Sees}
use Rattle.mq_journal.specs.Machine.{journal}
use Rattle.mq_sessions.proofs.CommittingInHand.{has-read, sees-base}
use Rattle.mq_sessions.proofs.preparing.read_words.Goals as goal

pub returns-clause-read : goal.returns-clause-read
returns-clause-read g c =
    has-read g.P.Port.state g.P.Port.faults g.G.Groups.group (start_of c.args.desk.now) (record { front = c.front-front.result; base = c.base-base.result }) (view c.args.chair.now) (view c.front-front.new.chair) (view c.base-base.new.chair) c.requires.some c.front-front.ensures.front c.base-base.ensures.based c.base-base.ensures.above

pub returns-clause-seen : goal.returns-clause-seen
returns-clause-seen g c =
    let was = c.base-base.ensures.was in
    (was.0, subst (λ x. Sees (journal g.P.Port.state g.P.Port.faults g.G.Groups.group) x was.0) (sym c.base-base.ensures.based) (sees-base (journal g.P.Port.state g.P.Port.faults g.G.Groups.group) c.base-base.result was.0 (view c.front-front.new.chair) was.1 was.2))
