use Rattle.std.proofs.Common.{sym, subst}
use Rattle.std.specs.List.{All}
use Rattle.std.proofs.lemmas.List.Elements.{All-map}
use Rattle.mq_turns.specs.AtDesk.{AtDesk}
use Rattle.mq_kv.proofs.Leaving.{left-alone}
use Rattle.mq_kv.proofs.closing.Kv+P.into_desk.Goals as goal

pub returns-clause-chairs : goal.returns-clause-chairs
returns-clause-chairs g c = left-alone (λ s. s.chair) (λ h. h.chair) c.args.sessions.items c.new.result.items c.leave.result.items c.leave.ensures c.new.ensures.items

pub returns-clause-at : goal.returns-clause-at
returns-clause-at g c =
    let left = left-alone (λ s. s.chair) (λ h. h.chair) c.args.sessions.items c.new.result.items c.leave.result.items c.leave.ensures c.new.ensures.items in
    subst (λ chairs. All (λ chair. AtDesk c.args.self.desk chair) chairs) (sym left)
    (All-map (λ chair. AtDesk c.args.self.desk chair) (λ s. s.chair) c.args.sessions.items c.requires.at)
