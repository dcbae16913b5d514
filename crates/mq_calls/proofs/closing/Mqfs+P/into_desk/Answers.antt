use Rattle.std.proofs.Common.{map, sym, subst}
use Rattle.std.specs.List.{All}
use Rattle.std.proofs.lemmas.List.Elements.{All-append, All-map}
use Rattle.mq_turns.specs.AtDesk.{AtDesk}
use Rattle.mq_calls.proofs.closing.Mqfs+P.into_desk.Goals as goal

pub returns-clause-at : goal.returns-clause-at
returns-clause-at g c =
    let of_sessions = All-map (λ chair. AtDesk c.args.self.desk chair) (λ s. s.chair) c.args.sessions.items c.requires.at in
    let of_helpers = All-map (λ chair. AtDesk c.args.self.desk chair) (λ h. h.chair) c.args.helpers.items c.requires.helpers in
    subst (λ chairs. All (λ chair. AtDesk c.args.self.desk chair) chairs) (sym c.leave.ensures)
    (All-append (λ chair. AtDesk c.args.self.desk chair) (map (λ s. s.chair) c.args.sessions.items) (map (λ h. h.chair) c.args.helpers.items) of_sessions of_helpers)
