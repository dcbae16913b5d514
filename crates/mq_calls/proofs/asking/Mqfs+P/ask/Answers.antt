use Rattle.std.proofs.Common.{◌≡◌, ◌∙◌, ap, rules, subst, sym}
use Rattle.std.specs.Prelude.{false}
use Rattle.std.specs.List.{All}
use Rattle.mq_tree.specs.Requests.{is_change}
use Rattle.mq_turns.specs.AtDesk.{AtDesk, view}
use Rattle.mq_calls.specs.Acts.{GoesOn}
use Rattle.mq_calls.specs.Asking.{changes, memory}
use Rattle.mq_calls.specs.Group.{file_group}
use Rattle.mq_calls.proofs.AskingFirstChange.{at-answer, at-change, at-wanting, none-changes}
use Rattle.mq_calls.proofs.RequestsUnchanged.{reads-nothing}
use Rattle.mq_sessions.proofs.Attempts.{goes-at-once}
use Rattle.mq_sessions.proofs.SessionsCalled.{ready-counted}
use Rattle.mq_sessions.specs.Calls.{IsReady}
use Rattle.mq_calls.proofs.asking.Mqfs+P.ask.Goals as goal

-- ---- a request may change the tree

pub returns-in-Some-clause-desk : goal.returns-in-Some-clause-desk
returns-in-Some-clause-desk g c = subst (λ x. AtDesk c.args.self.now.desk x.chair) (sym c.count_call.ensures.kept) c.requires.desk

pub returns-in-Some-clause-ready : goal.returns-in-Some-clause-ready
returns-in-Some-clause-ready g c =
    let s = c.args.session.now in
    let e = c.count_call.ensures in
    let geometry = c.args.self.now.geometry in
    subst (λ x. IsReady file_group geometry x.queue x.calls x.held (view x.chair)) (sym e.kept) (ready-counted file_group geometry s.queue s.calls c.count_call.new.self.calls _ s.held (view s.chair) e.one e.limit c.requires.ready)

pub returns-in-Some-clause-refused : goal.returns-in-Some-clause-refused
returns-in-Some-clause-refused g c = changes c.in-Some.ensures.some (ap (λ x. view x.chair) c.count_call.ensures.kept)

pub returns-in-Some-clause-changes : goal.returns-in-Some-clause-changes
returns-in-Some-clause-changes g c = at-change c.args.requests.now c.in-Some.index c.in-Some.ensures.some

pub returns-in-Some-clause-goes : goal.returns-in-Some-clause-goes
returns-in-Some-clause-goes g c =
    let v = view c.args.session.now.chair in
    subst (λ x. GoesOn v (view x.chair)) (sym c.count_call.ensures.kept) (goes-at-once v)

pub returns-in-Some-clause-limit : goal.returns-in-Some-clause-limit
returns-in-Some-clause-limit g c = λ most. c.count_call.ensures.kept ∙ ap (λ n. record c.args.session.now { calls = n }) (c.count_call.ensures.limit most)

-- ---- each request only reads

pub ask-requires-clause-reads : goal.ask-requires-clause-reads
ask-requires-clause-reads g c =
    let reads : All (λ r. is_change r ≡ false) c.args.requests.now = search rules in
    reads-nothing c.args.self.now.geometry c.args.session.now.queue c.args.requests.now reads

pub returns-in-Ok-clause-changes : goal.returns-in-Ok-clause-changes
returns-in-Ok-clause-changes g c =
    let reads : All (λ r. is_change r ≡ false) c.args.requests.now = search rules in
    at-answer c.args.requests.now c.in-Ok.answer reads

pub returns-in-Ok-clause-kept : goal.returns-in-Ok-clause-kept
returns-in-Ok-clause-kept g c =
    let reads : All (λ r. is_change r ≡ false) c.args.requests.now = search rules in
    λ i first. absurd (none-changes c.args.requests.now i reads first)

pub returns-in-Err-clause-refused : goal.returns-in-Err-clause-refused
returns-in-Err-clause-refused g c = memory c.in-Err.ensures.refused

pub returns-in-Err-clause-changes : goal.returns-in-Err-clause-changes
returns-in-Err-clause-changes g c =
    let reads : All (λ r. is_change r ≡ false) c.args.requests.now = search rules in
    at-wanting c.args.requests.now reads

pub returns-in-Err-clause-kept : goal.returns-in-Err-clause-kept
returns-in-Err-clause-kept g c =
    let reads : All (λ r. is_change r ≡ false) c.args.requests.now = search rules in
    λ i first. absurd (none-changes c.args.requests.now i reads first)
