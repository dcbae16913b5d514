use Rattle.std.proofs.Common.{◌∙◌, ℕ, ap, subst}
use Rattle.mq_notices.specs.Ends.{announced, served_by_session}
use Rattle.mq_turns.specs.AtDesk.{view}
use Rattle.mq_run.specs.Helping.{AreServed}
use Rattle.mq_run.proofs.PlayingGroups.{has-served}
use Rattle.mq_run.proofs.ServedNotices.{chair-served, same-served}
use Rattle.mq_run.proofs.playing.play.Goals as goal

pub returns-clause-queue : goal.returns-clause-queue
returns-clause-queue g c =
    let more = c.finish.ensures.served in
    same-served _ (λ r. r.user.queue) (λ n r s step. step.2) c.ask_groups.new.runner more.more c.finish.new.server more.serves ∙ c.ask_groups.ensures.queue

pub returns-clause-played : goal.returns-clause-played
returns-clause-played g c =
    let more = c.finish.ensures.served in
    let old = c.ask_groups.new.runner in
    let new = c.finish.new.server in
    let q = c.args.runner.now.user.queue in
    let groups = c.args.script.now.groups in
    let told = same-served _ (λ r. r.told.items) (λ n r s step. ap (λ v. v.items) step.0) old more.more new more.serves in
    let reads = same-served _ (λ r. r.reads.items) (λ n r s step. ap (λ v. v.items) step.1) old more.more new more.serves in
    let own = c.ask_groups.ensures.queue in
    let served = chair-served g.P.Port.state g.P.Port.faults _ (λ r. view r.user.chair) (λ r. r.user.queue) (λ n r s step. (step.2, step.4)) old more.more new more.serves in
    has-served g.P.Port.state g.P.Port.faults c.args.files.now.geometry q groups (view c.args.runner.now.user.chair)
    old.told.items new.told.items old.reads.items new.reads.items (announced c.ask_groups.new.announcing) (announced c.finish.new.self)
    (served_by_session c.ask_groups.new.announcing) (served_by_session c.finish.new.self) more.more (view old.user.chair) (view new.user.chair)
    told reads c.finish.ensures.announced c.ask_groups.ensures.played (subst (λ (x : ℕ). AreServed g.P.Port.state g.P.Port.faults x (view old.user.chair) more.more (view new.user.chair)) own served) more.added
