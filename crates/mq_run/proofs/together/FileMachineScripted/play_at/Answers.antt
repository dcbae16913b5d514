use Rattle.std.proofs.Common.{◌≡◌, ℕ, subst}
use Rattle.mq_notices.specs.Ends.{announced, served_by_session}
use Rattle.mq_script.specs.Scripts.{Script}
use Rattle.mq_run.proofs.PlayingGroups.{same-element, read-element}
use Rattle.mq_run.specs.Playing.{HasPlayed}
use Rattle.mq_turns.specs.AtDesk.{view}
use Rattle.mq_run.proofs.together.FileMachineScripted.play_at.Goals as goal

pub play-requires-clause-room : goal.play-requires-clause-room
play-requires-clause-room g c =
    let at = read-element c.args.scripts.now c.args.index c.index-scripts-index.result c.requires.within c.index-scripts-index.is in
    (c.requires.room c.index-scripts-index.result at).0

pub play-requires-clause-short : goal.play-requires-clause-short
play-requires-clause-short g c =
    let at = read-element c.args.scripts.now c.args.index c.index-scripts-index.result c.requires.within c.index-scripts-index.is in
    (c.requires.room c.index-scripts-index.result at).1

pub returns-clause-played : goal.returns-clause-played
returns-clause-played g c = λ s at.
    let script = c.index-scripts-index.result in
    let same : script ≡ s = same-element c.args.scripts.now c.args.index script s c.index-scripts-index.is at in
    let own : c.args.half.now.runner.user.queue ≡ c.args.index = c.requires.ready.1 in
    let F : ℕ → Script → Type 0 = λ q x. HasPlayed g.P.Port.state g.P.Port.faults c.args.files.now.geometry q x.groups c.play.new.runner.told.items c.play.new.runner.reads.items (announced c.play.new.announcing) (served_by_session c.play.new.announcing) (view c.args.half.now.runner.user.chair) (view c.play.new.runner.user.chair) in
    subst (F c.args.index) same (subst (λ (q : ℕ). F q script) own c.play.ensures.played)
