use Rattle.std.proofs.Common.{◌∙◌, subst, ◌<◌, arith, length, rules}
use Rattle.std.proofs.lemmas.Option.{get_or_from_slice_get, slice_get_within}
use Rattle.mq_notices.specs.Ends.{announced, served_by_helper, served_by_session}
use Rattle.mq_run.specs.Pairs.{AreDone}
use Rattle.mq_turns.specs.AtDesk.{view}
use Rattle.mq_run.proofs.PlayingGroups.{read-element}
use Rattle.mq_run.proofs.together.play_each.Goals as goal

pub for_each_mut-requires-clause-accepts : goal.for_each_mut-requires-clause-accepts
for_each_mut-requires-clause-accepts g c κs within = λ i p below is.
    let at = read-element c.args.pairs.now i p.now below is in
    let one : i < length c.args.scripts.now = omega arith in
    (one, (c.requires.desk i p.now at, (c.requires.ready i p.now at, (c.requires.ease i p.now at, ((λ s is. c.requires.room i p.now s at is), (c.requires.open i p.now at, search rules))))))

pub returns-clause-played : goal.returns-clause-played
returns-clause-played g c = λ i a b s from at script.
    let within = slice_get_within c.for_each_mut.new.s i b at in
    let below : i < length c.args.pairs.now = omega (arith, c.for_each_mut.auto.s) in
    let called = (c.for_each_mut.ensures i b below).1 in
    let old = called.argument_is ∙ get_or_from_slice_get c.args.pairs.now i a b from in
    let new = called.left ∙ get_or_from_slice_get c.for_each_mut.new.s i b b at in
    let w = called.after_call.now in
    let played = g.M.Scripted.has_played in
    let F = λ (y : _). played c.args.files.now.geometry i s.groups y.session.runner.told.items y.session.runner.reads.items (announced y.session.announcing) (served_by_session y.session.announcing) (view a.session.runner.user.chair) (view y.session.runner.user.chair) in
    let H = λ (x : _). played c.args.files.now.geometry i s.groups w.session.runner.told.items w.session.runner.reads.items (announced w.session.announcing) (served_by_session w.session.announcing) (view x.session.runner.user.chair) (view w.session.runner.user.chair) in
    subst F new (subst H old (search rules))

pub returns-clause-served : goal.returns-clause-served
returns-clause-served g c = λ i a b from at.
    let within = slice_get_within c.for_each_mut.new.s i b at in
    let below : i < length c.args.pairs.now = omega (arith, c.for_each_mut.auto.s) in
    let called = (c.for_each_mut.ensures i b below).1 in
    let old = called.argument_is ∙ get_or_from_slice_get c.args.pairs.now i a b from in
    let new = called.left ∙ get_or_from_slice_get c.for_each_mut.new.s i b b at in
    let w = called.after_call.now in
    let served = g.M.Scripted.has_served in
    let F = λ (y : _). served i (view a.helper.assistant.helper.chair) (served_by_helper y.helper.listening) (view y.helper.assistant.helper.chair) in
    let H = λ (x : _). served i (view x.helper.assistant.helper.chair) (served_by_helper w.helper.listening) (view w.helper.assistant.helper.chair) in
    subst F new (subst H old (search rules))

pub returns-clause-done : goal.returns-clause-done
returns-clause-done g c = λ i b at.
    let within = slice_get_within c.for_each_mut.new.s i b at in
    let below : i < length c.args.pairs.now = omega (arith, c.for_each_mut.auto.s) in
    let called = (c.for_each_mut.ensures i b below).1 in
    let new = called.left ∙ get_or_from_slice_get c.for_each_mut.new.s i b b at in
    let F = λ (y : _). AreDone y.line y.session.announcing y.helper.listening in
    subst F new (search rules)
