use Rattle.std.proofs.Common.{◌≡◌, List, rules, sym, subst}
use Rattle.mq_script.specs.declared.group.End.{End}
use Rattle.mq_script.specs.declared.group.End.TheVariants.{Ask}
use Rattle.mq_tree.specs.declared.request.Request.{Request}
use Rattle.mq_run.specs.Playing.{TellsOfChanges, answered}
use Rattle.mq_run.proofs.PlayingGroups.{tells-asked}
use Rattle.mq_run.proofs.playing.ask_group.Goals as goal

pub returns-in-Ask-clause-changes : goal.returns-in-Ask-clause-changes
returns-in-Ask-clause-changes g c =
    let end : c.args.group.now.end ≡ Ask = search rules in
    let requests : c.deref-in-Ask.result.now ≡ c.args.group.now.requests = search rules in
    let told = tells-asked c.deref-in-Ask.result.now c.ask.result c.ask.ensures.changes in
    subst (λ (x : End). TellsOfChanges x c.args.group.now.requests (answered c.ask.result)) (sym end)
    (subst (λ (rs : List Request). TellsOfChanges Ask rs (answered c.ask.result)) requests told)
