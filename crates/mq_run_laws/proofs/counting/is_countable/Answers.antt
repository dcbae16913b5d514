use Rattle.std.proofs.Common.{◌≡◌, ◌∙◌, ◌<◌, ◌≤◌, ◌^◌, List, ap, arith, get_or, length, subst}
use Rattle.mq_script.specs.Scripts.{Group, Script}
use Rattle.mq_run_laws.proofs.ScriptsCounting.{long-group}
use Rattle.mq_run_laws.proofs.counting.is_countable.Goals as goal

pub returns-then-len-2-clause-exact : goal.returns-then-len-2-clause-exact
returns-then-len-2-clause-exact c = λ short.
    let i = c.loop-group.group-index in
    let group = c.group-item.result in
    let test = c.loop-group-test.true in
    let count = c.len-in-loop-group.ensures in
    let more = c.if-len-2.true in
    let same = ap (λ (g : Group). length g.requests) c.group.view_is in
    let long : 2 ^ 32 ≤ length group.requests = omega (arith, count, more, same) in
    let items = c.deref-group-items.ensures.value ∙ ap (λ (s : Script). s.groups) c.script.view_is in
    let low : i < length c.args.script.now.groups = subst (λ (l : List Group). i < length l) items (omega (arith, test)) in
    absurd (long-group c.args.script.now.groups i group low (subst (λ (l : List Group). group ≡ get_or l i group) items c.group-item.is) long short)
