use Rattle.std.proofs.Common.{◌≡◌, ◌∷◌, ℕ, ◌+◌, List, drop, sym, ◌∙◌, ap, subst}
use Rattle.std.proofs.lemmas.List.{drop_all, drop_more}
use Rattle.mq_kv_buckets.specs.declared.operation.KvOp.{KvOp}
use Rattle.mq_kv_run.specs.Played.{IsPlayed}
use Rattle.mq_kv_run.proofs.Played.{Goes, goes-all, goes-off, goes-on}
use Rattle.mq_turns.specs.AtDesk.{view}
use Rattle.mq_kv_run.proofs.playing.play_groups.Goals as goal

pub returns-then-ends-clause-played : goal.returns-then-ends-clause-played
returns-then-ends-clause-played g c =
    let i = c.loop-group.invariant in
    let k = c.loop-group.group-index in
    let groups = c.args.groups.now in
    let ops : List KvOp = c.group-item.result in
    let left : drop k groups ≡ ops ∷ drop (k + 1) groups = drop_more groups k ops c.loop-group-test.true ∙ ap (λ (o : List KvOp). o ∷ drop (k + 1) groups) (sym c.group-item.is) in
    let state = g.P.Port.state in
    let faults = g.P.Port.faults in
    let geometry = c.args.store.now.geometry in
    let queue = c.args.session.now.queue in
    let first = view c.args.session.now.chair in
    let now = view c.loop-group.session.chair in
    goes-off state faults geometry queue groups (drop (k + 1) groups) ops c.loop-group.reports.items c.push.new.self.items c.in_ok-report.report first now (view c.play_group.new.session.chair)
    (subst (λ (l : List (List KvOp)). Goes state faults geometry queue groups l c.loop-group.reports.items first now) left i.goes)
    (subst (λ (q : ℕ). IsPlayed state faults geometry q ops now (view c.play_group.new.session.chair) c.in_ok-report.report) i.queue c.in_ok-report.ensures.played)
    (sym c.is_off-ends.ensures ∙ c.if-ends.true) c.in_ok-push.ensures.items

pub loop-group-preserved : goal.loop-group-preserved
loop-group-preserved g c =
    let i = c.loop-group.invariant in
    let k = c.loop-group.group-index in
    let groups = c.args.groups.now in
    let ops : List KvOp = c.group-item.result in
    let left : drop k groups ≡ ops ∷ drop (k + 1) groups = drop_more groups k ops c.loop-group-test.true ∙ ap (λ (o : List KvOp). o ∷ drop (k + 1) groups) (sym c.group-item.is) in
    let state = g.P.Port.state in
    let faults = g.P.Port.faults in
    let geometry = c.args.store.now.geometry in
    let queue = c.args.session.now.queue in
    let first = view c.args.session.now.chair in
    let now = view c.loop-group.session.chair in
    record {
      desk = c.play_group.ensures.desk;
      ready = c.play_group.ensures.ready;
      queue = c.play_group.ensures.queue ∙ i.queue;
      goes = goes-on state faults geometry queue groups (drop (k + 1) groups) ops c.loop-group.reports.items c.push.new.self.items c.in_ok-report.report first now (view c.play_group.new.session.chair)
          (subst (λ (l : List (List KvOp)). Goes state faults geometry queue groups l c.loop-group.reports.items first now) left i.goes)
          (subst (λ (q : ℕ). IsPlayed state faults geometry q ops now (view c.play_group.new.session.chair) c.in_ok-report.report) i.queue c.in_ok-report.ensures.played)
          (sym c.is_off-ends.ensures ∙ c.if-ends.false) c.in_ok-push.ensures.items;
    }

pub returns-clause-played : goal.returns-clause-played
returns-clause-played g c =
    let i = c.loop-group.invariant in
    let groups = c.args.groups.now in
    let state = g.P.Port.state in
    let faults = g.P.Port.faults in
    goes-all state faults c.args.store.now.geometry c.args.session.now.queue groups c.loop-group.reports.items (view c.args.session.now.chair) (view c.loop-group.session.chair)
    (subst (λ (l : List (List KvOp)). Goes state faults c.args.store.now.geometry c.args.session.now.queue groups l c.loop-group.reports.items (view c.args.session.now.chair) (view c.loop-group.session.chair)) (drop_all c.loop-group.group-index groups c.loop-group-test.false) i.goes)
