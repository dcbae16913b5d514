use Rattle.std.proofs.Common.{◌≡◌, ◌+◌, ◌*◌, ◌≤◌, ◌^◌, All, List, ap, arith, length, map, rules, subst, sym, ◌∙◌}
use Rattle.std.proofs.Math.Logic.{∥∥₁_map}
use Rattle.std.proofs.lemmas.Result.{IfErr-weaker, IfOk-weaker}
use Rattle.mq_blocks.specs.Geometry.{write_limit}
use Rattle.mq_blocks.specs.Machine.{Writes}
use Rattle.mq_pages.specs.declared.page.Write.{Write}
use Rattle.mq_replica.specs.Applying.{IsWritten, Leaves}
use Rattle.mq_replica.specs.Held.{IsWithin, is_stopped, opened_state, ports_in, ports_over}
use Rattle.mq_replica.specs.Opened.{OpenedState}
use Rattle.mq_replica.specs.Plans.{pairs_of, written_as}
use Rattle.mq_replica.specs.Views.{below, faults_below}
use Rattle.mq_replica.proofs.Offered.{leaves_after, unchanged, written_after}
use Rattle.mq_replica.proofs.Planned.{both_low, planned_few, planned_logged, planned_plain, planned_rising, planned_slots, staged_opened, written_low}
use Rattle.mq_replica.proofs.Results.{both_ok}
use Rattle.mq_replica.proofs.offering.apply_update.Goals as goal

pub returns-in-Err-clause-err : goal.returns-in-Err-clause-err
returns-in-Err-clause-err g c = (c.requires.runs, unchanged c.args.geometry (ports_in (below g.P.Port.state) (faults_below g.P.Port.faults) c.args.held))

pub make_ready-requires-clause-logged : goal.make_ready-requires-clause-logged
make_ready-requires-clause-logged g c = planned_logged c.args.geometry c.args.update.now c.in-Ok.planned.0.items c.in-Ok.planned.1 c.in-Ok.ensures.pairs c.in-Ok.ensures.plan c.requires.fit

pub make_ready-requires-clause-plain : goal.make_ready-requires-clause-plain
make_ready-requires-clause-plain g c = planned_plain c.args.geometry c.args.update.now c.in-Ok.planned.0.items c.in-Ok.planned.1 c.in-Ok.ensures.pairs c.in-Ok.ensures.plan c.requires.fit

pub apply-requires-clause-rising : goal.apply-requires-clause-rising
apply-requires-clause-rising g c =
    let at : c.deref.result.now ≡ c.in-Ok.planned.0.items = search rules in
    planned_rising c.args.geometry c.args.update.now c.deref.result.now c.in-Ok.planned.1 (ap (λ (ws : List Write). map written_as ws) at ∙ c.in-Ok.ensures.pairs) (c.in-Ok.ensures.plan ∙ ap Rattle.mq_replica.proofs.Applied.all_logged (sym at)) c.requires.fit c.requires.rising

pub apply-requires-clause-whole : goal.apply-requires-clause-whole
apply-requires-clause-whole g c =
    let at : c.deref.result.now ≡ c.in-Ok.planned.0.items = search rules in
    subst (λ (ws : List Write). All (λ w. length w.content ≡ 4096) ws) (sym at) c.in-Ok.ensures.whole

pub apply-requires-clause-few : goal.apply-requires-clause-few
apply-requires-clause-few g c =
    let at : c.deref.result.now ≡ c.in-Ok.planned.0.items = search rules in
    planned_few c.args.geometry c.args.update.now c.deref.result.now c.in-Ok.planned.1 (ap (λ (ws : List Write). map written_as ws) at ∙ c.in-Ok.ensures.pairs) (c.in-Ok.ensures.plan ∙ ap Rattle.mq_replica.proofs.Applied.all_logged (sym at)) c.requires.fit

pub apply-requires-clause-number : goal.apply-requires-clause-number
apply-requires-clause-number g c =
    let S = below g.P.Port.state in
    let F = faults_below g.P.Port.faults in
    let both = both_low (IsWithin S F c.args.geometry (2 ^ 62 + 4096 * 2 ^ 48) (2 ^ 62 + 2 ^ 48) c.args.held) _ _ _ _ c.requires.within (λ w. c.in-Ok-make_ready.ensures.low _ _ w) in
    omega (arith, both.1)

pub apply-requires-clause-end : goal.apply-requires-clause-end
apply-requires-clause-end g c =
    let S = below g.P.Port.state in
    let F = faults_below g.P.Port.faults in
    let v : OpenedState = opened_state S F c.in-Ok-make_ready.opened in
    let both = both_low (IsWithin S F c.args.geometry (2 ^ 62 + 4096 * 2 ^ 48) (2 ^ 62 + 2 ^ 48) c.args.held) _ _ _ _ c.requires.within (λ w. c.in-Ok-make_ready.ensures.low _ _ w) in
    let staged = staged_opened c.args.geometry v c.in-Ok-make_ready.ensures.opened in
    let slots = planned_slots c.args.geometry c.args.update.now c.in-Ok.planned.0.items c.in-Ok.planned.1 c.in-Ok.ensures.pairs c.in-Ok.ensures.plan c.requires.fit in
    omega (arith, both.0, staged, slots)

pub returns-in-Ok-make_ready-clause-ok : goal.returns-in-Ok-make_ready-clause-ok
returns-in-Ok-make_ready-clause-ok g c =
    let S = below g.P.Port.state in
    let F = faults_below g.P.Port.faults in
    let at : c.deref.result.now ≡ c.in-Ok.planned.0.items = search rules in
    let pairs = ap (λ (ws : List Write). map written_as ws) at ∙ c.in-Ok.ensures.pairs in
    IfOk-weaker c.apply.result _ _ (λ o is. written_after c.args.geometry (pairs_of c.args.geometry c.args.update.now) (ports_in S F c.args.held) (ports_over S F c.in-Ok-make_ready.opened) (ports_over S F o) c.in-Ok-make_ready.ensures.ok (subst (λ (ws : Writes). IsWritten c.args.geometry ws (ports_over S F c.in-Ok-make_ready.opened) (ports_over S F o)) pairs is)) c.apply.ensures.ok

pub returns-in-Ok-make_ready-clause-opened : goal.returns-in-Ok-make_ready-clause-opened
returns-in-Ok-make_ready-clause-opened g c = IfOk-weaker c.apply.result _ _ (λ o f. ∥∥₁_map c.in-Ok-make_ready.ensures.opened f) c.apply.ensures.opened

pub returns-in-Ok-make_ready-clause-low : goal.returns-in-Ok-make_ready-clause-low
returns-in-Ok-make_ready-clause-low g c =
    let S = below g.P.Port.state in
    let F = faults_below g.P.Port.faults in
    let at : c.deref.result.now ≡ c.in-Ok.planned.0.items = search rules in
    let few = planned_few c.args.geometry c.args.update.now c.in-Ok.planned.0.items c.in-Ok.planned.1 c.in-Ok.ensures.pairs c.in-Ok.ensures.plan c.requires.fit in
    both_ok c.apply.result _ _ _ (λ o is number doorbell top within.
    let both = c.in-Ok-make_ready.ensures.low doorbell top within in
    let more = written_low c.args.geometry c.deref.result.now (ports_over S F c.in-Ok-make_ready.opened) (ports_over S F o) (subst (λ (ws : List Write). length ws ≤ write_limit c.args.geometry) (sym at) few) is in
    (omega (arith, both.0, more), omega (arith, both.1, number))) c.apply.ensures.ok c.apply.ensures.number

pub returns-in-Ok-make_ready-clause-err : goal.returns-in-Ok-make_ready-clause-err
returns-in-Ok-make_ready-clause-err g c =
    let S = below g.P.Port.state in
    let F = faults_below g.P.Port.faults in
    let at : c.deref.result.now ≡ c.in-Ok.planned.0.items = search rules in
    let pairs = ap (λ (ws : List Write). map written_as ws) at ∙ c.in-Ok.ensures.pairs in
    IfErr-weaker c.apply.result _ _ (λ e is. leaves_after c.args.geometry (pairs_of c.args.geometry c.args.update.now) (ports_in S F c.args.held) (ports_over S F c.in-Ok-make_ready.opened) (ports_in S F e.0) e.1 (is_stopped e.0) c.in-Ok-make_ready.ensures.ok (subst (λ (ws : Writes). Leaves c.args.geometry ws (ports_over S F c.in-Ok-make_ready.opened) e.1 (is_stopped e.0) (ports_in S F e.0)) pairs is)) c.apply.ensures.err

pub returns-in-Ok-make_ready-clause-ready : goal.returns-in-Ok-make_ready-clause-ready
returns-in-Ok-make_ready-clause-ready g c = IfErr-weaker c.apply.result _ _ (λ e f. ∥∥₁_map c.in-Ok-make_ready.ensures.opened f) c.apply.ensures.ready

pub returns-in-Ok-make_ready-clause-within : goal.returns-in-Ok-make_ready-clause-within
returns-in-Ok-make_ready-clause-within g c = IfErr-weaker c.apply.result _ _ (λ e f doorbell top within. ∣ (let both = c.in-Ok-make_ready.ensures.low doorbell top within in f doorbell top both.0 both.1) ∣₁) c.apply.ensures.within

pub returns-clause-err : goal.returns-clause-err
returns-clause-err g c = c.in-Err-make_ready.ensures.err (pairs_of c.args.geometry c.args.update.now)
