use Rattle.std.proofs.Common.{◌≡◌, ◌∙◌, ◌<◌, ◌≤◌, ◌++◌, ◌∷◌, [], ℕ, suc, List, ap, append-nil, arith, length, length-append, refl, sym, add-one, subst, vec_capacity, vec_len}
use Rattle.std.specs.List.{All}
use Rattle.std.specs.Prelude.{Some, false, slice_get, true}
use Rattle.mq_notices.specs.Ends.{announced, served_by_session}
use Rattle.mq_report.specs.Sessions.{ends_session}
use Rattle.mq_report.specs.declared.line.Line.{Line}
use Rattle.mq_report.specs.declared.line.Told.{Told}
use Rattle.mq_script.specs.Scripts.{Group, Script}
use Rattle.mq_turns.specs.AtDesk.{view}
use Rattle.mq_run.specs.Helping.{AreServed}
use Rattle.mq_notices.specs.Notices.{with_number}
use Rattle.mq_run.specs.Playing.{AreAnswers, IsTold, Plays, sent_by}
use Rattle.mq_run.proofs.PlayingGroups.{Stays, all-answered, ended, goes-on, group-at, has-played, none-played, none-sent, none-stays, one-number, serves-on, stays-on}
use Rattle.mq_run.proofs.playing.ask_groups.Goals as goal

pub loop-index-init : goal.loop-index-init
loop-index-init g c =
    let r = c.args.runner.now in
    let e = c.args.announcing.now in
    record {
      desk = c.requires.desk;
      ready = c.requires.ready;
      queue = refl;
      calls = c.requires.calls;
      plays = none-played g.P.Port.state g.P.Port.faults c.args.files.now.geometry r.user.queue c.args.script.now.groups (view r.user.chair) r.told.items r.reads.items (announced e) (served_by_session e) c.requires.room.told_none c.requires.room.reads_none c.requires.none.0 c.requires.none.1;
      told = (ap length c.requires.room.told_none, refl);
      reads = (omega (arith, ap length c.requires.room.reads_none, r.reads.ok), refl);
      stays = none-stays r.told.items c.requires.room.told_none;
      opened = c.requires.open;
      few = omega (arith, ap length c.requires.none.0);
    }

pub ask_next-requires-clause-short : goal.ask_next-requires-clause-short
ask_next-requires-clause-short g c =
    let same : c.script.inside.groups.items ≡ c.args.script.now.groups = ap (λ (s : Script). s.groups) c.script.view_is in
    let at : slice_get c.args.script.now.groups c.loop-index.index ≡ Some c.index-group.result.now = group-at c.args.script.now.groups c.script.inside.groups.items c.loop-index.index c.index-group.result.now same (omega arith) c.index-group.ensures in
    c.requires.short.each c.loop-index.index c.index-group.result.now at

pub returns-then-ends-clause-played : goal.returns-then-ends-clause-played
returns-then-ends-clause-played g c =
    let k = c.loop-index.index in
    let r = c.loop-index.runner in
    let i = c.loop-index.invariant in
    let e = c.loop-index.announcing in
    let asks = c.ask_next.ensures in
    let t = c.ask_next.result.0 in
    let group = c.index-group.result.now in
    let groups = c.args.script.now.groups in
    let session = c.args.runner.now.user.queue in
    let w = view c.ask_next.new.runner.user.chair in
    let same : c.script.inside.groups.items ≡ groups = ap (λ (s : Script). s.groups) c.script.view_is in
    let at : slice_get groups k ≡ Some group = group-at groups c.script.inside.groups.items k group same (omega arith) c.index-group.ensures in
    let few : k < length groups = subst (λ (xs : List Group). k < length xs) same (omega arith) in
    let last : ends_session t.answer ≡ true = sym c.ends.ensures ∙ c.if-ends.true in
    let read = asks.read in
    let none = none-sent t.answer read.0 last in
    let told2 = c.push_reserved.new.self.items in
    let told_is : told2 ≡ r.told.items ++ t ∷ [] = c.push_reserved.ensures.items ∙ ap (λ v. v.items ++ t ∷ []) asks.told in
    let many : length told2 ≡ suc k = ap length told_is ∙ omega (arith, length-append r.told.items (t ∷ []), i.told.0) in
    let told : IsTold g.P.Port.state g.P.Port.faults c.args.files.now.geometry session k group t read.0 (view r.user.chair) w = subst (λ (q : ℕ). IsTold g.P.Port.state g.P.Port.faults c.args.files.now.geometry q k group t read.0 (view r.user.chair) w) i.queue read.1 in
    let sent : announced e ≡ announced e ++ sent_by t.answer read.0 = sym (append-nil (announced e)) ∙ ap (λ (ns : List ℕ). announced e ++ ns) (sym none) in
    let on = goes-on g.P.Port.state g.P.Port.faults c.args.files.now.geometry session groups (view c.args.runner.now.user.chair) k r.told.items told2 r.reads.items read.0 c.ask_next.new.runner.reads.items (announced e) (announced e) (served_by_session e) (view r.user.chair) w group t i.plays at told told_is read.2 sent in
    has-played g.P.Port.state g.P.Port.faults c.args.files.now.geometry session groups (view c.args.runner.now.user.chair) (suc k) told2 c.ask_next.new.runner.reads.items (announced e) (served_by_session e) w on many
    (subst (λ (x : List Told). AreAnswers (length groups) x) (sym told_is) (ended (length groups) r.told.items t i.stays (omega (arith, i.told.0)) last))

pub loop-index-preserved : goal.loop-index-preserved
loop-index-preserved g c =
    let k = c.loop-index.index in
    let r = c.loop-index.runner in
    let i = c.loop-index.invariant in
    let e = c.loop-index.announcing in
    let asks = c.ask_next.ensures in
    let gives = c.announce.ensures in
    let t = c.ask_next.result.0 in
    let group = c.index-group.result.now in
    let groups = c.args.script.now.groups in
    let session = c.args.runner.now.user.queue in
    let w = view c.ask_next.new.runner.user.chair in
    let same : c.script.inside.groups.items ≡ groups = ap (λ (s : Script). s.groups) c.script.view_is in
    let at : slice_get groups k ≡ Some group = group-at groups c.script.inside.groups.items k group same (omega arith) c.index-group.ensures in
    let stay : ends_session t.answer ≡ false = sym c.ends.ensures ∙ c.if-ends.false in
    let read = asks.read in
    let mid = c.ask_next.new.runner in
    let new = c.announce.new.runner in
    let told : IsTold g.P.Port.state g.P.Port.faults c.args.files.now.geometry session k group t read.0 (view r.user.chair) w = subst (λ (q : ℕ). IsTold g.P.Port.state g.P.Port.faults c.args.files.now.geometry q k group t read.0 (view r.user.chair) w) i.queue read.1 in
    let sent : announced c.announce.new.announcing ≡ announced e ++ sent_by t.answer read.0 = gives.announced ∙ ap (λ (ns : List ℕ). announced e ++ ns) read.3 in
    let told_is : new.told.items ≡ r.told.items ++ t ∷ [] = ap (λ v. v.items) gives.keeps.0 ∙ (c.push_reserved.ensures.items ∙ ap (λ v. v.items ++ t ∷ []) asks.told) in
    let on = goes-on g.P.Port.state g.P.Port.faults c.args.files.now.geometry session groups (view c.args.runner.now.user.chair) k r.told.items new.told.items r.reads.items read.0 new.reads.items (announced e) (announced c.announce.new.announcing) (served_by_session e) (view r.user.chair) w group t i.plays at told told_is (ap (λ v. v.items) gives.keeps.1 ∙ read.2) sent in
    let own : mid.user.queue ≡ session = asks.queue ∙ i.queue in
    let served : AreServed g.P.Port.state g.P.Port.faults session w gives.served.0 (view new.user.chair) = subst (λ (q : ℕ). AreServed g.P.Port.state g.P.Port.faults q w gives.served.0 (view new.user.chair)) own gives.served.2 in
    let plays = serves-on g.P.Port.state g.P.Port.faults c.args.files.now.geometry session groups (view c.args.runner.now.user.chair) (suc k) new.told.items new.reads.items (announced c.announce.new.announcing) (served_by_session e) (served_by_session c.announce.new.announcing) gives.served.0 w (view new.user.chair) on served gives.served.1 in
    record {
      desk = gives.desk;
      ready = gives.ready;
      queue = gives.user.0 ∙ own;
      calls = gives.user.1 ∙ asks.calls;
      plays = subst (λ (n : ℕ). Plays g.P.Port.state g.P.Port.faults c.args.files.now.geometry session groups (view c.args.runner.now.user.chair) n new.told.items new.reads.items (announced c.announce.new.announcing) (served_by_session c.announce.new.announcing) (view new.user.chair)) (sym (add-one k)) plays;
      told = (omega (arith, ap length told_is, length-append r.told.items (t ∷ []), i.told.0), ap vec_capacity gives.keeps.0 ∙ (c.push_reserved.ensures.capacity ∙ (ap vec_capacity asks.told ∙ i.told.1)));
      reads = (omega (arith, ap vec_len gives.keeps.1, asks.room.0, i.reads.0), ap vec_capacity gives.keeps.1 ∙ (asks.room.1 ∙ i.reads.1));
      stays = subst (λ (x : List Told). All Stays x) (sym told_is) (stays-on r.told.items t i.stays stay);
      opened = gives.open;
      few = omega (arith, ap length gives.announced, length-append (announced e) (with_number c.ask_next.result.1 []), one-number c.ask_next.result.1, i.few);
    }

pub returns-clause-played : goal.returns-clause-played
returns-clause-played g c =
    let r = c.loop-index.runner in
    let i = c.loop-index.invariant in
    let e = c.loop-index.announcing in
    let groups = c.args.script.now.groups in
    let session = c.args.runner.now.user.queue in
    let all : length r.told.items ≡ length groups = subst (λ (xs : List Group). length r.told.items ≡ length xs) (ap (λ (s : Script). s.groups) c.script.view_is) (omega arith) in
    has-played g.P.Port.state g.P.Port.faults c.args.files.now.geometry session groups (view c.args.runner.now.user.chair) c.loop-index.index r.told.items r.reads.items (announced e) (served_by_session e) (view r.user.chair) i.plays i.told.0 (all-answered (length groups) r.told.items i.stays all)
