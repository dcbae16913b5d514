use Rattle.std.proofs.Common.{◌≡◌, ℕ, ◌+◌, ◌<◌, ◌≤◌, ◌^◌, [], ◌∷◌, List, Ok, Err, ap, arith, length, map, refl, subst, sym, true, ◌∙◌}
use Rattle.std.proofs.lemmas.List.{length-map}
use Rattle.mq_blocks.specs.Descriptor.{AreRising}
use Rattle.mq_blocks.specs.Drive.{counted}
use Rattle.mq_blocks.specs.Geometry.{homes_of, queues_of, write_limit}
use Rattle.mq_drive.specs.Steps.{PortFault}
use Rattle.mq_queue_side.specs.Commits.{Commit, IsPlanOf, descriptor_size, further_of}
use Rattle.mq_queue_side.specs.Side.{side_state}
use Rattle.mq_queue_side.specs.Stored.{next_in, rows_of}
use Rattle.mq_revoke.specs.Placed.{Placed}
use Rattle.mq_replica.specs.Applying.{IsCutOff, Leaves, PortsState}
use Rattle.mq_replica.specs.Committing.{CommitCause}
use Rattle.mq_replica.specs.Held.{opened_state, ports_of, ports_over}
use Rattle.mq_replica.specs.Opened.{OpenedState}
use Rattle.mq_replica.specs.Plans.{written_as}
use Rattle.mq_replica.specs.Views.{below, faults_below}
use Rattle.mq_replica.proofs.Applied.{blocks_in, calm, first_queue, places_small, plan_is, prepared_is, shape_same}
use Rattle.mq_replica.proofs.AppliedAnswers.{Asks, Was, is_cut_off, is_opened, is_written}
use Rattle.mq_replica.proofs.Committed.{same_side}
use Rattle.mq_replica.proofs.OpenedQuiet.{leaves_by, none_of, risen_by, saved_same}
use Rattle.mq_replica.proofs.applying.apply.Goals as goal

pub prepare-requires-clause-plan : goal.prepare-requires-clause-plan
prepare-requires-clause-plan g c =
    let v : OpenedState = opened_state (below g.P.Port.state) (faults_below g.P.Port.faults) c.args.opened in
    let homes = shape_same c.args.geometry v c.requires.opened homes_of in
    let rising = subst (λ (n : ℕ). AreRising 0 n (blocks_in c.args.writes.now)) (sym homes) c.requires.rising in
    subst (λ (p : Placed). IsPlanOf (homes_of c.args.opened.side.pmr.geometry) (blocks_in c.args.writes.now) p) (sym c.requires.plan) (plan_is (homes_of c.args.opened.side.pmr.geometry) c.args.writes.now rising)

pub prepare-requires-clause-few : goal.prepare-requires-clause-few
prepare-requires-clause-few g c =
    let v : OpenedState = opened_state (below g.P.Port.state) (faults_below g.P.Port.faults) c.args.opened in
    subst (λ (n : ℕ). length c.args.writes.now ≤ n) (sym (shape_same c.args.geometry v c.requires.opened write_limit)) c.requires.few

pub commit-answer-requires-clause-none : goal.commit-answer-requires-clause-none
commit-answer-requires-clause-none g c =
    let v : OpenedState = opened_state (below g.P.Port.state) (faults_below g.P.Port.faults) c.args.opened in
    c.in-Ok.ensures.kept ∙ none_of c.args.opened.side.kept (calm c.args.geometry v c.requires.opened)

pub commit-answer-requires-clause-queue : goal.commit-answer-requires-clause-queue
commit-answer-requires-clause-queue g c =
    let v : OpenedState = opened_state (below g.P.Port.state) (faults_below g.P.Port.faults) c.args.opened in
    let at = first_queue c.args.geometry v c.requires.opened in
    let queues = shape_same c.args.geometry v c.requires.opened queues_of in
    subst (λ q. q.queue < queues_of q.geometry) (sym c.in-Ok.ensures.pmr) (omega (arith, at.0, at.1, queues))

pub commit-answer-requires-clause-places : goal.commit-answer-requires-clause-places
commit-answer-requires-clause-places g c =
    let v : OpenedState = opened_state (below g.P.Port.state) (faults_below g.P.Port.faults) c.args.opened in
    let ws = c.args.writes.now in
    let is = prepared_is ws c.args.plan.now c.in-Ok.prepared 0 c.requires.plan c.in-Ok.ensures.commit in
    let small = places_small c.args.geometry v c.args.plan.now c.requires.opened c.requires.area in
    let n : length c.args.plan.now.logged ≡ length ws = ap (λ (p : Placed). length p.logged) c.requires.plan ∙ length-map ws (λ w. w.block) in
    let m : length (map written_as ws) ≡ length ws = length-map ws written_as in
    let d : descriptor_size (length c.args.plan.now.logged) (length c.args.plan.now.revoked) ≡ descriptor_size (length (map written_as ws)) 0 = (ap (λ (p : Placed). descriptor_size (length p.logged) (length p.revoked)) c.requires.plan) ∙ ap (λ (k : ℕ). descriptor_size k 0) (length-map ws (λ w. w.block) ∙ sym m) in
    let rows : next_in (rows_of c.prepare.new.self.stored.items) ≡ next_in v.rows = ap (λ xs. next_in (rows_of xs)) c.in-Ok.ensures.stored in
    let top : 16384 < 2 ^ 62 = omega arith in
    subst (λ (k : Commit). next_in (rows_of c.prepare.new.self.stored.items) + (length k.logged + further_of k) < 2 ^ 62) (sym is) (omega (arith, small, n, m, d, rows, top))

pub returns-in-Err-clause-err : goal.returns-in-Err-clause-err
returns-in-Err-clause-err g c =
    let v : OpenedState = opened_state (below g.P.Port.state) (faults_below g.P.Port.faults) c.args.opened in
    let p = c.args.opened.side.pmr in
    let same : c.prepare.new.self.pmr ≡ p = c.in-Err.ensures.pmr in (
      refl,
      saved_same c.args.geometry (ports_over (below g.P.Port.state) (faults_below g.P.Port.faults) c.args.opened) _
          (λ i. record {
            drive = record { queues = below g.P.Port.state ((same i).port) ∷ []; root = v.root };
            faults = record { queues = faults_below g.P.Port.faults ((same i).port) ∷ []; root = v.root_faults };
          }),
    )

pub returns-in-Ok-answer-clause-ok : goal.returns-in-Ok-answer-clause-ok
returns-in-Ok-answer-clause-ok g c =
    let S = below g.P.Port.state in
    let F = faults_below g.P.Port.faults in
    let v : OpenedState = opened_state S F c.args.opened in
    let side = c.commit-answer.new.side in
    let new : OpenedState = record { side = side_state S F side; rows = rows_of side.stored.items; root = v.root; root_faults = v.root_faults; number = c.number.inside.0 + 1 } in
    let at : c.number.inside.0 + 1 ≡ v.number + 1 = ap (λ (n : ℕ). n + 1) c.number.view_is in
    let asks : Asks c.args.geometry v c.args.writes.now c.args.plan.now = record { planned = c.requires.plan; rising = c.requires.rising; whole = c.requires.whole; few = c.requires.few; in_area = c.requires.area; in_ring = c.requires.ring; low = c.requires.number; limit = c.requires.end } in
    let e = c.in-Ok-answer.ensures in
    let p = c.in-Ok.ensures in
    let was : Was v c.args.writes.now c.args.plan.now (Ok c.in-Ok-answer.field-0) new = record {
      side = side_state S F c.prepare.new.self;
      rows = rows_of c.prepare.new.self.stored.items;
      prepared = c.in-Ok.prepared;
      side_is = same_side S F c.args.opened.side c.prepare.new.self p.pmr p.done p.kept;
      rows_are = ap (λ xs. rows_of xs) p.stored;
      is = p.commit;
      at = c.number.inside.0 + 1;
      at_is = at;
      commits = e.commits;
      bound = e.bound;
      root = refl;
      number = at;
    } in
    let faults : F side.pmr.port ≡ F c.args.opened.side.pmr.port = e.cause ∙ ap (λ q. F q.port) p.pmr in
    is_written c.args.geometry v c.args.writes.now c.args.plan.now asks new (Ok c.in-Ok-answer.field-0) was c.in-Ok-answer.field-0 refl e.none (λ i. record { queues = faults i ∷ []; root = v.root_faults }) (e.rings ∙ ap (λ q. counted (S q.port).rings 1) p.pmr) c.requires.opened

pub returns-in-Ok-answer-clause-opened : goal.returns-in-Ok-answer-clause-opened
returns-in-Ok-answer-clause-opened g c = λ o.
    let S = below g.P.Port.state in
    let F = faults_below g.P.Port.faults in
    let v : OpenedState = opened_state S F c.args.opened in
    let side = c.commit-answer.new.side in
    let new : OpenedState = record { side = side_state S F side; rows = rows_of side.stored.items; root = v.root; root_faults = v.root_faults; number = c.number.inside.0 + 1 } in
    let at : c.number.inside.0 + 1 ≡ v.number + 1 = ap (λ (n : ℕ). n + 1) c.number.view_is in
    let asks : Asks c.args.geometry v c.args.writes.now c.args.plan.now = record { planned = c.requires.plan; rising = c.requires.rising; whole = c.requires.whole; few = c.requires.few; in_area = c.requires.area; in_ring = c.requires.ring; low = c.requires.number; limit = c.requires.end } in
    let e = c.in-Ok-answer.ensures in
    let p = c.in-Ok.ensures in
    let was : Was v c.args.writes.now c.args.plan.now (Ok c.in-Ok-answer.field-0) new = record {
      side = side_state S F c.prepare.new.self;
      rows = rows_of c.prepare.new.self.stored.items;
      prepared = c.in-Ok.prepared;
      side_is = same_side S F c.args.opened.side c.prepare.new.self p.pmr p.done p.kept;
      rows_are = ap (λ xs. rows_of xs) p.stored;
      is = p.commit;
      at = c.number.inside.0 + 1;
      at_is = at;
      commits = e.commits;
      bound = e.bound;
      root = refl;
      number = at;
    } in
    is_opened c.args.geometry v c.args.writes.now c.args.plan.now asks new (Ok c.in-Ok-answer.field-0) was c.in-Ok-answer.field-0 refl e.none o

pub returns-in-Err-answer-clause-err : goal.returns-in-Err-answer-clause-err
returns-in-Err-answer-clause-err g c =
    let S = below g.P.Port.state in
    let F = faults_below g.P.Port.faults in
    let v : OpenedState = opened_state S F c.args.opened in
    let side = c.commit-answer.new.side in
    let new : OpenedState = record { side = side_state S F side; rows = rows_of side.stored.items; root = v.root; root_faults = v.root_faults; number = c.number.inside.0 + 1 } in
    let at : c.number.inside.0 + 1 ≡ v.number + 1 = ap (λ (n : ℕ). n + 1) c.number.view_is in
    let asks : Asks c.args.geometry v c.args.writes.now c.args.plan.now = record { planned = c.requires.plan; rising = c.requires.rising; whole = c.requires.whole; few = c.requires.few; in_area = c.requires.area; in_ring = c.requires.ring; low = c.requires.number; limit = c.requires.end } in
    let e = c.in-Err-answer.ensures in
    let p = c.in-Ok.ensures in
    let was : Was v c.args.writes.now c.args.plan.now (Err c.in-Err-answer.cause) new = record {
      side = side_state S F c.prepare.new.self;
      rows = rows_of c.prepare.new.self.stored.items;
      prepared = c.in-Ok.prepared;
      side_is = same_side S F c.args.opened.side c.prepare.new.self p.pmr p.done p.kept;
      rows_are = ap (λ xs. rows_of xs) p.stored;
      is = p.commit;
      at = c.number.inside.0 + 1;
      at_is = at;
      commits = e.commits;
      bound = e.bound;
      root = refl;
      number = at;
    } in
    let before : F c.prepare.new.self.pmr.port ≡ F c.args.opened.side.pmr.port = ap (λ q. F q.port) p.pmr in
    let cause : CommitCause (Err c.in-Err-answer.cause) (F c.args.opened.side.pmr.port) (F side.pmr.port) = subst (λ (f : List PortFault). CommitCause (Err c.in-Err-answer.cause) f (F side.pmr.port)) before e.cause in
    let cut = is_cut_off c.args.geometry v c.args.writes.now c.args.plan.now asks new (Err c.in-Err-answer.cause) was (risen_by c.in-Err-answer.cause _ _ cause) c.requires.opened in
    let old : PortsState = ports_over S F c.args.opened in
    let left : PortsState = ports_of S F c.take_apart.result in
    subst (λ r. Leaves c.args.geometry (map written_as c.args.writes.now) old r true left) (sym c.refusal_of.ensures)
    (leaves_by c.args.geometry (map written_as c.args.writes.now) old left c.in-Err-answer.cause _ _ cause
    (subst (λ (q : PortsState). IsCutOff c.args.geometry (map written_as c.args.writes.now) old q) (sym c.take_apart.ensures.ports) cut))
