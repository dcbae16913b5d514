use Rattle.std.proofs.Common.{◌≤◌, IfErr, IfOk, ℕ, refl, subst, sym}
use Rattle.std.proofs.Math.Logic.{∥∥₁_elim}
use Rattle.std.proofs.lemmas.Result.{IfErr-weaker, IfOk-weaker}
use Rattle.mq_blocks.specs.Geometry.{area_of}
use Rattle.mq_blocks.specs.Machine.{Writes}
use Rattle.mq_queue_side.specs.Stored.{FitIs, FitsArea}
use Rattle.mq_queue_side.specs.declared.answers.Fit.TheVariants.{Yes}
use Rattle.mq_replica.specs.Apart.{IsLow}
use Rattle.mq_replica.specs.Applying.{IsSaved, Leaves, PortsState}
use Rattle.mq_replica.specs.Held.{is_stopped, opened_state, ports_in, ports_of, ports_over}
use Rattle.mq_replica.specs.Opened.{OpenedState}
use Rattle.mq_replica.specs.Views.{below, faults_below}
use Rattle.mq_replica.proofs.Applied.{first_queue, shape_same}
use Rattle.mq_replica.proofs.Journals.{area_fits}
use Rattle.mq_replica.proofs.OpenedQuiet.{low_known, saved_same}
use Rattle.mq_replica.proofs.Propositions.{quiet_drive-prop}
use Rattle.mq_replica.proofs.reopen.with_room.Goals as goal

pub reopen-requires : goal.reopen-requires
reopen-requires g c =
    let v : OpenedState = opened_state (below g.P.Port.state) (faults_below g.P.Port.faults) c.args.opened in
    let ready = c.requires.ready in
    record {
      one = (first_queue c.args.geometry v ready).1;
      quiet = ∥∥₁_elim ready (quiet_drive-prop c.args.geometry _) (λ o. c.take_apart.ensures.quiet c.args.geometry o);
      logged = c.requires.logged;
      plain = c.requires.plain;
    }

pub returns-in-Yes-clause-ok : goal.returns-in-Yes-clause-ok
returns-in-Yes-clause-ok g c = saved_same c.args.geometry _ _ refl

pub returns-in-Yes-clause-area : goal.returns-in-Yes-clause-area
returns-in-Yes-clause-area g c =
    let v : OpenedState = opened_state (below g.P.Port.state) (faults_below g.P.Port.faults) c.args.opened in
    subst (λ (n : ℕ). FitsArea n v.root.base v.rows c.args.plan.now) (shape_same c.args.geometry v c.requires.ready area_of)
    (area_fits (area_of c.args.opened.side.pmr.geometry) v.root.base v.rows v.side.port c.args.plan.now (subst (λ (n : ℕ). FitIs (area_of c.args.opened.side.pmr.geometry) n v.rows v.side.port c.args.plan.now Yes) c.base.ensures c.in-Yes.ensures))

pub returns-in_default : goal.returns-in_default
returns-in_default g c =
    let S = below g.P.Port.state in
    let F = faults_below g.P.Port.faults in
    let v : OpenedState = opened_state S F c.args.opened in
    let r = c.reopen.result in
    let e = c.reopen.ensures in
    let same = c.take_apart.ensures.ports in
    let at : (doorbell top : ℕ) → v.side.port.doorbell ≤ doorbell → v.number ≤ top → IsLow c.args.geometry (ports_of S F c.take_apart.result).drive doorbell top = λ doorbell top rung high. subst (λ (p : PortsState). IsLow c.args.geometry p.drive doorbell top) (sym same) (low_known c.args.geometry v doorbell top c.requires.ready rung high) in
    record {
      ok = subst (λ (p : PortsState). IfOk r (λ o. IsSaved c.args.geometry p (ports_over S F o))) same e.ok;
      opened = IfOk-weaker r _ _ (λ o is. ∣ is ∣₁) e.opened;
      area = e.area;
      ring = e.ring;
      low = IfOk-weaker r _ _ (λ o f doorbell top within. f doorbell top (at doorbell top within.0 within.1)) e.low;
      err = subst (λ (p : PortsState). IfErr r (λ x. (ws : Writes) → Leaves c.args.geometry ws p x.1 (is_stopped x.0) (ports_in S F x.0))) same e.err;
      ready = e.ready;
      within = IfErr-weaker r _ _ (λ x f doorbell top within. f doorbell top (at doorbell top within.0 within.1)) e.within;
    }
