use Rattle.std.proofs.Common.{ℕ, Option, refl, sym, subst, ap}
use Rattle.std.proofs.lemmas.Result.{err_from_is_err_and}
use Rattle.mq_blocks.specs.Drive.{PortState}
use Rattle.mq_drive.specs.Steps.{CommandError, PowerOff}
use Rattle.mq_queue_side.specs.Side.{SideState, side_state}
use Rattle.mq_queue_side.specs.Told.{IsTold}
use Rattle.mq_queue_side.specs.declared.answers.Why.{Why}
use Rattle.mq_queue_side.proofs.DrainedCompletes.{none_so_far, well_so_far, badly_so_far, completed, cut_off, fewer, gains_rises}
use Rattle.mq_queue_side.proofs.DrainedEvents.{none_ended, well_more, badly_more, still_ended}
use Rattle.mq_queue_side.proofs.CountsSides.{well_counts, badly_counts, still_counts, idle_counts}
use Rattle.mq_queue_side.proofs.SideEnds.{SameRecords, well_ended, badly_ended, unmoved}
use Rattle.mq_queue_side.proofs.Told.{told_same, told_new, told_more}
use Rattle.mq_queue_side.proofs.side.QueueSide.complete.Goals as goal

pub completion-init : goal.completion-init
completion-init g c = record {
  so = none_so_far (side_state g.P.Port.state g.P.Port.faults c.args.self.now);
  ended = none_ended (side_state g.P.Port.state g.P.Port.faults c.args.self.now);
  stays = λ q k us log s. s;
  counts = λ first q k us log s n. n;
  told = λ first d. d;
  stored = refl;
}

pub completion-preserved-in-One : goal.completion-preserved-in-One
completion-preserved-in-One g c =
    let old : SideState = side_state g.P.Port.state g.P.Port.faults c.args.self.now in
    let now : SideState = side_state g.P.Port.state g.P.Port.faults c.completion.self in
    let ring = c.complete_one.new.self in
    let new : SideState = record { geometry = ring.geometry; queue = ring.queue; port = g.P.Port.state ring.port; faults = g.P.Port.faults ring.port; passed = ring.done; rung = ring.rung.items; done = c.completion.self.done; kept = c.completion.self.kept } in
    let inv = c.completion.invariant in
    let gives = rw c.in-One.is at c.in_ok-complete_one.ensures.gives in
    let same : SameRecords now new = record { geometry = c.complete_one.ensures.own.0; queue = c.complete_one.ensures.own.1; passed = c.complete_one.ensures.done; rung = c.complete_one.ensures.rung; done = refl } in
    record {
      so = well_so_far old now new c.completion.failed inv.so same c.in-One.slot gives.0 refl gives.1;
      ended = well_more old now new c.in-One.slot inv.ended gives.0;
      stays = λ q k us log s. well_ended k q us now new c.in-One.slot log gives.0 same refl (inv.stays q k us log s);
      counts = λ first q k us log s n. well_counts first k q us now new c.in-One.slot gives.0 gives.1 same (inv.counts first q k us log s n);
      told = λ first d. told_same first now.faults new.faults now.kept new.kept gives.1 refl (inv.told first d);
      stored = inv.stored;
    }

pub completion-preserved : goal.completion-preserved
completion-preserved g c =
    let old : SideState = side_state g.P.Port.state g.P.Port.faults c.args.self.now in
    let now : SideState = side_state g.P.Port.state g.P.Port.faults c.completion.self in
    let ring = c.complete_one.new.self in
    let new : SideState = record { geometry = ring.geometry; queue = ring.queue; port = g.P.Port.state ring.port; faults = g.P.Port.faults ring.port; passed = ring.done; rung = ring.rung.items; done = c.completion.self.done; kept = c.keep-self.result } in
    let inv = c.completion.invariant in
    let gives = rw c.in-Bad.is at c.in_ok-complete_one.ensures.gives in
    let same : SameRecords now new = record { geometry = c.complete_one.ensures.own.0; queue = c.complete_one.ensures.own.1; passed = c.complete_one.ensures.done; rung = c.complete_one.ensures.rung; done = refl } in
    let rises = gains_rises (CommandError c.in-Bad.tx c.in-Bad.status) now.faults new.faults gives.2 in
    record {
      so = badly_so_far old now new c.completion.failed inv.so same c.in-Bad.tx c.in-Bad.status gives.0 gives.2 c.keep-self.ensures;
      ended = badly_more old now new c.in-Bad.tx inv.ended gives.0;
      stays = λ q k us log s. badly_ended k q us now new c.in-Bad.tx c.in-Bad.status log gives.0 gives.1 same c.keep-self.ensures (inv.stays q k us log s);
      counts = λ first q k us log s n. badly_counts first k q us now new c.in-Bad.tx gives.0 rises same (inv.counts first q k us log s n);
      told = λ first d. subst (λ (w : Option (ℕ × Why)). IsTold first new.faults w) (sym c.keep-self.ensures) (told_new first now.faults new.faults now.kept c.in-Bad.tx c.in-Bad.status gives.2 (inv.told first d));
      stored = inv.stored;
    }

pub completion-smaller : goal.completion-smaller
completion-smaller g c =
    let gives = rw c.in-Bad.is at c.in_ok-complete_one.ensures.gives in
    let badly = gives.0 in
    fewer (g.P.Port.state c.completion.self.pmr.port) (g.P.Port.state c.complete_one.new.self.port) badly.at badly.command badly.posted (ap (λ (p : PortState). p.posted) badly.is)

pub completion-smaller-in-One : goal.completion-smaller-in-One
completion-smaller-in-One g c =
    let gives = rw c.in-One.is at c.in_ok-complete_one.ensures.gives in
    let well = gives.0 in
    fewer (g.P.Port.state c.completion.self.pmr.port) (g.P.Port.state c.complete_one.new.self.port) well.at well.command well.posted (ap (λ (p : PortState). p.posted) well.is)

pub returns-in_err-complete_one-clause-completes : goal.returns-in_err-complete_one-clause-completes
returns-in_err-complete_one-clause-completes g c =
    let old : SideState = side_state g.P.Port.state g.P.Port.faults c.args.self.now in
    let now : SideState = side_state g.P.Port.state g.P.Port.faults c.completion.self in
    let ring = c.complete_one.new.self in
    let new : SideState = record { geometry = ring.geometry; queue = ring.queue; port = g.P.Port.state ring.port; faults = g.P.Port.faults ring.port; passed = ring.done; rung = ring.rung.items; done = c.completion.self.done; kept = c.completion.self.kept } in
    let same : SameRecords now new = record { geometry = c.complete_one.ensures.own.0; queue = c.complete_one.ensures.own.1; passed = c.complete_one.ensures.done; rung = c.complete_one.ensures.rung; done = refl } in
    let gives = c.in_err-complete_one.ensures.gives in
    let p = err_from_is_err_and c.from_residual.result c.from_residual.ensures.1 in
    rw p.1 (cut_off old now new c.completion.failed c.completion.invariant.so same _ gives.1 refl gives.2)

pub returns-in_err-complete_one-clause-stays : goal.returns-in_err-complete_one-clause-stays
returns-in_err-complete_one-clause-stays g c =
    let now : SideState = side_state g.P.Port.state g.P.Port.faults c.completion.self in
    let ring = c.complete_one.new.self in
    let new : SideState = record { geometry = ring.geometry; queue = ring.queue; port = g.P.Port.state ring.port; faults = g.P.Port.faults ring.port; passed = ring.done; rung = ring.rung.items; done = c.completion.self.done; kept = c.completion.self.kept } in
    let same : SameRecords now new = record { geometry = c.complete_one.ensures.own.0; queue = c.complete_one.ensures.own.1; passed = c.complete_one.ensures.done; rung = c.complete_one.ensures.rung; done = refl } in
    λ q k us log s. unmoved k q us now new c.in_err-complete_one.ensures.gives.1 same refl (c.completion.invariant.stays q k us log s)

pub returns-in_err-complete_one-clause-counts : goal.returns-in_err-complete_one-clause-counts
returns-in_err-complete_one-clause-counts g c =
    let now : SideState = side_state g.P.Port.state g.P.Port.faults c.completion.self in
    let ring = c.complete_one.new.self in
    let new : SideState = record { geometry = ring.geometry; queue = ring.queue; port = g.P.Port.state ring.port; faults = g.P.Port.faults ring.port; passed = ring.done; rung = ring.rung.items; done = c.completion.self.done; kept = c.completion.self.kept } in
    let same : SameRecords now new = record { geometry = c.complete_one.ensures.own.0; queue = c.complete_one.ensures.own.1; passed = c.complete_one.ensures.done; rung = c.complete_one.ensures.rung; done = refl } in
    let gives = c.in_err-complete_one.ensures.gives in
    λ first q k us log s n. still_counts first k q us now new (gains_rises PowerOff now.faults new.faults gives.2) gives.1 same (c.completion.invariant.counts first q k us log s n)

pub returns-in_err-complete_one-clause-told : goal.returns-in_err-complete_one-clause-told
returns-in_err-complete_one-clause-told g c first d =
    let now : SideState = side_state g.P.Port.state g.P.Port.faults c.completion.self in
    told_more first PowerOff now.faults (g.P.Port.faults c.complete_one.new.self.port) now.kept c.in_err-complete_one.ensures.gives.2 (c.completion.invariant.told first d)

pub returns-in-Idle-clause-completes : goal.returns-in-Idle-clause-completes
returns-in-Idle-clause-completes g c =
    let old : SideState = side_state g.P.Port.state g.P.Port.faults c.args.self.now in
    let now : SideState = side_state g.P.Port.state g.P.Port.faults c.completion.self in
    let ring = c.complete_one.new.self in
    let new : SideState = record { geometry = ring.geometry; queue = ring.queue; port = g.P.Port.state ring.port; faults = g.P.Port.faults ring.port; passed = ring.done; rung = ring.rung.items; done = c.completion.self.done; kept = c.completion.self.kept } in
    let same : SameRecords now new = record { geometry = c.complete_one.ensures.own.0; queue = c.complete_one.ensures.own.1; passed = c.complete_one.ensures.done; rung = c.complete_one.ensures.rung; done = refl } in
    let gives = rw c.in-Idle.is at c.in_ok-complete_one.ensures.gives in
    completed old now new c.completion.failed c.completion.invariant.so same gives.0 gives.1 refl gives.2

pub returns-in-Idle-clause-stays : goal.returns-in-Idle-clause-stays
returns-in-Idle-clause-stays g c =
    let now : SideState = side_state g.P.Port.state g.P.Port.faults c.completion.self in
    let ring = c.complete_one.new.self in
    let new : SideState = record { geometry = ring.geometry; queue = ring.queue; port = g.P.Port.state ring.port; faults = g.P.Port.faults ring.port; passed = ring.done; rung = ring.rung.items; done = c.completion.self.done; kept = c.completion.self.kept } in
    let same : SameRecords now new = record { geometry = c.complete_one.ensures.own.0; queue = c.complete_one.ensures.own.1; passed = c.complete_one.ensures.done; rung = c.complete_one.ensures.rung; done = refl } in
    let gives = rw c.in-Idle.is at c.in_ok-complete_one.ensures.gives in
    λ q k us log s. unmoved k q us now new gives.1 same refl (c.completion.invariant.stays q k us log s)

pub returns-in-Idle-clause-counts : goal.returns-in-Idle-clause-counts
returns-in-Idle-clause-counts g c =
    let now : SideState = side_state g.P.Port.state g.P.Port.faults c.completion.self in
    let ring = c.complete_one.new.self in
    let new : SideState = record { geometry = ring.geometry; queue = ring.queue; port = g.P.Port.state ring.port; faults = g.P.Port.faults ring.port; passed = ring.done; rung = ring.rung.items; done = c.completion.self.done; kept = c.completion.self.kept } in
    let same : SameRecords now new = record { geometry = c.complete_one.ensures.own.0; queue = c.complete_one.ensures.own.1; passed = c.complete_one.ensures.done; rung = c.complete_one.ensures.rung; done = refl } in
    let gives = rw c.in-Idle.is at c.in_ok-complete_one.ensures.gives in
    λ first q k us log s n. idle_counts first k q us now new gives.2 gives.1 same (c.completion.invariant.counts first q k us log s n)

pub returns-in-Idle-clause-told : goal.returns-in-Idle-clause-told
returns-in-Idle-clause-told g c first d =
    let gives = rw c.in-Idle.is at c.in_ok-complete_one.ensures.gives in
    told_same first (g.P.Port.faults c.completion.self.pmr.port) (g.P.Port.faults c.complete_one.new.self.port) c.completion.self.kept c.completion.self.kept gives.2 refl (c.completion.invariant.told first d)

pub returns-in_err-complete_one-clause-ended : goal.returns-in_err-complete_one-clause-ended
returns-in_err-complete_one-clause-ended g c =
    let old : SideState = side_state g.P.Port.state g.P.Port.faults c.args.self.now in
    let now : SideState = side_state g.P.Port.state g.P.Port.faults c.completion.self in
    let ring = c.complete_one.new.self in
    let new : SideState = record { geometry = ring.geometry; queue = ring.queue; port = g.P.Port.state ring.port; faults = g.P.Port.faults ring.port; passed = ring.done; rung = ring.rung.items; done = c.completion.self.done; kept = c.completion.self.kept } in
    still_ended old now new c.completion.invariant.ended c.in_err-complete_one.ensures.gives.1

pub returns-in-Idle-clause-ended : goal.returns-in-Idle-clause-ended
returns-in-Idle-clause-ended g c =
    let old : SideState = side_state g.P.Port.state g.P.Port.faults c.args.self.now in
    let now : SideState = side_state g.P.Port.state g.P.Port.faults c.completion.self in
    let ring = c.complete_one.new.self in
    let new : SideState = record { geometry = ring.geometry; queue = ring.queue; port = g.P.Port.state ring.port; faults = g.P.Port.faults ring.port; passed = ring.done; rung = ring.rung.items; done = c.completion.self.done; kept = c.completion.self.kept } in
    let gives = rw c.in-Idle.is at c.in_ok-complete_one.ensures.gives in
    still_ended old now new c.completion.invariant.ended gives.1
