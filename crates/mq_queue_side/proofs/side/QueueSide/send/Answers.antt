use Rattle.std.proofs.Common.{◌≡◌, ℕ, length, Some, refl, sym, subst, ap, ◌∙◌, arith}
use Rattle.mq_blocks.specs.Drive.{PortState}
use Rattle.mq_drive.specs.Start.{IsPortOf}
use Rattle.mq_drive.specs.Steps.{PowerOff}
use Rattle.mq_drive.specs.declared.role.Role.TheVariants.{Queue}
use Rattle.mq_pmr.specs.Runs.{Items, OwnsAll}
use Rattle.mq_queue_side.specs.Commits.{items_of, size_of}
use Rattle.mq_queue_side.specs.Sent.{after_send}
use Rattle.mq_queue_side.specs.Side.{SideState, side_state}
use Rattle.mq_queue_side.specs.declared.answers.Why.TheVariants.{Off}
use Rattle.mq_queue_side.proofs.DrainedCompletes.{gains_rises}
use Rattle.mq_queue_side.proofs.CountsSides.{sent_counts, cut_counts}
use Rattle.mq_queue_side.proofs.Drained.{stored_low}
use Rattle.mq_queue_side.proofs.CommitsItems.{length_items}
use Rattle.mq_queue_side.proofs.SentReady.{items_owned}
use Rattle.mq_queue_side.proofs.SideSends.{are_ready, sends_whole, sends_cut, cut_along, rung_along}
use Rattle.mq_queue_side.proofs.SideEnds.{SameRecords}
use Rattle.mq_queue_side.proofs.Told.{told_kept}
use Rattle.mq_queue_side.proofs.side.QueueSide.send.Goals as goal

pub ring_all-requires : goal.ring_all-requires
ring_all-requires g c =
    let p : PortState = g.P.Port.state c.args.self.now.pmr.port in
    let shape = c.args.self.now.pmr.geometry in
    let n = c.args.numbered in
    let its : c.into_items-items.result.items ≡ items_of shape n = c.into_items-items.ensures ∙ ap (λ h. items_of h n) c.geometry.ensures in
    let len : length c.into_items-items.result.items ≡ size_of n = ap length its ∙ length_items shape n in
    let port : IsPortOf shape (Queue n.queue) p = subst (λ (q : ℕ). IsPortOf shape (Queue q) p) (sym c.requires.queue) c.args.self.now.pmr.own.port in
    record {
      tx = omega (arith, c.number-tx.ensures, c.requires.number);
      some = omega (arith, len);
      room = omega (arith, len, c.requires.room);
      end = omega (arith, len, c.requires.end);
      empty = c.args.self.now.clear.pending c.requires.none;
      own = subst (λ (is : Items). OwnsAll p is) (sym its) (items_owned shape n p port c.requires.direct);
    }

pub returns-in-Err-clause-stays : goal.returns-in-Err-clause-stays
returns-in-Err-clause-stays g c =
    let old : SideState = side_state g.P.Port.state g.P.Port.faults c.args.self.now in
    let ring = c.ring_all.new.ring in
    let n = c.args.numbered in
    let new : SideState = record { geometry = ring.geometry; queue = ring.queue; port = g.P.Port.state ring.port; faults = g.P.Port.faults ring.port; passed = ring.done; rung = ring.rung.items; done = c.args.self.now.done; kept = Some (c.number-tx.result, Off) } in
    let its : c.into_items-items.result.items ≡ items_of old.geometry n = c.into_items-items.ensures ∙ ap (λ h. items_of h n) c.geometry.ensures in
    let e = c.in-Err.ensures in
    let same : SameRecords old new = record { geometry = e.own.0; queue = e.own.1; passed = e.done; rung = e.same; done = refl } in
    sends_cut old new n (cut_along old.port new.port c.number-tx.result n.number c.into_items-items.result.items (items_of old.geometry n) c.number-tx.ensures its e.off) same (ap (λ (m : ℕ). Some (m, Off)) c.number-tx.ensures)

pub returns-in-Err-clause-counts : goal.returns-in-Err-clause-counts
returns-in-Err-clause-counts g c =
    let old : SideState = side_state g.P.Port.state g.P.Port.faults c.args.self.now in
    let ring = c.ring_all.new.ring in
    let n = c.args.numbered in
    let new : SideState = record { geometry = ring.geometry; queue = ring.queue; port = g.P.Port.state ring.port; faults = g.P.Port.faults ring.port; passed = ring.done; rung = ring.rung.items; done = c.args.self.now.done; kept = Some (c.number-tx.result, Off) } in
    let its : c.into_items-items.result.items ≡ items_of old.geometry n = c.into_items-items.ensures ∙ ap (λ h. items_of h n) c.geometry.ensures in
    let e = c.in-Err.ensures in
    let same : SameRecords old new = record { geometry = e.own.0; queue = e.own.1; passed = e.done; rung = e.same; done = refl } in
    let cut = cut_along old.port new.port c.number-tx.result n.number c.into_items-items.result.items (items_of old.geometry n) c.number-tx.ensures its e.off in
    λ first q k us log r s m. cut_counts first k q us old n.number (items_of old.geometry n) log (are_ready k q us old n r s) s (stored_low old _ c.args.self.now.pmr.fits refl) m new (gains_rises PowerOff old.faults new.faults e.cause) cut same

pub returns-in-Err-clause-told : goal.returns-in-Err-clause-told
returns-in-Err-clause-told g c first d = told_kept first (g.P.Port.faults c.args.self.now.pmr.port) (g.P.Port.faults c.ring_all.new.ring.port) c.args.self.now.kept c.number-tx.result Off c.in-Err.ensures.cause d

pub returns-clause-stays : goal.returns-clause-stays
returns-clause-stays g c =
    let old : SideState = side_state g.P.Port.state g.P.Port.faults c.args.self.now in
    let ring = c.ring_all.new.ring in
    let n = c.args.numbered in
    let new : SideState = record { geometry = ring.geometry; queue = ring.queue; port = g.P.Port.state ring.port; faults = g.P.Port.faults ring.port; passed = ring.done; rung = ring.rung.items; done = c.args.self.now.done; kept = c.args.self.now.kept } in
    let its : c.into_items-items.result.items ≡ items_of old.geometry n = c.into_items-items.ensures ∙ ap (λ h. items_of h n) c.geometry.ensures in
    let e = c.in_default.ensures in
    (sends_whole old new n (e.ok ∙ (λ i. after_send old.port (c.number-tx.ensures i) (its i))) (rung_along old new c.number-tx.result n.number c.into_items-items.result.items (items_of old.geometry n) c.number-tx.ensures its (record { geometry = e.own.0; queue = e.own.1; passed = e.done; rung = e.rung; done = refl })) refl).0

pub returns-clause-whole : goal.returns-clause-whole
returns-clause-whole g c =
    let old : SideState = side_state g.P.Port.state g.P.Port.faults c.args.self.now in
    let ring = c.ring_all.new.ring in
    let n = c.args.numbered in
    let new : SideState = record { geometry = ring.geometry; queue = ring.queue; port = g.P.Port.state ring.port; faults = g.P.Port.faults ring.port; passed = ring.done; rung = ring.rung.items; done = c.args.self.now.done; kept = c.args.self.now.kept } in
    let its : c.into_items-items.result.items ≡ items_of old.geometry n = c.into_items-items.ensures ∙ ap (λ h. items_of h n) c.geometry.ensures in
    let e = c.in_default.ensures in
    (sends_whole old new n (e.ok ∙ (λ i. after_send old.port (c.number-tx.ensures i) (its i))) (rung_along old new c.number-tx.result n.number c.into_items-items.result.items (items_of old.geometry n) c.number-tx.ensures its (record { geometry = e.own.0; queue = e.own.1; passed = e.done; rung = e.rung; done = refl })) refl).1

pub returns-clause-counts : goal.returns-clause-counts
returns-clause-counts g c =
    let old : SideState = side_state g.P.Port.state g.P.Port.faults c.args.self.now in
    let ring = c.ring_all.new.ring in
    let n = c.args.numbered in
    let new : SideState = record { geometry = ring.geometry; queue = ring.queue; port = g.P.Port.state ring.port; faults = g.P.Port.faults ring.port; passed = ring.done; rung = ring.rung.items; done = c.args.self.now.done; kept = c.args.self.now.kept } in
    let its : c.into_items-items.result.items ≡ items_of old.geometry n = c.into_items-items.ensures ∙ ap (λ h. items_of h n) c.geometry.ensures in
    let e = c.in_default.ensures in
    λ first q k us log r s m. sent_counts first k q us old n.number (items_of old.geometry n) log (are_ready k q us old n r s) s (stored_low old _ c.args.self.now.pmr.fits refl) m new _ e.cause
    (e.ok ∙ (λ i. after_send old.port (c.number-tx.ensures i) (its i)))
    (rung_along old new c.number-tx.result n.number c.into_items-items.result.items (items_of old.geometry n) c.number-tx.ensures its (record { geometry = e.own.0; queue = e.own.1; passed = e.done; rung = e.rung; done = refl }))
