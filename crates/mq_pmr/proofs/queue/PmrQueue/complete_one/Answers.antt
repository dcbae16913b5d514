use Rattle.std.proofs.Common.{Ok, ◌≡◌, ◌≢◌, ℕ, List, refl, sym, ◌∙◌, ap, subst, arith}
use Rattle.mq_blocks.specs.Drive.{PortState, after_done, after_failed}
use Rattle.mq_drive.specs.declared.port.Step.TheVariants.{Done}
use Rattle.mq_drive.specs.Steps.{Gains, CommandError}
use Rattle.mq_nvme.specs.Completion.{status_of}
use Rattle.mq_nvme.proofs.CompletionCommands.{slot_is}
use Rattle.mq_pmr.specs.Queue.{Fits, Kept}
use Rattle.mq_pmr.specs.Slots.{tx_in}
use Rattle.mq_pmr.specs.declared.slots.SlotRecord.{SlotRecord}
use Rattle.mq_pmr.proofs.Completion.{slot_low}
use Rattle.mq_pmr.proofs.QueueFitting.{fits_done, fits_failed, is_posted, ends-along}
use Rattle.mq_pmr.proofs.Ring.{held_as}
use Rattle.mq_pmr.proofs.QueueOwning.{step_ring}
use Rattle.mq_pmr.specs.Written.{IsWritten}
use Rattle.mq_pmr.proofs.Written.{written_done, written_failed}
use Rattle.mq_pmr.proofs.queue.PmrQueue.complete_one.Goals as goal

pub invariant_of-self-then-status-ne0 : goal.invariant_of-self-then-status-ne0
invariant_of-self-then-status-ne0 g c =
    let q = c.args.self.now in
    let old : PortState = g.P.Port.state q.port in
    let new : PortState = g.P.Port.state c.step.new.self in
    let kept : Kept = record { slots = q.slots.items; end = q.end; head = q.head; stored_head = q.stored_head; passed = q.passed; done = q.done; rung = q.rung.items; staged = q.staged } in
    let ends = rw c.in-Done.is at c.in_ok-step.ensures in
    let bad : status_of c.in-Done.completion ≢ 0 = λ none. c.if-status-ne0.true (c.status_of-status.ensures ∙ none) in
    let now = ends.error bad in
    let ring = held_as (g.P.Port.state q.opened.value) old new (after_failed old ends.at ends.command) q.done q.rung.items q.staged now.0 (q.whole, q.held) in
    record {
      fits = subst (λ (s : PortState). Fits s kept) (sym now.0) (fits_failed old kept ends.at ends.command q.fits ends.posted);
      ends = ends-along old new q.done.end q.rung.items (ap (λ (s : PortState). s.doorbell) now.0) q.ends;
      own = step_ring q.geometry q.queue old new (g.P.Port.faults q.port) (g.P.Port.faults c.step.new.self) (Ok (Done c.in-Done.completion)) ends q.own;
      written = subst (λ (s : PortState). IsWritten s q.slots.items q.done.end q.end) (sym now.0) (written_failed old q.slots.items q.done.end q.end ends.at ends.command ends.posted q.written);
      whole = ring.0;
      held = ring.1;
      reserved = q.reserved;
    }

pub tx_of_slot-requires-clause-slot : goal.tx_of_slot-requires-clause-slot
tx_of_slot-requires-clause-slot g c =
    let ends = rw c.in-Done.is at c.in_ok-step.ensures in
    slot_low c.get-slot.result ends.command.count (slot_is c.in-Done.completion c.get-slot.result ends.command.count c.get-slot.ensures.is ends.identifier)

pub returns-then-status-ne0-clause-gives : goal.returns-then-status-ne0-clause-gives
returns-then-status-ne0-clause-gives g c =
    let q = c.args.self.now in
    let old : PortState = g.P.Port.state q.port in
    let kept : Kept = record { slots = q.slots.items; end = q.end; head = q.head; stored_head = q.stored_head; passed = q.passed; done = q.done; rung = q.rung.items; staged = q.staged } in
    let ends = rw c.in-Done.is at c.in_ok-step.ensures in
    let bad : status_of c.in-Done.completion ≢ 0 = λ none. c.if-status-ne0.true (c.status_of-status.ensures ∙ none) in
    let now = ends.error bad in
    let slot = slot_is c.in-Done.completion c.get-slot.result ends.command.count c.get-slot.ensures.is ends.identifier in
    let tx : c.tx_of_slot.result ≡ ends.command.tx = c.tx_of_slot.ensures ∙ ap (tx_in q.slots.items) slot ∙ (is_posted old kept ends.at ends.command q.fits ends.posted).tx in (
      record { at = ends.at; command = ends.command; posted = ends.posted; tx_is = tx; is = now.0 },
      c.if-status-ne0.true,
      subst (λ (n : ℕ). Gains (CommandError n c.status_of-status.result) (g.P.Port.faults q.port) (g.P.Port.faults c.step.new.self)) (sym tx)
          (subst (λ (n : ℕ). Gains (CommandError ends.command.tx n) (g.P.Port.faults q.port) (g.P.Port.faults c.step.new.self)) (sym c.status_of-status.ensures) now.1),
    )

pub note_done-requires-clause-slot : goal.note_done-requires-clause-slot
note_done-requires-clause-slot g c =
    let ends = rw c.in-Done.is at c.in_ok-step.ensures in
    slot_low c.get-slot.result ends.command.count (slot_is c.in-Done.completion c.get-slot.result ends.command.count c.get-slot.ensures.is ends.identifier)

pub invariant_of-self-in-Done : goal.invariant_of-self-in-Done
invariant_of-self-in-Done g c =
    let q = c.args.self.now in
    let old : PortState = g.P.Port.state q.port in
    let new : PortState = g.P.Port.state c.step.new.self in
    let kept : Kept = record { slots = q.slots.items; end = q.end; head = q.head; stored_head = q.stored_head; passed = q.passed; done = q.done; rung = q.rung.items; staged = q.staged } in
    let ends = rw c.in-Done.is at c.in_ok-step.ensures in
    let success : status_of c.in-Done.completion ≡ 0 = sym c.status_of-status.ensures ∙ c.if-status-ne0.false in
    let now = ends.success success in
    let slot = slot_is c.in-Done.completion c.get-slot.result ends.command.count c.get-slot.ensures.is ends.identifier in
    let slots = c.note_done.ensures in
    let ring = held_as (g.P.Port.state q.opened.value) old new (after_done old ends.at ends.command) q.done q.rung.items q.staged now.0 (q.whole, q.held) in
    record {
      fits = subst (λ (s : PortState). Fits s (record kept { slots = c.note_done.new.slots.items })) (sym now.0)
          (subst (λ (l : List SlotRecord). Fits (after_done old ends.at ends.command) (record kept { slots = l })) (sym slots)
          (fits_done old kept ends.at ends.command c.get-slot.result _ q.fits ends.posted slot refl));
      ends = ends-along old new q.done.end q.rung.items (ap (λ (s : PortState). s.doorbell) now.0) q.ends;
      own = step_ring q.geometry q.queue old new (g.P.Port.faults q.port) (g.P.Port.faults c.step.new.self) (Ok (Done c.in-Done.completion)) ends q.own;
      written = subst (λ (s : PortState). IsWritten s c.note_done.new.slots.items q.done.end q.end) (sym now.0)
          (subst (λ (l : List SlotRecord). IsWritten (after_done old ends.at ends.command) l q.done.end q.end) (sym slots)
          (written_done old q.slots.items q.done.end q.end ends.at ends.command c.get-slot.result _ (let low = slot_low c.get-slot.result ends.command.count slot in let ring = q.fits.ring in omega (arith, low, ring)) refl q.written));
      whole = ring.0;
      held = ring.1;
      reserved = q.reserved;
    }

pub returns-else-status-ne0-clause-gives : goal.returns-else-status-ne0-clause-gives
returns-else-status-ne0-clause-gives g c =
    let ends = rw c.in-Done.is at c.in_ok-step.ensures in
    let success : status_of c.in-Done.completion ≡ 0 = sym c.status_of-status.ensures ∙ c.if-status-ne0.false in
    let now = ends.success success in
    let slot = slot_is c.in-Done.completion c.get-slot.result ends.command.count c.get-slot.ensures.is ends.identifier in
    (record { at = ends.at; command = ends.command; posted = ends.posted; slot_is = slot; is = now.0 }, now.1)
